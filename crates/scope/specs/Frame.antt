-- Document 01, "Refusal numbers": its table down the page, and what a decode answers and leaves, as one function of what is
-- lent: "The caller lends a frame, a geometry record, code lengths, a plane buffer and a workspace of 32-bit words." frame, lengths: bytes as lists; g: the geometry; s: a slice's number; p: a plane's, in wire order. Assumes nothing.
use Rattle.std.specs.Prelude.{◌≡◌, ℕ, zero, suc, ◌+◌, ◌-◌, ◌*◌, ◌^◌, Bool, cond, not, ◌&&◌, ◌||◌, List, [], ◌∷◌, ◌++◌, length, eqb, ltb, leb}
use Rattle.scope.specs.Base.{Bytes, Lengths, Samples, Words, over_up, sum_below, zeros}
use Rattle.scope.specs.Refusals.{Row, row, first_of, rows_of_each, left_by_frame}
use Rattle.scope.specs.Geometry.{correlated, geometry_fits, factors_divide, slice_height_divides, plane_count, slices_per_plane, slice_count, plane_width, all_samples, lengths_of, fields, swapped}
use Rattle.scope.specs.Layout.{preamble_start, preamble_end, count_byte, plane_index, place_in_plane, slice_start, slice_end, is_raw, predictor_of, payload_of, samples_in}
use Rattle.scope.specs.Bits.{raw_samples}
use Rattle.scope.specs.Words.{longest, shortest, too_long, overfull, need, Chain, symbols, chain, is_stuck, symbols_of}
use Rattle.scope.specs.Prediction.{samples_of, plus}
use Rattle.scope.specs.declared.Entry.{Entry}
use Rattle.scope.specs.declared.Geometry.{Geometry}
use Rattle.scope.specs.declared.Place.TheVariants.{Slice, Plane, Nothing}
use Rattle.scope.specs.Answers.{Answer}

-- ---- figures that the table names

-- "the sum of all planes' needs"
unfoldable pub need_of_all : (g : Geometry) (lengths : Lengths) → ℕ
need_of_all g lengths = sum_below (plane_count g) (λ p. need (lengths_of g lengths p))

module _ (frame : Bytes) (g : Geometry) (lengths : Lengths) where
  -- the lengths of the plane that slice s names
  abbrev pub slice_lengths : (s : ℕ) → Lengths
  slice_lengths s = lengths_of g lengths (plane_index frame g s)

  -- "samples times b, over 8, rounded up; b is the depth for raw, else the plane's shortest word"
  unfoldable pub fewest_bytes : (s : ℕ) → ℕ
  fewest_bytes s =
      over_up (samples_in frame g s * cond (is_raw frame g s) g.depth (shortest (slice_lengths s))) 8

  -- a slice's residues, or the position at which no word fits
  unfoldable pub residues_of : (s : ℕ) → Chain
  residues_of s =
      let raw : Chain = symbols (raw_samples g.depth (payload_of frame g s) (samples_in frame g s)) in
      let coded : Chain = chain (slice_lengths s) (payload_of frame g s) 0 (samples_in frame g s) in
      cond (is_raw frame g s) raw coded

-- ---- the table: number, place, and when

abbrev pub lent_rows : (which : Entry) (g : Geometry) (lengths_len planes_len : ℕ) → List Row
lent_rows which g lengths_len planes_len =
    -- "geometry outside the rules above, or wrong entry for the depth"
    row 1 Nothing (not (geometry_fits which g))
    -- "width not a multiple of sx, or height not of sy"
    ∷ row 2 Nothing (not (factors_divide g))
    -- "slice height not a multiple of sy"
    ∷ row 3 Nothing (not (slice_height_divides g))
    -- "lengths not exactly P·2^depth bytes, or plane buffer not exactly all planes' samples"
    ∷ row 4 Nothing (not (eqb lengths_len (plane_count g * 2 ^ g.depth) && eqb planes_len (all_samples g)))
    ∷ []

abbrev pub preamble_rows : (frame : Bytes) (g : Geometry) → List Row
preamble_rows frame g =
    -- "frame shorter than 32+4(T+1)"
    row 5 Nothing (ltb (length frame) (preamble_start g))
    -- "preamble ends before it starts or past the frame, is empty, or lacks T indices"; "bounds and emptiness, then 7, then missing indices"
    ∷ row 6 Nothing (ltb (preamble_end frame) (preamble_start g))
    ∷ row 6 Nothing (ltb (length frame) (preamble_end frame))
    ∷ row 6 Nothing (eqb (preamble_end frame) (preamble_start g))
    -- "plane count byte is not P"
    ∷ row 7 Nothing (not (eqb (count_byte frame g) (plane_count g)))
    ∷ row 6 Nothing (ltb (preamble_end frame) (preamble_start g + 1 + slice_count g))
    ∷ []

abbrev pub index_rows : (frame : Bytes) (g : Geometry) (s : ℕ) → List Row
index_rows frame g s =
    -- "index not below P, or that plane already has K slices"; the "first such slice"
    row 8 (Slice s) (leb (plane_count g) (plane_index frame g s))
    ∷ row 8 (Slice s) (leb (slices_per_plane g) (place_in_plane frame g s))
    ∷ []

-- "Refusals 9 and 10 go plane by plane, 9 first in each."
abbrev pub length_rows : (g : Geometry) (lengths : Lengths) (p : ℕ) → List Row
length_rows g lengths p =
    -- "a length above 18"
    row 9 (Plane p) (too_long (lengths_of g lengths p))
    -- "the plane's shares exceed one"
    ∷ row 10 (Plane p) (overfull (lengths_of g lengths p))
    ∷ []

abbrev pub room_rows : (g : Geometry) (lengths : Lengths) (workspace_len : ℕ) → List Row
room_rows g lengths workspace_len =
    -- "workspace shorter than the sum of all planes' needs"
    row 11 Nothing (ltb workspace_len (need_of_all g lengths))
    ∷ []

-- "Then every slice in wire order: bounds (12), 13, wordless plane (14), size (12)."
abbrev pub slice_rows : (frame : Bytes) (g : Geometry) (lengths : Lengths) (s : ℕ) → List Row
slice_rows frame g lengths s =
    -- "slice ends before its start or past the frame, or has too few bytes"
    row 12 (Slice s) (ltb (slice_end frame g s) (slice_start frame g s))
    ∷ row 12 (Slice s) (ltb (length frame) (slice_end frame g s))
    -- "slice shorter than 2 bytes"
    ∷ row 13 (Slice s) (ltb (slice_end frame g s) (slice_start frame g s + 2))
    -- "coded slice in a plane with no word, or no word fits the next bits"
    ∷ row 14 (Plane (plane_index frame g s)) (not (is_raw frame g s) && eqb (longest (slice_lengths frame g lengths s)) 0)
    -- "fewer bytes after the prefix"
    ∷ row 12 (Slice s) (ltb (slice_end frame g s - (slice_start frame g s + 2)) (fewest_bytes frame g lengths s))
    ∷ []

-- "Only after all slices pass are they read, in wire order, each 15 before its 14."
abbrev pub read_rows : (frame : Bytes) (g : Geometry) (lengths : Lengths) (s : ℕ) → List Row
read_rows frame g lengths s =
    -- "predictor not 1, 2 or 3"
    row 15 (Slice s) (not (leb 1 (predictor_of frame g s) && leb (predictor_of frame g s) 3))
    -- "no word fits the next bits"
    ∷ row 14 (Plane (plane_index frame g s)) (is_stuck (residues_of frame g lengths s))
    ∷ []

-- the whole table, row under row, for what is lent
unfoldable pub table : (which : Entry) (frame : Bytes) (g : Geometry) (lengths : Lengths) (planes_len workspace_len : ℕ) → List Row
table which frame g lengths planes_len workspace_len =
    lent_rows which g (length lengths) planes_len
    ++ (preamble_rows frame g
    ++ (rows_of_each (slice_count g) (index_rows frame g)
    ++ (rows_of_each (plane_count g) (length_rows g lengths)
    ++ (room_rows g lengths workspace_len
    ++ (rows_of_each (slice_count g) (slice_rows frame g lengths)
    ++ rows_of_each (slice_count g) (read_rows frame g lengths))))))

-- what a decode answers
unfoldable pub answer_of : (which : Entry) (frame : Bytes) (g : Geometry) (lengths : Lengths) (planes_len workspace_len : ℕ) → Answer
answer_of which frame g lengths planes_len workspace_len = first_of (table which frame g lengths planes_len workspace_len)

-- ---- the planes

module _ (frame : Bytes) (g : Geometry) (lengths : Lengths) where
  -- a slice's samples
  unfoldable pub slice_samples : (s : ℕ) → Samples
  slice_samples s =
      samples_of g.depth (predictor_of frame g s) (plane_width g (plane_index frame g s)) (fields g)
      (symbols_of (residues_of frame g lengths s))

  -- Plane p in wire order: the samples of the slices that name it, in wire order, since the place of each is the count of those
  -- before it. Here of the slices before s, and of all.
  unfoldable pub plane_up_to : (p s : ℕ) → Samples
  plane_up_to p zero = []
  plane_up_to p (suc s) =
      let here : Samples = slice_samples s in
      plane_up_to p s ++ cond (eqb (plane_index frame g s) p) here []

  unfoldable pub wire_plane : (p : ℕ) → Samples
  wire_plane p = plane_up_to p (slice_count g)

-- "B and R are B'+G and R'+G modulo 2^depth": of the wire's planes B', G, R', (A), the one that is plane p when that is done
unfoldable pub colour_plane : (rgb : Bool) (depth : ℕ) (wire : ℕ → Samples) (p : ℕ) → Samples
colour_plane rgb depth wire p = cond (rgb && (eqb p 0 || eqb p 2)) (plus depth (wire p) (wire 1)) (wire p)

-- "The plane buffer holds G, B, R, (A). Other families keep wire order.": the buffer's plane b
abbrev pub buffer_plane : (rgb : Bool) (depth : ℕ) (wire : ℕ → Samples) (b : ℕ) → Samples
buffer_plane rgb depth wire b = colour_plane rgb depth wire (swapped rgb b)

-- "Planes lie one after another with no gaps."
unfoldable pub planes_up_to : (plane : ℕ → Samples) (b : ℕ) → Samples
planes_up_to plane zero = []
planes_up_to plane (suc b) = planes_up_to plane b ++ plane b

-- what the plane buffer holds once no row applies
unfoldable pub picture_of : (frame : Bytes) (g : Geometry) (lengths : Lengths) → Samples
picture_of frame g lengths =
    planes_up_to (buffer_plane (correlated g.family) g.depth (wire_plane frame g lengths)) (plane_count g)

-- ---- the whole

-- "Refusals 1 to 4 leave planes and workspace as found. All others leave both wholly zero. Success leaves the workspace zero and
-- defines every sample.": what the planes hold after a decode, and what the workspace holds
unfoldable pub planes_after : (which : Entry) (frame : Bytes) (g : Geometry) (lengths : Lengths) (planes : Samples) (workspace_len : ℕ) → Samples
planes_after which frame g lengths planes workspace_len =
    left_by_frame (answer_of which frame g lengths (length planes) workspace_len) planes (zeros planes) (picture_of frame g lengths)

unfoldable pub workspace_after : (which : Entry) (frame : Bytes) (g : Geometry) (lengths : Lengths) (planes_len : ℕ) (workspace : Words) → Words
workspace_after which frame g lengths planes_len workspace =
    left_by_frame (answer_of which frame g lengths planes_len (length workspace)) workspace (zeros workspace) (zeros workspace)

-- the statement of a frame entry: its answer, and what it leaves in the planes and in the workspace. "The frame and lengths are only read.": they
-- are lent so (`&[u8]`), and there is nothing to say of them.
pub record Decoded (which : Entry) (frame : Bytes) (g : Geometry) (lengths : Lengths) (planes₀ : Samples) (workspace₀ : Words) (r : Answer) (planes₁ : Samples) (workspace₁ : Words) : Type 0 where
  pub answer : r ≡ answer_of which frame g lengths (length planes₀) (length workspace₀)
  pub planes : planes₁ ≡ planes_after which frame g lengths planes₀ (length workspace₀)
  pub workspace : workspace₁ ≡ workspace_after which frame g lengths (length planes₀) workspace₀
