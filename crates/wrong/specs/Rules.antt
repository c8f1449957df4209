-- Decoders that are right but for one rule: scope's decoding with four of its rules left open, and for each slip of document 01, "Slips to
-- shut out", the one rule that it changes. With none changed it is the decoder of document 01 (`right_allowed`, proofs/Right.antt), so nothing
-- but the slip tells each apart. Assumes nothing.
use Rattle.std.specs.Prelude.{ℕ, zero, suc, ◌+◌, ◌-◌, ◌*◌, ◌/◌, ◌%◌, ◌^◌, Bool, cond, not, ◌&&◌, List, [], ◌∷◌, ◌++◌, length, take, get_or, replicate, eqb, ltb, leb, None, Some}
use Rattle.scope.specs.Base.{Bytes, Lengths, Samples, count, list_below, rebuilt, zeros}
use Rattle.scope.specs.Refusals.{Row, row, first_of, rows_of_each, left_by_frame, left_alone}
use Rattle.scope.specs.Geometry.{correlated, plane_count, slices_per_plane, slice_count, plane_width, fields, swapped}
use Rattle.scope.specs.Layout.{preamble_start, plane_index, is_raw, predictor_of, payload_of, samples_in}
use Rattle.scope.specs.Bits.{window, raw_samples}
use Rattle.scope.specs.Words.{length_of, longest, word_at, Chain, symbols, chain_by, is_stuck, symbols_of}
use Rattle.scope.specs.Prediction.{gradient, clamp_median, t87_median, predictor, prediction, sample, samples_of}
use Rattle.scope.specs.Frame.{slice_lengths, lent_rows, preamble_rows, index_rows, length_rows, room_rows, slice_rows, colour_plane, planes_up_to}
use Rattle.scope.specs.Alone.{build_rows}
use Rattle.scope.specs.declared.Entry.{Entry}
use Rattle.scope.specs.declared.Geometry.{Geometry}
use Rattle.scope.specs.Found.{Found, some_word}
use Rattle.scope.specs.declared.Place.TheVariants.{Slice, Plane, Nothing}
use Rattle.scope.specs.Answers.{Answer}
use Rattle.wrong.specs.Calls.{Decoder, right, Reader}

-- ---- the rules that are left open

pub record Rules : Type 0 where
  -- the word that a code's lengths give for the bits at a position
  pub look : (ls : Lengths) (payload : Bytes) (at : ℕ) → Found
  -- a slice's samples from its residues
  pub rebuild : (depth kind width f : ℕ) (residues : Samples) → Samples
  -- what stands in the planes for slice s, of the samples and the size of every slice
  pub put : (samples : ℕ → Samples) (size : ℕ → ℕ) (s : ℕ) → Samples
  -- the wire's plane at the buffer's place b
  pub order : (rgb : Bool) (b : ℕ) → ℕ

abbrev pub rules : (look : Lengths → Bytes → ℕ → Found) (rebuild : ℕ → ℕ → ℕ → ℕ → Samples → Samples)
    (put : (ℕ → Samples) → (ℕ → ℕ) → ℕ → Samples) (order : Bool → ℕ → ℕ) → Rules
rules look rebuild put order = record { look = look; rebuild = rebuild; put = put; order = order }

-- each slice stands for itself
abbrev pub itself : (samples : ℕ → Samples) (size : ℕ → ℕ) (s : ℕ) → Samples
itself samples size s = samples s

-- document 01's
abbrev pub the_rules : Rules
the_rules = rules word_at samples_of itself swapped

-- ---- a frame by such rules: crates/scope/specs/Frame.antt, name for name, with the rules in their places

module _ (r : Rules) (frame : Bytes) (g : Geometry) (lengths : Lengths) where
  unfoldable pub residues_by : (s : ℕ) → Chain
  residues_by s =
      let raw : Chain = symbols (raw_samples g.depth (payload_of frame g s) (samples_in frame g s)) in
      let coded : Chain = chain_by (r.look (slice_lengths frame g lengths s) (payload_of frame g s)) 0 (samples_in frame g s) in
      cond (is_raw frame g s) raw coded

  unfoldable pub samples_by : (s : ℕ) → Samples
  samples_by s =
      r.rebuild g.depth (predictor_of frame g s) (plane_width g (plane_index frame g s)) (fields g)
      (symbols_of (residues_by s))

  unfoldable pub plane_by : (p s : ℕ) → Samples
  plane_by p zero = []
  plane_by p (suc s) =
      let here : Samples = r.put samples_by (samples_in frame g) s in
      plane_by p s ++ cond (eqb (plane_index frame g s) p) here []

  unfoldable pub wire_by : (p : ℕ) → Samples
  wire_by p = plane_by p (slice_count g)

  unfoldable pub buffer_by : (b : ℕ) → Samples
  buffer_by b = colour_plane (correlated g.family) g.depth wire_by (r.order (correlated g.family) b)

  unfoldable pub picture_by : Samples
  picture_by = planes_up_to buffer_by (plane_count g)

  abbrev pub read_rows_by : (s : ℕ) → List Row
  read_rows_by s =
      row 15 (Slice s) (not (leb 1 (predictor_of frame g s) && leb (predictor_of frame g s) 3))
      ∷ row 14 (Plane (plane_index frame g s)) (is_stuck (residues_by s))
      ∷ []

  unfoldable pub answer_by : (which : Entry) (planes_len workspace_len : ℕ) → Answer
  answer_by which planes_len workspace_len =
      first_of (
      lent_rows which g (length lengths) planes_len
      ++ (preamble_rows frame g
      ++ (rows_of_each (slice_count g) (index_rows frame g)
      ++ (rows_of_each (plane_count g) (length_rows g lengths)
      ++ (room_rows g lengths workspace_len
      ++ (rows_of_each (slice_count g) (slice_rows frame g lengths)
      ++ rows_of_each (slice_count g) read_rows_by))))))

unfoldable pub decodes_by : (r : Rules) → Decoder
decodes_by r l =
    let a : Answer = answer_by r l.frame l.geometry l.lengths l.which (length l.planes) (length l.workspace) in
    record {
      answer = a;
      planes = left_by_frame a l.planes (zeros l.planes) (picture_by r l.frame l.geometry l.lengths);
      workspace = left_by_frame a l.workspace (zeros l.workspace) (zeros l.workspace);
    }

-- a reading by itself, of whose rules only the word at a position is left open
unfoldable pub reads_by : (look : Lengths → Bytes → ℕ → Found) → Reader
reads_by look ls payload workspace samples =
    let c : Chain = chain_by (look ls payload) 0 (length samples) in
    let a : Answer = first_of (row 4 Nothing (ltb 268435456 (length samples)) ∷ build_rows ls (length workspace) ++ row 14 (Plane 0) (is_stuck c) ∷ []) in
    record {
      answer = a;
      workspace = left_alone a workspace (zeros workspace) (zeros workspace);
      samples = left_alone a samples (zeros samples) (symbols_of c);
    }

-- ---- "reads slice 0 and copies it onward"

-- slice 0's samples for every slice, cut or filled up with zeros to the slice's size
unfoldable pub slice0 : (samples : ℕ → Samples) (size : ℕ → ℕ) (s : ℕ) → Samples
slice0 samples size s = take (size s) (samples 0 ++ replicate (size s) 0)

abbrev pub copies_slice0 : Rules
copies_slice0 = rules word_at samples_of slice0 swapped

-- ---- "Using T.87's median at depth 8, or the clamp at 10."

-- the predictors with some median, and samples by them; with document 01's they are samples_of's
unfoldable pub predictor_by : (median : ℕ → ℕ → ℕ → ℕ → ℕ) (depth kind left top topleft : ℕ) → ℕ
predictor_by median depth kind left top topleft =
    cond (eqb kind 1) left
    (cond (eqb kind 2) (gradient depth left top topleft)
    (median depth left top topleft))

unfoldable pub by_median : (median : ℕ → ℕ → ℕ → ℕ → ℕ) (depth kind width f : ℕ) (residues : Samples) → Samples
by_median median depth kind width f residues = rebuilt (sample depth (predictor_by median depth kind) width f) residues

-- T.87's at every depth, and the clamp at every depth
abbrev pub t87_always : Rules
t87_always = rules word_at (by_median (λ depth left top topleft. t87_median left top topleft)) itself swapped

abbrev pub clamp_always : Rules
clamp_always = rules word_at (by_median clamp_median) itself swapped

-- ---- "Words assigned shortest first."

-- where the words of each length start if those of length 1 start at 0, and each length goes on where the one before ended, one bit longer
unfoldable pub first_up : (ls : Lengths) (l : ℕ) → ℕ
first_up ls zero = 0
first_up ls (suc zero) = 0
first_up ls (suc (suc l)) = (first_up ls (suc l) + count (suc l) ls) * 2

-- symbol s's word, in ascending order within its length
unfoldable pub word_up : (ls : Lengths) (s : ℕ) → ℕ
word_up ls s = first_up ls (length_of ls s) + count (length_of ls s) (take s ls)

-- the word at a position, by some words; by document 01's it is word_at's. Among the symbols below n, and among all.
unfoldable pub by_words_below : (word : Lengths → ℕ → ℕ) (ls : Lengths) (payload : Bytes) (at n : ℕ) → Found
by_words_below word ls payload at zero = None
by_words_below word ls payload at (suc s) =
    cond (ltb 0 (length_of ls s) && eqb (window payload at (length_of ls s)) (word ls s)) (some_word (length_of ls s) s) (by_words_below word ls payload at s)

unfoldable pub by_words : (word : Lengths → ℕ → ℕ) (ls : Lengths) (payload : Bytes) (at : ℕ) → Found
by_words word ls payload at = by_words_below word ls payload at (length ls)

abbrev pub shortest_first : Rules
shortest_first = rules (by_words word_up) samples_of itself swapped

-- ---- "Taking an unfilled slot for symbol 0."

-- the slot has m bits, so it is taken for a word of as many
unfoldable pub filled : (m : ℕ) (found : Found) → Found
filled m None = some_word m 0
filled m (Some w) = some_word w.length w.symbol

unfoldable pub filled_at : (ls : Lengths) (payload : Bytes) (at : ℕ) → Found
filled_at ls payload at = filled (longest ls) (word_at ls payload at)

abbrev pub unfilled_is0 : Rules
unfilled_is0 = rules filled_at samples_of itself swapped

-- ---- "With two fields, adding the row directly above."

-- Samples where rows after the first f add the row that is some rows up; where that is f, they are samples_of's. Here it is 1.
unfoldable pub by_rows_up : (up : ℕ → ℕ) (depth kind width f : ℕ) (residues : Samples) → Samples
by_rows_up up depth kind width f residues =
    let rows : ℕ → ℕ = λ i. cond (ltb i (f * width)) f (up f) in
    rebuilt (λ i before residue. (residue + prediction (predictor depth kind) width (rows i) i before) % 2 ^ depth) residues

abbrev pub adds_row_above : Rules
adds_row_above = rules word_at (by_rows_up (λ f. 1)) itself swapped

-- two fields taken for one
abbrev pub one_field : (depth kind width f : ℕ) (residues : Samples) → Samples
one_field depth kind width f residues = samples_of depth kind width 1 residues

abbrev pub ignores_fields : Rules
ignores_fields = rules word_at one_field itself swapped

-- ---- "Giving B first in the output."

-- the wire's order, B first, is kept
abbrev pub wire_order : (rgb : Bool) (b : ℕ) → ℕ
wire_order rgb b = b

abbrev pub b_first : Rules
b_first = rules word_at samples_of itself wire_order

-- ---- "Assuming plane-major slices instead of the indices."

-- the frame with other indices: slice s is of plane s / K
unfoldable pub plane_major : (frame : Bytes) (g : Geometry) → Bytes
plane_major frame g =
    let first : ℕ = preamble_start g + 1 in
    let is_index : ℕ → Bool = λ i. leb first i && ltb i (first + slice_count g) in
    list_below (length frame) (λ i. cond (is_index i) ((i - first) / slices_per_plane g) (get_or frame i 0))

-- the decoder of document 01, which reads those instead
abbrev pub assumes_plane_major : Decoder
assumes_plane_major l =
    right (record { which = l.which; frame = plane_major l.frame l.geometry; geometry = l.geometry; lengths = l.lengths; planes = l.planes; workspace = l.workspace })
