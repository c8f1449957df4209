-- Document 01's picture sample by sample, beside scope's definition of it by lists one after another (`picture_of`,
-- crates/scope/specs/Frame.antt): which sample of which slice stands at each row and column of each plane, and that nothing else is a picture.
-- That all this holds wherever the answer is planes is `pictured` (proofs/Picture.antt). s is a slice's number, p a plane's, both in wire
-- order. Assumes nothing.
use Rattle.std.specs.Prelude.{◌≡◌, ℕ, ◌+◌, ◌*◌, ◌%◌, ◌^◌, ◌≤◌, ◌<◌, Bool, cond, ◌&&◌, ◌||◌, eqb, length, get_or}
use Rattle.scope.specs.Base.{Bytes, Lengths, Samples}
use Rattle.scope.specs.Geometry.{correlated, plane_count, slice_count, plane_width, plane_height, first_row, rows_at, all_samples, row_start}
use Rattle.scope.specs.Layout.{plane_index, place_in_plane}
use Rattle.scope.specs.Frame.{slice_samples, picture_of}
use Rattle.scope.specs.declared.Geometry.{Geometry}

-- "Planes lie one after another with no gaps.": a buffer's sample at row r and column x of the wire's plane p
abbrev pub sample_at : (g : Geometry) (buffer : Samples) (p r x : ℕ) → ℕ
sample_at g buffer p r x = get_or buffer (row_start g p r + x) 0

-- Slice s's sample in row r of its own rows, column x, stands in a buffer where it belongs.
-- "Its place in its plane is the count of earlier slices that name that plane. Place k covers rows from k times the plane's slice height, cut
-- at the plane's height.": so that row is row first_row + r of the plane that the slice names.
-- "B and R are B'+G and R'+G modulo 2^depth": B' and R' are planes 0 and 2 of Rgb and Rgba, and G's sample, of plane 1, is that at the same
-- row and column. In any other plane the sample is the slice's own.
abbrev pub Stands : (frame : Bytes) (g : Geometry) (lengths : Lengths) (buffer : Samples) (s r x : ℕ) → Type 0
Stands frame g lengths buffer s r x =
    let p : ℕ = plane_index frame g s in
    let row : ℕ = first_row g p (place_in_plane frame g s) + r in
    let own : ℕ = get_or (slice_samples frame g lengths s) (r * plane_width g p + x) 0 in
    let green : ℕ = sample_at g buffer 1 row x in
    let added : Bool = correlated g.family && (eqb p 0 || eqb p 2) in
    sample_at g buffer p row x ≡ cond added ((own + green) % 2 ^ g.depth) own

-- every sample of every slice does
abbrev pub AllStand : (frame : Bytes) (g : Geometry) (lengths : Lengths) (buffer : Samples) → Type 0
AllStand frame g lengths buffer =
    (s r x : ℕ) → s < slice_count g → r < rows_at g (plane_index frame g s) (place_in_plane frame g s) → x < plane_width g (plane_index frame g s)
    → Stands frame g lengths buffer s r x

-- slice s names plane p, and its place covers row r of it
pub record Covers (frame : Bytes) (g : Geometry) (p r s : ℕ) : Type 0 where
  pub among : s < slice_count g
  pub names : plane_index frame g s ≡ p
  pub from : first_row g p (place_in_plane frame g s) ≤ r
  pub to : r < first_row g p (place_in_plane frame g s) + rows_at g p (place_in_plane frame g s)

pub record Pictured (frame : Bytes) (g : Geometry) (lengths : Lengths) : Type 0 where
  -- the picture is "exactly all planes' samples"
  pub size : length (picture_of frame g lengths) ≡ all_samples g
  -- "All sums are modulo 2^depth."
  pub below : (i : ℕ) → i < all_samples g → get_or (picture_of frame g lengths) i 0 < 2 ^ g.depth
  -- every slice's samples stand in it where they belong
  pub rows : AllStand frame g lengths (picture_of frame g lengths)
  -- "Success .. defines every sample.": every row of every plane is in the rows of a slice, and of no other
  pub covered : (p r : ℕ) → p < plane_count g → r < plane_height g p → (s : ℕ) × Covers frame g p r s
  pub once : (p r s t : ℕ) → Covers frame g p r s → Covers frame g p r t → s ≡ t
  -- and so no other buffer of that size has every slice's samples where they belong
  pub only : (buffer : Samples) → length buffer ≡ all_samples g → AllStand frame g lengths buffer → buffer ≡ picture_of frame g lengths
