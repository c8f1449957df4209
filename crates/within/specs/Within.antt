-- Request L10, "Two checks that never fire", as two theorems about document 01's definitions alone. This file says them; nothing in it has to be
-- believed, and no proof has to be read.
--   1. every slice begins in its plane: the Rust guards against one that does not, by a subtraction that saturates;
--   2. a raw slice has all its bytes: the Rust tests that once more, just before it reads the slice.
-- Of the rows of the table that stand before, each theorem takes two or three, which `PlaceChecked` and `RawChecked` name. For each of these
-- Smallest.antt has the smallest geometry or frame for which it alone applies, and there the claim fails. s is a slice's number in wire order, p a
-- plane's, k a place in its plane. Assumes nothing.
use Rattle.std.specs.Prelude.{◌≡◌, ℕ, ◌+◌, ◌-◌, ◌*◌, ◌%◌, ◌≤◌, ◌<◌, true, List, ◌++◌, length}
use Rattle.scope.specs.Base.{Bytes, Lengths, over_up}
use Rattle.scope.specs.Refusals.{Row, NoneApplies, rows_of_each}
use Rattle.scope.specs.Geometry.{slices_per_plane, slice_count, plane_height, first_row, rows_at}
use Rattle.scope.specs.Layout.{plane_index, place_in_plane, slice_start, slice_end, is_raw, payload_of, samples_in}
use Rattle.scope.specs.Bits.{raw_samples}
use Rattle.scope.specs.Frame.{fewest_bytes, lent_rows, preamble_rows, index_rows, slice_rows}
use Rattle.scope.specs.declared.Entry.{Entry}
use Rattle.scope.specs.declared.Geometry.{Geometry}

-- ---- 1. every slice begins in its plane

-- the claim, of a plane's height, and of the first row of some rows and how many they are: as the definitions have them, or as code does
pub record InPlane (height first rows : ℕ) : Type 0 where
  -- the first row lies below the plane's height
  pub begins : first < height
  -- there is at least one row
  pub some : 1 ≤ rows
  -- and all of them lie in the plane
  pub ends : first + rows ≤ height

-- what it takes: three rows of the table do not apply
pub record PlaceChecked (g : Geometry) (k : ℕ) : Type 0 where
  -- 2, "height not of sy" (`Without2`)
  pub height : g.height % g.sy ≡ 0
  -- 3, "slice height not a multiple of sy": without it the first row lies in the plane all the same, but there may be no row (`Without3`)
  pub slices : g.slice_height % g.sy ≡ 0
  -- 8, "that plane already has K slices" (`Without8`)
  pub place : k < slices_per_plane g

-- of any place of any plane: this is what functions that know a plane and a place lean on
abbrev pub PlaceBegins : Type 0
PlaceBegins = (g : Geometry) (p k : ℕ) → PlaceChecked g k → InPlane (plane_height g p) (first_row g p k) (rows_at g p k)

-- K is the bound: no place from K on begins in its plane. This takes row 1, of the slice height (`Without1`), and row 3 (`Without3Beyond`).
abbrev pub NoPlaceBeyond : Type 0
NoPlaceBeyond =
    (g : Geometry) (p k : ℕ) → 1 ≤ g.slice_height → g.slice_height % g.sy ≡ 0
    → slices_per_plane g ≤ k → plane_height g p ≤ first_row g p k

-- rows 1 to 8 of the table, in its order (that it begins with them is `table_begins`, proofs/Within.antt)
abbrev pub rows_to8 : (which : Entry) (frame : Bytes) (g : Geometry) (lengths : Lengths) (planes_len : ℕ) → List Row
rows_to8 which frame g lengths planes_len =
    lent_rows which g (length lengths) planes_len
    ++ (preamble_rows frame g
    ++ rows_of_each (slice_count g) (index_rows frame g))

-- the theorem: of every frame, geometry and lengths at either entry, once checks 1 to 8 have passed, whatever the others say
abbrev pub EverySliceBeginsInItsPlane : Type 0
EverySliceBeginsInItsPlane =
    (which : Entry) (frame : Bytes) (g : Geometry) (lengths : Lengths) (planes_len : ℕ)
    → NoneApplies (rows_to8 which frame g lengths planes_len)
    → (s : ℕ) → s < slice_count g
    → InPlane (plane_height g (plane_index frame g s)) (first_row g (plane_index frame g s) (place_in_plane frame g s)) (rows_at g (plane_index frame g s) (place_in_plane frame g s))

-- ---- 2. a raw slice has all its bytes

-- the claim, of a payload and of how many raw samples it should hold
pub record AllBytes (depth samples : ℕ) (payload : Bytes) : Type 0 where
  -- at least "samples times b, over 8, rounded up" bytes, b being the depth
  pub bytes : over_up (samples * depth) 8 ≤ length payload
  -- sample i is the depth bits from bit i·depth on ("packed at depth bits"; at depth 8 byte i), and they end within the payload
  pub bits : (i : ℕ) → i < samples → i * depth + depth ≤ 8 * length payload
  -- so no sample has a bit from behind it: whatever bytes followed, the samples would be the same
  pub own : (more : Bytes) → raw_samples depth (payload ++ more) samples ≡ raw_samples depth payload samples

-- what it takes: that the slice is raw, and that two rows of the table do not apply to it
pub record RawChecked (frame : Bytes) (g : Geometry) (lengths : Lengths) (s : ℕ) : Type 0 where
  -- "set means raw" (`WithoutRaw`)
  pub raw : is_raw frame g s ≡ true
  -- 12, "slice ends .. past the frame" (`Without12ByBounds`)
  pub inside : slice_end frame g s ≤ length frame
  -- 12, "fewer bytes after the prefix" (`Without12BySize`)
  pub size : fewest_bytes frame g lengths s ≤ slice_end frame g s - (slice_start frame g s + 2)

-- of any one slice
abbrev pub RawWhole : Type 0
RawWhole =
    (frame : Bytes) (g : Geometry) (lengths : Lengths) (s : ℕ) → RawChecked frame g lengths s
    → AllBytes g.depth (samples_in frame g s) (payload_of frame g s)

-- the theorem: of every frame, geometry and lengths, once the slice checks have passed
abbrev pub RawSliceHasAllItsBytes : Type 0
RawSliceHasAllItsBytes =
    (frame : Bytes) (g : Geometry) (lengths : Lengths)
    → NoneApplies (rows_of_each (slice_count g) (slice_rows frame g lengths))
    → (s : ℕ) → s < slice_count g → is_raw frame g s ≡ true
    → AllBytes g.depth (samples_in frame g s) (payload_of frame g s)
