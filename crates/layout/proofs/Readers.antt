-- Document 01, "Layout": what the readers of src/lib.rt read. Assumes nothing.
use mathlib.Core.Path.{◌≡◌}
use mathlib.Core.Bool.{Bool}
use mathlib.Core.List.{List}
use Prim.Native.Nat.{ℕ, ◌+◌, ◌*◌, ◌%◌, ◌≤◌, ◌<◌}
use borrow.Author.Tests.{lt-ltb, le-ltb}
use lib.Dec.{eqb}
use lib.ListN.{length, get_or}
use Rattle.scope.specs.Geometry.{slice_count, plane_width, plane_height, plane_slice_height, rows_at}
use Rattle.scope.specs.Layout as lay
use Rattle.scope.specs.Layout.{le32, preamble_end, count_byte, plane_index, place_in_plane, slice_start, slice_end, slice_at}
use Rattle.geometry.specs.Sound.{Sound}
use Rattle.geometry.proofs.Places.{place_checked}
use Rattle.within.specs.Within.{InPlane}
use Rattle.within.proofs.Within.{place_begins}
use Rattle.layout.specs.Placed.{Placed}
use Rattle.scope.specs.declared.Geometry.{Geometry}
use Rattle.scope.specs.declared.SliceAt.{SliceAt}

module _ (frame : List ℕ) (g : Geometry) (s : ℕ) where
  -- a slice's start
  pub starts_at : (e : ℕ) → e ≡ le32 frame (32 + 4 * (s + 1)) → 32 + e ≡ slice_start frame g s
  unfolding lay.slice_start lay.entry
  starts_at e h = rw h

  -- its end is the next one's start
  pub ends_next : (t e : ℕ) → t ≡ slice_count g → s + 1 < t → e ≡ slice_start frame g (s + 1) → e ≡ slice_end frame g s
  unfolding lay.slice_end
  ends_next t e et l h = rw (lt-ltb (s + 1) (slice_count g) (rw et at l)) h

  -- the last one's is the frame's end
  pub ends_last : (t : ℕ) → t ≡ slice_count g → t ≤ s + 1 → length frame ≡ slice_end frame g s
  unfolding lay.slice_end
  ends_last t et l = rw (le-ltb (s + 1) (slice_count g) (rw et at l))

-- where the preamble ends
pub preamble_ends : (frame : List ℕ) (e : ℕ) → e ≡ le32 frame 36 → 32 + e ≡ preamble_end frame
unfolding lay.preamble_end lay.entry
preamble_ends frame e h = rw h

-- the plane count, as it is read
pub count_is : (frame : List ℕ) (g : Geometry) (t r : ℕ) → t ≡ slice_count g → r ≡ get_or frame (32 + 4 * (t + 1)) 0 → r ≡ count_byte frame g
unfolding lay.count_byte
count_is frame g t r e h = rw e at h

-- a slice's plane
pub index_is : (frame : List ℕ) (g : Geometry) (t s r : ℕ) → t ≡ slice_count g → r ≡ get_or frame (32 + 4 * (t + 1) + 1 + s) 0 → r ≡ plane_index frame g s
unfolding lay.plane_index
index_is frame g t s r e h = rw e at h

-- ---- a slice as one record

module _ (frame : List ℕ) (g : Geometry) (s p k : ℕ) (pl : Placed frame g s p k) where
  place_is : k ≡ place_in_plane frame g s
  unfolding lay.place_in_plane
  place_is = rw (← pl.plane) pl.place

  -- the rows of its record lie in its plane
  pub record_in_plane : Sound g → (a : SliceAt) → a ≡ slice_at frame g s → InPlane (plane_height g a.plane) a.first a.rows
  unfolding lay.slice_at
  record_in_plane ok a is =
      rw is (place_begins g (plane_index frame g s) (place_in_plane frame g s) (place_checked g ok (place_in_plane frame g s) (rw place_is at pl.place_below)))

  pub slice_is : (start end height rows width flag kind : ℕ) (raw : Bool) → start ≡ slice_start frame g s → end ≡ slice_end frame g s
      → height ≡ plane_slice_height g p → rows ≡ rows_at g p k → width ≡ plane_width g p
      → flag ≡ get_or frame start 0 → raw ≡ eqb (flag % 2) 1 → kind ≡ get_or frame (start + 1) 0
      → record { number = s; plane = p; place = k; first = k * height; rows = rows; width = width; start = start; end = end; raw = raw; predictor = kind } ≡ slice_at frame g s
  unfolding lay.slice_at lay.is_raw lay.predictor_of
  slice_is start end height rows width flag kind raw es ee eh er ew ef eb ek =
      rw (eb, ef, ek, eh, er, ew, es, ee, place_is, pl.plane)
