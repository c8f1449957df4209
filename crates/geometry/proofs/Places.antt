-- Document 01, "Layout": the sides of a plane, its places, which are cut at its height and K of which cover it, and the planes in
-- the buffer. Over a geometry that refusals 1 to 3 left. Assumes nothing.
use mathlib.Core.Path.{◌≡◌, refl, sym, ap}
use mathlib.Core.Bool.{Bool, true, false, cond}
use Prim.Native.Nat.{ℕ, zero, suc, ◌+◌, ◌-◌, ◌*◌, ◌/◌, ◌%◌, ◌≤◌, ◌<◌, min}
use native.Mathlib.Nat.{zero-mul, suc-mul, add-mul, mul_comm, div-lt_iff_lt-mul, mul-le-mul_right, mul-le-mul, mul-le-mul_left}
use native.Mathlib.Omega.{arith}
use Rattle.scope.specs.Geometry as geo
use Rattle.scope.specs.Geometry.{planes_of, subsampled, correlated, plane_count, slices_per_plane, slice_count, small, plane_width, plane_height, plane_slice_height, first_row, rows_at, plane_samples, all_samples, swapped, order_of, plane_start, row_start}
use Rattle.scope.specs.declared.Family.{Family}
use Rattle.scope.specs.declared.Family.TheVariants.{Gray, Rgb, Yuv, Rgba, Yuva}
use Rattle.scope.specs.declared.Geometry.{Geometry}
use Rattle.lists.proofs.Numbers.{part_some, part_most}
use Rattle.within.specs.Within.{PlaceChecked}
use Rattle.within.proofs.Within.{place_begins, no_place_beyond}
use Rattle.geometry.specs.Sound.{Sound}
use Rattle.geometry.specs.Places as places
use Rattle.geometry.specs.Places.{filled}
use Rattle.geometry.proofs.Order.{Order, stretch_in}

-- ---- sides

-- both, of the side of any plane
side : (t : Bool) (x s : ℕ) → (1 ≤ x) × (x ≤ 16384) → x % s ≡ 0 → (1 ≤ cond t (x / s) x) × (cond t (x / s) x ≤ 16384)
side true x s h e = (part_some x s h.0 e, part_most x s 16384 h.1)
side false x s h e = h

module _ (g : Geometry) (ok : Sound g) (p : ℕ) where
  -- each side of plane p is 1 to 16,384
  pub width_fits : (1 ≤ plane_width g p) × (plane_width g p ≤ 16384)
  unfolding geo.plane_width
  width_fits = side (small g p) g.width g.sx ok.wide ok.even_width

  -- its height
  pub height_fits : (1 ≤ plane_height g p) × (plane_height g p ≤ 16384)
  unfolding geo.plane_height
  height_fits = side (small g p) g.height g.sy ok.tall ok.even_height

  -- its slice height
  pub slice_height_fits : (1 ≤ plane_slice_height g p) × (plane_slice_height g p ≤ 16384)
  unfolding geo.plane_slice_height
  slice_height_fits = side (small g p) g.slice_height g.sy ok.sliced ok.even_slices

-- there are at most four planes
pub planes_most : (f : Family) → planes_of f ≤ 4
planes_most Gray = omega arith
planes_most Rgb = omega arith
planes_most Yuv = omega arith
planes_most Rgba = omega arith
planes_most Yuva = omega arith

-- and at least one
pub planes_some : (f : Family) → 1 ≤ planes_of f
planes_some Gray = omega arith
planes_some Rgb = omega arith
planes_some Yuv = omega arith
planes_some Rgba = omega arith
planes_some Yuva = omega arith

-- ---- places

module _ (g : Geometry) (ok : Sound g) where
  -- a place below K is one that `place_begins` speaks of
  pub place_checked : (k : ℕ) → k < slices_per_plane g → PlaceChecked g k
  place_checked k l = record { height = ok.even_height; slices = ok.even_slices; place = l }

  -- K is 1 to 16,384
  pub slices_most : slices_per_plane g ≤ 16384
  slices_most =
      let b : ℕ = g.slice_height in
      let l : g.height ≤ g.height * b = omega (arith, mul-le-mul_left g.height ok.sliced.0) in
      let k : slices_per_plane g < suc g.height = (div-lt_iff_lt-mul ok.sliced.0).1 (omega (arith, suc-mul g.height b, ok.sliced.0)) in
      omega (arith, ok.tall.1)

  -- T is at most 65,536
  pub slice_count_most : slice_count g ≤ 65536
  slice_count_most = mul-le-mul (planes_most g.family) slices_most

  -- the first K places are the plane
  pub filled_all : (p : ℕ) → filled g p (slices_per_plane g) ≡ plane_samples g p
  unfolding places.filled geo.plane_samples
  filled_all p =
      let e : min (first_row g p (slices_per_plane g)) (plane_height g p) ≡ plane_height g p = omega (arith, no_place_beyond g p (slices_per_plane g) ok.sliced.0 ok.even_slices (omega arith)) in
      rw e (mul_comm _ _)

  -- place k starts where the places before it end
  pub filled_start : (p k : ℕ) → k < slices_per_plane g → filled g p k ≡ first_row g p k * plane_width g p
  unfolding places.filled
  filled_start p k l =
      let e : min (first_row g p k) (plane_height g p) ≡ first_row g p k = omega (arith, (place_begins g p k (place_checked k l)).begins) in
      rw e

  -- so it starts there in the buffer
  pub place_starts : (p k : ℕ) → k < slices_per_plane g → row_start g p (first_row g p k) ≡ plane_start g p + filled g p k
  unfolding geo.row_start
  place_starts p k l = ap (λ (y : ℕ). plane_start g p + y) (sym (filled_start p k l))

module _ (g : Geometry) (p : ℕ) where
  -- no place yet
  pub filled_none : filled g p 0 ≡ 0
  unfolding places.filled
  filled_none =
      let e : min (0 * plane_slice_height g p) (plane_height g p) ≡ 0 = omega (arith, zero-mul (plane_slice_height g p)) in
      rw e (zero-mul _)

  -- one place more
  pub filled_next : (k : ℕ) → filled g p (suc k) ≡ filled g p k + rows_at g p k * plane_width g p
  unfolding places.filled geo.rows_at
  filled_next k =
      let e : min (suc k * plane_slice_height g p) (plane_height g p) ≡ min (k * plane_slice_height g p) (plane_height g p) + min (plane_slice_height g p) (plane_height g p - k * plane_slice_height g p) = omega (arith, suc-mul k (plane_slice_height g p)) in
      rw e (add-mul _ _ _)

  -- never more than the plane
  pub filled_most : (k : ℕ) → filled g p k ≤ plane_samples g p
  unfolding places.filled geo.plane_samples
  filled_most k =
      let e : min (first_row g p k) (plane_height g p) ≤ plane_height g p = omega arith in
      rw (mul_comm (plane_width g p) (plane_height g p)) (mul-le-mul_right (plane_width g p) e)

-- ---- the planes in the buffer: 0 and 1 change places only where all planes are alike

swap_back : (t : Bool) (p : ℕ) → swapped t (swapped t p) ≡ p
unfolding geo.swapped
swap_back false p = refl
swap_back true zero = refl
swap_back true (suc zero) = refl
swap_back true (suc (suc p)) = refl

swap_among : (t : Bool) (n p : ℕ) → (t ≡ true → 3 ≤ n) → p < n → swapped t p < n
unfolding geo.swapped
swap_among false n p k h = h
swap_among true n zero k h = omega (arith, k refl)
swap_among true n (suc zero) k h = omega arith
swap_among true n (suc (suc p)) k h = h

-- a correlated family is not subsampled, and has three planes or four
pub correlated_full : (f : Family) → correlated f ≡ true → subsampled f ≡ false
correlated_full Gray e = refl
correlated_full Rgb e = refl
correlated_full Yuv e = sym e
correlated_full Rgba e = refl
correlated_full Yuva e = sym e

-- and has three planes or four
pub correlated_three : (f : Family) → correlated f ≡ true → 3 ≤ planes_of f
correlated_three Gray e = let z : ◌≡◌ {A = ℕ} 0 1 = cc in omega arith
correlated_three Rgb e = omega arith
correlated_three Yuv e = let z : ◌≡◌ {A = ℕ} 0 1 = cc in omega arith
correlated_three Rgba e = omega arith
correlated_three Yuva e = let z : ◌≡◌ {A = ℕ} 0 1 = cc in omega arith

module _ (g : Geometry) where
  -- so its planes are all of one size
  pub sizes_alike : correlated g.family ≡ true → (p q : ℕ) → plane_samples g p ≡ plane_samples g q
  unfolding geo.plane_samples geo.plane_width geo.plane_height geo.small
  sizes_alike e p q = rw (correlated_full g.family e)

  alike : (p : ℕ) (t : Bool) → correlated g.family ≡ t → plane_samples g (swapped t p) ≡ plane_samples g p
  unfolding geo.swapped
  alike p false e = refl
  alike p true e = sizes_alike e (swapped true p) p

  -- the order of the planes in the buffer
  pub order : Order (plane_count g) (order_of g) (plane_samples g)
  order =
      record {
        back = λ p h. swap_back _ p;
        among = λ p h. swap_among _ (plane_count g) p (correlated_three g.family) h;
        alike = λ p h. alike p (correlated g.family) refl;
      }

  -- plane p's stretch lies within the buffer
  pub plane_room : (p : ℕ) → p < plane_count g → plane_start g p + plane_samples g p ≤ all_samples g
  unfolding geo.plane_start geo.all_samples
  plane_room p l = stretch_in (plane_count g) (order_of g) (plane_samples g) order p l

  -- and so does the stretch of its place k
  pub place_room : Sound g → (p k : ℕ) → p < plane_count g → k < slices_per_plane g → row_start g p (first_row g p k) + rows_at g p k * plane_width g p ≤ all_samples g
  place_room ok p k lp lk = omega (arith, place_starts g ok p k lk, filled_next g p k, filled_most g p (suc k), plane_room p lp)
