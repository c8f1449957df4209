-- What the functions on a geometry's numbers return, and that nothing runs over: the steps of src/lib.rt over plain numbers
-- (document 01, "Layout"). Assumes nothing.
use mathlib.Core.Path.{◌≡◌, refl}
use mathlib.Core.Bool.{Bool, true, false}
use Prim.Native.Nat.{ℕ, zero, suc, ◌+◌, ◌-◌, ◌*◌, ◌%◌, ◌^◌, ◌≤◌, ◌<◌, min}
use native.Mathlib.Numerals.{add-one}
use native.Mathlib.Omega.{arith}
use mir.Syntax.{w64}
use mir.Val.{Fits}
use borrow.Author.Tests.{ne_eqb}
use borrow.Author.Rules.{rules}
use lib.Dec.{eqb}
use lib.Pow.{pow_mono, pow_pos}
use Rattle.lists.proofs.Powers.{shl_one}
use Rattle.scope.specs.Base as base
use Rattle.scope.specs.Base.{sum_below}
use Rattle.scope.specs.Geometry as geo
use Rattle.scope.specs.Geometry.{subsampled, correlated, plane_count, slices_per_plane, small, plane_width, plane_height, plane_slice_height, rows_at, plane_samples, all_samples, swapped, order_of, plane_start}
use Rattle.scope.specs.declared.Geometry.{Geometry}
use Rattle.lists.proofs.Tests.{told_yes, told_no, test_yes, test_no}
use Rattle.geometry.specs.Sound.{Sound}
use Rattle.geometry.proofs.Places.{width_fits, height_fits, slice_height_fits, planes_most, place_checked, order}
use Rattle.lists.proofs.Numbers.{part_some, part_most, product_most}
use Rattle.within.proofs.Within.{place_begins}

-- ---- sides

module _ (g : Geometry) (p : ℕ) (r : Bool) (e : r ≡ subsampled g.family) where
  -- plane 1 of a subsampled family
  pub small_one : r ≡ true → p ≡ 1 → true ≡ small g p
  unfolding geo.small
  small_one t k = rw (← e, t, k)

  -- plane 2, and no other
  pub small_two : r ≡ true → (p ≡ 1 → ⊥) → eqb p 2 ≡ small g p
  unfolding geo.small
  small_two t k = rw (← e, t, ne_eqb p 1 k)

  -- no plane of another family
  pub small_no : r ≡ false → false ≡ small g p
  unfolding geo.small
  small_no t = rw (← e, t)

pub ruleset sides = (small_one, small_two, small_no, told_yes, told_no, test_yes, test_no, part_some, part_most, rules)

-- ---- products of numbers that have a cap

-- of two sides: at most 268,435,456
pub samples_most : (x y : ℕ) → x ≤ 16384 → y ≤ 16384 → x * y ≤ 268435456
samples_most x y h k = product_most x y 16384 16384 h k

-- so it fits 64 bits
pub samples_fit : (x y : ℕ) → x ≤ 16384 → y ≤ 16384 → Fits w64 (x * y)
samples_fit x y h k = record { fits = omega (arith, samples_most x y h k) }

-- a place's samples are no more than the largest plane's
pub place_most : (g : Geometry) (p k : ℕ) → Sound g → rows_at g p k * plane_width g p ≤ 268435456
unfolding geo.rows_at
place_most g p k ok =
    let few : rows_at g p k ≤ 16384 = unfold geo.rows_at in (omega (arith, (slice_height_fits g ok p).1)) in
    samples_most (rows_at g p k) (plane_width g p) few (width_fits g ok p).1

-- a plane's samples are its sides' product
pub samples_are : (g : Geometry) (p w h : ℕ) → w ≡ plane_width g p → h ≡ plane_height g p → w * h ≡ plane_samples g p
unfolding geo.plane_samples
samples_are g p w h a b = rw (a, b)

-- ---- 2^depth

module _ (depth : ℕ) (h : depth ≤ 14) where
  power_small : 2 ^ depth ≤ 16384
  power_small = pow_mono h

  -- a shifted 1 is 2^depth
  pub power_is : 1 * 2 ^ depth % 2 ^ 64 ≡ 2 ^ depth
  power_is = shl_one 64 depth (omega (arith, h))

  -- which is at least 1
  pub power_some : 1 ≤ 1 * 2 ^ depth % 2 ^ 64
  power_some = rw power_is (pow_pos depth)

  -- and at most 16,384
  pub power_most : 1 * 2 ^ depth % 2 ^ 64 ≤ 16384
  power_most = rw power_is power_small

pub ruleset powers = (power_is, power_some, power_most, rules)

-- ---- the order of the planes

module _ (g : Geometry) (p : ℕ) (r : Bool) (e : r ≡ correlated g.family) where
  -- plane 0 goes to place 1
  pub swap_zero : r ≡ true → p ≡ 0 → 1 ≡ order_of g p
  unfolding geo.swapped
  swap_zero t k = rw (← e, t, k)

  -- plane 1 goes to place 0
  pub swap_one : r ≡ true → p ≡ 1 → 0 ≡ order_of g p
  unfolding geo.swapped
  swap_one t k = rw (← e, t, k)

  -- a family that is not correlated keeps its order
  pub swap_no : r ≡ false → p ≡ order_of g p
  unfolding geo.swapped
  swap_no t = rw (← e, t)

  keeps : (p : ℕ) → (p ≡ 0 → ⊥) → (p ≡ 1 → ⊥) → p ≡ swapped true p
  unfolding geo.swapped
  keeps zero a b = omega (arith, a refl)
  keeps (suc zero) a b = omega (arith, b refl)
  keeps (suc (suc p)) a b = refl

  -- and so do the planes past 1
  pub swap_more : r ≡ true → (p ≡ 0 → ⊥) → (p ≡ 1 → ⊥) → p ≡ order_of g p
  swap_more t a b = rw (← e, t) (keeps p a b)

pub ruleset swaps = (swap_zero, swap_one, swap_no, swap_more)

-- ---- sums of planes

module _ (g : Geometry) where
  -- no planes, no samples
  pub below_none : 0 ≡ sum_below 0 (plane_samples g)
  unfolding base.sum_below
  below_none = refl

  -- one plane more
  pub below_more : (at b r : ℕ) → at ≡ sum_below b (plane_samples g) → r ≡ plane_samples g b → at + r ≡ sum_below (b + 1) (plane_samples g)
  unfolding base.sum_below
  below_more at b r e h = rw (add-one, e, h)

  -- all n of them
  pub below_all : (at b n : ℕ) → at ≡ sum_below b (plane_samples g) → b ≤ n → n ≤ b → at ≡ sum_below n (plane_samples g)
  below_all at b n e h k =
      let z : b ≡ n = omega arith in
      rw (← z) e

  -- at most 268,435,456 each
  pub below_most : (at b n : ℕ) → at ≤ b * 268435456 → b ≤ n → at ≤ n * 268435456
  below_most at b n h k = omega arith

  -- at most four planes
  pub few_planes : (q : ℕ) → q ≡ plane_count g → q ≤ 4
  few_planes q e = rw e (planes_most g.family)

  -- the sum over all planes is all samples
  pub all_are : (r q : ℕ) → q ≡ plane_count g → r ≡ sum_below q (plane_samples g) → r ≡ all_samples g
  unfolding geo.all_samples
  all_are r q e h = rw (← e) h

  -- which are at most 1,073,741,824
  pub all_most : (r q : ℕ) → q ≡ plane_count g → r ≤ q * 268435456 → r ≤ 1073741824
  all_most r q e h = omega (arith, few_planes q e)

  module _ (p q : ℕ) (e : q ≡ order_of g p) (l : p < plane_count g) where
    -- a plane's place in the buffer is at most 3
    pub order_most : q ≤ 3
    order_most = rw e (omega (arith, (order g).among p l, planes_most g.family))

    -- so at most four planes are summed
    pub order_few : q ≤ 4
    order_few = omega (arith, order_most)

    -- the planes before that place end where the plane starts
    pub start_is : (r : ℕ) → r ≡ sum_below q (plane_samples g) → r ≡ plane_start g p
    unfolding geo.plane_start
    start_is r h = rw (← e) h

    -- at most 805,306,368 samples from the front
    pub start_most : (r : ℕ) → r ≤ q * 268435456 → r ≤ 805306368
    start_most r h = omega (arith, order_most)

pub ruleset sums = (below_none, below_more, below_all, below_most, few_planes, all_are, all_most, order_few, start_is, start_most, rules)

-- ---- rows

module _ (g : Geometry) (p row at w : ℕ) (ok : Sound g) (lh : row ≤ plane_height g p) (lw : w ≤ 16384) where
  row_cap : row ≤ 16384
  row_cap = omega (arith, (height_fits g ok p).1)

  -- the rows before a row fit 64 bits
  pub row_fits : Fits w64 (row * w)
  row_fits = samples_fit row w row_cap lw

  -- and so does where it starts
  pub row_adds : at ≤ 805306368 → Fits w64 (at + row * w)
  row_adds l = record { fits = omega (arith, samples_most row w row_cap lw) }

  -- which is at most 1,073,741,824
  pub row_most : at ≤ 805306368 → at + row * w ≤ 1073741824
  row_most l = omega (arith, samples_most row w row_cap lw)

-- ---- slices

module _ (g : Geometry) (p k b : ℕ) (ok : Sound g) (lk : k < slices_per_plane g) (eb : b ≡ plane_slice_height g p) where
  -- the place's first row
  first_in : k * b ≤ plane_height g p
  first_in = rw eb (omega (arith, (place_begins g p k (place_checked g ok k lk)).begins))

  -- the place's first row fits 64 bits
  pub first_fits : Fits w64 (k * b)
  first_fits = record { fits = omega (arith, first_in, (height_fits g ok p).1) }

  module _ (h : ℕ) (eh : h ≡ plane_height g p) where
    -- no place starts past its plane
    pub first_below : k * b ≤ h
    first_below = rw eh first_in

    -- a place with as many rows left has the slice height
    pub rows_whole : b < h - k * b → b ≡ rows_at g p k
    unfolding geo.rows_at
    rows_whole l =
        let e : b ≡ min b (h - k * b) = omega arith in
        rw (← eh, ← eb) e

    -- the last is cut at the plane's height
    pub rows_cut : h - k * b ≤ b → h - k * b ≡ rows_at g p k
    unfolding geo.rows_at
    rows_cut l =
        let e : h - k * b ≡ min b (h - k * b) = omega arith in
        rw (← eh, ← eb) e

    -- and has a row at least
    pub rows_left : 1 ≤ h - k * b
    rows_left = rw (eh, eb) (omega (arith, (place_begins g p k (place_checked g ok k lk)).begins))

pub ruleset place_rows = (first_fits, first_below, rows_whole, rows_cut, rows_left, rules)
