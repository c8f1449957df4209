-- Document 01, "Refusal numbers", 1 to 4: each as src/lib.rt finds it, and what is known once there is none. Assumes nothing.
use mathlib.Core.Path.{◌≡◌, refl, sym, ◌∙◌}
use mathlib.Core.Bool.{Bool, true, false, not, ◌&&◌, ◌||◌}
use mathlib.Core.Logic.{inl, inr}
use Prim.Native.Nat.{ℕ, ◌*◌, ◌%◌, ◌^◌, ◌≤◌}
use native.Mathlib.Omega.{arith}
use mir.Syntax.{w64}
use mir.Val.{Fits}
use borrow.Author.Tests.{eq-eqb, ne_eqb, eqb-true, leb-true, not-false}
use borrow.Author.Rules.{rules}
use lib.Dec.{eqb, leb}
use Rattle.scope.specs.Refusals.{refuse_if, ◌and_then◌}
use Rattle.scope.specs.Geometry as geo
use Rattle.scope.specs.Geometry.{subsampled, size_fits, factor_fits, depth_fits, geometry_fits, factors_divide, slice_height_divides, plane_count, all_samples}
use Rattle.scope.specs.Pieces as pcs
use Rattle.scope.specs.declared.Family.{Family}
use Rattle.scope.specs.declared.Geometry.{Geometry}
use Rattle.scope.specs.declared.Place.{Place}
use Rattle.scope.specs.declared.Place.TheVariants.{Nothing}
use Rattle.scope.specs.declared.Refusal.{Refusal}
use Rattle.std.specs.Prelude.{Err}
use Rattle.scope.specs.Answers.{Answer, done, refused}
use Rattle.scope.specs.Pieces.{lent_checks}
use Rattle.scope.specs.declared.Entry.{Entry}
use Rattle.scope.specs.declared.Entry.TheVariants.{Eight, Deep}
use Rattle.geometry.specs.Sound.{Sound}
use Rattle.lists.proofs.Tests.{and_both, yes_is, no_is, and_first, and_before, and_second, and_none, and_true, or_cases}
use Rattle.refusals.proofs.InOrder.{first_passed, then_passed, if_passed}
use Rattle.geometry.proofs.Figures.{few_planes}
use Rattle.lists.proofs.Numbers.{product_most}
use Rattle.incoming.specs.Steps as steps
use Rattle.incoming.specs.Steps.{shape_checks, size_checks}

-- ---- refusal 1

pub ruleset chained = (and_first, and_before, and_second, and_none, and_true, yes_is, no_is)

-- what a size, a factor and a depth that fit are
size_is : (n : ℕ) → size_fits n ≡ true → (1 ≤ n) × (n ≤ 16384)
unfolding geo.size_fits
size_is n e =
    let u = and_both (leb 1 n) (leb n 16384) e in
    (leb-true 1 n u.0, leb-true n 16384 u.1)

factor_is : (f : Family) (s : ℕ) → factor_fits f s ≡ true → (1 ≤ s) × (s ≤ 2)
unfolding geo.factor_fits
factor_is f s e = elim (or_cases (eqb s 1) (subsampled f && eqb s 2) e) [
  | inl h ↦ one (eqb-true s 1 h)
  | inr h ↦ two (eqb-true s 2 (and_both (subsampled f) (eqb s 2) h).1)
]
  where
    one : s ≡ 1 → (1 ≤ s) × (s ≤ 2)
    one z = omega arith

    two : s ≡ 2 → (1 ≤ s) × (s ≤ 2)
    two z = omega arith

-- the entry for depths 10, 12 and 14 takes no other
pub depth_deep : (depth : ℕ) → depth_fits Deep depth ≡ true → (10 ≤ depth) × (depth ≤ 14)
depth_deep depth e = elim (or_cases (eqb depth 10 || eqb depth 12) (eqb depth 14) e) [
  | inl h ↦ elim (or_cases (eqb depth 10) (eqb depth 12) h) [
    | inl k ↦ a (eqb-true depth 10 k)
    | inr k ↦ b (eqb-true depth 12 k)
  ]
  | inr k ↦ d (eqb-true depth 14 k)
]
  where
    a : depth ≡ 10 → (10 ≤ depth) × (depth ≤ 14)
    a z = omega arith

    b : depth ≡ 12 → (10 ≤ depth) × (depth ≤ 14)
    b z = omega arith

    d : depth ≡ 14 → (10 ≤ depth) × (depth ≤ 14)
    d z = omega arith

-- and the one for depth 8 takes 8 alone
pub depth_shallow : (depth : ℕ) → depth_fits Eight depth ≡ true → depth ≡ 8
depth_shallow depth e = eqb-true depth 8 e

depth_is : (which : Entry) (depth : ℕ) → depth_fits which depth ≡ true → (8 ≤ depth) × (depth ≤ 14)
depth_is Deep depth e = omega (arith, depth_deep depth e)
depth_is Eight depth e = omega (arith, depth_shallow depth e)

-- what a geometry that fits is
pub record Fitting (which : Entry) (g : Geometry) : Type 0 where
  pub wide : (1 ≤ g.width) × (g.width ≤ 16384)
  pub tall : (1 ≤ g.height) × (g.height ≤ 16384)
  pub sliced : (1 ≤ g.slice_height) × (g.slice_height ≤ 16384)
  pub across : (1 ≤ g.sx) × (g.sx ≤ 2)
  pub down : (1 ≤ g.sy) × (g.sy ≤ 2)
  pub depth : depth_fits which g.depth ≡ true

-- every rule of it
pub fitting : (which : Entry) (g : Geometry) → geometry_fits which g ≡ true → Fitting which g
unfolding geo.geometry_fits
fitting which g e =
    let W : Bool = size_fits g.width in
    let H : Bool = size_fits g.height in
    let S : Bool = size_fits g.slice_height in
    let X : Bool = factor_fits g.family g.sx in
    let Y : Bool = factor_fits g.family g.sy in
    let u5 = and_both (W && H && S && X && Y) (depth_fits which g.depth) e in
    let u4 = and_both (W && H && S && X) Y u5.0 in
    let u3 = and_both (W && H && S) X u4.0 in
    let u2 = and_both (W && H) S u3.0 in
    let u1 = and_both W H u2.0 in
    record {
      wide = size_is g.width u1.0;
      tall = size_is g.height u1.1;
      sliced = size_is g.slice_height u2.1;
      across = factor_is g.family g.sx u3.1;
      down = factor_is g.family g.sy u4.1;
      depth = u5.1;
    }

-- ---- refusals 1 to 3

module _ (which : Entry) (g : Geometry) where
  -- refusal 1
  pub shape_1 : (r : Bool) → r ≡ geometry_fits which g → not r ≡ true → refused 1 Nothing ≡ shape_checks which g
  unfolding steps.shape_checks
  shape_1 r e t = rw (no_is r _ e t)

  module _ (a : Bool) (ea : a ≡ geometry_fits which g) (ta : not a ≡ false) where
    -- no division by 0: sx
    pub across_some : 1 ≤ g.sx
    across_some = (fitting which g (yes_is a _ ea ta)).across.0

    -- nor by sy
    pub down_some : 1 ≤ g.sy
    down_some = (fitting which g (yes_is a _ ea ta)).down.0

    -- refusal 2 of the width
    pub shape_2w : (r : Bool) → r ≡ eqb (g.width % g.sx) 0 → not r ≡ true → refused 2 Nothing ≡ shape_checks which g
    unfolding steps.shape_checks geo.factors_divide
    shape_2w r e t = rw (yes_is a _ ea ta, no_is r _ e t)

    module _ (b : Bool) (eb : b ≡ eqb (g.width % g.sx) 0) (tb : not b ≡ false) where
      -- refusal 2 of the height
      pub shape_2h : (r : Bool) → r ≡ eqb (g.height % g.sy) 0 → not r ≡ true → refused 2 Nothing ≡ shape_checks which g
      unfolding steps.shape_checks geo.factors_divide
      shape_2h r e t = rw (yes_is a _ ea ta, yes_is b _ eb tb, no_is r _ e t)

      module _ (d : Bool) (ed : d ≡ eqb (g.height % g.sy) 0) (td : not d ≡ false) where
        -- refusal 3
        pub shape_3 : (r : Bool) → r ≡ eqb (g.slice_height % g.sy) 0 → not r ≡ true → refused 3 Nothing ≡ shape_checks which g
        unfolding steps.shape_checks geo.factors_divide geo.slice_height_divides
        shape_3 r e t = rw (yes_is a _ ea ta, yes_is b _ eb tb, yes_is d _ ed td, no_is r _ e t)

        -- none of the three
        pub shape_0 : (r : Bool) → r ≡ eqb (g.slice_height % g.sy) 0 → not r ≡ false → done ≡ shape_checks which g
        unfolding steps.shape_checks geo.factors_divide geo.slice_height_divides
        shape_0 r e t = rw (yes_is a _ ea ta, yes_is b _ eb tb, yes_is d _ ed td, yes_is r _ e t)

pub ruleset shapes = (shape_1, shape_2w, shape_2h, shape_3, shape_0, across_some, down_some, rules)

-- ---- what a geometry is that passed them

-- a test that refused nothing where it is false is true
passed : (t : Bool) (n : ℕ) (w : Place) → done ≡ refuse_if (not t) n w → t ≡ true
passed t n w e = not-false t (if_passed (not t) n w e)

module _ (which : Entry) (g : Geometry) (e : done ≡ shape_checks which g) where
  one : Answer
  one = refuse_if (not (geometry_fits which g)) 1 Nothing

  two : Answer
  two = refuse_if (not (factors_divide g)) 2 Nothing

  three : Answer
  three = refuse_if (not (slice_height_divides g)) 3 Nothing

  fit : Fitting which g
  unfolding steps.shape_checks one two three
  fit = fitting which g (passed (geometry_fits which g) 1 Nothing (first_passed one (two and_then three) e))

  divided : factors_divide g ≡ true
  unfolding steps.shape_checks one two three
  divided = passed (factors_divide g) 2 Nothing (first_passed two three (then_passed one (two and_then three) e))

  sliced : slice_height_divides g ≡ true
  unfolding steps.shape_checks one two three
  sliced = passed (slice_height_divides g) 3 Nothing (then_passed two three (then_passed one (two and_then three) e))

  -- refusals 1 to 3 leave a sound geometry
  pub shape_sound : Sound g
  unfolding geo.factors_divide geo.slice_height_divides
  shape_sound =
      let u = and_both (eqb (g.width % g.sx) 0) (eqb (g.height % g.sy) 0) divided in
      record {
        wide = fit.wide;
        tall = fit.tall;
        sliced = fit.sliced;
        across = fit.across;
        down = fit.down;
        deep = depth_is which g.depth fit.depth;
        even_width = eqb-true _ 0 u.0;
        even_height = eqb-true _ 0 u.1;
        even_slices = eqb-true _ 0 sliced;
      }

  -- of a depth that the entry serves
  pub shape_depth : depth_fits which g.depth ≡ true
  shape_depth = fit.depth

-- the same as the code has it
pub sound_told : (which : Entry) (g : Geometry) (r : Answer) → r ≡ shape_checks which g → r ≡ done → Sound g
sound_told which g r e h = shape_sound which g (sym h ∙ e)

-- ---- refusal 4

module _ (g : Geometry) (lengths_len planes_len p n : ℕ) (ep : p ≡ plane_count g) (en : n ≡ 2 ^ g.depth) where
  -- P·2^depth fits 64 bits
  pub lengths_fit : n ≤ 16384 → Fits w64 (p * n)
  lengths_fit h = record { fits = omega (arith, product_most p n 4 16384 (few_planes g p ep) h) }

  lens : p * n ≡ plane_count g * 2 ^ g.depth
  lens = rw (ep, en)

  -- refusal 4 of the lengths
  pub size_4l : (lengths_len ≡ p * n → ⊥) → refused 4 Nothing ≡ size_checks g lengths_len planes_len
  unfolding steps.size_checks
  size_4l ne = rw (← lens, ne_eqb lengths_len (p * n) ne)

  module _ (el : lengths_len ≡ p * n) (q : ℕ) (eq : q ≡ all_samples g) where
    -- refusal 4 of the plane buffer
    pub size_4p : (planes_len ≡ q → ⊥) → refused 4 Nothing ≡ size_checks g lengths_len planes_len
    unfolding steps.size_checks
    size_4p ne = rw (← lens, eq-eqb lengths_len (p * n) el, ← eq, ne_eqb planes_len q ne)

    -- neither
    pub size_0 : planes_len ≡ q → done ≡ size_checks g lengths_len planes_len
    unfolding steps.size_checks
    size_0 h = rw (← lens, eq-eqb lengths_len (p * n) el, ← eq, eq-eqb planes_len q h)

pub ruleset lent_sizes = (lengths_fit, size_4l, size_4p, size_0, rules)

-- ---- all four

module _ (which : Entry) (g : Geometry) (lengths_len planes_len : ℕ) where
  -- they are the two steps one after the other
  pub lent_steps : lent_checks which g lengths_len planes_len ≡ (shape_checks which g and_then size_checks g lengths_len planes_len)
  unfolding steps.shape_checks steps.size_checks pcs.lent_checks
  lent_steps = go (geometry_fits which g) (factors_divide g) (slice_height_divides g) (sizes)
    where
      sizes : Answer
      sizes = refuse_if (not (eqb lengths_len (plane_count g * 2 ^ g.depth) && eqb planes_len (all_samples g))) 4 Nothing

      go : (a b d : Bool) (s : Answer) → (refuse_if (not a) 1 Nothing and_then refuse_if (not b) 2 Nothing and_then refuse_if (not d) 3 Nothing and_then s) ≡ ((refuse_if (not a) 1 Nothing and_then refuse_if (not b) 2 Nothing and_then refuse_if (not d) 3 Nothing) and_then s)
      go false b d s = refl
      go true false d s = refl
      go true true false s = refl
      go true true true s = refl

  -- a refusal of the first step is the answer; else the second step gives it
  pub lent_early : (a : Answer) (why : Refusal) → a ≡ shape_checks which g → a ≡ Err why → Err why ≡ lent_checks which g lengths_len planes_len
  lent_early a why e h = rw (lent_steps, ← e, h)

  -- the second step's answer is the answer
  pub lent_late : (a b : Answer) → a ≡ shape_checks which g → a ≡ done → b ≡ size_checks g lengths_len planes_len → b ≡ lent_checks which g lengths_len planes_len
  lent_late a b e h k = rw (lent_steps, ← e, h) k

  module _ (e : done ≡ lent_checks which g lengths_len planes_len) where
    -- what is known once none of 1 to 4 applies: the geometry is sound, and of a depth that the entry serves
    pub lent_sound : Sound g
    lent_sound = shape_sound which g (first_passed (shape_checks which g) _ (e ∙ lent_steps))

    -- of a depth that the entry serves
    pub lent_depth : depth_fits which g.depth ≡ true
    lent_depth = shape_depth which g (first_passed (shape_checks which g) _ (e ∙ lent_steps))

    sizes_passed : (eqb lengths_len (plane_count g * 2 ^ g.depth) && eqb planes_len (all_samples g)) ≡ true
    unfolding steps.size_checks
    sizes_passed = passed _ 4 Nothing (then_passed (shape_checks which g) _ (e ∙ lent_steps))

    -- the lengths are P·2^depth
    pub lent_lengths : lengths_len ≡ plane_count g * 2 ^ g.depth
    lent_lengths = eqb-true _ _ (and_both _ (eqb planes_len (all_samples g)) sizes_passed).0

    -- and the plane buffer is all planes' samples
    pub lent_planes : planes_len ≡ all_samples g
    lent_planes = eqb-true _ _ (and_both (eqb lengths_len (plane_count g * 2 ^ g.depth)) _ sizes_passed).1

pub ruleset lent = (lent_early, lent_late, sound_told, rules)
