-- What the host's numbers say, case by case (document 01, "Both entries are callable from our Rust host on numbers and slices"). Assumes
-- nothing.
use mathlib.Core.Path.{◌≡◌, refl, sym, ◌∙◌}
use mathlib.Core.Bool.{Bool, true, false}
use Prim.Native.Nat.{ℕ, ◌<◌}
use native.Mathlib.Omega.{arith}
use lib.Dec.{eqb, leb}
use borrow.Author.Tests.{lt-leb}
use Rattle.std.specs.Prelude.{cond, Result, Ok, Err}
use Rattle.scope.specs.Refusals.{place_number}
use Rattle.scope.specs.declared.Family.{Family}
use Rattle.scope.specs.declared.Family.TheVariants.{Gray, Rgb, Yuv, Rgba, Yuva}
use Rattle.scope.specs.declared.Geometry.{Geometry}
use Rattle.scope.specs.declared.Place.TheVariants.{Nothing}
use Rattle.scope.specs.declared.Refusal.{Refusal}
use Rattle.scope.specs.Answers.{refusal}
use Rattle.magicyuv.specs.declared.numbers.Numbers.{Numbers}
use Rattle.magicyuv.specs.Boundary.{family_of, family_named, interlaced_named, numbers_fit, geometry_of, geometry_said}

-- ---- a family

pub family_0 : (n : ℕ) → n ≡ 0 → Ok Gray ≡ family_named n
unfolding family_named
family_0 n e = rw e refl

pub family_1 : (n : ℕ) → n ≡ 1 → Ok Rgb ≡ family_named n
unfolding family_named
family_1 n e = rw e refl

pub family_2 : (n : ℕ) → n ≡ 2 → Ok Yuv ≡ family_named n
unfolding family_named
family_2 n e = rw e refl

pub family_3 : (n : ℕ) → n ≡ 3 → Ok Rgba ≡ family_named n
unfolding family_named
family_3 n e = rw e refl

pub family_4 : (n : ℕ) → n ≡ 4 → Ok Yuva ≡ family_named n
unfolding family_named
family_4 n e = rw e refl

pub family_none : (n : ℕ) → 4 < n → Err (refusal 1 Nothing) ≡ family_named n
unfolding family_named
family_none n h = rw (lt-leb n 4 h) refl

-- ---- interlaced

pub interlaced_0 : (n : ℕ) → n ≡ 0 → Ok false ≡ interlaced_named n
unfolding interlaced_named
interlaced_0 n e = rw e refl

pub interlaced_1 : (n : ℕ) → n ≡ 1 → Ok true ≡ interlaced_named n
unfolding interlaced_named
interlaced_1 n e = rw e refl

pub interlaced_none : (n : ℕ) → 1 < n → Err (refusal 1 Nothing) ≡ interlaced_named n
unfolding interlaced_named
interlaced_none n h = rw (lt-leb n 1 h) refl

-- ---- a geometry

-- what a number that is within its bound, or is not, says
no_error : {A : Type 0} (x : A) (why : Refusal) → ◌≡◌ {A = Result A Refusal} (Ok x) (Err why) → ⊥
no_error x why e =
    let z : ◌≡◌ {A = ℕ} 0 1 = cc in
    omega arith

by_error : {A : Type 0} (t : Bool) (x : A) (why : Refusal) → ◌≡◌ {A = Result A Refusal} (cond t (Ok x) (Err (refusal 1 Nothing))) (Err why)
    → (t ≡ false) × (refusal 1 Nothing ≡ why)
by_error true x why e = absurd (no_error x why e)
by_error false x why e = (refl, cc)

by_value : {A : Type 0} (t : Bool) (x y : A) → ◌≡◌ {A = Result A Refusal} (cond t (Ok x) (Err (refusal 1 Nothing))) (Ok y) → (t ≡ true) × (y ≡ x)
by_value true x y e = (refl, cc)
by_value false x y e = absurd (no_error y (refusal 1 Nothing) (sym e))

module _ (n : Numbers) (f : Result Family Refusal) (is : f ≡ family_named n.family) where
  -- no family
  pub said_family : (why : Refusal) → f ≡ Err why → Err why ≡ geometry_said n
  unfolding geometry_said family_named numbers_fit
  said_family why e =
      let p : (leb n.family 4 ≡ false) × (refusal 1 Nothing ≡ why) = by_error (leb n.family 4) (family_of n.family) why (sym is ∙ e) in
      rw (p.0, ← p.1) refl

  module _ (family : Family) (e : f ≡ Ok family) (i : Result Bool Refusal) (is' : i ≡ interlaced_named n.interlaced) where
    named : (leb n.family 4 ≡ true) × (family ≡ family_of n.family)
    unfolding family_named
    named = by_value (leb n.family 4) (family_of n.family) family (sym is ∙ e)

    -- neither interlaced nor not
    pub said_interlaced : (why : Refusal) → i ≡ Err why → Err why ≡ geometry_said n
    unfolding geometry_said interlaced_named numbers_fit
    said_interlaced why k =
        let p : (leb n.interlaced 1 ≡ false) × (refusal 1 Nothing ≡ why) = by_error (leb n.interlaced 1) (eqb n.interlaced 1) why (sym is' ∙ k) in
        rw (named.0, p.0, ← p.1) refl

    -- a geometry
    pub said : (two : Bool) → i ≡ Ok two
        → Ok (record { width = n.width; height = n.height; slice_height = n.slice_height; family = family; sx = n.sx; sy = n.sy; depth = n.depth; interlaced = two })
        ≡ geometry_said n
    unfolding geometry_said geometry_of interlaced_named numbers_fit
    said two k =
        let p : (leb n.interlaced 1 ≡ true) × (two ≡ eqb n.interlaced 1) = by_value (leb n.interlaced 1) (eqb n.interlaced 1) two (sym is' ∙ k) in
        rw (named.0, named.1, p.0, p.1) refl

-- what the numbers said, read back
module _ (n : Numbers) (said : Result Geometry Refusal) (is : said ≡ geometry_said n) where
  -- no geometry
  pub said_off : (why : Refusal) → said ≡ Err why → (numbers_fit n ≡ false) × (refusal 1 Nothing ≡ why)
  unfolding geometry_said
  said_off why e = by_error (numbers_fit n) (geometry_of n) why (sym is ∙ e)

  -- its refusal names no place
  pub off_small : (why : Refusal) → said ≡ Err why → place_number why.1 < 65536
  off_small why e = rw (← (said_off why e).1) (omega arith)

  -- a geometry
  pub said_on : (g : Geometry) → said ≡ Ok g → (numbers_fit n ≡ true) × (g ≡ geometry_of n)
  unfolding geometry_said
  said_on g e = by_value (numbers_fit n) (geometry_of n) g (sym is ∙ e)
