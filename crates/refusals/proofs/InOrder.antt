-- Checks one after another, by a loop: those before i have passed, check i refuses, all have passed (document 01, "Checked in this
-- order; the first that applies is given"). Assumes nothing.
use mathlib.Core.Path.{◌≡◌, refl}
use Prim.Native.Nat.{ℕ, zero, suc, ◌+◌, ◌-◌, ◌<◌}
use native.Mathlib.Nat.{add-zero, add-suc}
use native.Mathlib.Numerals.{add-one}
use native.Mathlib.Omega.{arith}
use mathlib.Core.Bool.{Bool, true, false}
use Rattle.scope.specs.Refusals.{refuse_if, ◌and_then◌}
use Rattle.scope.specs.declared.Place.{Place}
use Rattle.scope.specs.Answers.{Answer, done, refused}
use Rattle.std.specs.Prelude.{Ok, Err}
use Rattle.scope.specs.Pieces.{in_order}

-- where a check and more have passed, the check has
pub first_passed : (a b : Answer) → done ≡ (a and_then b) → done ≡ a
first_passed (Ok _) b e = refl
first_passed (Err why) b e = e

-- and so has the rest
pub then_passed : (a b : Answer) → done ≡ (a and_then b) → done ≡ b
then_passed (Ok _) b e = e
then_passed (Err why) b e = cc

-- a test that refused nothing is false
pub if_passed : (t : Bool) (n : ℕ) (p : Place) → done ≡ refuse_if t n p → t ≡ false
if_passed false n p e = refl
if_passed true n p e = cc

-- and so are two of them
pub both_passed : (a b : Bool) (n m : ℕ) (p q : Place) → done ≡ (refuse_if a n p and_then refuse_if b m q) → (a ≡ false) × (b ≡ false)
both_passed a b n m p q e =
    (if_passed a n p (first_passed (refuse_if a n p) (refuse_if b m q) e), if_passed b m q (then_passed (refuse_if a n p) (refuse_if b m q) e))

-- what follows a check matters only where it passes
pub then_same : (a b c : Answer) → (done ≡ a → b ≡ c) → (a and_then b) ≡ (a and_then c)
then_same (Ok _) b c h = h refl
then_same (Err why) b c h = refl

-- three checks are two and one, or one and two
pub then_then : (a b c : Answer) → ((a and_then b) and_then c) ≡ (a and_then b and_then c)
then_then (Ok _) b c = refl
then_then (Err why) b c = refl

-- checks in order that agree one by one
pub order_same : (n : ℕ) (f h : ℕ → Answer) → ((s : ℕ) → s < n → f s ≡ h s) → in_order n f ≡ in_order n h
unfolding in_order
order_same zero f h e = refl
order_same (suc n) f h e = rw (order_same n f h (λ s l. e s (omega arith)), e n (omega arith))

-- the checks f 0, f 1, ..
module _ (f : ℕ → Answer) where
  -- before the first
  pub none_yet : done ≡ in_order 0 f
  unfolding in_order
  none_yet = refl

  -- check i passed
  pub one_passed : (i : ℕ) → done ≡ in_order i f → done ≡ f i → done ≡ in_order (i + 1) f
  unfolding in_order
  one_passed i e h = rw (add-one, ← e, ← h)

  stays : (n : ℕ) (p : Place) (i k : ℕ) → refused n p ≡ in_order i f → refused n p ≡ in_order (i + k) f
  unfolding in_order
  stays n p i zero e = rw add-zero e
  stays n p i (suc k) e = rw (add-suc, ← stays n p i k e)

  -- check i refuses, and what it says is the answer of all
  pub one_refused : (m i n : ℕ) (p : Place) → i < m → done ≡ in_order i f → refused n p ≡ f i → refused n p ≡ in_order m f
  unfolding in_order
  one_refused m i n p l e h =
      let z : suc i + (m - suc i) ≡ m = omega arith in
      let k : refused n p ≡ in_order (suc i) f = rw (← e, ← h) in
      rw z at (stays n p (suc i) (m - suc i) k)

  earlier : (i k : ℕ) → done ≡ in_order (i + k) f → done ≡ in_order i f
  unfolding in_order
  earlier i zero e = rw add-zero at e
  earlier i (suc k) e = earlier i k (first_passed _ _ (rw add-suc at e))

  -- where all have passed, each has
  pub each_passed : (m i : ℕ) → done ≡ in_order m f → i < m → done ≡ f i
  unfolding in_order
  each_passed m i e l =
      let z : m ≡ suc i + (m - suc i) = omega arith in
      then_passed (in_order i f) (f i) (earlier (suc i) (m - suc i) (rw z at e))
