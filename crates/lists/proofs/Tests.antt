-- Tests that are joined by "and" and "or", called one after the other, and numbers that go by a test. Assumes nothing.
use mathlib.Core.Path.{◌≡◌, refl, sym, ◌∙◌}
use mathlib.Core.Logic.{◌⊎◌, inl, inr}
use mathlib.Core.Bool.{Bool, true, false, cond, not, ◌&&◌, ◌||◌}
use Prim.Native.Nat.{ℕ}
use borrow.Author.Tests.{not-true, not-false}

-- a test is true or false
pub which : (b : Bool) → (b ≡ true) ⊎ (b ≡ false)
which true = inl refl
which false = inr refl

-- ---- and

-- both of two that hold together
pub and_both : (a b : Bool) → (a && b) ≡ true → (a ≡ true) × (b ≡ true)
and_both true b e = (refl, e)
and_both false b e = (e, cc)

-- and together where each does
pub and_true : (a b : Bool) → a ≡ true → b ≡ true → (a && b) ≡ true
and_true a b e h = rw (e, h)

-- several at once: the first that is false settles it, else the last
pub and_first : (a b : Bool) → a ≡ false → false ≡ (a && b)
and_first a b e = rw e

-- an earlier one of them was false
pub and_before : (a b : Bool) → false ≡ a → false ≡ (a && b)
and_before a b e = rw (← e)

-- the first is true: the second settles it
pub and_second : (a b r : Bool) → a ≡ true → r ≡ b → r ≡ (a && b)
and_second a b r e h = rw e h

-- the second is false
pub and_none : (a b : Bool) → a ≡ true → b ≡ false → false ≡ (a && b)
and_none a b e h = rw (e, h)

-- ---- or

-- one of two is enough
pub or_right : (a b : Bool) → b ≡ true → (a || b) ≡ true
or_right true b e = refl
or_right false b e = e

-- and there is none without one of them
pub or_cases : (a b : Bool) → (a || b) ≡ true → (a ≡ true) ⊎ (b ≡ true)
or_cases true b e = inl refl
or_cases false b e = inr e

-- ---- a test that was called

-- a test that was called, and found true or false
pub yes_is : (r t : Bool) → r ≡ t → not r ≡ false → t ≡ true
yes_is r t e h = sym e ∙ not-false r h

-- the same, found false
pub no_is : (r t : Bool) → r ≡ t → not r ≡ true → t ≡ false
no_is r t e h = sym e ∙ not-true r h

-- a test that says whether another one fails: it is false
pub test_bad : (fits over : Bool) → fits ≡ not over → not fits ≡ true → over ≡ true
test_bad fits over e a = not-false over (sym e ∙ not-true fits a)

-- the same, found true
pub test_good : (fits over : Bool) → fits ≡ not over → not fits ≡ false → (fits ≡ true) × (over ≡ false)
test_good fits over e a = (not-false fits a, not-true over (sym e ∙ not-false fits a))

-- ---- a number by a test

-- a number by a test that was called, and found true or false
pub told_yes : (t r : Bool) (x y : ℕ) → r ≡ t → r ≡ true → x ≡ cond t x y
told_yes t r x y e h = rw (← e, h)

-- the same, found false
pub told_no : (t r : Bool) (x y : ℕ) → r ≡ t → r ≡ false → y ≡ cond t x y
told_no t r x y e h = rw (← e, h)

-- by a test that the code makes itself
pub test_yes : (t : Bool) (x y : ℕ) → t ≡ true → x ≡ cond t x y
test_yes t x y h = rw h

-- the same, found false
pub test_no : (t : Bool) (x y : ℕ) → t ≡ false → y ≡ cond t x y
test_no t x y h = rw h
