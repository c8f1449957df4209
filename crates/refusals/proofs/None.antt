-- Document 01, "Refusal numbers": where no row of a list applies, no row of a part of it does. Assumes nothing.
use mathlib.Core.Path.{◌≡◌}
use mathlib.Core.List.{List, [], ◌∷◌, ◌++◌}
use Prim.Native.Nat.{ℕ, suc, ◌<◌}
use native.Mathlib.Decide.{ℕ_discrete}
use native.Mathlib.Omega.{arith}
use Rattle.scope.specs.Refusals.{Row, rows_of_each, NoneApplies}

-- of two lists one after the other
pub none_append : (xs ys : List Row) → NoneApplies (xs ++ ys) → NoneApplies xs × NoneApplies ys
unfolding NoneApplies
none_append [] ys h = (tt, h)
none_append (r ∷ xs) ys h = ((h.0, (none_append xs ys h.1).0), (none_append xs ys h.1).1)

-- of the rows of each slice, or of each plane
pub none_each : (n : ℕ) (rows : ℕ → List Row) → NoneApplies (rows_of_each n rows) → (i : ℕ) → i < n → NoneApplies (rows i)
unfolding rows_of_each
none_each Prim.Native.Nat.zero rows h i l = elim l [ ]
none_each (suc n) rows h i l = go (ℕ_discrete i n) both.1 (none_each n rows both.0 i)
  where
    both : NoneApplies (rows_of_each n rows) × NoneApplies (rows n)
    both = none_append (rows_of_each n rows) (rows n) h

    go : Dec (i ≡ n) → NoneApplies (rows n) → (i < n → NoneApplies (rows i)) → NoneApplies (rows i)
    go (yes e) here before = rw e here
    go (no e) here before = before (omega (arith, l, e))
