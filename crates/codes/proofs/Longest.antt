-- Laws of the longest length (document 01, "Words and lookup"). Assumes nothing.
use mathlib.Core.Path.{◌≡◌}
use Prim.Native.Nat.{ℕ, zero, suc, ◌+◌, ◌≤◌, ◌<◌, max, suc-le-suc}
use native.Mathlib.Nat.{not-suc-le-zero, le_of_suc-le-suc, zero-lt-suc}
use native.Mathlib.Decide.{dec_lt}
use native.Mathlib.Omega.{arith}
use mathlib.Core.List.{List, [], ◌∷◌}
use lib.Dec.{eqb}
use lib.ListN.{length, take, get_or}
use Rattle.scope.specs.Base.{one, count}
use Rattle.scope.specs.Words.{longest, length_of}
use Rattle.lists.proofs.Counts.{one_same}

-- no length is above the longest
pub at_most_longest : (ls : List ℕ) (s : ℕ) → get_or ls s 0 ≤ longest ls
unfolding longest
at_most_longest [] s = omega arith
at_most_longest (l ∷ ls) zero = omega arith
at_most_longest (l ∷ ls) (suc s) = omega (arith, at_most_longest ls s)

-- where each length is at most n, so is the longest
pub longest_most : (ls : List ℕ) (n : ℕ) → ((s : ℕ) → s < length ls → length_of ls s ≤ n) → longest ls ≤ n
unfolding longest
longest_most [] n h = omega arith
longest_most (l ∷ ls) n h =
    let a : l ≤ n = h 0 (zero-lt-suc (length ls)) in
    let b : longest ls ≤ n = longest_most ls n (λ s i. h (suc s) (suc-le-suc i)) in
    omega arith

-- some symbol has it
pub longest-count : (ls : List ℕ) → 0 < longest ls → 0 < count (longest ls) ls
unfolding longest count
longest-count [] h = absurd (not-suc-le-zero h)
longest-count (l ∷ ls) h = go (longest-count ls) (dec_lt l (longest ls))
  where
    go : (0 < longest ls → 0 < count (longest ls) ls) → Dec (l < longest ls)
        → 0 < one (eqb l (max l (longest ls))) + count (max l (longest ls)) ls
    go ih (yes k) =
        let e : max l (longest ls) ≡ longest ls = omega arith in
        rw e (omega (arith, ih (omega arith)))
    go ih (no k) =
        let e : max l (longest ls) ≡ l = omega arith in
        rw e (omega (arith, one_same l))

-- one symbol more
pub longest_next : (ls : List ℕ) (i : ℕ) → i < length ls → longest (take (suc i) ls) ≡ max (longest (take i ls)) (get_or ls i 0)
unfolding longest
longest_next [] i h = absurd (not-suc-le-zero h)
longest_next (l ∷ ls) zero h = omega arith
longest_next (l ∷ ls) (suc i) h = omega (arith, longest_next ls i (le_of_suc-le-suc h))
