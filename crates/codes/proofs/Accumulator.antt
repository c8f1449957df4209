-- The Rust's 32-bit running end, which starts at all ones and wraps, against the counting definition (document 01, "Words and
-- lookup": "keep that"). Assumes nothing.
use mathlib.Core.Path.{◌≡◌, refl, ap, ◌∙◌}
use mathlib.Core.Logic.{◌↔◌}
use Prim.Native.Nat.{ℕ, zero, suc, ◌+◌, ◌-◌, ◌%◌, ◌^◌, ◌≤◌, ◌<◌}
use native.Mathlib.Nat.{sub-zero}
use native.Mathlib.Omega.{arith}
use mathlib.Core.List.{List}
use lib.Arith.{sub-sub_self}
use lib.ListN.{length}
use Rattle.scope.specs.Base.{count}
use Rattle.scope.specs.Words.{longest, shares, start_down, first}
use Rattle.codes.specs.Tiers.{end, running, summed}
use Rattle.codes.proofs.Longest.{longest-count}
use Rattle.lists.proofs.Counts.{count-le}
use Rattle.codes.proofs.Kraft.{tiers_fit}

-- no length's words start past the number of symbols
pub start_le : (ls : List ℕ) (d : ℕ) → start_down ls d ≤ length ls
unfolding start_down
start_le ls zero = omega arith
start_le ls (suc d) = omega (arith, start_le ls d, count-le (longest ls - d) ls)

-- from the longest length on, no length's end is 0
pub down_pos : (ls : List ℕ) → 0 < longest ls → (d : ℕ) → 0 < start_down ls d + count (longest ls - d) ls
unfolding start_down
down_pos ls h zero = rw (sub-zero (longest ls)) (omega (arith, longest-count ls h))
down_pos ls h (suc d) = omega (arith, down_pos ls h d)

-- the running end is a 32-bit number
pub running_wide : (ls : List ℕ) (d : ℕ) → running ls d < 2 ^ 32
unfolding running
running_wide ls zero = omega arith
running_wide ls (suc d) = omega arith

-- one sum: from one less than s to one less than s + c, though s may be 0
sum_end : (r s c : ℕ) → r < 2 ^ 32 → (r + 1) % 2 ^ 32 ≡ s → s ≤ 16384 → c ≤ 16384 → 0 < s + c → suc ((r + c) % 2 ^ 32) ≡ s + c
sum_end r s c w e a b p = omega arith

module _ (ls : List ℕ) (few : length ls ≤ 16384) (some : 0 < longest ls) where
  one_sum : (d : ℕ) → (running ls d + 1) % 2 ^ 32 ≡ start_down ls d
      → suc ((running ls d + count (longest ls - d) ls) % 2 ^ 32) ≡ start_down ls d + count (longest ls - d) ls
  one_sum d e =
      sum_end (running ls d) (start_down ls d) (count (longest ls - d) ls) (running_wide ls d) e
      (omega (arith, start_le ls d)) (omega (arith, count-le (longest ls - d) ls)) (down_pos ls some d)

  -- the running end is one less than the start of the next words, and 4,294,967,295 where they start at 0
  pub running_start : (d : ℕ) → (running ls d + 1) % 2 ^ 32 ≡ start_down ls d
  unfolding running start_down
  running_start zero = refl
  running_start (suc d) =
      let u : ℕ = (running ls d + count (longest ls - d) ls) % 2 ^ 32 in
      let b : start_down ls d ≤ length ls = start_le ls d in
      let c : count (longest ls - d) ls ≤ length ls = count-le (longest ls - d) ls in
      let e : suc u ≡ start_down ls d + count (longest ls - d) ls = one_sum d (running_start d) in
      omega arith

  -- the sum is one less than the end of the words
  pub summed_end : (d : ℕ) → suc (summed ls d) ≡ start_down ls d + count (longest ls - d) ls
  unfolding summed
  summed_end d = one_sum d (running_start d)

  -- of a length
  pub summed-length : (l : ℕ) → l ≤ longest ls → suc (summed ls (longest ls - l)) ≡ end ls l
  unfolding end first
  summed-length l h = summed_end (longest ls - l) ∙ ap (λ (k : ℕ). start_down ls (longest ls - l) + count k ls) (sub-sub_self h)

-- The Rust refuses where 2^length is at most the sum, at some length: it refuses none exactly where the shares total at most one.
pub accumulator_fits : (ls : List ℕ) → length ls ≤ 16384 → longest ls ≤ 18
    → (shares ls ≤ 262144) ↔ ((l : ℕ) → 0 < l → l ≤ longest ls → summed ls (longest ls - l) < 2 ^ l)
accumulator_fits ls few k = (there, back)
  where
    there : shares ls ≤ 262144 → (l : ℕ) → 0 < l → l ≤ longest ls → summed ls (longest ls - l) < 2 ^ l
    there s l z h = omega (arith, (tiers_fit ls k).0 s l z h, summed-length ls few (omega arith) l h)

    back : ((l : ℕ) → 0 < l → l ≤ longest ls → summed ls (longest ls - l) < 2 ^ l) → shares ls ≤ 262144
    back t = (tiers_fit ls k).1 (λ l z h. omega (arith, t l z h, summed-length ls few (omega arith) l h))

-- "its first sum wraps to the count less one"
pub first_sum : (ls : List ℕ) → length ls ≤ 16384 → 0 < longest ls → suc (summed ls 0) ≡ count (longest ls) ls
unfolding start_down
first_sum ls few some = summed_end ls few some 0 ∙ rw (sub-zero (longest ls)) (omega arith)
