-- The longest and the shortest length from the counts alone: the highest and the lowest length that some symbol has (document 01,
-- "with m its longest length", "the plane's shortest word"). Assumes nothing.
use Rattle.std.proofs.Common.{◌≡◌, ℕ, zero, suc, ◌+◌, ◌-◌, ◌<◌, ◌≤◌, List, get_or, sym, refl, ap, ◌∙◌, add-one, arith, eq-eqb, ne_eqb}
use native.Mathlib.Decide.{ℕ_discrete}
use Rattle.scope.specs.Base.{count}
use Rattle.scope.specs.Words.{longest, shortest}
use Rattle.codes.proofs.Longest.{longest-count}
use Rattle.words.specs.Tally.{counts_of, highest, lowest}
use Rattle.words.proofs.Tallying.{counts_at}
use Rattle.codes.proofs.Shortness.{shortest_most, none_at_all, none_below, none_above, shortest_count}

-- ---- one place

module _ (xs : List ℕ) (l : ℕ) where
  -- the last of the first places is not 0
  high_here : 0 < get_or xs l 0 → highest xs (suc l) ≡ l
  unfolding highest
  high_here h = simp (ne_eqb (get_or xs l 0) 0 (λ e. omega arith))

  -- it is
  high_down : get_or xs l 0 ≡ 0 → highest xs (suc l) ≡ highest xs l
  unfolding highest
  high_down e = simp (eq-eqb (get_or xs l 0) 0 e)

  -- the first of n more is not 0
  low_here : (n : ℕ) → 0 < get_or xs l 0 → lowest xs l (suc n) ≡ l
  unfolding lowest
  low_here n h = simp (ne_eqb (get_or xs l 0) 0 (λ e. omega arith))

  -- it is
  low_up : (n : ℕ) → get_or xs l 0 ≡ 0 → lowest xs l (suc n) ≡ lowest xs (suc l) n
  unfolding lowest
  low_up n e = simp (eq-eqb (get_or xs l 0) 0 e)

-- ---- the loops

-- from 18 down: the places above l are 0
pub record Down (xs : List ℕ) (l : ℕ) : Type 0 where
  pub within : l ≤ 18
  pub same : highest xs (suc l) ≡ highest xs 19

-- from 1 up: the places below l are 0
pub record Up (xs : List ℕ) (l : ℕ) : Type 0 where
  pub within : l ≤ 19
  pub same : lowest xs l (19 - l) ≡ lowest xs 1 18

module _ (xs : List ℕ) where
  module _ (l : ℕ) (d : Down xs l) where
    -- a length that some symbol has
    pub down_found : 0 < get_or xs l 0 → l ≡ highest xs 19
    down_found h = sym (high_here xs l h) ∙ d.same

    -- one that none has
    pub down_step : 0 < l → get_or xs l 0 ≤ 0 → Down xs (l - 1)
    down_step z h =
        let e : suc (l - 1) ≡ l = omega arith in
        let f : get_or xs l 0 ≡ 0 = omega arith in
        record { within = omega (arith, d.within); same = ap (highest xs) e ∙ sym (high_down xs l f) ∙ d.same }

    -- no word at all
    pub down_end : l ≤ 0 → 0 ≡ highest xs 19
    unfolding highest
    down_end h = sym (bottom (ℕ_discrete (get_or xs 0 0) 0)) ∙ ap (λ (x : ℕ). highest xs (suc x)) e ∙ d.same
      where
        e : 0 ≡ l
        e = omega arith

        bottom : Dec (get_or xs 0 0 ≡ 0) → highest xs 1 ≡ 0
        bottom (yes q) = high_down xs 0 q
        bottom (no q) = high_here xs 0 (omega (arith, q))

  module _ (l : ℕ) (u : Up xs l) where
    -- a length that some symbol has
    pub up_found : l < 19 → 0 < get_or xs l 0 → l ≡ lowest xs 1 18
    up_found z h =
        let e : 19 - l ≡ suc (18 - l) = omega arith in
        sym (low_here xs l (18 - l) h) ∙ ap (lowest xs l) (sym e) ∙ u.same

    -- one that none has
    pub up_step : l < 19 → get_or xs l 0 ≤ 0 → Up xs (l + 1)
    up_step z h =
        let e : 19 - l ≡ suc (18 - l) = omega arith in
        let f : get_or xs l 0 ≡ 0 = omega arith in
        let g : 19 - suc l ≡ 18 - l = omega arith in
        record {
          within = omega arith;
          same = rw (add-one l) (ap (lowest xs (suc l)) g ∙ sym (low_up xs l (18 - l) f) ∙ ap (lowest xs l) (sym e) ∙ u.same);
        }

    -- no word at all
    pub up_end : 19 ≤ l → 0 ≡ lowest xs 1 18
    unfolding lowest
    up_end h =
        let e : 19 - l ≡ 0 = omega arith in
        sym (ap (lowest xs l) e) ∙ u.same

-- ---- they are the longest and the shortest length

-- a place that is 0 is not the one that is not, unless it is place 0
high_bottom : (xs : List ℕ) (n m : ℕ) → n ≡ m → get_or xs n 0 ≡ 0 → (0 < m → 0 < get_or xs m 0) → highest xs n ≡ m
unfolding highest
high_bottom xs zero m e d some = e
high_bottom xs (suc n) m e d some =
    let a : 0 < get_or xs m 0 = some (omega arith) in
    let b : get_or xs m 0 ≡ 0 = rw e at d in
    absurd (omega arith)

-- a place that is not 0, or place 0, with none above it
highest_is : (xs : List ℕ) (n m : ℕ) → m < n → (0 < m → 0 < get_or xs m 0) → ((k : ℕ) → m < k → k < n → get_or xs k 0 ≡ 0) → highest xs n ≡ m
highest_is xs zero m l some none = absurd (omega arith)
highest_is xs (suc n) m l some none = elim (ℕ_discrete n m) [
  | no e ↦ (
      high_down xs n (none n (omega (arith, e)) (omega arith))
      ∙ highest_is xs n m (omega (arith, e)) some (λ k a b. none k a (omega arith)))
  | yes e ↦ elim (ℕ_discrete (get_or xs n 0) 0) [
    | no d ↦ high_here xs n (omega (arith, d)) ∙ e
    | yes d ↦ high_down xs n d ∙ high_bottom xs n m e d some
  ]
]

-- the first place that is not 0
lowest_is : (xs : List ℕ) (n from m : ℕ) → from ≤ m → m < from + n → 0 < get_or xs m 0 → ((k : ℕ) → from ≤ k → k < m → get_or xs k 0 ≡ 0)
    → lowest xs from n ≡ m
lowest_is xs zero from m a b some none = absurd (omega arith)
lowest_is xs (suc n) from m a b some none = elim (ℕ_discrete from m) [
  | yes e ↦ low_here xs from n (rw e some) ∙ e
  | no e ↦ (
      low_up xs from n (none from (omega arith) (omega (arith, e)))
      ∙ lowest_is xs n (suc from) m (omega (arith, e)) (omega arith) some (λ k c d. none k (omega arith) d))
]

-- no place
lowest_none : (xs : List ℕ) (n from : ℕ) → ((k : ℕ) → from ≤ k → k < from + n → get_or xs k 0 ≡ 0) → lowest xs from n ≡ 0
unfolding lowest
lowest_none xs zero from none = refl
lowest_none xs (suc n) from none =
    low_up xs from n (none from (omega arith) (omega arith)) ∙ lowest_none xs n (suc from) (λ k a b. none k (omega arith) (omega arith))

module _ (ls : List ℕ) (small : longest ls ≤ 18) where
  -- the highest length that some symbol has is the longest
  pub highest-longest : highest (counts_of ls) 19 ≡ longest ls
  highest-longest =
      highest_is (counts_of ls) 19 (longest ls) (omega arith)
      (λ z. omega (arith, counts_at ls (longest ls) small, longest-count ls z))
      (λ k a b. counts_at ls k (omega arith) ∙ none_above ls k a)

  -- the lowest one is the shortest
  pub lowest_shortest : lowest (counts_of ls) 1 18 ≡ shortest ls
  lowest_shortest = go (shortest ls) refl
    where
      go : (s : ℕ) → shortest ls ≡ s → lowest (counts_of ls) 1 18 ≡ s
      go zero e = lowest_none (counts_of ls) 18 1 (λ k a b. counts_at ls k (omega arith) ∙ none_at_all ls k e (omega arith))
      go (suc s) e =
          let some : 0 < count (suc s) ls = rw e at (shortest_count ls (omega (arith, e))) in
          lowest_is (counts_of ls) 18 1 (suc s) (omega arith) (omega (arith, e, shortest_most ls))
          (omega (arith, counts_at ls (suc s) (omega (arith, e, shortest_most ls))))
          (λ k a b. counts_at ls k (omega (arith, e, shortest_most ls)) ∙ none_below ls k (omega arith) (omega (arith, e)))
