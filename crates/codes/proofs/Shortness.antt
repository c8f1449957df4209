-- The shortest length of a plane (document 01, "b is .. the plane's shortest word"): some symbol has it and none has a shorter one; it
-- is at most the longest, and there is none exactly where there is no longest. Assumes nothing.
use mathlib.Core.Path.{◌≡◌, refl, sym, subst, ◌∙◌}
use mathlib.Core.Logic.{◌⊎◌, inl, inr, ⊎_elim}
use Prim.Native.Nat.{ℕ, zero, suc, ◌≤◌, ◌<◌, max}
use native.Mathlib.Decide.{dec_lt}
use native.Mathlib.Omega.{arith}
use mathlib.Core.List.{List, [], ◌∷◌}
use Rattle.scope.specs.Base as base
use Rattle.scope.specs.Base.{count}
use Rattle.scope.specs.Words as words
use Rattle.scope.specs.Words.{longest, shorter, shortest}
use Rattle.lists.proofs.Counts.{one_same, count_other}

-- ---- the shorter of two

-- no length leaves the other
shorter_none : (b : ℕ) → shorter 0 b ≡ b
unfolding words.shorter
shorter_none b = refl

-- neither is a length where the shorter is none
shorter_first : (a b : ℕ) → shorter a b ≡ 0 → a ≡ 0
unfolding words.shorter
shorter_first zero b e = refl
shorter_first (suc a) zero e = e
shorter_first (suc a) (suc b) e = omega arith

shorter_second : (a b : ℕ) → shorter a b ≡ 0 → b ≡ 0
unfolding words.shorter
shorter_second zero b e = e
shorter_second (suc a) zero e = refl
shorter_second (suc a) (suc b) e = omega arith

-- ---- no shortest, no longest

pub shortest_none : (ls : List ℕ) → shortest ls ≡ 0 → longest ls ≡ 0
unfolding words.shortest words.longest
shortest_none [] e = refl
shortest_none (l ∷ ls) e =
    omega (arith, shorter_first l (shortest ls) e, shortest_none ls (shorter_second l (shortest ls) e))

-- and the other way round
pub longest_none : (ls : List ℕ) → longest ls ≡ 0 → shortest ls ≡ 0
unfolding words.shortest words.longest
longest_none [] e = refl
longest_none (l ∷ ls) e =
    let a : l ≡ 0 = omega arith in
    let b : longest ls ≡ 0 = omega arith in
    rw a (shorter_none (shortest ls) ∙ longest_none ls b)

-- the shorter is at most the longer
shorter_most : (a b m : ℕ) → b ≤ m → shorter a b ≤ max a m
unfolding words.shorter
shorter_most zero b m h = omega arith
shorter_most (suc a) zero m h = omega arith
shorter_most (suc a) (suc b) m h = omega arith

-- so is the shortest at most the longest
pub shortest_most : (ls : List ℕ) → shortest ls ≤ longest ls
unfolding words.shortest words.longest
shortest_most [] = omega arith
shortest_most (l ∷ ls) = shorter_most l (shortest ls) (longest ls) (shortest_most ls)

-- ---- which symbols have it

-- where there is no shortest, no symbol has a word
pub none_at_all : (ls : List ℕ) (x : ℕ) → shortest ls ≡ 0 → 0 < x → count x ls ≡ 0
unfolding words.shortest base.count
none_at_all [] x e h = refl
none_at_all (l ∷ ls) x e h =
    let a : l ≡ 0 = shorter_first l (shortest ls) e in
    count_other l x ls (λ q. omega arith) ∙ none_at_all ls x (shorter_second l (shortest ls) e) h

-- a length below the shorter of two is below each that is one
below_both : (x a b : ℕ) → 0 < x → x < shorter a b → (a ≡ x → ⊥) × ((b ≡ 0) ⊎ (x < b))
unfolding words.shorter
below_both x zero b z h = (λ e. omega arith, inr h)
below_both x (suc a) zero z h = (λ e. omega arith, inl refl)
below_both x (suc a) (suc b) z h = (λ e. omega arith, inr (omega arith))

-- none has a shorter word
pub none_below : (ls : List ℕ) (x : ℕ) → 0 < x → x < shortest ls → count x ls ≡ 0
unfolding words.shortest base.count
none_below [] x z h = refl
none_below (l ∷ ls) x z h =
    let k = below_both x l (shortest ls) z h in
    count_other l x ls k.0 ∙ ⊎_elim (λ e. none_at_all ls x e z) (λ b. none_below ls x z b) k.1

-- the shorter of two is one of them
one_of_both : (a b : ℕ) → 0 < shorter a b → (shorter a b ≡ a) ⊎ ((shorter a b ≡ b) × (0 < b))
unfolding words.shorter
one_of_both zero b h = inr (refl, h)
one_of_both (suc a) zero h = inl refl
one_of_both (suc a) (suc b) h = elim (dec_lt (suc b) (suc a)) [
  | yes q ↦ inr (omega arith, omega arith)
  | no q ↦ inl (omega (arith, q))
]

-- what stands in a list stands in a longer one
counts_more : (l x : ℕ) (ls : List ℕ) → 0 < count x ls → 0 < count x (l ∷ ls)
unfolding base.count
counts_more l x ls h = omega (arith, h)

-- some symbol has it
pub shortest_count : (ls : List ℕ) → 0 < shortest ls → 0 < count (shortest ls) ls
unfolding words.shortest base.count
shortest_count [] h = absurd (omega arith)
shortest_count (l ∷ ls) h =
    ⊎_elim
    (λ (e : shorter l (shortest ls) ≡ l). rw e (omega (arith, one_same l)))
    (λ (e : (shorter l (shortest ls) ≡ shortest ls) × (0 < shortest ls)).
    let same : shortest (l ∷ ls) ≡ shortest ls = e.0 in
    subst (λ (x : ℕ). 0 < count x (l ∷ ls)) (sym same) (counts_more l (shortest ls) ls (shortest_count ls e.1)))
    (one_of_both l (shortest ls) h)

-- and none has a word longer than the longest
pub none_above : (ls : List ℕ) (x : ℕ) → longest ls < x → count x ls ≡ 0
unfolding words.longest base.count
none_above [] x h = refl
none_above (l ∷ ls) x h = count_other l x ls (λ q. omega arith) ∙ none_above ls x (omega arith)
