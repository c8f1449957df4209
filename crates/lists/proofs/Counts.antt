-- Laws of counting in a list. Assumes nothing.
use mathlib.Core.Path.{◌≡◌, refl, ap, subst}
use mathlib.Core.Logic.{◌≢◌, inl, inr}
use Prim.Native.Nat.{ℕ, zero, suc, ◌+◌, ◌≤◌, ◌<◌}
use native.Mathlib.Nat.{not-suc-le-zero, le_of_suc-le-suc}
use native.Mathlib.Omega.{arith}
use mathlib.Core.List.{List, [], ◌∷◌}
use mathlib.Core.Bool.{Bool, true, false}
use lib.Dec.{eqb}
use lib.ListN.{length, take, get_or}
use borrow.Author.Tests.{eq-eqb, ne_eqb, eqb-true}
use Rattle.scope.specs.Base.{one, count}
use Rattle.lists.proofs.Tests.{which}

-- a test counts at most once
pub one_le : (b : Bool) → one b ≤ 1
one_le true = omega arith
one_le false = omega arith

-- an element counts for itself
pub one_same : (x : ℕ) → one (eqb x x) ≡ 1
one_same x = ap one (eq-eqb x x refl)

-- and not for another
pub one_other : (x y : ℕ) → x ≢ y → one (eqb x y) ≡ 0
one_other x y n = ap one (ne_eqb x y n)

-- no more than all
pub count-le : (x : ℕ) (xs : List ℕ) → count x xs ≤ length xs
unfolding count
count-le x [] = omega arith
count-le x (y ∷ ys) = omega (arith, one_le (eqb y x), count-le x ys)

-- one element more
pub count_next : (xs : List ℕ) (i x : ℕ) → i < length xs → count x (take (suc i) xs) ≡ count x (take i xs) + one (eqb (get_or xs i 0) x)
unfolding count
count_next [] i x h = absurd (not-suc-le-zero h)
count_next (y ∷ ys) zero x h = omega arith
count_next (y ∷ ys) (suc i) x h = omega (arith, count_next ys i x (le_of_suc-le-suc h))

-- an element that is not x counts nothing for x
pub count_other : (l x : ℕ) (ls : List ℕ) → (l ≡ x → ⊥) → count x (l ∷ ls) ≡ count x ls
unfolding count
count_other l x ls h = omega (arith, one_other l x h)

-- an element counts once more past its place
pub count_at : (x : ℕ) (xs : List ℕ) (n : ℕ) → n < length xs → get_or xs n 0 ≡ x → count x (take n xs) < count x xs
unfolding count
count_at x [] n h e = absurd (not-suc-le-zero h)
count_at x (y ∷ ys) zero h e = rw (eq-eqb y x e) (omega arith)
count_at x (y ∷ ys) (suc n) h e = omega (arith, count_at x ys n (le_of_suc-le-suc h) e)

-- and a later one has more before it than an earlier one
pub count_apart : (x : ℕ) (xs : List ℕ) (n k : ℕ) → n < k → n < length xs → get_or xs n 0 ≡ x → count x (take n xs) < count x (take k xs)
unfolding count
count_apart x [] n k l h e = absurd (not-suc-le-zero h)
count_apart x (y ∷ ys) n zero l h e = absurd (not-suc-le-zero l)
count_apart x (y ∷ ys) zero (suc k) l h e = rw (eq-eqb y x e) (omega arith)
count_apart x (y ∷ ys) (suc n) (suc k) l h e =
    omega (arith, count_apart x ys n k (le_of_suc-le-suc l) (le_of_suc-le-suc h) e)

-- ---- an element with a given count before it

-- an element that is x, with r elements before it that are x too
pub record Ranked (x : ℕ) (xs : List ℕ) (r : ℕ) : Type 0 where
  pub place : ℕ
  pub inside : place < length xs
  pub is : get_or xs place 0 ≡ x
  pub rank : count x (take place xs) ≡ r

grow : (x y : ℕ) (ys : List ℕ) (r : ℕ) → Ranked x ys r → Ranked x (y ∷ ys) (one (eqb y x) + r)
unfolding count
grow x y ys r t = record {
  place = suc t.place;
  inside = omega arith;
  is = t.is;
  rank = ap (λ (n : ℕ). one (eqb y x) + n) t.rank;
}

at_yes : (x y : ℕ) (ys : List ℕ) (r : ℕ) → eqb y x ≡ true → ((k : ℕ) → k < count x ys → Ranked x ys k)
    → r < one (eqb y x) + count x ys → Ranked x (y ∷ ys) r
unfolding count
at_yes x y ys zero e ih h = record { place = 0; inside = omega arith; is = eqb-true y x e; rank = refl }
at_yes x y ys (suc r) e ih h =
    let o : one (eqb y x) ≡ 1 = ap one e in
    let q : one (eqb y x) + r ≡ suc r = omega arith in
    let k : r < count x ys = omega arith in
    subst (λ (n : ℕ). Ranked x (y ∷ ys) n) q (grow x y ys r (ih r k))

at_no : (x y : ℕ) (ys : List ℕ) (r : ℕ) → eqb y x ≡ false → ((k : ℕ) → k < count x ys → Ranked x ys k)
    → r < one (eqb y x) + count x ys → Ranked x (y ∷ ys) r
at_no x y ys r e ih h =
    let o : one (eqb y x) ≡ 0 = ap one e in
    let q : one (eqb y x) + r ≡ r = omega arith in
    let k : r < count x ys = omega arith in
    subst (λ (n : ℕ). Ranked x (y ∷ ys) n) q (grow x y ys r (ih r k))

-- the elements that are x come one after the other
pub at_rank : (x : ℕ) (xs : List ℕ) (r : ℕ) → r < count x xs → Ranked x xs r
unfolding count
at_rank x [] r h = absurd (not-suc-le-zero h)
at_rank x (y ∷ ys) r h = elim (which (eqb y x)) [
  | inl e ↦ at_yes x y ys r e (at_rank x ys) h
  | inr e ↦ at_no x y ys r e (at_rank x ys) h
]
