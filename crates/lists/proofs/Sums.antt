-- Sums f 0 + f 1 + .. : of more terms, of terms with a cap, of terms that are 1 or 0. Assumes nothing.
use mathlib.Core.Path.{◌≡◌, refl}
use mathlib.Core.Bool.{Bool, true, false}
use Prim.Native.Nat.{ℕ, zero, suc, ◌+◌, ◌-◌, ◌*◌, ◌≤◌, ◌<◌, min}
use native.Mathlib.Nat.{add-zero, add-suc, suc-mul}
use native.Mathlib.Decide.{ℕ_discrete, dec_le}
use native.Mathlib.Omega.{arith}
use borrow.Author.Tests.{eq-eqb, ne_eqb}
use lib.Dec.{eqb}
use Rattle.scope.specs.Base as base
use Rattle.scope.specs.Base.{one, sum_below}
use Rattle.lists.proofs.Counts.{one_le}

-- ---- more terms

module _ (size : ℕ → ℕ) where
  -- more terms come to no less
  pub sum_upto : (a n : ℕ) → sum_below a size ≤ sum_below (a + n) size
  unfolding base.sum_below
  sum_upto a zero = rw add-zero (omega arith)
  sum_upto a (suc n) = rw add-suc (omega (arith, sum_upto a n))

  -- nor does the sum with the next one
  pub sum_next : (a b : ℕ) → a < b → sum_below a size + size a ≤ sum_below b size
  unfolding base.sum_below
  sum_next a b h =
      let e : suc a + (b - suc a) ≡ b = omega arith in
      let k : sum_below (suc a) size ≤ sum_below (suc a + (b - suc a)) size = sum_upto (suc a) (b - suc a) in
      rw e at k

-- ---- terms that are each at most K, and come to n times K together, are each K

module _ (f : ℕ → ℕ) (K : ℕ) where
  -- n counts of at most K come to at most n times K
  pub sum_most : (n : ℕ) → ((p : ℕ) → p < n → f p ≤ K) → sum_below n f ≤ n * K
  unfolding base.sum_below
  sum_most zero h = omega arith
  sum_most (suc n) h = omega (arith, suc-mul n K, sum_most n (λ p l. h p (omega arith)), h n (omega arith))

  -- and where they come to that, none is less
  pub all_full : (n : ℕ) → ((p : ℕ) → p < n → f p ≤ K) → sum_below n f ≡ n * K → (p : ℕ) → p < n → f p ≡ K
  unfolding base.sum_below
  all_full zero h e p l = elim l [ ]
  all_full (suc n) h e p l = go (ℕ_discrete p n) (all_full n (λ q k. h q (omega arith)))
    where
      below : (q : ℕ) → q < n → f q ≤ K
      below q k = h q (omega arith)

      go : Dec (p ≡ n) → (sum_below n f ≡ n * K → (q : ℕ) → q < n → f q ≡ K) → f p ≡ K
      go (yes k) more = rw k (omega (arith, suc-mul n K, sum_most n below, h n (omega arith)))
      go (no k) more = more (omega (arith, suc-mul n K, sum_most n below, h n (omega arith))) p (omega arith)

sum_same : (f h : ℕ → ℕ) (n : ℕ) → ((p : ℕ) → p < n → h p ≡ f p) → sum_below n h ≡ sum_below n f
unfolding base.sum_below
sum_same f h zero e = refl
sum_same f h (suc n) e = omega (arith, sum_same f h n (λ p l. e p (omega arith)), e n (omega arith))

-- one of the counts goes up by one
pub sum_one_more : (f : ℕ → ℕ) (q n : ℕ) → q < n → sum_below n (λ p. f p + one (eqb q p)) ≡ sum_below n f + 1
unfolding base.sum_below
sum_one_more f q zero l = elim l [ ]
sum_one_more f q (suc n) l = go (ℕ_discrete q n) (sum_one_more f q n)
  where
    go : Dec (q ≡ n) → (q < n → sum_below n (λ p. f p + one (eqb q p)) ≡ sum_below n f + 1) → sum_below n (λ p. f p + one (eqb q p)) + (f n + one (eqb q n)) ≡ sum_below n f + f n + 1
    go (yes k) more =
        let e : eqb q n ≡ true = eq-eqb q n k in
        rw e
        (omega (arith, sum_same f (λ p. f p + one (eqb q p)) n (λ p h. rw (ne_eqb q p (omega arith)) (omega arith))))
    go (no k) more =
        let e : eqb q n ≡ false = ne_eqb q n k in
        rw e (omega (arith, more (omega arith)))

-- no count yet
pub sum_none : (n : ℕ) → sum_below n (λ p. 0) ≡ 0
unfolding base.sum_below
sum_none zero = refl
sum_none (suc n) = omega (arith, sum_none n)

-- ---- terms that are 1 or 0

-- 1 up to k and 0 from there
pub sum_steps : (f : ℕ → ℕ) (k : ℕ) → ((x : ℕ) → x < k → f x ≡ 1) → ((x : ℕ) → k ≤ x → f x ≡ 0) → (n : ℕ) → sum_below n f ≡ min n k
unfolding base.sum_below
sum_steps f k a b zero = omega arith
sum_steps f k a b (suc n) = elim (dec_le k n) [
  | yes h ↦ omega (arith, sum_steps f k a b n, b n h)
  | no h ↦ (let l : n < k = omega (arith, h) in omega (arith, sum_steps f k a b n, a n l))
]

-- n tests count at most n times
pub sum-le : (f : ℕ → Bool) (n : ℕ) → sum_below n (λ x. one (f x)) ≤ n
unfolding base.sum_below
sum-le f zero = omega arith
sum-le f (suc n) = omega (arith, sum-le f n, one_le (f n))
