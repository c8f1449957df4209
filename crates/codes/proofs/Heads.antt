-- The first twelve bits of the words longer than 12 are the numbers 0 to first(12) − 1, and so S = first(12): where the
-- sub-tables stand, and how many there are (document 01, "Words and lookup", a plane's need). Assumes nothing.
use mathlib.Core.Path.{◌≡◌, refl, sym, ap, ◌∙◌, subst}
use mathlib.Core.Logic.{inl, inr}
use Prim.Native.Nat.{ℕ, zero, suc, ◌+◌, ◌-◌, ◌*◌, ◌/◌, ◌^◌, ◌≤◌, ◌<◌, min}
use native.Mathlib.Nat.{add-suc, suc-add, pow-suc, div-div-eq-div-mul, not-suc-le-zero, le_refl, le_trans, mul-div_cancel, not-le_of_lt, mul-le-mul}
use native.Mathlib.Numerals.{add-one}
use native.Mathlib.Omega.{arith}
use native.Mathlib.Decide.{dec_le}
use mathlib.Core.List.{List}
use mathlib.Core.Bool.{true, false, cond, true≢false}
use lib.ListN.{length}
use lib.Dec.{eqb, ltb, leb}
use lib.Pow.{pow_mono}
use borrow.Author.Tests.{eq-eqb, lt-ltb, le-ltb, le-leb, ltb-true, eqb-true, leb-true}
use Rattle.scope.specs.Base.{half_up, one, count, sum_below}
use Rattle.scope.specs.Words.{longest, start_down, first, word_of, length_of, shares, is_head, head_below, heads, need, need_from}
use Rattle.lists.proofs.Sums.{sum_steps, sum-le}
use Rattle.codes.specs.Tiers.{end}
use Rattle.codes.proofs.Longest.{at_most_longest}
use Rattle.lists.proofs.Tests.{which, and_both, or_right, or_cases}
use Rattle.codes.proofs.Words.{Has, has, before_shorter, word_lt_end}
use Rattle.codes.proofs.Kraft.{end_fits}

-- ---- a number before the first word of a length begins some longer word

-- a word, more + 1 bits longer than l, that begins with v
pub record Longer (ls : List ℕ) (l v : ℕ) : Type 0 where
  pub more : ℕ
  pub word : ℕ
  pub has_word : Has ls (l + suc more) word
  pub heads_it : word / 2 ^ suc more ≡ v

-- one step: v at length l is 2 * v at length l + 1
deeper : (ls : List ℕ) (l v : ℕ) → l < longest ls → v < first ls l → v * 2 < end ls (suc l)
unfolding first end start_down
deeper ls l v h a =
    let d : ℕ = longest ls - suc l in
    let e : longest ls - l ≡ suc d = omega arith in
    let f : longest ls - d ≡ suc l = omega arith in
    let b : v < half_up (start_down ls d + count (longest ls - d) ls) = rw e at a in
    let c : v < half_up (start_down ls d + count (suc l) ls) = rw f at b in
    omega arith

here : (ls : List ℕ) (l v : ℕ) → Has ls (suc l) (v * 2) → Longer ls l v
here ls l v t = record {
  more = 0;
  word = v * 2;
  has_word = subst (λ (k : ℕ). Has ls k (v * 2)) (sym (add-one l)) t;
  heads_it = omega arith;
}

further : (ls : List ℕ) (l v : ℕ) → Longer ls (suc l) (v * 2) → Longer ls l v
further ls l v t = record {
  more = suc t.more;
  word = t.word;
  has_word = subst (λ (k : ℕ). Has ls k t.word) (suc-add l (suc t.more) ∙ sym (add-suc l (suc t.more))) t.has_word;
  heads_it = ap (λ (k : ℕ). t.word / k) (pow-suc 2 (suc t.more)) ∙ sym (div-div-eq-div-mul t.word (2 ^ suc t.more) 2)
      ∙ ap (λ (k : ℕ). k / 2) t.heads_it ∙ mul-div_cancel v (omega arith);
}

-- the words of the longest length start at 0, and nothing starts later at lengths that no word has
pub none_at_longest : (ls : List ℕ) (l : ℕ) → longest ls ≤ l → first ls l ≡ 0
unfolding first start_down
none_at_longest ls l h =
    let e : longest ls - l ≡ 0 = omega arith in
    rw e

-- a number before the first word of a length begins a longer word
pub begins_longer : (ls : List ℕ) (g l v : ℕ) → longest ls ≤ l + g → v < first ls l → Longer ls l v
begins_longer ls zero l v h a =
    absurd (not-suc-le-zero (subst (λ (k : ℕ). v < k) (none_at_longest ls l (omega arith)) a))
begins_longer ls (suc g) l v h a = elim (dec_le (longest ls) l) [
  | yes b ↦ absurd (not-suc-le-zero (subst (λ (k : ℕ). v < k) (none_at_longest ls l b) a))
  | no b ↦ (
      let c : l < longest ls = omega (arith, b) in
      let d : v * 2 < end ls (suc l) = deeper ls l v c a in
      elim (dec_le (first ls (suc l)) (v * 2)) [
        | yes e ↦ here ls l v (has ls (suc l) (v * 2) e d)
        | no e ↦ further ls l v (begins_longer ls g (suc l) (v * 2) (omega arith) (omega (arith, e)))
      ])
]

-- ---- the heads

-- the first twelve bits of a longer word are a head
pub head_yes : (ls : List ℕ) (x n s : ℕ) → s < n → 12 < length_of ls s → word_of ls s / 2 ^ (length_of ls s - 12) ≡ x
    → head_below ls x n ≡ true
unfolding head_below is_head
head_yes ls x zero s h l e = absurd (not-suc-le-zero h)
head_yes ls x (suc n) s h l e = elim (dec_le n s) [
  | yes k ↦ (
      let q : n ≡ s = omega arith in
      rw q (simp (lt-ltb _ _ l, eq-eqb _ _ e)))
  | no k ↦ or_right (is_head ls x n) (head_below ls x n) (head_yes ls x n s (omega (arith, k)) l e)
]

-- and a head is the first twelve bits of a longer word
pub record Heads (ls : List ℕ) (x : ℕ) : Type 0 where
  pub symbol : ℕ
  pub inside : symbol < length ls
  pub long : 12 < length_of ls symbol
  pub is : word_of ls symbol / 2 ^ (length_of ls symbol - 12) ≡ x

-- the symbol whose word a head begins
pub head_elim : (ls : List ℕ) (x n : ℕ) → n ≤ length ls → head_below ls x n ≡ true → Heads ls x
unfolding head_below is_head
head_elim ls x zero k e = absurd (true≢false (sym e))
head_elim ls x (suc n) k e = elim (or_cases (is_head ls x n) (head_below ls x n) e) [
  | inl a ↦ (
      let b = and_both (ltb 12 (length_of ls n)) (eqb (word_of ls n / 2 ^ (length_of ls n - 12)) x) a in
      record { symbol = n; inside = k; long = ltb-true _ _ b.0; is = eqb-true _ _ b.1 })
  | inr b ↦ head_elim ls x n (omega arith) b
]

heads_below : (ls : List ℕ) (x : ℕ) → Heads ls x → 12 < longest ls → x < first ls 12
heads_below ls x t h =
    let s : ℕ = t.symbol in
    let l : ℕ = length_of ls s in
    let j : ℕ = l - 13 in
    let e : l ≡ 12 + suc j = omega (arith, t.long) in
    let f : l - 12 ≡ suc j = omega (arith, t.long) in
    let b : 12 + suc j ≤ longest ls = omega (arith, t.long, at_most_longest ls s) in
    let w : word_of ls s < end ls (12 + suc j) = subst (λ (k : ℕ). word_of ls s < end ls k) e (word_lt_end ls s t.inside) in
    let c : word_of ls s / 2 ^ suc j < first ls 12 = before_shorter ls 12 j (word_of ls s) b w in
    subst (λ (k : ℕ). k < first ls 12) (ap (λ (k : ℕ). word_of ls s / 2 ^ k) (sym f) ∙ t.is) c

-- the heads are 0 to first(12) - 1
pub first_head : (ls : List ℕ) (x : ℕ) → 12 < longest ls → x < first ls 12 → head_below ls x (length ls) ≡ true
first_head ls x h a =
    let t : Longer ls 12 x = begins_longer ls (longest ls - 12) 12 x (omega arith) a in
    let s : ℕ = t.has_word.symbol in
    let e : length_of ls s ≡ 12 + suc t.more = t.has_word.long in
    let f : length_of ls s - 12 ≡ suc t.more = omega arith in
    head_yes ls x (length ls) s t.has_word.inside (omega arith)
    (ap (λ (k : ℕ). word_of ls s / 2 ^ k) f ∙ ap (λ (k : ℕ). k / 2 ^ suc t.more) t.has_word.is ∙ t.heads_it)

-- and no number from first(12) on is one
pub no_head : (ls : List ℕ) (x : ℕ) → 12 < longest ls → first ls 12 ≤ x → head_below ls x (length ls) ≡ false
no_head ls x h a = elim (which (head_below ls x (length ls))) [
  | inl e ↦ absurd (not-le_of_lt (heads_below ls x (head_elim ls x (length ls) (le_refl (length ls)) e) h) a)
  | inr e ↦ e
]

-- where no word is longer than 12 there is none
pub no_head_short : (ls : List ℕ) (x n : ℕ) → longest ls ≤ 12 → head_below ls x n ≡ false
unfolding head_below is_head
no_head_short ls x zero h = refl
no_head_short ls x (suc n) h =
    let b : length_of ls n ≤ 12 = le_trans (at_most_longest ls n) h in
    simp (le-ltb 12 (length_of ls n) b, no_head_short ls x n h)

-- ---- S

-- the words of 12 bits start within their range
pub first_small : (ls : List ℕ) → longest ls ≤ 18 → shares ls ≤ 262144 → 12 < longest ls → first ls 12 ≤ 4096
unfolding end
first_small ls k f h = omega (arith, end_fits ls 12 (omega arith) (omega arith) k f)

-- S, the number of different first twelve bits, is where the words of 12 bits start
pub heads_first : (ls : List ℕ) → 12 < longest ls → longest ls ≤ 18 → shares ls ≤ 262144 → heads ls ≡ first ls 12
unfolding heads
heads_first ls h k s =
    let e : sum_below 4096 (λ x. one (head_below ls x (length ls))) ≡ min 4096 (first ls 12) =
    sum_steps (λ x. one (head_below ls x (length ls))) (first ls 12) (λ x a. ap one (first_head ls x h a))
    (λ x a. ap one (no_head ls x h a)) 4096 in
    omega (arith, first_small ls k s h)

-- the need, from the longest length and where the words of 12 bits start
pub need_first : (ls : List ℕ) → longest ls ≤ 18 → shares ls ≤ 262144 → (s : ℕ) → (12 < longest ls → s ≡ first ls 12)
    → need_from (longest ls) s ≡ need ls
unfolding need need_from
need_first ls k f s h = go (dec_le (longest ls) 12)
  where
    go : Dec (longest ls ≤ 12)
        → cond (eqb (longest ls) 0) 1 (cond (leb (longest ls) 12) (2 ^ longest ls) (4096 + s * 2 ^ (longest ls - 12)))
        ≡ cond (eqb (longest ls) 0) 1 (cond (leb (longest ls) 12) (2 ^ longest ls) (4096 + heads ls * 2 ^ (longest ls - 12)))
    go (yes a) = rw (le-leb _ _ a)
    go (no a) =
        let b : 12 < longest ls = omega (arith, a) in
        let e : s ≡ heads ls = h b ∙ sym (heads_first ls b k f) in
        rw e

-- no second part has more than 2^18 slots
pub second_small : (m s : ℕ) → m ≤ 18 → s ≤ 4096 → s * 2 ^ (m - 12) ≤ 262144
second_small m s k f = mul-le-mul f (pow_mono {i = m - 12} {j = 6} (omega arith))

-- no need is above 4,096 + 2^18
pub need_small : (ls : List ℕ) → longest ls ≤ 18 → need ls ≤ 266240
unfolding need need_from heads
need_small ls k = elim (which (eqb (longest ls) 0)) [
  | inl e ↦ simp e (omega arith)
  | inr e ↦ elim (which (leb (longest ls) 12)) [
    | inl f ↦ simp (e, f) (omega (arith, pow_mono {i = longest ls} {j = 12} (leb-true (longest ls) 12 f)))
    | inr f ↦ simp (e, f) (omega (arith, second_small (longest ls) _ k (sum-le (λ x. head_below ls x (length ls)) 4096)))
  ]
]
