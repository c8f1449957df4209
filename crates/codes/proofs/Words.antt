-- Laws of the longest-first words (document 01, "Words and lookup"): no word begins another symbol's word, and the bits at a
-- position begin with one word at most. None of them asks anything of the shares. p is a bit position, s and t are symbols.
-- Assumes nothing.
use mathlib.Core.Path.{◌≡◌, refl, sym, ap, ◌∙◌, subst, subst⁻¹}
use mathlib.Core.Logic.{inl, inr}
use Prim.Native.Nat.{ℕ, zero, suc, ◌+◌, ◌-◌, ◌/◌, ◌^◌, ◌≤◌, ◌<◌}
use native.Mathlib.Nat.{add-suc, pow-suc, div-div-eq-div-mul, div-one, not-suc-le-zero, le_refl, add-sub_of_le}
use native.Mathlib.Numerals.{add-one}
use native.Mathlib.Decide.{dec_le}
use native.Mathlib.Omega.{arith}
use mathlib.Core.List.{List}
use mathlib.Core.Bool.{true, true≢false}
use lib.Dec.{eqb, ltb}
use lib.ListN.{length, take}
use borrow.Author.Tests.{eq-eqb, lt-ltb, ltb-true, eqb-true}
use Rattle.scope.specs.Base.{count}
use Rattle.scope.specs.Bits.{window}
use Rattle.scope.specs.Words.{longest, start_down, first, word_of, length_of, begins_with, word_below, word_at, Begins}
use Rattle.scope.specs.declared.Word.{Word}
use Rattle.scope.specs.Found.{some_word}
use Rattle.codes.specs.Tiers.{end}
use Rattle.codes.proofs.Longest.{at_most_longest}
use Rattle.lists.proofs.Counts.{count_at, count_apart, at_rank, Ranked}
use Rattle.lists.proofs.Tests.{which, and_both}
use Rattle.bits.proofs.Windows.{window_prefix}

-- ---- the words of one length, and those of the lengths above it

-- a word of its length is not below the first
pub first_le_word : (ls : List ℕ) (s : ℕ) → first ls (length_of ls s) ≤ word_of ls s
unfolding word_of
first_le_word ls s = omega arith

-- and lies before the end
pub word_lt_end : (ls : List ℕ) (s : ℕ) → s < length ls → word_of ls s < end ls (length_of ls s)
unfolding word_of end
word_lt_end ls s h = omega (arith, count_at (length_of ls s) ls s h refl)

-- every number from the first up to the end of a length is some symbol's word
pub record Has (ls : List ℕ) (l v : ℕ) : Type 0 where
  pub symbol : ℕ
  pub inside : symbol < length ls
  pub long : length_of ls symbol ≡ l
  pub is : word_of ls symbol ≡ v

-- that symbol
pub has : (ls : List ℕ) (l v : ℕ) → first ls l ≤ v → v < end ls l → Has ls l v
unfolding end word_of
has ls l v a b =
    let t : Ranked l ls (v - first ls l) = at_rank l ls (v - first ls l) (omega arith) in
    record {
      symbol = t.place;
      inside = t.inside;
      long = t.is;
      is = ap (λ (k : ℕ). first ls k + count k (take t.place ls)) t.is ∙ ap (λ (n : ℕ). first ls l + n) t.rank
          ∙ add-sub_of_le a;
    }

-- what begins, j + 1 bits shorter, with a word d bits shorter than the longest, or with the room that longer ones use, lies
-- before the words of that shorter length
shrink : (ls : List ℕ) (d j v : ℕ) → v < start_down ls d + count (longest ls - d) ls → v / 2 ^ suc j < start_down ls (d + suc j)
unfolding start_down
shrink ls d zero v h = rw add-one (omega arith)
shrink ls d (suc j) v h =
    let ih : v / 2 ^ suc j < start_down ls (d + suc j) = shrink ls d j v h in
    rw (add-suc, pow-suc, ← div-div-eq-div-mul) (omega arith)

-- room that longer words use lies before the words of a shorter length
pub before_shorter : (ls : List ℕ) (l j v : ℕ) → l + suc j ≤ longest ls → v < end ls (l + suc j) → v / 2 ^ suc j < first ls l
unfolding end first
before_shorter ls l j v h e =
    let m : ℕ = longest ls in
    let d : ℕ = m - (l + suc j) in
    let e₁ : m - d ≡ l + suc j = omega arith in
    let e₂ : d + suc j ≡ m - l = omega arith in
    let h₁ : v < start_down ls d + count (m - d) ls = rw e₁ e in
    rw e₂ at (shrink ls d j v h₁)

-- ---- prefix-free

module _ (ls : List ℕ) (s t : ℕ) (in_s : s < length ls) (in_t : t < length ls) (e : length_of ls s ≡ length_of ls t)
    (w : word_of ls t ≡ word_of ls s) where
  same_count : count (length_of ls s) (take s ls) ≡ count (length_of ls s) (take t ls)
  unfolding word_of
  same_count =
      let f : first ls (length_of ls s) + count (length_of ls s) (take s ls) ≡ first ls (length_of ls s) + count (length_of ls s) (take t ls) =
      sym w ∙ ap (λ (k : ℕ). first ls k + count k (take t ls)) (sym e) in
      omega arith

  -- two symbols of one length have two words
  pub equal_words : s ≡ t
  equal_words =
      let c : s < t → ⊥ = λ h. (
      let q : count (length_of ls s) (take s ls) < count (length_of ls s) (take t ls) = count_apart (length_of ls s) ls s t h in_s refl in
      omega (arith, same_count)) in
      let d : t < s → ⊥ = λ h. (
      let q : count (length_of ls s) (take t ls) < count (length_of ls s) (take s ls) = count_apart (length_of ls s) ls t s h in_t (sym e) in
      omega (arith, same_count)) in
      omega (arith, c, d)

-- no word begins another symbol's word
pub prefix_free : (ls : List ℕ) (s t : ℕ) → s < length ls → t < length ls → 0 < length_of ls s → length_of ls s ≤ length_of ls t
    → word_of ls t / 2 ^ (length_of ls t - length_of ls s) ≡ word_of ls s → s ≡ t
prefix_free ls s t a b z h w = elim (dec_le (length_of ls t) (length_of ls s)) [
  | yes k ↦ (
      let e : length_of ls s ≡ length_of ls t = omega arith in
      let q : length_of ls t - length_of ls s ≡ 0 = omega arith in
      equal_words ls s t a b e (sym (div-one (word_of ls t)) ∙ ap (λ (j : ℕ). word_of ls t / 2 ^ j) (sym q) ∙ w))
  | no k ↦ (
      let l : ℕ = length_of ls s in
      let j : ℕ = length_of ls t - suc l in
      let e : length_of ls t ≡ l + suc j = omega (arith, k) in
      let q : length_of ls t - l ≡ suc j = omega (arith, k) in
      let v : word_of ls t < end ls (l + suc j) = subst (λ (x : ℕ). word_of ls t < end ls x) e (word_lt_end ls t b) in
      let c : word_of ls t / 2 ^ suc j < first ls l =
      before_shorter ls l j (word_of ls t) (subst (λ (x : ℕ). x ≤ longest ls) e (at_most_longest ls t)) v in
      let r : word_of ls t / 2 ^ suc j ≡ word_of ls s = ap (λ (x : ℕ). word_of ls t / 2 ^ x) (sym q) ∙ w in
      absurd (omega (arith, first_le_word ls s)))
]

-- the word of the bits at a position, cut to a shorter length
cut : (ls payload : List ℕ) (p s t : ℕ) → Begins ls payload p s → Begins ls payload p t → length_of ls s ≤ length_of ls t → s ≡ t
cut ls payload p s t bs bt h =
    let q : length_of ls s + (length_of ls t - length_of ls s) ≡ length_of ls t = add-sub_of_le h in
    prefix_free ls s t bs.inside bt.inside bs.some h
    (ap (λ (v : ℕ). v / 2 ^ (length_of ls t - length_of ls s)) (sym bt.same)
    ∙ ap (λ (k : ℕ). window payload p k / 2 ^ (length_of ls t - length_of ls s)) (sym q)
    ∙ window_prefix payload p (length_of ls s) (length_of ls t - length_of ls s) ∙ bs.same)

-- the bits at a position begin with one word at most
pub one_word : (ls payload : List ℕ) (p s t : ℕ) → Begins ls payload p s → Begins ls payload p t → s ≡ t
one_word ls payload p s t bs bt = elim (dec_le (length_of ls s) (length_of ls t)) [
  | yes h ↦ cut ls payload p s t bs bt h
  | no h ↦ sym (cut ls payload p t s bt bs (omega (arith, h)))
]

-- ---- the word at a position

-- the test says what the proposition says
pub begins_of_test : (ls payload : List ℕ) (p s : ℕ) → s < length ls → begins_with ls payload p s ≡ true → Begins ls payload p s
unfolding begins_with
begins_of_test ls payload p s h e =
    let b = and_both (ltb 0 (length_of ls s)) (eqb (window payload p (length_of ls s)) (word_of ls s)) e in
    record { inside = h; some = ltb-true _ _ b.0; same = eqb-true _ _ b.1 }

-- and the other way round
pub test_of_begins : (ls payload : List ℕ) (p s : ℕ) → Begins ls payload p s → begins_with ls payload p s ≡ true
unfolding begins_with
test_of_begins ls payload p s b = simp (lt-ltb _ _ b.some, eq-eqb _ _ b.same)

below_found : (ls payload : List ℕ) (p n : ℕ) → n ≤ length ls → (s : ℕ) → s < n → Begins ls payload p s
    → word_below ls payload p n ≡ some_word (length_of ls s) s
unfolding word_below
below_found ls payload p zero k s h b = absurd (not-suc-le-zero h)
below_found ls payload p (suc n) k s h b = elim (which (begins_with ls payload p n)) [
  | inl e ↦ (let q : n ≡ s = one_word ls payload p n s (begins_of_test ls payload p n k e) b in rw (e, q) refl)
  | inr e ↦ (
      let ne : n ≡ s → ⊥ = λ q. true≢false (sym (test_of_begins ls payload p s b) ∙ ap (begins_with ls payload p) (sym q) ∙ e) in
      let l : s < n = omega (arith, ne) in
      rw e (below_found ls payload p n (omega arith) s l b))
]

-- `word_at` is the word that the bits begin with
pub word_found : (ls payload : List ℕ) (p s : ℕ) → Begins ls payload p s → word_at ls payload p ≡ some_word (length_of ls s) s
unfolding word_at
word_found ls payload p s b = below_found ls payload p (length ls) (le_refl (length ls)) s b.inside b

-- what is found, in its parts
some_length : {l s k t : ℕ} → some_word l s ≡ some_word k t → l ≡ k
some_length {l} {s} {k} {t} e =
    let d : ◌≡◌ {A = Word} (record { length = l; symbol = s }) (record { length = k; symbol = t }) = cc in
    ap (λ (x : Word). x.length) d

some_symbol : {l s k t : ℕ} → some_word l s ≡ some_word k t → s ≡ t
some_symbol {l} {s} {k} {t} e =
    let d : ◌≡◌ {A = Word} (record { length = l; symbol = s }) (record { length = k; symbol = t }) = cc in
    ap (λ (x : Word). x.symbol) d

below_begins : (ls payload : List ℕ) (p n : ℕ) → n ≤ length ls → (l s : ℕ) → word_below ls payload p n ≡ some_word l s
    → Begins ls payload p s × (l ≡ length_of ls s)
unfolding word_below
below_begins ls payload p zero k l s e =
    let z : ◌≡◌ {A = ℕ} 0 1 = cc in
    absurd (omega arith)
below_begins ls payload p (suc n) k l s e = elim (which (begins_with ls payload p n)) [
  | inl b ↦ (
      let w : some_word (length_of ls n) n ≡ some_word l s = rw b at e in
      let q : n ≡ s = some_symbol w in
      let r : length_of ls n ≡ l = some_length w in
      (subst (λ (x : ℕ). Begins ls payload p x) q (begins_of_test ls payload p n k b), sym r ∙ ap (length_of ls) q))
  | inr b ↦ below_begins ls payload p n (omega arith) l s (rw b at e)
]

-- a word that is found is one that the bits begin with
pub found-begins : (ls payload : List ℕ) (p l s : ℕ) → word_at ls payload p ≡ some_word l s → Begins ls payload p s × (l ≡ length_of ls s)
unfolding word_at
found-begins ls payload p l s e = below_begins ls payload p (length ls) (le_refl (length ls)) l s e

-- its length is one of the lengths, and its symbol is one of the symbols
pub record FoundIn (ls : List ℕ) (l s : ℕ) : Type 0 where
  pub some : 0 < l
  pub most : l ≤ longest ls
  pub symbol : s < length ls

-- of a word that is found
pub found_in : (ls payload : List ℕ) (p l s : ℕ) → word_at ls payload p ≡ some_word l s → FoundIn ls l s
found_in ls payload p l s e =
    let b = found-begins ls payload p l s e in
    record {
      some = subst⁻¹ (λ (k : ℕ). 0 < k) b.1 b.0.some;
      most = subst⁻¹ (λ (k : ℕ). k ≤ longest ls) b.1 (at_most_longest ls s);
      symbol = b.0.inside;
    }
