-- The lookup, from a table's words and m alone, finds the word that the bits begin with (document 01, "Words and lookup": "From
-- these and m alone, without the lengths, the lookup finds .. the word"). The table may have more words behind it, and may stand
-- in the middle of a longer workspace. p is a bit position. Assumes nothing.
use mathlib.Core.Path.{◌≡◌, refl, sym, ap, ◌∙◌, subst⁻¹}
use Prim.Native.Nat.{ℕ, zero, suc, ◌+◌, ◌-◌, ◌*◌, ◌/◌, ◌%◌, ◌^◌, ◌≤◌, ◌<◌}
use native.Mathlib.Nat.{le_refl, le_trans, not-le_of_lt, le_of_eq, div-lt_iff_lt-mul}
use native.Mathlib.Omega.{arith}
use native.Mathlib.Decide.{dec_le}
use mathlib.Core.Logic.{inl, inr}
use mathlib.Core.List.{List, [], ◌++◌, append-nil}
use mathlib.Core.Bool.{true, false, true≢false}
use lib.ListN.{length, take, drop, get_or, get_or-append, take-append-drop}
use lib.Dec.{eqb}
use lib.Pow.{pow_pos}
use borrow.Author.Tests.{eq-eqb, ne_eqb, le-ltb, le-leb, lt-leb}
use Rattle.scope.specs.Bits.{window}
use Rattle.scope.specs.Words.{longest, first, word_of, length_of, shares, head_below, heads, need, begins_with, word_below, word_at, Begins}
use Rattle.scope.specs.Lookup.{packed, unpacked, begins_in, word_in, first_part, table_of, lookup_in}
use Rattle.scope.specs.Found.{Found, some_word}
use Rattle.std.specs.Prelude.{None, Some}
use Rattle.codes.proofs.Longest.{at_most_longest}
use Rattle.lists.proofs.Tests.{which}
use Rattle.bits.proofs.Windows.{window_small, window_head}
use Rattle.codes.proofs.Words.{begins_of_test, FoundIn, found_in}
use Rattle.codes.proofs.Heads.{head_yes, no_head, no_head_short, heads_first}
use Rattle.codes.proofs.Table.{need_short, need_long, table_length, table_short, table_first, table_second}

-- ---- what a workspace word says

-- a word that is packed is unpacked again
pub unpacked-packed : (o : Found) → ((l s : ℕ) → o ≡ some_word l s → (0 < l) × (l < 255)) → unpacked (packed o) ≡ o
unfolding unpacked packed
unpacked-packed None h = refl
unpacked-packed (Some w) h =
    let b : (0 < w.length) × (w.length < 255) = h w.length w.symbol refl in
    let e₁ : (w.symbol * 256 + w.length) % 256 ≡ w.length = omega arith in
    let e₂ : (w.symbol * 256 + w.length) / 256 ≡ w.symbol = omega arith in
    let n : w.length ≡ 0 → ⊥ = λ e. not-le_of_lt b.0 (le_of_eq e) in
    simp (e₁, e₂, ne_eqb w.length 0 n)

-- ---- the word in a number of k bits, where no word is longer than k

same_test : (ls payload : List ℕ) (p k n : ℕ) → length_of ls n ≤ k → begins_in ls k (window payload p k) n ≡ begins_with ls payload p n
unfolding begins_in begins_with
same_test ls payload p k n h = simp (le-leb (length_of ls n) k h, window_head payload p (length_of ls n) k h)

in_all : (ls payload : List ℕ) (p k : ℕ) → longest ls ≤ k → (n : ℕ) → word_in ls k (window payload p k) n ≡ word_below ls payload p n
unfolding word_in word_below
in_all ls payload p k h zero = refl
in_all ls payload p k h (suc n) =
    simp (same_test ls payload p k n (le_trans (at_most_longest ls n) h), in_all ls payload p k h n)

-- where x is no head, the words of at most 12 bits are all there is
in_short : (ls payload : List ℕ) (p : ℕ) → head_below ls (window payload p 12) (length ls) ≡ false → (n : ℕ) → n ≤ length ls
    → word_in ls 12 (window payload p 12) n ≡ word_below ls payload p n
unfolding word_in begins_in word_below
in_short ls payload p f zero k = refl
in_short ls payload p f (suc n) k = elim (dec_le (length_of ls n) 12) [
  | yes b ↦ simp (same_test ls payload p 12 n b, in_short ls payload p f n (omega arith))
  | no b ↦ (
      let c : 12 < length_of ls n = omega (arith, b) in
      elim (which (begins_with ls payload p n)) [
        | inl e ↦ (
            let t : Begins ls payload p n = begins_of_test ls payload p n k e in
            let h : 12 ≤ length_of ls n = omega arith in
            let w : word_of ls n / 2 ^ (length_of ls n - 12) ≡ window payload p 12 = ap (λ (v : ℕ). v / 2 ^ (length_of ls n - 12)) (sym t.same) ∙ window_head payload p 12 (length_of ls n) h in
            absurd (true≢false (sym (head_yes ls (window payload p 12) (length ls) n k c w) ∙ f)))
        | inr e ↦ simp (lt-leb (length_of ls n) 12 c, e, in_short ls payload p f n (omega arith))
      ])
]

-- a workspace word that says a word does not say to go on
not_on : (o : Found) → ((l s : ℕ) → o ≡ some_word l s → (0 < l) × (l < 255)) → eqb (packed o % 256) 255 ≡ false
unfolding packed
not_on None h = refl
not_on (Some w) h =
    let b : (0 < w.length) × (w.length < 255) = h w.length w.symbol refl in
    let n : (w.symbol * 256 + w.length) % 256 ≡ 255 → ⊥ = λ e. (let z : w.length ≡ 255 = omega arith in omega arith) in
    ne_eqb _ _ n

-- no word is found where no symbol has one
no_word : (ls payload : List ℕ) (p n : ℕ) → longest ls ≡ 0 → word_below ls payload p n ≡ None
unfolding word_below begins_with
no_word ls payload p zero h = refl
no_word ls payload p (suc n) h =
    let b : length_of ls n ≤ 0 = le_trans (at_most_longest ls n) (le_of_eq h) in
    simp (le-ltb 0 (length_of ls n) b, no_word ls payload p n h)

-- the table, and whatever stands behind it
module _ (ls rest payload : List ℕ) (p : ℕ) (fits : longest ls ≤ 18) (full : shares ls ≤ 262144) where
  found_small : (l s : ℕ) → word_at ls payload p ≡ some_word l s → (0 < l) × (l < 255)
  found_small l s e = let f : FoundIn ls l s = found_in ls payload p l s e in (f.some, omega (arith, f.most))

  lookup_zero : longest ls ≡ 0 → lookup_in (table_of ls ++ rest) (longest ls) payload p ≡ word_at ls payload p
  unfolding lookup_in word_at
  lookup_zero h = simp (le-ltb 18 (longest ls) fits, eq-eqb _ _ h) (sym (no_word ls payload p (length ls) h))

  -- a slot of the table is read past nothing that stands behind it
  in_table : (i : ℕ) → i < need ls → get_or (table_of ls ++ rest) i 0 ≡ get_or (table_of ls) i 0
  in_table i h =
      let l : i < length (table_of ls) = omega (arith, table_length ls) in
      get_or-append (table_of ls) rest 0 i l

  lookup_short : (longest ls ≡ 0 → ⊥) → longest ls ≤ 12 → lookup_in (table_of ls ++ rest) (longest ls) payload p ≡ word_at ls payload p
  unfolding lookup_in
  lookup_short z h =
      let w : ℕ = window payload p (longest ls) in
      let b : w < 2 ^ longest ls = window_small payload p (longest ls) in
      let e₁ : get_or (table_of ls ++ rest) w 0 ≡ first_part ls (longest ls) w = in_table w (rw (need_short ls h) b) ∙ table_short ls w h b in
      let e₂ : first_part ls (longest ls) w ≡ packed (word_at ls payload p) =
      unfold first_part word_at in simp (no_head_short ls w (length ls) h, in_all ls payload p (longest ls) (le_refl (longest ls)) (length ls)) in
      simp (le-ltb 18 (longest ls) fits, ne_eqb _ _ z, le-leb _ _ h)
      (ap unpacked (e₁ ∙ e₂) ∙ unpacked-packed (word_at ls payload p) found_small)

  one_at : 12 < longest ls → get_or (table_of ls ++ rest) (window payload p 12) 0 ≡ first_part ls 12 (window payload p 12)
  one_at h =
      let b : window payload p 12 < 4096 = window_small payload p 12 in
      in_table (window payload p 12) (omega (arith, need_long ls h)) ∙ table_first ls (window payload p 12) h b

  two_at : 12 < longest ls → window payload p 12 < heads ls
      → get_or (table_of ls ++ rest) (4096 + window payload p (longest ls)) 0 ≡ packed (word_at ls payload p)
  unfolding word_at
  two_at h a =
      let w : ℕ = window payload p (longest ls) in
      let q : w / 2 ^ (longest ls - 12) ≡ window payload p 12 = window_head payload p 12 (longest ls) (omega arith) in
      let b : w < heads ls * 2 ^ (longest ls - 12) =
      (div-lt_iff_lt-mul (pow_pos (longest ls - 12))).0 (subst⁻¹ (λ (k : ℕ). k < heads ls) q a) in
      in_table (4096 + w) (omega (arith, need_long ls h)) ∙ table_second ls w h b
      ∙ ap packed (in_all ls payload p (longest ls) (le_refl (longest ls)) (length ls))

  is_head : 12 < longest ls → head_below ls (window payload p 12) (length ls) ≡ true → window payload p 12 < heads ls
  is_head h e =
      let n : first ls 12 ≤ window payload p 12 → ⊥ = λ a. true≢false (sym e ∙ no_head ls (window payload p 12) h a) in
      omega (arith, n, heads_first ls h fits full)

  lookup_long : 12 < longest ls → lookup_in (table_of ls ++ rest) (longest ls) payload p ≡ word_at ls payload p
  unfolding lookup_in
  lookup_long h =
      let z : longest ls ≡ 0 → ⊥ = λ e. omega arith in
      elim (which (head_below ls (window payload p 12) (length ls))) [
        | inl e ↦ (
            let f : first_part ls 12 (window payload p 12) ≡ 255 = unfold first_part in simp e in
            simp (le-ltb 18 (longest ls) fits, ne_eqb _ _ z, lt-leb _ _ h, one_at h ∙ f)
            (ap unpacked (two_at h (is_head h e)) ∙ unpacked-packed (word_at ls payload p) found_small))
        | inr e ↦ (
            let f : first_part ls 12 (window payload p 12) ≡ packed (word_at ls payload p) = unfold first_part word_at in simp (e, in_short ls payload p e (length ls) (le_refl (length ls))) in
            simp (le-ltb 18 (longest ls) fits, ne_eqb _ _ z, lt-leb _ _ h, one_at h ∙ f, not_on (word_at ls payload p) found_small)
            (unpacked-packed (word_at ls payload p) found_small))
      ]

  -- with any words behind the table, the lookup finds the word that the bits begin with
  pub looks_behind : lookup_in (table_of ls ++ rest) (longest ls) payload p ≡ word_at ls payload p
  looks_behind = elim (dec_le (longest ls) 12) [
    | yes h ↦ elim (dec_le (longest ls) 0) [
      | yes a ↦ lookup_zero (omega arith)
      | no a ↦ lookup_short (λ e. a (le_of_eq e)) h
    ]
    | no h ↦ lookup_long (omega (arith, h))
  ]

module _ (ls payload : List ℕ) (p : ℕ) (fits : longest ls ≤ 18) (full : shares ls ≤ 262144) where
  -- over the table itself
  pub looks_table : lookup_in (table_of ls) (longest ls) payload p ≡ word_at ls payload p
  looks_table =
      ap (λ (t : List ℕ). lookup_in t (longest ls) payload p) (sym (append-nil (table_of ls)))
      ∙ looks_behind ls [] payload p fits full

  -- over words of which the first are the table
  pub looks_take : (words : List ℕ) → take (need ls) words ≡ table_of ls → lookup_in words (longest ls) payload p ≡ word_at ls payload p
  looks_take words e =
      ap (λ (t : List ℕ). lookup_in t (longest ls) payload p)
      (sym (take-append-drop (need ls) words) ∙ ap (λ (t : List ℕ). t ++ drop (need ls) words) e)
      ∙ looks_behind ls (drop (need ls) words) payload p fits full
