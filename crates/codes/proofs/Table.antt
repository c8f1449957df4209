-- The table, slot by slot (document 01, "Words and lookup": "the statement fixes the words within it"): as long as the need, a
-- first part whose slots have the first twelve bits of the longest length, and a second part whose slots have all of it.
-- Assumes nothing.
use mathlib.Core.Path.{◌≡◌, refl, sym, ap, ap₂, ◌∙◌}
use Prim.Native.Nat.{ℕ, zero, suc, ◌+◌, ◌-◌, ◌*◌, ◌/◌, ◌^◌, ◌≤◌, ◌<◌}
use native.Mathlib.Decide.{ℕ_discrete, dec_le, dec_lt}
use native.Mathlib.Omega.{arith}
use mathlib.Core.List.{List, ◌++◌}
use mathlib.Core.Bool.{cond, ◌&&◌}
use lib.Dec.{eqb, ltb, leb}
use lib.ListN.{length, get_or, length-append, get_or-append}
use lib.Seq.{get_or-append-add}
use borrow.Author.Tests.{eq-eqb, ne_eqb, lt-ltb, le-ltb, le-leb, lt-leb}
use Rattle.scope.specs.Base.{list_from, list_below}
use Rattle.scope.specs.Words.{longest, length_of, word_of, heads, need, need_from}
use Rattle.scope.specs.Lookup.{packed, begins_in, word_in, first_part, slots, table_of}
use Rattle.scope.specs.Found.{some_word}
use Rattle.std.specs.Prelude.{None}
use Rattle.codes.proofs.Longest.{at_most_longest}
use Rattle.lists.proofs.Made.{length-list_from, get_or-below}
use Rattle.codes.proofs.Heads.{no_head_short}

-- ---- one slot

-- the word of symbol s, where the slot begins with it
pub slot_hit : (ls : List ℕ) (k w s : ℕ) → 0 < length_of ls s → length_of ls s ≤ k → w / 2 ^ (k - length_of ls s) ≡ word_of ls s
    → word_in ls k w (suc s) ≡ some_word (length_of ls s) s
unfolding word_in begins_in
slot_hit ls k w s h g e = simp (le-leb _ _ g, lt-ltb _ _ h, eq-eqb _ _ e)

-- else what the earlier symbols give
pub slot_miss : (ls : List ℕ) (k w s : ℕ) → (length_of ls s ≤ k → 0 < length_of ls s → w / 2 ^ (k - length_of ls s) ≡ word_of ls s → ⊥)
    → word_in ls k w (suc s) ≡ word_in ls k w s
unfolding word_in begins_in
slot_miss ls k w s o = go (dec_le (length_of ls s) k) (dec_lt 0 (length_of ls s))
  where
    go : Dec (length_of ls s ≤ k) → Dec (0 < length_of ls s)
        → cond (leb (length_of ls s) k && (ltb 0 (length_of ls s) && eqb (w / 2 ^ (k - length_of ls s)) (word_of ls s))) (some_word (length_of ls s) s) (word_in ls k w s)
        ≡ word_in ls k w s
    go (no a) d = simp (lt-leb (length_of ls s) k (omega (arith, a)))
    go (yes a) (no b) = simp (le-leb (length_of ls s) k a, le-ltb 0 (length_of ls s) (omega (arith, b)))
    go (yes a) (yes b) =
        simp (le-leb (length_of ls s) k a, lt-ltb 0 (length_of ls s) b, ne_eqb (w / 2 ^ (k - length_of ls s)) (word_of ls s) (o a b))

-- where no symbol has a word, no slot has one
none_in : (ls : List ℕ) (k w : ℕ) → longest ls ≡ 0 → (n : ℕ) → word_in ls k w n ≡ None
none_in ls k w e zero = unfold word_in in refl
none_in ls k w e (suc n) = slot_miss ls k w n (λ _ b _. omega (arith, at_most_longest ls n)) ∙ none_in ls k w e n

-- ---- the need

-- where no word is longer than 12, also where there is none
pub need_short : (ls : List ℕ) → longest ls ≤ 12 → need ls ≡ 2 ^ longest ls
unfolding need need_from
need_short ls h = go (ℕ_discrete (longest ls) 0)
  where
    go : Dec (longest ls ≡ 0) → cond (eqb (longest ls) 0) 1 (cond (leb (longest ls) 12) (2 ^ longest ls) (4096 + heads ls * 2 ^ (longest ls - 12)))
        ≡ 2 ^ longest ls
    go (yes e) = rw e
    go (no e) = simp (ne_eqb (longest ls) 0 e, le-leb (longest ls) 12 h)

-- where some word is longer than 12
pub need_long : (ls : List ℕ) → 12 < longest ls → need ls ≡ 4096 + heads ls * 2 ^ (longest ls - 12)
unfolding need need_from
need_long ls h =
    let z : longest ls ≡ 0 → ⊥ = λ e. omega arith in
    simp (ne_eqb (longest ls) 0 z, lt-leb (longest ls) 12 h)

-- ---- the table

-- of one part
short_table : (ls : List ℕ) → longest ls ≤ 12 → table_of ls ≡ list_below (2 ^ longest ls) (first_part ls (longest ls))
unfolding table_of list_from first_part packed
short_table ls h = go (ℕ_discrete (longest ls) 0)
  where
    go : Dec (longest ls ≡ 0) → table_of ls ≡ list_below (2 ^ longest ls) (first_part ls (longest ls))
    go (yes e) = simp (e, none_in ls 0 0 e (length ls), no_head_short ls 0 (length ls) h)
    go (no e) = simp (ne_eqb (longest ls) 0 e, le-leb (longest ls) 12 h)

-- of two parts
long_table : (ls : List ℕ) → 12 < longest ls
    → table_of ls ≡ list_below 4096 (first_part ls 12) ++ slots ls (longest ls) (heads ls * 2 ^ (longest ls - 12))
unfolding table_of
long_table ls h =
    let z : longest ls ≡ 0 → ⊥ = λ e. omega arith in
    simp (ne_eqb _ _ z, lt-leb _ _ h)

length-slots : (ls : List ℕ) (k n : ℕ) → length (slots ls k n) ≡ n
unfolding slots
length-slots ls k n = length-list_from (λ w. packed (word_in ls k w (length ls))) 0 n

-- the table is as long as the need
pub table_length : (ls : List ℕ) → length (table_of ls) ≡ need ls
table_length ls = elim (dec_le (longest ls) 12) [
  | yes h ↦ ap length (short_table ls h) ∙ length-list_from (first_part ls (longest ls)) 0 (2 ^ longest ls) ∙ sym (need_short ls h)
  | no h ↦ (
      let g : 12 < longest ls = omega (arith, h) in
      ap length (long_table ls g)
      ∙ length-append (list_from (first_part ls 12) 0 4096) (slots ls (longest ls) (heads ls * 2 ^ (longest ls - 12)))
      ∙ ap₂ (λ (x y : ℕ). x + y) (length-list_from (first_part ls 12) 0 4096) (length-slots ls (longest ls) (heads ls * 2 ^ (longest ls - 12)))
      ∙ sym (need_long ls g))
]

-- its slots, with one part
pub table_short : (ls : List ℕ) (i : ℕ) → longest ls ≤ 12 → i < 2 ^ longest ls → get_or (table_of ls) i 0 ≡ first_part ls (longest ls) i
table_short ls i h b =
    ap (λ (t : List ℕ). get_or t i 0) (short_table ls h) ∙ get_or-below (first_part ls (longest ls)) (2 ^ longest ls) i b

-- and with two
pub table_first : (ls : List ℕ) (i : ℕ) → 12 < longest ls → i < 4096 → get_or (table_of ls) i 0 ≡ first_part ls 12 i
table_first ls i h b =
    let l : i < length (list_from (first_part ls 12) 0 4096) = omega (arith, length-list_from (first_part ls 12) 0 4096) in
    ap (λ (t : List ℕ). get_or t i 0) (long_table ls h)
    ∙ get_or-append (list_from (first_part ls 12) 0 4096) (slots ls (longest ls) (heads ls * 2 ^ (longest ls - 12))) 0 i l
    ∙ get_or-below (first_part ls 12) 4096 i b

-- a slot of the second part
pub table_second : (ls : List ℕ) (i : ℕ) → 12 < longest ls → i < heads ls * 2 ^ (longest ls - 12)
    → get_or (table_of ls) (4096 + i) 0 ≡ packed (word_in ls (longest ls) i (length ls))
unfolding slots
table_second ls i h b =
    let n : ℕ = heads ls * 2 ^ (longest ls - 12) in
    ap (λ (t : List ℕ). get_or t (4096 + i) 0) (long_table ls h)
    ∙ ap (λ (k : ℕ). get_or (list_from (first_part ls 12) 0 4096 ++ slots ls (longest ls) n) (k + i) 0) (sym (length-list_from (first_part ls 12) 0 4096))
    ∙ get_or-append-add (list_from (first_part ls 12) 0 4096) (slots ls (longest ls) n) i 0
    ∙ get_or-below (λ w. packed (word_in ls (longest ls) w (length ls))) n i b
