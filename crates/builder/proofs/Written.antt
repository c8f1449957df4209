-- The slots that are placed, and the marks that lead to the second part, are the table (document 01, "Words and lookup").
-- Assumes nothing.
use mathlib.Core.Path.{◌≡◌, sym, ap, ◌∙◌, subst}
use Prim.Native.Nat.{ℕ, ◌+◌, ◌-◌, ◌*◌, ◌^◌, ◌≤◌, ◌<◌, min}
use native.Mathlib.Decide.{dec_le, dec_lt}
use native.Mathlib.Omega.{arith}
use mathlib.Core.Bool.{false}
use mathlib.Core.List.{List}
use lib.ListN.{length, get_or}
use lib.Seq.{ext_get_or}
use Rattle.scope.specs.Words.{longest, head_below, heads, first}
use Rattle.scope.specs.Lookup.{packed, word_in, first_part, table_of}
use Rattle.codes.proofs.Heads.{none_at_longest, first_head, no_head, no_head_short, first_small}
use Rattle.codes.proofs.Table.{need_short, need_long, table_length, table_short, table_first, table_second}
use Rattle.words.specs.Weigh.{firsts_of}
use Rattle.words.proofs.Walking.{firsts_twelve}
use Rattle.builder.specs.Slots.{StretchWritten, Buildable, Slotted}

module _ (ls : List ℕ) (m n : ℕ) (ok : Buildable ls m n) where
  -- the marks lie within the table
  heads-room : first ls 12 ≤ n
  heads-room = elim (dec_le (longest ls) 12) [
    | yes h ↦ omega (arith, none_at_longest ls 12 h)
    | no h ↦ (
        let g : 12 < longest ls = omega (arith, h) in
        omega (arith, first_small ls ok.small ok.full g, ok.whole, need_long ls g))
  ]

  module _ (h : ℕ) (ws ws' : List ℕ) (is : h ≡ first ls 12) (f : StretchWritten ws 0 h 255 ws') (p : Slotted ls ws (length ls)) where
    -- a slot of the first part that is not marked
    plain : (i k : ℕ) → k ≡ min (longest ls) 12 → h ≤ i → i < 2 ^ k → head_below ls i (length ls) ≡ false → get_or ws' i 0 ≡ first_part ls k i
    unfolding first_part
    plain i k e a b q =
        f.behind i (omega arith) ∙ p.first i (subst (λ (x : ℕ). i < 2 ^ x) e b)
        ∙ ap (λ (x : ℕ). packed (word_in ls x i (length ls))) (sym e) ∙ sym (simp q)

    -- and one that is
    marked : (i : ℕ) → 12 < longest ls → i < h → get_or ws' i 0 ≡ first_part ls 12 i
    unfolding first_part
    marked i g a = f.inside i (omega arith) (omega arith) ∙ sym (simp (first_head ls i g (omega arith)))

    short_at : (i : ℕ) → longest ls ≤ 12 → i < n → get_or ws' i 0 ≡ get_or (table_of ls) i 0
    short_at i g a =
        let b : i < 2 ^ longest ls = omega (arith, ok.whole, need_short ls g) in
        let z : h ≡ 0 = is ∙ none_at_longest ls 12 g in
        plain i (longest ls) (omega arith) (omega arith) b (no_head_short ls i (length ls) g) ∙ sym (table_short ls i g b)

    first_at : (i : ℕ) → 12 < longest ls → i < 4096 → Dec (i < h) → get_or ws' i 0 ≡ first_part ls 12 i
    first_at i g a (yes b) = marked i g b
    first_at i g a (no b) =
        let c : h ≤ i = omega (arith, b) in
        plain i 12 (omega arith) c a (no_head ls i g (omega arith))

    second_at : (j : ℕ) → 12 < longest ls → 4096 + j < n → get_or ws' (4096 + j) 0 ≡ get_or (table_of ls) (4096 + j) 0
    second_at j g a =
        let b : j < heads ls * 2 ^ (longest ls - 12) = omega (arith, ok.whole, need_long ls g) in
        f.behind (4096 + j) (omega (arith, first_small ls ok.small ok.full g)) ∙ p.second g j b ∙ sym (table_second ls j g b)

    long_at : (i : ℕ) → 12 < longest ls → i < n → Dec (i < 4096) → get_or ws' i 0 ≡ get_or (table_of ls) i 0
    long_at i g a (yes b) = first_at i g b (dec_lt i h) ∙ sym (table_first ls i g b)
    long_at i g a (no b) =
        let e : 4096 + (i - 4096) ≡ i = omega (arith, b) in
        subst (λ (x : ℕ). get_or ws' x 0 ≡ get_or (table_of ls) x 0) e (second_at (i - 4096) g (omega arith))

    -- the table is written
    whole : length ws' ≡ n → ws' ≡ table_of ls
    whole l = ext_get_or 0 ws' (table_of ls) (l ∙ ok.whole ∙ sym (table_length ls)) (λ i a. at i (omega arith) (dec_le (longest ls) 12))
      where
        at : (i : ℕ) → i < n → Dec (longest ls ≤ 12) → get_or ws' i 0 ≡ get_or (table_of ls) i 0
        at i a (yes g) = short_at i g a
        at i a (no g) = long_at i (omega (arith, g)) a (dec_lt i 4096)

-- ---- `write_table`: firsts are the first words, and ws has been lent to `place`, which left ws₁, to be marked

module _ (ls : List ℕ) (m : ℕ) (ws firsts ws₁ : List ℕ) (ok : Buildable ls m (length ws)) (ef : firsts ≡ firsts_of ls) (same : length ws₁ ≡ length ws) where
  -- there is room for the marks
  pub marks_room : get_or firsts 12 0 ≤ length ws₁
  marks_room = omega (arith, firsts_twelve ls firsts ef, heads-room ls m (length ws) ok, same)

  -- the table is written
  pub written : Slotted ls ws₁ (length ls) → (ws₂ : List ℕ) → StretchWritten ws₁ 0 (get_or firsts 12 0) 255 ws₂ → length ws₂ ≡ length ws₁
      → ws₂ ≡ table_of ls
  written p ws₂ f l = whole ls m (length ws) ok (get_or firsts 12 0) ws₁ ws₂ (firsts_twelve ls firsts ef) f p (l ∙ same)
