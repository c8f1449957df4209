-- The lookup case by case, as the code takes its ways (document 01, "Words and lookup"). Assumes nothing.
use mathlib.Core.Path.{◌≡◌, sym, ap, ◌∙◌}
use Prim.Native.Nat.{ℕ, ◌+◌, ◌/◌, ◌%◌, ◌≤◌, ◌<◌}
use mathlib.Core.List.{List}
use lib.ListN.{get_or}
use borrow.Author.Rules.{rules}
use borrow.Author.Tests.{lt-ltb, le-ltb, le-leb, lt-leb, eq-eqb, ne_eqb}
use Rattle.scope.specs.Bits.{window}
use Rattle.scope.specs.Lookup.{unpacked, lookup_in}
use Rattle.scope.specs.Found.{Found, some_word}
use Rattle.std.specs.Prelude.{None}
use Rattle.lists.proofs.Made.{past_end}

-- ---- what a workspace word says

-- an unfilled slot
pub says_none : (e : ℕ) → e % 256 ≡ 0 → None ≡ unpacked e
unfolding unpacked
says_none e h = sym (simp (eq-eqb _ _ h))

-- a word's length and symbol
pub says_word : (e : ℕ) → (e % 256 ≡ 0 → ⊥) → some_word (e % 256) (e / 256) ≡ unpacked e
unfolding unpacked
says_word e h = sym (simp (ne_eqb _ _ h))

-- ---- the lookup

module _ (words : List ℕ) (m : ℕ) (payload : List ℕ) (at : ℕ) where
  -- no table has so long words
  pub looks_far : 18 < m → None ≡ lookup_in words m payload at
  unfolding lookup_in
  looks_far a = sym (simp (lt-ltb _ _ a))

  -- or none at all
  pub looks_none : m ≤ 18 → m ≡ 0 → None ≡ lookup_in words m payload at
  unfolding lookup_in
  looks_none a b = sym (simp (le-ltb _ _ a, eq-eqb _ _ b))

  -- a table of one part
  pub looks_short : (r : Found) (w e : ℕ) → m ≤ 18 → (m ≡ 0 → ⊥) → m ≤ 12 → w ≡ window payload at m → e ≡ get_or words w 0 → r ≡ unpacked e
      → r ≡ lookup_in words m payload at
  unfolding lookup_in
  looks_short r w e a b c x y z =
      z ∙ ap unpacked (y ∙ ap (λ (i : ℕ). get_or words i 0) x) ∙ sym (simp (le-ltb _ _ a, ne_eqb _ _ b, le-leb _ _ c))

  module _ (h e : ℕ) (a : m ≤ 18) (b : m ≡ 0 → ⊥) (c : 12 < m) (x : h ≡ window payload at 12) (y : e ≡ get_or words h 0) where
    head_is : get_or words (window payload at 12) 0 ≡ e
    head_is = sym (y ∙ ap (λ (i : ℕ). get_or words i 0) x)

    -- a table of two parts: a slot that leads to the second
    pub looks_second : (r : Found) (w v : ℕ) → e % 256 ≡ 255 → w ≡ window payload at m → v ≡ get_or words (4096 + w) 0 → r ≡ unpacked v
        → r ≡ lookup_in words m payload at
    unfolding lookup_in
    looks_second r w v d p q z =
        z ∙ ap unpacked (q ∙ ap (λ (i : ℕ). get_or words (4096 + i) 0) p)
        ∙ sym (simp (le-ltb _ _ a, ne_eqb _ _ b, lt-leb _ _ c, head_is, eq-eqb _ _ d))

    -- and one that does not
    pub looks_first : (r : Found) → (e % 256 ≡ 255 → ⊥) → r ≡ unpacked e → r ≡ lookup_in words m payload at
    unfolding lookup_in
    looks_first r d z = z ∙ sym (simp (le-ltb _ _ a, ne_eqb _ _ b, lt-leb _ _ c, head_is, ne_eqb _ _ d))

pub ruleset looking = (past_end, says_none, says_word, looks_far, looks_none, looks_short, looks_second, looks_first, rules)
