-- The lookup in a window, case by case as the code takes its ways; and what it tells is what document 01's lookup finds at the window's
-- position ("Words and lookup"). Assumes nothing.
use mathlib.Core.Path.{◌≡◌, refl, sym, ap, ◌∙◌, subst}
use Prim.Native.Nat.{ℕ, ◌+◌, ◌-◌, ◌/◌, ◌%◌, ◌^◌, ◌≤◌, ◌<◌, min}
use native.Mathlib.Omega.{arith}
use native.Mathlib.Decide.{dec_le}
use mathlib.Core.List.{List}
use lib.ListN.{get_or}
use lib.Pow.{pow_mono, shr_lt}
use borrow.Author.Rules.{rules}
use borrow.Author.Tests.{lt-ltb, le-ltb, le-leb, lt-leb}
use Rattle.scope.specs.Bits.{window}
use Rattle.scope.specs.Lookup.{lookup_in}
use Rattle.scope.specs.Found.{Found, some_word}
use Rattle.lookup.proofs.Looking.{says_word, looks_short, looks_second, looks_first}
use Rattle.kept.specs.Kept.{Shows, up_to, entry_in, Told}

-- ---- as the code reads it

module _ (words : List ℕ) (m w d e : ℕ) (z : d ≡ 64 - min m 12) (y : e ≡ get_or words (w / 2 ^ d) 0) where
  first_is : get_or words (w / 2 ^ (64 - min m 12)) 0 ≡ e
  first_is = sym (y ∙ ap (λ (n : ℕ). get_or words (w / 2 ^ n) 0) z)

  -- a word of the first part
  pub entry_first : e % 256 ≤ m → e ≡ entry_in words m w
  unfolding entry_in
  entry_first a = sym (simp (first_is, le-leb _ _ a))

  module _ (a : m < e % 256) where
    -- a table of one part
    pub entry_one_part : m ≤ 12 → 0 ≡ entry_in words m w
    unfolding entry_in
    entry_one_part b = sym (simp (first_is, lt-leb _ _ a, le-leb _ _ b))

    -- a slot that does not lead on
    pub entry_none : 12 < m → e % 256 < 255 → 0 ≡ entry_in words m w
    unfolding entry_in
    entry_none b c = sym (simp (first_is, lt-leb _ _ a, lt-leb _ _ b, lt-ltb _ _ c))

    module _ (v : ℕ) (b : 12 < m) (c : 255 ≤ e % 256) (q : v ≡ get_or words (4096 + w / 2 ^ (64 - m)) 0) where
      -- a word of the second part
      pub entry_second : v % 256 ≤ m → v ≡ entry_in words m w
      unfolding entry_in up_to
      entry_second l = sym (simp (first_is, lt-leb _ _ a, lt-leb _ _ b, le-ltb _ _ c, ← q, le-leb _ _ l))

      -- or none
      pub entry_no_second : m < v % 256 → 0 ≡ entry_in words m w
      unfolding entry_in up_to
      entry_no_second l = sym (simp (first_is, lt-leb _ _ a, lt-leb _ _ b, le-ltb _ _ c, ← q, lt-leb _ _ l))

-- the slots are no large numbers
pub slot_near : (w m : ℕ) → w < 2 ^ 64 → m ≤ 18 → 4096 + w / 2 ^ (64 - m) < 2 ^ 64
slot_near w m h a =
    let f : m + (64 - m) ≡ 64 = omega arith in
    let l : 2 ^ m ≤ 2 ^ 18 = pow_mono a in
    omega (arith, shr_lt {n = w} m (64 - m) (rw f h), l)

pub ruleset entering = (entry_first, entry_one_part, entry_none, entry_second, entry_no_second, slot_near, rules)

-- ---- what it tells

-- nothing of no word
told_none : (found : Found) (m : ℕ) → Told found m 0
told_none found m = record { most = omega arith; word = λ h. absurd (h refl) }

module _ (words payload : List ℕ) (m at w : ℕ) (n : 0 < m) (a : m ≤ 18) (x : Shows payload at w m) where
  abbrev first : ℕ
  first = get_or words (w / 2 ^ (64 - min m 12)) 0

  abbrev second : ℕ
  second = get_or words (4096 + w / 2 ^ (64 - m)) 0

  some : m ≡ 0 → ⊥
  some h = omega arith

  over : (m ≤ 12 → ⊥) → 12 < m
  over h = omega (arith, h)

  slot : (j : ℕ) → min m 12 ≡ j → j ≤ m → w / 2 ^ (64 - min m 12) ≡ window payload at j
  slot j e h = rw e (x.head j h)

  first_word : (first % 256 ≡ 0 → ⊥) → first % 256 ≤ m → Dec (m ≤ 12) → some_word (first % 256) (first / 256) ≡ lookup_in words m payload at
  first_word s l (yes h) = looks_short words m payload at _ _ first a some h (slot m (omega arith) (omega arith)) refl (says_word first s)
  first_word s l (no h) =
      looks_first words m payload at _ first a some (over h) (slot 12 (omega (arith, over h)) (omega (arith, over h))) refl _ (λ k. omega arith) (says_word first s)

  second_word : 12 < m → first % 256 ≡ 255 → (second % 256 ≡ 0 → ⊥) → some_word (second % 256) (second / 256) ≡ lookup_in words m payload at
  second_word h k s =
      looks_second words m payload at _ first a some h (slot 12 (omega arith) (omega arith)) refl _ _ second k (x.head m (omega arith)) refl (says_word second s)

  -- the entry tells what the lookup finds
  pub entry_told : Told (lookup_in words m payload at) m (entry_in words m w)
  entry_told = by_first (dec_le (first % 256) m)
    where
      by_second : m < first % 256 → 12 < m → 255 ≤ first % 256 → Dec (second % 256 ≤ m) → Told (lookup_in words m payload at) m (entry_in words m w)
      by_second f h c (yes l) =
          subst (Told (lookup_in words m payload at) m) (entry_second words m w (64 - min m 12) first refl refl f second h c refl l)
          (record { most = l; word = λ s. sym (second_word h (omega arith) s) })
      by_second f h c (no l) =
          subst (Told (lookup_in words m payload at) m) (entry_no_second words m w (64 - min m 12) first refl refl f second h c refl (omega (arith, l))) (told_none _ m)

      by_lead : m < first % 256 → 12 < m → Dec (255 ≤ first % 256) → Told (lookup_in words m payload at) m (entry_in words m w)
      by_lead f h (yes c) = by_second f h c (dec_le (second % 256) m)
      by_lead f h (no c) =
          subst (Told (lookup_in words m payload at) m) (entry_none words m w (64 - min m 12) first refl refl f h (omega (arith, c))) (told_none _ m)

      by_part : m < first % 256 → Dec (m ≤ 12) → Told (lookup_in words m payload at) m (entry_in words m w)
      by_part f (yes h) = subst (Told (lookup_in words m payload at) m) (entry_one_part words m w (64 - min m 12) first refl refl f h) (told_none _ m)
      by_part f (no h) = by_lead f (over h) (dec_le 255 (first % 256))

      by_first : Dec (first % 256 ≤ m) → Told (lookup_in words m payload at) m (entry_in words m w)
      by_first (yes l) =
          subst (Told (lookup_in words m payload at) m) (entry_first words m w (64 - min m 12) first refl refl l) (record { most = l; word = λ s. sym (first_word s l (dec_le m 12)) })
      by_first (no l) = by_part (omega (arith, l)) (dec_le m 12)
