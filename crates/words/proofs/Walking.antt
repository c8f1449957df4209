-- The walk from the longest length down to 1, with the running end that starts at all ones and wraps (document 01, "Words and
-- lookup": "keep that"), against the counting definition of `codes`. Assumes nothing.
use Rattle.std.proofs.Common.{◌≡◌, ℕ, zero, suc, ◌+◌, ◌-◌, ◌*◌, ◌/◌, ◌%◌, ◌^◌, ◌<◌, ◌≤◌, true, false, Some, None, List, ◌∷◌, length, get_or, set, replicate, sym, refl, ap, ◌∙◌, arith, length-set, get_or-set_other, get_or-set_same, ext_get_or}
use native.Mathlib.Nat.{sub_self}
use native.Mathlib.Decide.{ℕ_discrete, dec_le}
use lib.Arith.{sub-sub_self}
use Rattle.scope.specs.Base.{count, list_from}
use Rattle.scope.specs.Words.{longest, shares, overfull, first}
use Rattle.lists.proofs.Powers.{shl_one}
use Rattle.codes.specs.Tiers.{running, summed}
use Rattle.lists.proofs.Made.{get_or_from, length-list_from, zero_at}
use Rattle.codes.proofs.Heads.{none_at_longest}
use Rattle.codes.proofs.Kraft.{over_none, over_some}
use Rattle.codes.proofs.Accumulator.{running_start, accumulator_fits}
use Rattle.words.specs.Tally.{Tallied}
use Rattle.words.specs.Weigh.{firsts_of, Begun}
use Rattle.words.proofs.Tallying.{counts_at}

-- ---- the first words

-- element l is the first word of length l
pub firsts_at : (ls : List ℕ) (l : ℕ) → 0 < l → l ≤ 18 → get_or (firsts_of ls) l 0 ≡ first ls l
unfolding firsts_of
firsts_at ls zero z h = absurd (omega arith)
firsts_at ls (suc l) z h = get_or_from (first ls) 1 18 l (omega arith) ∙ ap (first ls) (omega arith)

-- the first word of 12 bits
pub firsts_twelve : (ls at : List ℕ) → at ≡ firsts_of ls → get_or at 12 0 ≡ first ls 12
firsts_twelve ls at e = ap (λ (x : List ℕ). get_or x 12 0) e ∙ firsts_at ls 12 (omega arith) (omega arith)

firsts_only : (ls at : List ℕ) → length at ≡ 19 → get_or at 0 0 ≡ 0 → ((l : ℕ) → 0 < l → get_or at l 0 ≡ first ls l) → at ≡ firsts_of ls
unfolding firsts_of
firsts_only ls at n z h = ext_get_or 0 at (0 ∷ list_from (first ls) 1 18) (n ∙ sym (ap suc (length-list_from (first ls) 1 18))) each
  where
    each : (l : ℕ) → l < length at → get_or at l 0 ≡ get_or (0 ∷ list_from (first ls) 1 18) l 0
    each zero b = z
    each (suc l) b =
        let p : 0 < suc l = omega arith in
        let q : suc l ≤ 18 = omega arith in
        h (suc l) p ∙ sym (firsts_at ls (suc l) p q)

-- ---- before length l

pub record Walked (ls at : List ℕ) (a l : ℕ) : Type 0 where
  pub within : l ≤ longest ls
  pub many : length at ≡ 19
  pub carried : a ≡ running ls (longest ls - l)
  pub passed : (j : ℕ) → l < j → j ≤ longest ls → summed ls (longest ls - j) < 2 ^ j
  pub written : (j : ℕ) → l < j → get_or at j 0 ≡ first ls j
  pub blank : (j : ℕ) → j ≤ l → get_or at j 0 ≡ 0

-- before the longest length nothing is written, and the running end is all ones
walk_start : (ls : List ℕ) (m : ℕ) → m ≡ longest ls → Walked ls (replicate 19 0) 4294967295 m
unfolding running
walk_start ls m e = record {
  within = omega arith;
  many = refl;
  carried = rw (e, sub_self (longest ls)) refl;
  passed = λ j h g. absurd (omega arith);
  written = λ j h. zero_at 0 19 j ∙ sym (none_at_longest ls j (omega arith));
  blank = λ j h. zero_at 0 19 j;
}

-- at length l, where counts are those of ls and s is the sum that is tested
module _ (ls counts at : List ℕ) (m a l s : ℕ) (t : Tallied ls counts m) (z : 0 < l) (w : Walked ls at a l)
    (es : s ≡ (a + get_or counts l 0) % 2 ^ 32) where
  count_is : get_or counts l 0 ≡ count l ls
  count_is = ap (λ (x : List ℕ). get_or x l 0) t.counted ∙ counts_at ls l (omega (arith, w.within, t.small))

  -- it is the sum of the counting definition
  sum_is : s ≡ summed ls (longest ls - l)
  unfolding summed
  sum_is = es ∙ rw (w.carried, count_is, sub-sub_self w.within) refl

  -- a sum that reaches 2^l is refusal 10
  walk_refused : 2 ^ l ≤ s → overfull ls ≡ true
  walk_refused b = elim (dec_le (shares ls) 262144) [
    | yes f ↦ absurd (omega (arith, (accumulator_fits ls t.few t.small).0 f l z w.within, sum_is))
    | no f ↦ over_some ls (omega (arith, f))
  ]

  -- what is written is the first word of length l
  first_is : (a + 1) % 2 ^ 32 ≡ first ls l
  unfolding first
  first_is = ap (λ (x : ℕ). (x + 1) % 2 ^ 32) w.carried ∙ running_start ls t.few (omega (arith, w.within)) (longest ls - l)

  -- and half of the sum is the next running end
  next : s / 2 ≡ running ls (longest ls - (l - 1))
  unfolding running summed
  next =
      let e : longest ls - (l - 1) ≡ suc (longest ls - l) = omega (arith, w.within) in
      ap (λ (x : ℕ). x / 2) sum_is ∙ sym (ap (running ls) e)

  -- one length is passed
  walk_step : (r : ℕ) → r ≡ (a + 1) % 2 ^ 32 → s < 2 ^ l → Walked ls (set at l r) (s / 2) (l - 1)
  walk_step r er b = record {
    within = omega (arith, w.within);
    many = simp length-set w.many;
    carried = next;
    passed = λ j h g. pass j h g (ℕ_discrete j l);
    written = λ j h. write j h (ℕ_discrete j l);
    blank = λ j h. get_or-set_other at l j r 0 (omega arith) ∙ w.blank j (omega arith);
  }
    where
      pass : (j : ℕ) → l - 1 < j → j ≤ longest ls → Dec (j ≡ l) → summed ls (longest ls - j) < 2 ^ j
      pass j h g (yes e) = rw e (omega (arith, sum_is))
      pass j h g (no e) = w.passed j (omega arith) g

      write : (j : ℕ) → l - 1 < j → Dec (j ≡ l) → get_or (set at l r) j 0 ≡ first ls j
      write j h (yes e) = rw e (get_or-set_same at l r 0 (omega (arith, w.within, w.many, t.small)) ∙ er ∙ first_is)
      write j h (no e) = get_or-set_other at l j r 0 e ∙ w.written j (omega arith)

-- no sum reaches its power of two: no refusal 10, and the first word of each length
module _ (ls counts at : List ℕ) (m a l : ℕ) (t : Tallied ls counts m) (w : Walked ls at a l) (e : l ≡ 0) where
  walk_fits : overfull ls ≡ false
  walk_fits = over_none ls ((accumulator_fits ls t.few t.small).1 (λ j z h. w.passed j (omega arith) h))

  walk_firsts : at ≡ firsts_of ls
  walk_firsts = firsts_only ls at w.many (w.blank 0 (omega arith)) (λ j h. w.written j (omega arith))

-- ---- the loop, for whatever lengths have these counts

pub record Walks (counts : List ℕ) (m : ℕ) (at : List ℕ) (a l : ℕ) : Type 0 where
  pub within : l ≤ m
  pub walked : (ls : List ℕ) → Tallied ls counts m → Walked ls at a l

-- before the longest length
pub walks_start : (counts : List ℕ) (m : ℕ) → Walks counts m (replicate 19 0) 4294967295 m
walks_start counts m = record { within = omega arith; walked = λ ls t. walk_start ls m t.is }

module _ (counts : List ℕ) (m : ℕ) (at : List ℕ) (a l : ℕ) (small : m ≤ 18) (w : Walks counts m at a l) where
  module _ (s : ℕ) (z : 0 < l) (es : s ≡ (a + get_or counts l 0) % 2 ^ 32) where
    power : 1 * 2 ^ l % 2 ^ 32 ≡ 2 ^ l
    power = shl_one 32 l (omega (arith, w.within))

    -- no room is left
    pub walks_refused : 1 * 2 ^ l % 2 ^ 32 ≤ s → Begun counts m None
    walks_refused b = record {
      starts = λ ls t. rw (walk_refused ls counts at m a l s t z (w.walked ls t) es (omega (arith, power))) refl;
    }

    -- one length is passed
    pub walks_step : (r : ℕ) → r ≡ (a + 1) % 2 ^ 32 → s < 1 * 2 ^ l % 2 ^ 32 → Walks counts m (set at l r) (s / 2) (l - 1)
    walks_step r er b = record {
      within = omega (arith, w.within);
      walked = λ ls t. walk_step ls counts at m a l s t z (w.walked ls t) es r er (omega (arith, power));
    }

  -- every length has room
  pub walks_end : l ≤ 0 → Begun counts m (Some at)
  walks_end h =
      let e : l ≡ 0 = omega arith in
      record {
        starts = λ ls t.
            rw (walk_fits ls counts at m a l t (w.walked ls t) e) (ap Some (walk_firsts ls counts at m a l t (w.walked ls t) e));
      }

-- ---- what is there

-- there are 19 of them
pub firsts_length : (ls : List ℕ) → length (firsts_of ls) ≡ 19
unfolding firsts_of
firsts_length ls = ap suc (length-list_from (first ls) 1 18)
