-- The one pass over the lengths (document 01, "Words and lookup"): how many symbols have each length, and whether some length is
-- above 18. Assumes nothing.
use Rattle.std.proofs.Common.{◌≡◌, ℕ, ◌+◌, ◌<◌, ◌≤◌, cond, Some, None, eqb, List, length, get_or, take, set, replicate, sym, refl, ap, ◌∙◌, add-one, arith, length-set, length-take-le, take_all, get_or-set_other, get_or-set_same, w32, Fits, le-ltb, lt-ltb}
use native.Mathlib.Decide.{ℕ_discrete}
use lib.ListN.{get_or-replicate}
use Rattle.scope.specs.Base.{one, count}
use Rattle.scope.specs.Words.{longest, too_long}
use Rattle.codes.proofs.Longest.{longest_next, at_most_longest}
use Rattle.lists.proofs.Counts.{count_next, count-le, one_same, one_other}
use Rattle.lists.proofs.Made.{list_below_only, get_or-below}
use Rattle.words.specs.Tally.{counts_of}

-- the first i symbols are counted, and none of them has a length above 18
pub record Counted (ls counts : List ℕ) (i : ℕ) : Type 0 where
  pub within : i ≤ length ls
  pub many : length counts ≡ 19
  pub small : longest (take i ls) ≤ 18
  pub counted : (l : ℕ) → l ≤ 18 → get_or counts l 0 ≡ count l (take i ls)

-- before the first symbol every count is 0
pub counted_start : (ls : List ℕ) → Counted ls (replicate 19 0) 0
unfolding count longest
counted_start ls = record {
  within = omega arith;
  many = refl;
  small = omega arith;
  counted = λ l g. get_or-replicate 19 l 0 0 (omega arith);
}

-- no count is above the number of symbols, so one more fits
pub counted_fits : (ls counts : List ℕ) (i l : ℕ) → length ls ≤ 16384 → Counted ls counts i → l ≤ 18 → Fits w32 (get_or counts l 0 + 1)
counted_fits ls counts i l few k g =
    record { fits = omega (arith, k.counted l g, count-le l (take i ls), length-take-le i ls k.within, k.within) }

module _ (ls counts : List ℕ) (i : ℕ) (h : i < length ls) (b : get_or ls i 0 ≤ 18) (k : Counted ls counts i) where
  more : (l : ℕ) → l ≤ 18 → Dec (l ≡ get_or ls i 0)
      → get_or (set counts (get_or ls i 0) (get_or counts (get_or ls i 0) 0 + 1)) l 0 ≡ count l (take i ls) + one (eqb (get_or ls i 0) l)
  more l g (yes e) =
      rw (e, get_or-set_same counts (get_or ls i 0) (get_or counts (get_or ls i 0) 0 + 1) 0 (omega (arith, k.many)), one_same (get_or ls i 0), k.counted (get_or ls i 0) b)
  more l g (no e) =
      get_or-set_other counts (get_or ls i 0) l (get_or counts (get_or ls i 0) 0 + 1) 0 e
      ∙ omega (arith, k.counted l g, one_other (get_or ls i 0) l (λ (q : get_or ls i 0 ≡ l). e (sym q)))

  -- one symbol more is counted
  pub counted_step : Counted ls (set counts (get_or ls i 0) (get_or counts (get_or ls i 0) 0 + 1)) (i + 1)
  counted_step = record {
    within = omega arith;
    many = simp length-set k.many;
    small = rw (add-one i, longest_next ls i h) (omega (arith, k.small));
    counted = λ l g. rw (add-one i, count_next ls i l h) (more l g (ℕ_discrete l (get_or ls i 0)));
  }

-- a length above 18
pub counted_long : (ls : List ℕ) (i : ℕ) → 18 < get_or ls i 0 → None ≡ cond (too_long ls) None (Some (counts_of ls))
unfolding too_long
counted_long ls i h = rw (lt-ltb 18 (longest ls) (omega (arith, at_most_longest ls i))) refl

-- after the last symbol no length is above 18, and the counts are those of the list
pub counted_end : (ls counts : List ℕ) (i : ℕ) → length ls ≤ i → Counted ls counts i
    → Some counts ≡ cond (too_long ls) None (Some (counts_of ls))
unfolding too_long counts_of
counted_end ls counts i h k =
    rw (le-ltb 18 (longest ls) (omega (arith, k.small, ap longest (take_all i ls h))))
    (ap Some (list_below_only (λ l. count l ls) 19 counts k.many (λ l b. k.counted l (omega arith) ∙ ap (count l) (take_all i ls h))))

-- element l is how many symbols have length l
pub counts_at : (ls : List ℕ) (l : ℕ) → l ≤ 18 → get_or (counts_of ls) l 0 ≡ count l ls
unfolding counts_of
counts_at ls l h = get_or-below (λ k. count k ls) 19 l (omega arith)
