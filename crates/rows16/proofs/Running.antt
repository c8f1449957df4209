-- The loops that carry, in place of the sample to the left, a running sum that wraps at 16 bits: a turn, and that the sum is the
-- sample last stored, modulo 2^depth. Document 01, "All sums are modulo 2^depth". Assumes nothing.
use Rattle.std.proofs.Common.{◌≡◌, ℕ, ◌+◌, ◌-◌, ◌%◌, ◌^◌, ◌<◌, ◌≤◌, List, length, get_or, set, sym, refl, ap, ◌∙◌, add-zero, arith, pow_mono, rules}
use native.Mathlib.Nat.{add-mod-mod, add-mod_right, mod-mod}
use Rattle.scope.specs.Prediction.{gradient}
use Rattle.memory.specs.Loop.{swept}
use Rattle.memory.proofs.InPlace.{Sweep, sweep_start, sweep_end}
use Rattle.memory.proofs.Wrapped.{stored_sum}
use Rattle.rows.specs.Rows.{leftward, across, Above}
use Rattle.rows.proofs.Formulas.{gradient-sum}
use Rattle.rows.proofs.Across.{left_step, across_sum_step, left_next, topleft_next, topleft_below, above_set}

-- after a turn the sum stands for the sample stored
pub running_next : (depth : ℕ) (s : List ℕ) (i end w v : ℕ) → i < end → end ≤ length s → v ≡ (w + 0) % 2 ^ depth
    → w % 2 ^ depth ≡ get_or (set s i v) (i + 1 - 1) 0 % 2 ^ depth
running_next depth s i end w v h k e =
    let stored : v ≡ w % 2 ^ depth = e ∙ ap (λ (x : ℕ). x % 2 ^ depth) (add-zero w) in
    sym (mod-mod w (2 ^ depth)) ∙ ap (λ (x : ℕ). x % 2 ^ depth) (sym stored ∙ left_next s i v end h k)

-- a turn of the loop that adds left
pub left_turn : (depth : ℕ) (s₀ s : List ℕ) (a i end sum w v : ℕ) → Sweep (leftward depth) s₀ s a i end → i < end → 0 < i
    → depth ≤ 16 → sum % 2 ^ depth ≡ get_or s (i - 1) 0 % 2 ^ depth → w ≡ (get_or s i 0 + sum) % 2 ^ 16
    → v ≡ (w + 0) % 2 ^ depth → Sweep (leftward depth) s₀ (set s i v) a (i + 1) end
left_turn depth s₀ s a i end sum w v sweep h p d same ew ev =
    left_step depth s₀ s a i end (get_or s (i - 1) 0) v sweep h p refl
    (stored_sum depth sum (get_or s (i - 1) 0) (get_or s i 0) w v d same ew ev)

-- ---- the gradient of 16 bits

-- a sample below 2^depth has 16 bits
sample_fits : (depth c : ℕ) → c < 2 ^ depth → depth ≤ 16 → c < 2 ^ 16
sample_fits depth c h d =
    let cap : 2 ^ depth ≤ 2 ^ 16 = pow_mono {j = 16} d in
    omega arith

-- what is stored of a residue and the gradient of 16 bits
stored_gradient : (depth sum left x t c w v : ℕ) → depth ≤ 16 → sum % 2 ^ depth ≡ left % 2 ^ depth → c < 2 ^ depth
    → w ≡ (x + gradient 16 sum t c) % 2 ^ 16 → v ≡ (w + 0) % 2 ^ depth → v ≡ (x + gradient depth left t c) % 2 ^ depth
unfolding gradient
stored_gradient depth sum left x t c w v d same h ew ev =
    let k : c < 2 ^ 16 = sample_fits depth c h d in
    let p : x + (sum + t + (2 ^ 16 - c)) ≡ x + t + (2 ^ 16 - c) + sum = omega arith in
    let q : x + t + (2 ^ 16 - c) + c ≡ x + t + 2 ^ 16 = omega arith in
    gradient-sum depth x left t c ((x + t) % 2 ^ 16) (x + t + (2 ^ 16 - c)) v refl
    (ap (λ (y : ℕ). y % 2 ^ 16) q ∙ add-mod_right (x + t) (2 ^ 16))
    (stored_sum depth sum left (x + t + (2 ^ 16 - c)) w v d same
    (ew ∙ add-mod-mod x (sum + t + (2 ^ 16 - c)) (2 ^ 16) ∙ ap (λ (y : ℕ). y % 2 ^ 16) p) ev)
    h d

-- what the loop that adds the gradient carries: the turns that are left, the running sum, and top-left
pub record Carried (depth back : ℕ) (s₀ s : List ℕ) (a i end sum topleft : ℕ) : Type 0 where
  pub sweep : Sweep (across depth (gradient depth) back) s₀ s a i end
  pub same : sum % 2 ^ depth ≡ get_or s (i - 1) 0 % 2 ^ depth
  pub corner : topleft ≡ get_or s (i - back - 1) 0
  pub above : Above depth back s a end
  pub from : a ≤ i

-- before the first turn
pub carried_start : (depth back : ℕ) (s : List ℕ) (a end : ℕ) → a ≤ end → Above depth back s a end
    → Carried depth back s s a a end (get_or s (a - 1) 0) (get_or s (a - back - 1) 0)
carried_start depth back s a end h b =
    record {
      sweep = sweep_start (across depth (gradient depth) back) s a end h;
      same = refl;
      corner = refl;
      above = b;
      from = omega arith;
    }

module _ (depth back : ℕ) (s₀ s : List ℕ) (a i end sum topleft : ℕ) (k : Carried depth back s₀ s a i end sum topleft) where
  -- top-left is one of the samples above
  below : i < end → back < i → topleft < 2 ^ depth
  below h q = topleft_below depth back s a i end topleft k.above k.from h q k.corner

  -- top-left has 16 bits
  pub carried_fits : i < end → back < i → depth ≤ 16 → topleft < 2 ^ 16
  carried_fits h q d = sample_fits depth topleft (below h q) d

  -- a turn
  pub carried_step : (w v : ℕ) → i < end → 0 < back → back < i → end ≤ length s → depth ≤ 16
      → w ≡ (get_or s i 0 + gradient 16 sum (get_or s (i - back) 0) topleft) % 2 ^ 16 → v ≡ (w + 0) % 2 ^ depth
      → Carried depth back s₀ (set s i v) a (i + 1) end w (get_or s (i - back) 0)
  carried_step w v h p q l d ew ev =
      record {
        sweep =
            across_sum_step depth (gradient depth) s₀ s a i end back (get_or s (i - 1) 0) topleft v k.sweep h p q refl k.corner
            (stored_gradient depth sum (get_or s (i - 1) 0) (get_or s i 0) (get_or s (i - back) 0) topleft w v d k.same
            (below h q) ew ev);
        same = running_next depth s i end w v h l ev;
        corner = topleft_next s i back v p q;
        above = above_set depth back s a end i (w + 0) v k.above ev;
        from = omega (arith, k.from);
      }

  -- after the last turn
  pub carried_end : end ≤ i → s ≡ swept (across depth (gradient depth) back) s₀ a (end - a)
  carried_end h = sweep_end (across depth (gradient depth) back) s₀ a end s i k.sweep h

-- what the answers of the loop that adds left search with
pub ruleset running = (sweep_start, sweep_end, running_next, left_turn, rules)

-- and those of the loop that adds the gradient
pub ruleset carrying = (carried_start, carried_step, carried_end, carried_fits, rules)
