-- The loop over a row past column 0, at any depth and by any predictor: a turn, and the two samples that it carries. Document
-- 01, "then the predictor of left, top (f rows up) and top-left". Assumes nothing.
use mathlib.Core.Path.{◌≡◌, refl, sym}
use mathlib.Core.List.{List}
use Prim.Native.Nat.{ℕ, ◌+◌, ◌-◌, ◌%◌, ◌^◌, ◌≤◌, ◌<◌}
use native.Mathlib.Nat.{mod-lt}
use native.Mathlib.Decide.{ℕ_discrete, dec_lt}
use native.Mathlib.Omega.{arith}
use borrow.Author.Rules.{rules}
use lib.ListN.{length, get_or, set, length-set, get_or-eq_default}
use lib.Pow.{pow_pos}
use lib.Seq.{get_or-take, get_or-set_same, get_or-set_other}
use Rattle.memory.proofs.InPlace.{Sweep, sweep_start, sweep_step, sweep_end}
use Rattle.rows.specs.Rows.{leftward, across, Above}

-- a turn of the loop that adds left
pub left_step : (depth : ℕ) (s₀ s : List ℕ) (a i end left v : ℕ) → Sweep (leftward depth) s₀ s a i end → i < end → 0 < i
    → left ≡ get_or s (i - 1) 0 → v ≡ (get_or s i 0 + left) % 2 ^ depth → Sweep (leftward depth) s₀ (set s i v) a (i + 1) end
left_step depth s₀ s a i end left v w h p el ev =
    let l : i - 1 < i = omega arith in
    sweep_step (leftward depth) s₀ a end s i w v h (rw (get_or-take i s (i - 1) 0 l, ← el) ev)

-- a turn of the loop that adds a predictor
pub across_step : (depth : ℕ) (predict : ℕ → ℕ → ℕ → ℕ) (s₀ s : List ℕ) (a i end back left topleft r v : ℕ)
    → Sweep (across depth predict back) s₀ s a i end → i < end → 0 < back → back < i → left ≡ get_or s (i - 1) 0
    → topleft ≡ get_or s (i - back - 1) 0 → r ≡ predict left (get_or s (i - back) 0) topleft
    → v ≡ (get_or s i 0 + r) % 2 ^ depth → Sweep (across depth predict back) s₀ (set s i v) a (i + 1) end
across_step depth predict s₀ s a i end back left topleft r v w h p q el et er ev =
    let x : i - 1 < i = omega arith in
    let y : i - back < i = omega arith in
    let z : i - back - 1 < i = omega arith in
    sweep_step (across depth predict back) s₀ a end s i w v h
    (rw (get_or-take i s (i - 1) 0 x, get_or-take i s (i - back) 0 y, get_or-take i s (i - back - 1) 0 z, ← el, ← et, ← er) ev)

-- the same where the prediction and the residue are summed at once
pub across_sum_step : (depth : ℕ) (predict : ℕ → ℕ → ℕ → ℕ) (s₀ s : List ℕ) (a i end back left topleft v : ℕ)
    → Sweep (across depth predict back) s₀ s a i end → i < end → 0 < back → back < i → left ≡ get_or s (i - 1) 0
    → topleft ≡ get_or s (i - back - 1) 0 → v ≡ (get_or s i 0 + predict left (get_or s (i - back) 0) topleft) % 2 ^ depth
    → Sweep (across depth predict back) s₀ (set s i v) a (i + 1) end
across_sum_step depth predict s₀ s a i end back left topleft v w h p q el et ev =
    across_step depth predict s₀ s a i end back left topleft (predict left (get_or s (i - back) 0) topleft) v w h p q el et refl ev

-- the sample stored is the next one's left
pub left_next : (s : List ℕ) (i v end : ℕ) → i < end → end ≤ length s → v ≡ get_or (set s i v) (i + 1 - 1) 0
left_next s i v end h k =
    let e : i + 1 - 1 ≡ i = omega arith in
    rw e (sym (get_or-set_same s i v 0 (omega arith)))

-- the sample above is the next one's top-left
pub topleft_next : (s : List ℕ) (i back v : ℕ) → 0 < back → back < i → get_or s (i - back) 0 ≡ get_or (set s i v) (i + 1 - back - 1) 0
topleft_next s i back v p q =
    let e : i + 1 - back - 1 ≡ i - back = omega arith in
    let n : i - back ≡ i → ⊥ = λ k. omega arith in
    rw e (sym (get_or-set_other s i (i - back) v 0 n))

-- ---- the row f up is below 2^depth, also while the row is made

-- a sum stored is below 2^depth
pub above_set : (depth back : ℕ) (s : List ℕ) (a end i n v : ℕ) → Above depth back s a end → v ≡ n % 2 ^ depth
    → Above depth back (set s i v) a end
above_set depth back s a end i n v b e = record { below = λ j h k. go j h k (ℕ_discrete j i) }
  where
    made : v < 2 ^ depth
    made = rw e (mod-lt n (pow_pos depth))

    here : Dec (i < length s) → get_or (set s i v) i 0 < 2 ^ depth
    here (yes l) = rw (get_or-set_same s i v 0 l) made
    here (no l) = rw (get_or-eq_default (set s i v) 0 {n = i} (simp length-set (omega arith))) (pow_pos depth)

    go : (j : ℕ) → a ≤ j + back + 1 → j + back < end → Dec (j ≡ i) → get_or (set s i v) j 0 < 2 ^ depth
    go j h k (yes q) = rw q (here (dec_lt i (length s)))
    go j h k (no q) = rw (get_or-set_other s i j v 0 q) (b.below j h k)

-- top-left is one of them
pub topleft_below : (depth back : ℕ) (s : List ℕ) (a i end topleft : ℕ) → Above depth back s a end → a ≤ i → i < end → back < i
    → topleft ≡ get_or s (i - back - 1) 0 → topleft < 2 ^ depth
topleft_below depth back s a i end topleft b h k q e = rw e (b.below (i - back - 1) (omega arith) (omega arith))

-- what the answers of a loop over a row search with
pub ruleset across_rows = (sweep_start, sweep_end, left_step, across_step, left_next, topleft_next, topleft_below, above_set, rules)
