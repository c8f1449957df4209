-- A slice, row after row, at any depth and by any predictor: a row function's list takes the loop over the whole slice from the
-- row's start to its end. Document 01, "Prediction, slice by slice". Assumes nothing.
use mathlib.Core.Path.{◌≡◌, ap, ◌∙◌}
use mathlib.Core.Bool.{cond}
use mathlib.Core.List.{List}
use Prim.Native.Nat.{ℕ, ◌+◌, ◌-◌, ◌*◌, ◌/◌, ◌%◌, ◌^◌, ◌≤◌, ◌<◌}
use native.Mathlib.Nat.{add-mul-mod_self_right, add-mod_right, mod-eq_of_lt, mod-lt, zero-mod, mod-add-div', lt_of_mul-lt-mul_right, mul-le-mul_right, suc-mul}
use native.Mathlib.Decide.{dec_lt}
use native.Mathlib.Omega.{arith}
use borrow.Author.Tests.{lt-ltb, le-ltb, eq-eqb, ne_eqb}
use lib.Dec.{ltb}
use lib.ListN.{length, get_or, take, set}
use lib.Pow.{pow_pos}
use lib.Seq.{get_or-take}
use Rattle.scope.specs.Base.{Step}
use Rattle.scope.specs.Prediction.{prediction, sample, samples_of, predictor}
use Rattle.memory.proofs.InPlace.{At, at_start, at_step, at_end, at_below, swept_at}
use Rattle.rows.specs.Rows.{leftward, across, row_from, top_row, later_row, row, Above}

-- ---- columns: a row starts at a place that the width divides

module _ (width start : ℕ) (e : start % width ≡ 0) where
  -- the places after it, within the row, have another column
  past_first : (j : ℕ) → start < j → j < start + width → j % width ≡ 0 → ⊥
  past_first j h k z =
      let c : start ≡ start / width * width = omega (arith, mod-add-div' start width) in
      let d : j ≡ j - start + start / width * width = omega arith in
      let m : j % width ≡ j - start =
      ap (λ (x : ℕ). x % width) d ∙ add-mul-mod_self_right (j - start) (start / width) width ∙ mod-eq_of_lt (omega arith) in
      omega arith

  -- a row that starts among the first f rows ends there too
  within_first : (f : ℕ) → start < f * width → start + width ≤ f * width
  within_first f h =
      let c : start ≡ start / width * width = omega (arith, mod-add-div' start width) in
      let l : start / width < f = lt_of_mul-lt-mul_right width (omega arith) in
      omega (arith, mul-le-mul_right width l, suc-mul (start / width) width)

-- ---- what the whole slice's step is at a place of a row, its tests decided

module _ (depth : ℕ) (predict : ℕ → ℕ → ℕ → ℕ) (width f i : ℕ) (before : List ℕ) (x : ℕ) where
  -- column 0 of the first f rows
  first_start : i < f * width → i % width ≡ 0 → (x + 0) % 2 ^ depth ≡ sample depth predict width f i before x
  unfolding sample prediction
  first_start h e = simp (lt-ltb i (f * width) h, eq-eqb (i % width) 0 e)

  -- the other columns there
  first_across : i < f * width → (i % width ≡ 0 → ⊥) → leftward depth i before x ≡ sample depth predict width f i before x
  unfolding sample prediction
  first_across h e = simp (lt-ltb i (f * width) h, ne_eqb (i % width) 0 e)

  -- column 0 of a later row
  later_start : f * width ≤ i → i % width ≡ 0
      → (x + get_or before (i - f * width) 0) % 2 ^ depth ≡ sample depth predict width f i before x
  unfolding sample prediction
  later_start h e = simp (le-ltb i (f * width) h, eq-eqb (i % width) 0 e)

  -- the other columns there
  later_across : f * width ≤ i → (i % width ≡ 0 → ⊥)
      → across depth predict (f * width) i before x ≡ sample depth predict width f i before x
  unfolding sample prediction
  later_across h e = simp (le-ltb i (f * width) h, ne_eqb (i % width) 0 e)

-- ---- a row takes the loop over the slice from its start to its end

row_at : (step other : Step) (depth above : ℕ) (xs s : List ℕ) (start end : ℕ) → At step xs s start → start < end → end ≤ length s
    → (get_or s start 0 + above) % 2 ^ depth ≡ step start (take start s) (get_or s start 0)
    → ((j : ℕ) (p : List ℕ) (x : ℕ) → start < j → j < end → other j p x ≡ step j p x)
    → At step xs (row_from depth above other s start end) end
unfolding row_from
row_at step other depth above xs s start end a h k e same =
    let q : start + 1 + (end - (start + 1)) ≡ end = omega arith in
    rw q at
    (swept_at step other xs (set s start ((get_or s start 0 + above) % 2 ^ depth)) (start + 1) (end - (start + 1))
    (at_step step xs s start a _ (omega arith) e) (omega (arith, a.same))
    (λ j p x l m. same j p x (omega arith) (omega arith)))

module _ (depth : ℕ) (predict : ℕ → ℕ → ℕ → ℕ) (width f : ℕ) (xs s : List ℕ) (start end : ℕ)
    (a : At (sample depth predict width f) xs s start) (e : start % width ≡ 0) (h : start < end) (k : end ≤ length s)
    (m : end ≤ start + width) where
  first_row_at : start < f * width → At (sample depth predict width f) xs (row_from depth 0 (leftward depth) s start end) end
  first_row_at l =
      let n : start + width ≤ f * width = within_first width start e f l in
      row_at (sample depth predict width f) (leftward depth) depth 0 xs s start end a h k
      (first_start depth predict width f start (take start s) (get_or s start 0) l e)
      (λ j p x b c. first_across depth predict width f j p x (omega arith) (past_first width start e j b (omega arith)))

  later_row_at : 0 < f * width → f * width ≤ start
      → At (sample depth predict width f) xs (row_from depth (get_or s (start - f * width) 0) (across depth predict (f * width)) s start end) end
  later_row_at p l =
      let n : start - f * width < start = omega arith in
      row_at (sample depth predict width f) (across depth predict (f * width)) depth (get_or s (start - f * width) 0) xs s start end a h k
      (rw (← get_or-take start s (start - f * width) 0 n)
      (later_start depth predict width f start (take start s) (get_or s start 0) l e))
      (λ j p x b c. later_across depth predict width f j p x (omega arith) (past_first width start e j b (omega arith)))

-- ---- the loop over the rows

-- it began with xs, has made the samples before `start`, where a row starts, and now holds s
pub record Rows (depth kind width f : ℕ) (xs s : List ℕ) (start : ℕ) : Type 0 where
  pub made : At (sample depth (predictor depth kind) width f) xs s start
  pub column : start % width ≡ 0

module _ (depth kind width f : ℕ) (xs : List ℕ) where
  -- before the first row
  pub rows_start : Rows depth kind width f xs xs 0
  rows_start = record { made = at_start (sample depth (predictor depth kind) width f) xs; column = zero-mod width }

  module _ (s : List ℕ) (start : ℕ) (r : Rows depth kind width f xs s start) where
    -- after the last row
    pub rows_end : length s ≤ start → s ≡ samples_of depth kind width f xs
    unfolding samples_of
    rows_end h = at_end (sample depth (predictor depth kind) width f) xs s start r.made h

    module _ (back end : ℕ) (q : 0 < width) (eb : back ≡ f * width) (p : 0 < back) (ee : end ≡ start + width) (h : end ≤ length s)
      where
        -- a row
        pub rows_step : (ys : List ℕ) → ys ≡ row depth kind back s start end → Rows depth kind width f xs ys end
        unfolding row
        rows_step ys k =
            record {
              made = rw k (go (dec_lt start back));
              column = rw ee (add-mod_right start width ∙ r.column);
            }
          where
            go : Dec (start < back)
                → At (sample depth (predictor depth kind) width f) xs
                (cond (ltb start back) (top_row depth s start end) (later_row depth kind back s start end)) end
            go (yes l) =
                rw (lt-ltb start back l)
                (first_row_at depth (predictor depth kind) width f xs s start end r.made r.column (omega arith) (omega arith)
                (omega arith) (rw eb at l))
            go (no l) =
                let m : back ≤ start = omega arith in
                rw (le-ltb start back m, eb)
                (later_row_at depth (predictor depth kind) width f xs s start end r.made r.column (omega arith) (omega arith)
                (omega arith) (rw eb at p) (rw eb at m))

        -- what was made is below 2^depth
        pub rows_above : 0 < f → Above depth back s (start + 1) end
        unfolding sample
        rows_above o =
            record {
              below = λ j l m.
                  at_below (sample depth (predictor depth kind) width f) (2 ^ depth) (λ i b x. mod-lt _ (pow_pos depth)) xs s start
                  r.made j (omega (arith, mul-le-mul_right width o));
            }
