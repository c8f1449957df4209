-- A row function's two parts, the store in column 0 and the loop after it, make its row; and which loop a predictor's number
-- names. Document 01, "Prediction, slice by slice". Assumes nothing.
use mathlib.Core.Path.{◌≡◌, ◌∙◌}
use mathlib.Core.List.{List}
use Prim.Native.Nat.{ℕ, ◌+◌, ◌-◌, ◌%◌, ◌^◌, ◌≤◌, ◌<◌}
use borrow.Author.Tests.{lt-ltb, le-ltb}
use lib.ListN.{get_or, set}
use Rattle.scope.specs.Base.{Step}
use Rattle.scope.specs.Prediction.{predictor, gradient, median, clamp_median, t87_median}
use Rattle.memory.specs.Loop.{swept}
use Rattle.memory.proofs.InPlace.{swept_same}
use Rattle.rows.specs.Rows.{leftward, across, row_from, top_row, later_row, row}
use Rattle.rows.proofs.Formulas.{by_left, by_gradient, by_median, by_clamp, by_t87}

module _ (depth : ℕ) (s ys : List ℕ) (start end v : ℕ) where
  -- one of the first f rows
  pub first_made : v ≡ (get_or s start 0 + 0) % 2 ^ depth → ys ≡ swept (leftward depth) (set s start v) (start + 1) (end - (start + 1))
      → ys ≡ top_row depth s start end
  unfolding row_from
  first_made e k = rw e at k

  module _ (kind back : ℕ) (e : v ≡ (get_or s start 0 + get_or s (start - back) 0) % 2 ^ depth) where
    later_made : (step : Step) → ((i : ℕ) (p : List ℕ) (x : ℕ) → step i p x ≡ across depth (predictor depth kind) back i p x)
        → ys ≡ swept step (set s start v) (start + 1) (end - (start + 1)) → ys ≡ later_row depth kind back s start end
    unfolding row_from
    later_made step same k =
        rw e at
        (k ∙ swept_same (across depth (predictor depth kind) back) step same (set s start v) (start + 1) (end - (start + 1)))

    -- a later row by Left
    pub left_made : kind ≡ 1 → ys ≡ swept (leftward depth) (set s start v) (start + 1) (end - (start + 1))
        → ys ≡ later_row depth kind back s start end
    left_made h = later_made (leftward depth) (λ i p x. rw (by_left depth kind _ _ _ h))

    -- by Gradient
    pub gradient_made : kind ≡ 2 → ys ≡ swept (across depth (gradient depth) back) (set s start v) (start + 1) (end - (start + 1))
        → ys ≡ later_row depth kind back s start end
    gradient_made h = later_made (across depth (gradient depth) back) (λ i p x. rw (by_gradient depth kind _ _ _ h))

    -- by the Median
    pub median_made : (kind ≡ 1 → ⊥) → (kind ≡ 2 → ⊥) → ys ≡ swept (across depth (median depth) back) (set s start v) (start + 1) (end - (start + 1))
        → ys ≡ later_row depth kind back s start end
    median_made h k = later_made (across depth (median depth) back) (λ i p x. rw (by_median depth kind _ _ _ h k))

-- ---- a sweep by the median of a width is one by the median of its depth
pub clamp_swept : (depth back : ℕ) (s ys : List ℕ) (a n : ℕ) → depth ≡ 8 → ys ≡ swept (across 8 (clamp_median 8) back) s a n
    → ys ≡ swept (across depth (median depth) back) s a n
clamp_swept depth back s ys a n d e =
    rw d (e ∙ swept_same (across 8 (median 8) back) (across 8 (clamp_median 8) back) (λ i p x. rw (by_clamp _ _ _)) s a n)

pub t87_swept : (depth back : ℕ) (s ys : List ℕ) (a n : ℕ) → 8 < depth → ys ≡ swept (across depth t87_median back) s a n
    → ys ≡ swept (across depth (median depth) back) s a n
t87_swept depth back s ys a n d e =
    e ∙ swept_same (across depth (median depth) back) (across depth t87_median back) (λ i p x. rw (by_t87 depth _ _ _ d)) s a n

-- a row among the first f
pub row_first : (depth kind back : ℕ) (s ys : List ℕ) (start end : ℕ) → start < back → ys ≡ top_row depth s start end
    → ys ≡ row depth kind back s start end
unfolding row
row_first depth kind back s ys start end h e = simp (lt-ltb start back h) e

-- a later row
pub row_later : (depth kind back : ℕ) (s ys : List ℕ) (start end : ℕ) → back ≤ start → ys ≡ later_row depth kind back s start end
    → ys ≡ row depth kind back s start end
unfolding row
row_later depth kind back s ys start end h e = simp (le-ltb start back h) e
