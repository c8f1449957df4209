-- The functions of a row at any width of a sample: what column 0 stores, of the samples it reads, and the loop after it make the row of the
-- numbers. The laws of a row stand in rows, over numbers. Document 01, "Prediction, slice by slice". Assumes nothing.
use Rattle.std.proofs.Common.{◌≡◌, ℕ, ◌+◌, ◌-◌, ◌%◌, ◌^◌, ◌<◌, ◌≤◌, List, length, get_or, set, arith}
use Rattle.scope.specs.Base.{Step}
use Rattle.scope.specs.Prediction.{gradient, median}
use Rattle.memory.specs.Loop.{swept}
use Rattle.sample.specs.Values.{ValuesLaws}
use Rattle.sample.proofs.Values.{values-set, values-read}
use Rattle.rows.specs.Rows.{leftward, across, top_row, later_row}
use Rattle.rows.proofs.Parts.{first_made, left_made, gradient_made, median_made}

module _ {S : Type 0} {value : S → ℕ} {values : List S → List ℕ} (laws : ValuesLaws value values) (depth : ℕ) (s : List S) (start end : ℕ) (x v : S)
    (h : start < end) (k : end ≤ length s) (ex : x ≡ get_or s start x) where
  -- the loop went over the numbers with that of v stored
  on_numbers : (step : Step) (ys : List ℕ) → ys ≡ swept step (values (set s start v)) (start + 1) (end - (start + 1))
      → ys ≡ swept step (set (values s) start (value v)) (start + 1) (end - (start + 1))
  on_numbers step ys e = rw (values-set laws s start v) at e

  residue : value x ≡ get_or (values s) start 0
  residue = values-read laws s start x (omega arith) ex

  -- one of the first f rows
  pub first_stored : (z : S) (ys : List ℕ) → value z ≡ 0 → value v ≡ (value x + value z) % 2 ^ depth
      → ys ≡ swept (leftward depth) (values (set s start v)) (start + 1) (end - (start + 1)) → ys ≡ top_row depth (values s) start end
  first_stored z ys ez ev e =
      first_made depth (values s) ys start end (value v) (rw (residue, ez) at ev) (on_numbers (leftward depth) ys e)

  -- a later row
  module _ (kind back : ℕ) (y : S) (ey : y ≡ get_or s (start - back) y) (ev : value v ≡ (value x + value y) % 2 ^ depth) where
    column : value v ≡ (get_or (values s) start 0 + get_or (values s) (start - back) 0) % 2 ^ depth
    column = rw (residue, values-read laws s (start - back) y (omega arith) ey) at ev

    -- the row f up is as it was, but for what is stored: so what a width asks of it still holds
    pub asked_stored : (Asked : ℕ → ℕ → List ℕ → ℕ → ℕ → Type 0)
        → ((depth back : ℕ) (s : List ℕ) (start end i n v : ℕ) → Asked depth back s start end → v ≡ n % 2 ^ depth → Asked depth back (set s i v) start end)
        → Asked depth back (values s) (start + 1) end → Asked depth back (values (set s start v)) (start + 1) end
    asked_stored Asked asked_set b =
        rw (values-set laws s start v)
        (asked_set depth back (values s) (start + 1) end start (get_or (values s) start 0 + get_or (values s) (start - back) 0) (value v) b column)

    pub left_stored : (ys : List ℕ) → kind ≡ 1 → ys ≡ swept (leftward depth) (values (set s start v)) (start + 1) (end - (start + 1))
        → ys ≡ later_row depth kind back (values s) start end
    left_stored ys q e = left_made depth (values s) ys start end (value v) kind back column q (on_numbers (leftward depth) ys e)

    pub gradient_stored : (ys : List ℕ) → kind ≡ 2
        → ys ≡ swept (across depth (gradient depth) back) (values (set s start v)) (start + 1) (end - (start + 1))
        → ys ≡ later_row depth kind back (values s) start end
    gradient_stored ys q e =
        gradient_made depth (values s) ys start end (value v) kind back column q (on_numbers (across depth (gradient depth) back) ys e)

    pub median_stored : (ys : List ℕ) → (kind ≡ 1 → ⊥) → (kind ≡ 2 → ⊥)
        → ys ≡ swept (across depth (median depth) back) (values (set s start v)) (start + 1) (end - (start + 1))
        → ys ≡ later_row depth kind back (values s) start end
    median_stored ys q r e =
        median_made depth (values s) ys start end (value v) kind back column q r (on_numbers (across depth (median depth) back) ys e)
