-- The loops over samples are the loops over their numbers: a turn that stores a sample stores its number, and a sample that is read is read
-- as its number. The loops over numbers stand in memory/proofs. Document 01, "leave both wholly zero" and "B and R are B'+G and R'+G
-- modulo 2^depth". Assumes nothing.
use Rattle.std.proofs.Common.{◌≡◌, ℕ, ◌+◌, ◌*◌, ◌%◌, ◌^◌, ◌<◌, ◌≤◌, List, length, get_or, set, replicate, sym, ◌∙◌, arith}
use Rattle.sample.specs.Values.{ValuesLaws}
use Rattle.sample.proofs.Values.{values-length, values-set, values-read}
use Rattle.lists.specs.Parts.{part, replaced}
use Rattle.scope.specs.Prediction.{plus}
use Rattle.memory.specs.Sum.{cleared, added}
use Rattle.memory.proofs.InPlace.{At, at_step}
use Rattle.memory.proofs.Clearing.{clear_end}
use Rattle.memory.proofs.Sums.{add_start, add_step, add_end}
use Rattle.views.specs.declared.Stretch.{Stretch}
use Rattle.planes.specs.Adding.{Apart}
use Rattle.planes.proofs.Adding.{AddsTo, adds_start, adds_step}

module _ {S : Type 0} {value : S → ℕ} {values : List S → List ℕ} (laws : ValuesLaws value values) where
  -- ---- the loop that clears

  pub cleared_turn : (xs s : List S) (i : ℕ) (x : S) → At cleared (values xs) (values s) i → i < length s → value x ≡ 0
      → At cleared (values xs) (values (set s i x)) (i + 1)
  cleared_turn xs s i x a l e =
      rw (values-set laws s i x) (at_step cleared (values xs) (values s) i a (value x) (omega (arith, values-length laws s)) e)

  pub cleared_all : (xs s : List S) (i : ℕ) → At cleared (values xs) (values s) i → length s ≤ i → values s ≡ replicate (length (values xs)) 0
  cleared_all xs s i a l = clear_end (values xs) (values s) i a (omega (arith, values-length laws s))

  -- ---- the loop that adds one stretch to a later one

  module _ (depth from to n : ℕ) (xs : List S) (apart : from + n ≤ to) where
    pub added_none : to + n ≤ length xs → At (added depth from to) (values xs) (values xs) (to + 0)
    added_none h = add_start depth from to n (values xs) (omega (arith, values-length laws xs))

    pub added_turn : (s : List S) (i : ℕ) (x y z : S) → At (added depth from to) (values xs) (values s) (to + i) → i < n
        → to + n ≤ length s → x ≡ get_or s (to + i) x → y ≡ get_or s (from + i) y → value z ≡ (value x + value y) % 2 ^ depth
        → At (added depth from to) (values xs) (values (set s (to + i) z)) (to + (i + 1))
    added_turn s i x y z a h k ex ey ez =
        let nx : value x ≡ get_or (values s) (to + i) 0 = values-read laws s (to + i) x (omega arith) ex in
        let ny : value y ≡ get_or (values s) (from + i) 0 = values-read laws s (from + i) y (omega arith) ey in
        rw (values-set laws s (to + i) z)
        (add_step depth from to n (values xs) (values s) i (value z) a h apart (omega (arith, values-length laws s)) (rw (← nx, ← ny) ez))

    pub added_all : (s : List S) (i : ℕ) → At (added depth from to) (values xs) (values s) (to + i) → i ≤ n → n ≤ i → to + n ≤ length s
        → values s ≡ replaced (values xs) to n (plus depth (part (values xs) to n) (part (values xs) from n))
    added_all s i a h k l = add_end depth from to n (values xs) (values s) i a h k apart (omega (arith, values-length laws s))

  -- ---- the loop that adds rows to later rows

  module _ (depth : ℕ) (from to : Stretch) (xs : List S) where
    pub rows_none : Apart (length xs) from to → AddsTo depth from to (values xs) (values xs) 0
    rows_none ok = adds_start depth from to (values xs) (rw (values-length laws xs) ok)

    pub rows_turn : (s ys : List S) (r : ℕ) → AddsTo depth from to (values xs) (values s) r → r < to.rows
        → values ys ≡ replaced (values s) (to.at + r * to.pitch) to.width (plus depth (part (values s) (to.at + r * to.pitch) to.width) (part (values s) (from.at + r * from.pitch) to.width))
        → length ys ≡ length s → AddsTo depth from to (values xs) (values ys) (r + 1)
    rows_turn s ys r a h e l = adds_step depth from to (values xs) (values s) r a h (values ys) e (values-length laws ys ∙ l ∙ sym (values-length laws s))
