-- Rows with a pitch added to later rows do to the samples what one stretch added to another does; the gaps stay; and with no gaps it is
-- that. Document 01, "B and R are B'+G and R'+G modulo 2^depth". Assumes nothing.
use mathlib.Core.Path.{◌≡◌, refl, sym, ap, ◌∙◌}
use mathlib.Core.Bool.{Bool, true}
use mathlib.Core.List.{List}
use Prim.Native.Nat.{ℕ, zero, suc, ◌+◌, ◌*◌, ◌≤◌, ◌<◌}
use native.Mathlib.Nat.{suc-mul, zero-mul, mul-le-mul_right}
use native.Mathlib.Numerals.{add-one}
use native.Mathlib.Omega.{arith}
use lib.ListN.{length, replicate, length-replicate, take-append-drop}
use Rattle.scope.specs.Prediction as pred
use Rattle.scope.specs.Prediction.{plus}
use Rattle.lists.specs.Parts.{part, replaced}
use Rattle.lists.proofs.Parts.{length_part, part_before, part_after, put_keeps, put_more, part-add}
use Rattle.memory.proofs.Sums.{plus-length, plus-append}
use Rattle.views.specs.Places.{samples_at, gaps_at, rows_places}
use Rattle.views.specs.declared.Stretch.{Stretch}
use Rattle.views.proofs.Views.{samples_many, samples_all, gaps_all, many_all}
use Rattle.views.proofs.Windows.{Window, window-room, window_many, window_in, window-part, window_put, window_keeps, row_window, rows_all, rows_many, trues_window}
use Rattle.planes.specs.Adding.{added_row, added_rows, Apart}

-- ---- one stretch, and then the one after it

module _ (d : ℕ) (v : List ℕ) (i j m n : ℕ) (before : i + m + n ≤ j) (inside : j + m + n ≤ length v) where
  there : length (part v j m) ≡ m
  there = length_part v j m (omega arith)

  here : length (part v i m) ≡ m
  here = length_part v i m (omega arith)

  sum-length : length (plus d (part v j m) (part v i m)) ≡ m
  sum-length = plus-length d (part v j m) (part v i m) (there ∙ sym here) ∙ there

  sums_next : added_row d (i + m) (j + m) n (replaced v j m (plus d (part v j m) (part v i m))) ≡ replaced v j (m + n) (plus d (part v j (m + n)) (part v i (m + n)))
  sums_next =
      rw (
        part_after v (j + m) n j m (plus d (part v j m) (part v i m)) sum-length (omega arith) (omega arith),
        part_before v (i + m) n j m (plus d (part v j m) (part v i m)) (omega arith) (omega arith),
        put_more v j m n (plus d (part v j m) (part v i m)) (plus d (part v (j + m) n) (part v (i + m) n)) sum-length (omega arith),
        part-add v j m n,
        part-add v i m n,
        plus-append d (part v j m) (part v i m) (part v (j + m) n) (part v (i + m) n) (there ∙ sym here),
      )

-- ---- with a pitch

-- one row
module _ (d : ℕ) (places : List Bool) (w from i to j : ℕ) (wf : Window places from (replicate w true) i) (wt : Window places to (replicate w true) j) (s : List ℕ) (room : length places ≤ length s) where
  own : length (replicate w true) ≡ w
  own = length-replicate w true

  row_of : (a k : ℕ) → Window places a (replicate w true) k → (part (samples_at places s) k w ≡ part s a w) × (length (part s a w) ≡ w)
  row_of a k win =
      let l : length (part s a w) ≡ w = length_part s a w (omega (arith, window-room places a (replicate w true) k win, own)) in
      (rw (own, many_all w, samples_all w (part s a w) l) at (window-part places a (replicate w true) k win s room), l)

  sums : length (plus d (part s to w) (part s from w)) ≡ w
  sums =
      let a = row_of from i wf in
      let b = row_of to j wt in
      plus-length d (part s to w) (part s from w) (b.1 ∙ sym a.1) ∙ b.1

  row_samples : samples_at places (added_row d from to w s) ≡ added_row d i j w (samples_at places s)
  row_samples =
      let a : part (samples_at places s) i w ≡ part s from w = (row_of from i wf).0 in
      let b : part (samples_at places s) j w ≡ part s to w = (row_of to j wt).0 in
      rw (a, b)
      (rw (own, many_all w, samples_all w (plus d (part s to w) (part s from w)) sums) at
      (window_put places to (replicate w true) j wt s room (plus d (part s to w) (part s from w)) (sums ∙ sym own)))

  row_gaps : gaps_at places (added_row d from to w s) ≡ gaps_at places s
  row_gaps =
      rw own at
      (window_keeps places to (replicate w true) j wt s room (plus d (part s to w) (part s from w)) (sums ∙ sym own)
      (rw own (gaps_all w (plus d (part s to w) (part s from w)) sums ∙ sym (gaps_all w (part s to w) (row_of to j wt).1))))

  row_length : length (added_row d from to w s) ≡ length s
  row_length = put_keeps s to w (plus d (part s to w) (part s from w)) sums (omega (arith, window-room places to (replicate w true) j wt, own))

-- all rows
pub record Added (d : ℕ) (places : List Bool) (i j n : ℕ) (s₀ s : List ℕ) : Type 0 where
  pub samples : samples_at places s ≡ replaced (samples_at places s₀) j n (plus d (part (samples_at places s₀) j n) (part (samples_at places s₀) i n))
  pub gaps : gaps_at places s ≡ gaps_at places s₀
  pub same : length s ≡ length s₀

module _ (d : ℕ) (places : List Bool) (w fp tp h from i to j : ℕ) (lf : w ≤ fp) (lt : w ≤ tp)
    (wf : Window places from (rows_places w fp h) i) (wt : Window places to (rows_places w tp h) j) (apart : i + h * w ≤ j) (s : List ℕ) (room : length places ≤ length s) where
  fits : j + h * w ≤ length (samples_at places s)
  fits = omega (arith, samples_many places s room, window_many places to (rows_places w tp h) j wt, rows_many w tp h)

  pub added_rows_lem : (r : ℕ) → r ≤ h → Added d places i j (r * w) s (added_rows d from fp to tp w r s)
  unfolding added_rows pred.plus
  added_rows_lem zero l = record { samples = rw zero-mul (sym (take-append-drop j (samples_at places s))); gaps = refl; same = refl }
  added_rows_lem (suc r) l =
      let t : List ℕ = added_rows d from fp to tp w r s in
      let a : Added d places i j (r * w) s t = added_rows_lem r (omega arith) in
      let rf : Window places (from + r * fp) (replicate w true) (i + r * w) = window_in places from (rows_places w fp h) i wf (r * fp) (replicate w true) (r * w) (row_window w fp h r lf l) in
      let rt : Window places (to + r * tp) (replicate w true) (j + r * w) = window_in places to (rows_places w tp h) j wt (r * tp) (replicate w true) (r * w) (row_window w tp h r lt l) in
      let in_t : length places ≤ length t = omega (arith, a.same, room) in
      let more : r * w + w ≤ h * w = omega (arith, suc-mul r w, mul-le-mul_right w l) in
      record {
        samples = row_samples d places w (from + r * fp) (i + r * w) (to + r * tp) (j + r * w) rf rt t in_t
            ∙ rw (a.samples, suc-mul r w) (sums_next d (samples_at places s) i j (r * w) w (omega (arith, apart, more)) (omega (arith, fits, more)));
        gaps = row_gaps d places w (from + r * fp) (i + r * w) (to + r * tp) (j + r * w) rf rt t in_t ∙ a.gaps;
        same = row_length d places w (from + r * fp) (i + r * w) (to + r * tp) (j + r * w) rf rt t in_t ∙ a.same;
      }

-- ---- with no gaps

-- rows that stand one after another, added to others that do, are one stretch added to another
pub added-plain : (d w h from to : ℕ) (s : List ℕ) → from + h * w ≤ to → to + h * w ≤ length s
    → added_rows d from w to w w h s ≡ replaced s to (h * w) (plus d (part s to (h * w)) (part s from (h * w)))
added-plain d w h from to s l k =
    let all : List Bool = replicate (length s) true in
    let a : Added d all from to (h * w) s (added_rows d from w to w w h s) =
    added_rows_lem d all w w w h from from to to (omega arith) (omega arith)
    (rw (rows_all w h) (trues_window (length s) from (h * w) (omega arith)))
    (rw (rows_all w h) (trues_window (length s) to (h * w) k))
    l s (rw (length-replicate (length s) true) (omega arith)) h (omega arith)
    in
    rw (samples_all (length s) s refl, samples_all (length s) (added_rows d from w to w w h s) a.same) at a.samples

-- ---- the loop

-- it began with s₀, has added the rows before r, and now holds s
pub record AddsTo (d : ℕ) (from to : Stretch) (s₀ s : List ℕ) (r : ℕ) : Type 0 where
  pub so : s ≡ added_rows d from.at from.pitch to.at to.pitch to.width r s₀
  pub same : length s ≡ length s₀
  pub within : r ≤ to.rows
  pub apart : Apart (length s₀) from to

-- before the first row
pub adds_start : (d : ℕ) (from to : Stretch) (s₀ : List ℕ) → Apart (length s₀) from to → AddsTo d from to s₀ s₀ 0
unfolding added_rows
adds_start d from to s₀ ok = record { so = refl; same = refl; within = omega arith; apart = ok }

module _ (d : ℕ) (from to : Stretch) (s₀ s : List ℕ) (r : ℕ) (a : AddsTo d from to s₀ s r) where
  module _ (k : r < to.rows) where
    -- a row
    pub adds_step : (ys : List ℕ)
        → ys ≡ replaced s (to.at + r * to.pitch) to.width (plus d (part s (to.at + r * to.pitch) to.width) (part s (from.at + r * from.pitch) to.width))
        → length ys ≡ length s → AddsTo d from to s₀ ys (r + 1)
    unfolding added_rows
    adds_step ys e l = record { so = rw (add-one r, ← a.so) e; same = l ∙ a.same; within = omega arith; apart = a.apart }

  -- after the last row
  pub adds_end : to.rows ≤ r → s ≡ added_rows d from.at from.pitch to.at to.pitch to.width to.rows s₀
  adds_end k =
      let e : r ≡ to.rows = omega (arith, a.within) in
      a.so ∙ ap (λ (n : ℕ). added_rows d from.at from.pitch to.at to.pitch to.width n s₀) e
