-- The loop over the rows of a slice with a pitch: its samples are made of its residues and stand in their places, and the gaps stay, at
-- any depth and by any predictor. Document 01, "Prediction, slice by slice". Assumes nothing.
use mathlib.Core.Path.{◌≡◌, refl, ap, ◌∙◌}
use mathlib.Core.List.{List}
use Prim.Native.Nat.{ℕ, suc, ◌+◌, ◌-◌, ◌*◌, ◌^◌, ◌≤◌, ◌<◌}
use native.Mathlib.Nat.{suc-mul, zero-mul, mul-le-mul_right}
use native.Mathlib.Decide.{dec_le}
use native.Mathlib.Numerals.{add-one}
use native.Mathlib.Omega.{arith}
use lib.ListN.{length, get_or}
use Rattle.scope.specs.Prediction.{samples_of}
use Rattle.rows.specs.Rows.{row, Above}
use Rattle.predict.proofs.Slice.{Rows, rows_start, rows_step, rows_end, rows_above}
use Rattle.views.specs.Places.{samples_at, gaps_at, rows_places, Rowed}
use Rattle.views.proofs.Views.{samples_many}
use Rattle.views.proofs.Windows.{rows_long, rows_many}
use Rattle.views.proofs.Elements.{row_get}
use Rattle.predict.proofs.Simulated.{Like, row_like, far}

-- it began with s₀, has made the rows before r, and now holds s
pub record Rebuilds (depth kind w p h f : ℕ) (s₀ s : List ℕ) (r : ℕ) : Type 0 where
  pub rows : Rows depth kind w f (samples_at (rows_places w p h) s₀) (samples_at (rows_places w p h) s) (r * w)
  pub gaps : gaps_at (rows_places w p h) s ≡ gaps_at (rows_places w p h) s₀
  pub same : length s ≡ length s₀
  pub within : r ≤ h

module _ (depth kind w p h f : ℕ) (s₀ : List ℕ) where
  -- before the first row
  pub rebuilds_start : Rebuilds depth kind w p h f s₀ s₀ 0
  rebuilds_start = record { rows = rw zero-mul (rows_start depth kind w f (samples_at (rows_places w p h) s₀)); gaps = refl; same = refl; within = omega arith }

  module _ (s : List ℕ) (r : ℕ) (a : Rebuilds depth kind w p h f s₀ s r) (ok : Rowed (length s₀) w p h) where
    many : length (samples_at (rows_places w p h) s) ≡ h * w
    many = samples_many (rows_places w p h) s (omega (arith, rows_long w p h ok.wide, ok.long, a.same)) ∙ rows_many w p h

    next : (r + 1) * w ≡ r * w + w
    next = ap (λ (n : ℕ). n * w) (add-one r) ∙ suc-mul r w

    -- a row
    pub rebuilds_step : (back : ℕ) (ys : List ℕ) → r < h → back ≡ f * p → 0 < f → ys ≡ row depth kind back s (r * p) (r * p + w) → Rebuilds depth kind w p h f s₀ ys (r + 1)
    rebuilds_step back ys k eb q e =
        let room : h * p ≤ length s = omega (arith, a.same, ok.long) in
        let t : Like (rows_places w p h) s₀ (row depth kind (f * p) s (r * p) (r * p + w)) (row depth kind (f * w) (samples_at (rows_places w p h) s) (r * w) (r * w + w)) =
        row_like w p h r ok.wide k depth kind f s₀ s (samples_at (rows_places w p h) s) ok.some q room (record { samples = refl; gaps = a.gaps; same = a.same })
        in
        let more : r * w + w ≤ h * w = omega (arith, suc-mul r w, mul-le-mul_right w k) in
        record {
          rows = rw (next, e, eb)
              (rows_step depth kind w f (samples_at (rows_places w p h) s₀) (samples_at (rows_places w p h) s) (r * w) a.rows (f * w) (r * w + w)
              ok.some refl (omega (arith, mul-le-mul_right w q, ok.some)) refl (omega (arith, many, more)) _ t.samples);
          gaps = rw (e, eb) t.gaps;
          same = rw (e, eb) t.same;
          within = omega arith;
        }

    -- after the last row
    pub rebuilds_end : h ≤ r → samples_at (rows_places w p h) s ≡ samples_of depth kind w f (samples_at (rows_places w p h) s₀)
    rebuilds_end k =
        let e : r ≡ h = omega (arith, a.within) in
        rows_end depth kind w f (samples_at (rows_places w p h) s₀) (samples_at (rows_places w p h) s) (r * w) a.rows (rw e (omega (arith, many)))

    -- what was made is below 2^depth, in the buffer too
    pub rebuilds_above : (back : ℕ) → r < h → back ≡ f * p → 0 < f → Above depth back s (r * p + 1) (r * p + w)
    rebuilds_above back k eb q = record { below = λ j l m. go j l m (dec_le f r) }
      where
        room : h * p ≤ length s
        room = omega (arith, a.same, ok.long)

        more : r * w + w ≤ h * w
        more = omega (arith, suc-mul r w, mul-le-mul_right w k)

        above : Above depth (f * w) (samples_at (rows_places w p h) s) (r * w + 1) (r * w + w)
        above =
            rows_above depth kind w f (samples_at (rows_places w p h) s₀) (samples_at (rows_places w p h) s) (r * w) a.rows (f * w) (r * w + w)
            ok.some refl (omega (arith, mul-le-mul_right w q, ok.some)) refl (omega (arith, many, more)) q

        -- j is column c of the row f up
        up : (j : ℕ) → f ≤ r → r * p + 1 ≤ j + back + 1 → j + back < r * p + w → get_or s j 0 < 2 ^ depth
        up j g l m =
            let e : j ≡ (r - f) * p + (j - (r - f) * p) = omega (arith, far r f p g, eb) in
            let c : j - (r - f) * p < w = omega (arith, far r f p g, eb) in
            rw e (rw (row_get w p h (r - f) (j - (r - f) * p) ok.wide (omega arith) c s room) at
            (above.below ((r - f) * w + (j - (r - f) * p)) (omega (arith, far r f w g)) (omega (arith, far r f w g, c))))

        lower : (f ≤ r → ⊥) → suc r ≤ f
        lower g = omega arith

        go : (j : ℕ) → r * p + 1 ≤ j + back + 1 → j + back < r * p + w → Dec (f ≤ r) → get_or s j 0 < 2 ^ depth
        go j l m (yes g) = up j g l m
        go j l m (no g) = absurd (omega (arith, eb, mul-le-mul_right p (lower g), suc-mul r p, ok.wide, m))
