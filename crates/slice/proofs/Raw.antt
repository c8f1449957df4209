-- The loop that reads raw samples row by row, each row into its own places, for every depth and element (document 01, "Layout": "Raw depth
-- 8 is one byte a sample; deeper raw samples are packed"). Assumes nothing.
use mathlib.Core.Path.{◌≡◌, ap, ◌∙◌}
use mathlib.Core.List.{List, ◌++◌}
use Prim.Native.Nat.{ℕ, ◌+◌, ◌-◌, ◌*◌, ◌≤◌, ◌<◌}
use native.Mathlib.Nat.{suc-mul, zero-mul, zero-add, mul-le-mul_right}
use native.Mathlib.Numerals.{add-one}
use native.Mathlib.Omega.{arith}
use borrow.Rule.Slice.PartMut.{put_mid}
use lib.ListN.{length, take, drop}
use Rattle.scope.specs.Bits.{raw_samples}
use Rattle.raw.specs.Raw.{raw_from, RawIn}
use Rattle.raw.proofs.Raw.{raw_none, raw_first, raw_resumes, raw_length}
use Rattle.views.specs.Places.{samples_at, rows_places, Rowed}
use Rattle.views.proofs.Filling.{Fills, fills_start, fills_end, lent_long, lent_back}

-- the samples of r rows are read
pub record RawRows (depth : ℕ) (payload : List ℕ) (w p h : ℕ) (s₀ s : List ℕ) (r : ℕ) : Type 0 where
  pub fills : Fills w p h s₀ s (raw_from depth payload 0 (r * w)) r
  pub asked : RawIn depth payload 0 (h * w)
  pub rowed : Rowed (length s₀) w p h

module _ (depth : ℕ) (payload : List ℕ) (w p h : ℕ) (s₀ : List ℕ) where
  -- before the first row
  pub raw_start : RawIn depth payload 0 (h * w) → Rowed (length s₀) w p h → RawRows depth payload w p h s₀ s₀ 0
  raw_start a ok = record { fills = rw (zero-mul, raw_none depth payload 0) (fills_start w p h s₀); asked = a; rowed = ok }

  module _ (s : List ℕ) (r : ℕ) (a : RawRows depth payload w p h s₀ s r) where
    module _ (k : r < h) where
      long : length (take (r * p + w - r * p) (drop (r * p) s)) ≡ w
      long = lent_long w p h s₀ s _ r a.fills a.rowed k

      row_asked : RawIn depth payload (r * w) w
      row_asked =
          let l : r * w + w ≤ 0 + h * w = omega (arith, mul-le-mul_right w k, suc-mul r w) in
          record { room = omega (arith, a.asked.room, mul-le-mul_right depth l); most = omega (arith, a.asked.most) }

      -- what the reading of a row asks
      pub raw_asked : RawIn depth payload (r * w) (length (take (r * p + w - r * p) (drop (r * p) s)))
      raw_asked = rw long row_asked

      -- a row was read
      pub raw_step : (ys : List ℕ) → ys ≡ raw_from depth payload (r * w) (length (take (r * p + w - r * p) (drop (r * p) s)))
          → RawRows depth payload w p h s₀ (put_mid (r * p) (r * p + w - r * p) s ys) (r + 1)
      raw_step ys e =
          let y : ys ≡ raw_from depth payload (r * w) w = rw long at e in
          let l : length ys ≡ w = ap length y ∙ raw_length depth payload (r * w) w row_asked in
          let next : (r + 1) * w ≡ r * w + w = ap (λ (n : ℕ). n * w) (add-one r) ∙ suc-mul r w in
          let all : raw_from depth payload 0 ((r + 1) * w) ≡ raw_from depth payload 0 (r * w) ++ ys = rw (next, y) (raw_resumes depth payload 0 (r * w) w ∙ rw (zero-add (r * w))) in
          record { fills = rw all (lent_back w p h s₀ s _ r a.fills a.rowed k ys l); asked = a.asked; rowed = a.rowed }

    -- all rows are read
    pub raw_end : h ≤ r → samples_at (rows_places w p h) s ≡ raw_samples depth payload (h * w)
    raw_end k =
        let last : r ≡ h = omega (arith, a.fills.within) in
        fills_end w p h s₀ s _ r a.fills a.rowed k ∙ ap (λ (n : ℕ). raw_from depth payload 0 (n * w)) last ∙ raw_first depth payload (h * w)
