-- The loop that reads raw samples row by row (document 01, "Layout"): what Raw says of numbers, said of the numbers of a list of samples
-- (`values` of sample). Assumes nothing.
use Rattle.std.proofs.Common.{◌≡◌, sym, ap, ◌∙◌, ℕ, ◌+◌, ◌-◌, ◌*◌, ◌<◌, List, length, take, drop, rules}
use mathlib.Core.Path.{subst}
use borrow.Rule.Slice.PartMut.{put_mid}
use Rattle.views.specs.Places.{Rowed}
use Rattle.sample.specs.Values.{ValuesLaws}
use Rattle.sample.proofs.Values.{values-length}
use Rattle.sample.proofs.More.{values-put_mid, values-mid}
use Rattle.raw.specs.Raw.{raw_from, RawIn}
use Rattle.slice.proofs.Raw.{RawRows, raw_start, raw_asked, raw_step, raw_end}

module _ {S : Type 0} {value : S → ℕ} {values : List S → List ℕ} (laws : ValuesLaws value values) (depth : ℕ) (payload : List ℕ) (w p h : ℕ) (s₀ : List S) where
  -- before the first row
  pub samples_start : RawIn depth payload 0 (h * w) → Rowed (length s₀) w p h → RawRows depth payload w p h (values s₀) (values s₀) 0
  samples_start a ok = raw_start depth payload w p h (values s₀) a (rw (values-length laws s₀) ok)

  module _ (s : List S) (r : ℕ) (a : RawRows depth payload w p h (values s₀) (values s) r) where
    module _ (k : r < h) where
      mid : length (take (r * p + w - r * p) (drop (r * p) (values s))) ≡ length (take (r * p + w - r * p) (drop (r * p) s))
      mid = values-mid laws (r * p) (r * p + w - r * p) s

      -- what the reading of a row asks
      pub samples_asked : RawIn depth payload (r * w) (length (take (r * p + w - r * p) (drop (r * p) s)))
      samples_asked = rw mid at (raw_asked depth payload w p h (values s₀) (values s) r a k)

      -- a row was read
      pub samples_step : (out : List S) → values out ≡ raw_from depth payload (r * w) (length (take (r * p + w - r * p) (drop (r * p) s)))
          → RawRows depth payload w p h (values s₀) (values (put_mid (r * p) (r * p + w - r * p) s out)) (r + 1)
      samples_step out e =
          subst (λ (xs : List ℕ). RawRows depth payload w p h (values s₀) xs (r + 1)) (sym (values-put_mid laws (r * p) (r * p + w - r * p) s out))
          (raw_step depth payload w p h (values s₀) (values s) r a k (values out) (e ∙ ap (raw_from depth payload (r * w)) (sym mid)))

pub ruleset raw_rows = (raw_end, rules)
