-- Document 01, "One entry serves depth 8 (byte samples), one depths 10, 12 and 14 (16-bit samples).": the depths that an entry serves are
-- those of its width, as sample::Sample has them. Assumes nothing.
use Rattle.std.proofs.Common.{◌≡◌, ℕ, ◌<◌, ◌≤◌, true, arith}
use Rattle.scope.specs.Geometry.{depth_fits}
use Rattle.scope.specs.declared.Entry.TheVariants.{Eight, Deep}
use Rattle.incoming.proofs.Refused.{depth_shallow, depth_deep}

pub eight_served : (d : ℕ) → depth_fits Eight d ≡ true → d ≡ 8
eight_served d e = depth_shallow d e

pub deep_served : (d : ℕ) → depth_fits Deep d ≡ true → (8 < d) × (d ≤ 16)
deep_served d e = let h = depth_deep d e in (omega (arith, h), omega (arith, h))
