-- What trait Sample asks of the depths of a width, at both widths. Assumes nothing.
use Rattle.std.specs.Prelude.{◌≡◌, ℕ, ◌^◌, ◌<◌, ◌≤◌}
use Rattle.std.proofs.Common.{arith}
use lib.Pow.{pow_mono}

pub eight_bound : (d : ℕ) → d ≡ 8 → d ≤ 16
eight_bound d h = omega arith

pub eight_fits : (d : ℕ) → d ≡ 8 → 2 ^ d ≤ 2 ^ 8
eight_fits d h = pow_mono {i = d} {j = 8} (omega arith)

pub deep_bound : (d : ℕ) → (8 < d) × (d ≤ 16) → d ≤ 16
deep_bound d h = h.1

pub deep_fits : (d : ℕ) → (8 < d) × (d ≤ 16) → 2 ^ d ≤ 2 ^ 16
deep_fits d h = pow_mono h.1
