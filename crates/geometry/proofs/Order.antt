-- Stretches that lie one after another in a buffer, in an order of their own (document 01, "Planes lie one after another with no
-- gaps"): each lies within the buffer, and two of them do not meet. No geometry here. Assumes nothing.
use mathlib.Core.Path.{◌≡◌}
use Prim.Native.Nat.{ℕ, ◌+◌, ◌≤◌, ◌<◌}
use native.Mathlib.Omega.{arith}
use Rattle.scope.specs.Base.{sum_below}
use Rattle.lists.proofs.Sums.{sum_next}

-- an order of P stretches: number p goes to the place σ p, and is as large as the one that the place would have by itself
pub record Order (P : ℕ) (σ size : ℕ → ℕ) : Type 0 where
  pub back : (p : ℕ) → p < P → σ (σ p) ≡ p
  pub among : (p : ℕ) → p < P → σ p < P
  pub alike : (p : ℕ) → p < P → size (σ p) ≡ size p

-- stretch p lies within them all
pub stretch_in : (P : ℕ) (σ size : ℕ → ℕ) → Order P σ size → (p : ℕ) → p < P → sum_below (σ p) size + size p ≤ sum_below P size
stretch_in P σ size o p h = omega (arith, sum_next size (σ p) P (o.among p h), o.alike p h)
