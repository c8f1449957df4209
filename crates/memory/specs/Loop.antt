-- A loop as a function: what it makes of a list. Document 01 speaks of no loop; the laws in proofs/ and the contracts of row functions
-- do. Assumes nothing.
use Rattle.std.specs.Prelude.{ℕ, zero, suc, List, take, slice_index, slice_set}
use Rattle.scope.specs.Base.{Step}

-- the list s after the places i, i + 1, .. (n of them) were rebuilt in place, front to back, each by the step
unfoldable pub swept : Step → List ℕ → ℕ → ℕ → List ℕ
swept step s i zero = s
swept step s i (suc n) = swept step (slice_set s i (step i (take i s) (slice_index s i))) (suc i) n
