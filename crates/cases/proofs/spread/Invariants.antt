-- The loop of `cases::spread`: each place so far has its length, and the next one stands in this run (host/README.md, "The stored list"). Assumes nothing.
use Rattle.cases.proofs.Placing.{placed}
use Rattle.memory.proofs.InPlace.{At}
use Prim.Native.Nat.{◌≤◌}
use mathlib.Core.Path.{◌≡◌}
use Rattle.cases.specs.Form.{run_at, length_at}
use Rattle.cases.proofs.spread.Given as goal

abbrev pub invariant-loop-i : goal.invariant-loop-i
invariant-loop-i l = At (placed (length_at l.runs)) l.initial.lengths l.lengths l.i × (l.k ≡ run_at l.runs l.i) × (l.k ≤ l.i)
