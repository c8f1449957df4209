-- The loop of `Listed::lend` of `u16`: each place so far has what is lent there (host/README.md, "The stored list"). Assumes nothing.
use Rattle.cases.proofs.Placing.{placed}
use Rattle.memory.proofs.InPlace.{At}
use Prim.Native.Nat.{◌*◌, ◌≤◌}
use lib.ListN.{length}
use mathlib.Core.Path.{◌≡◌}
use Rattle.cases.specs.Held.{flip_of, lent16}
use Rattle.cases.proofs.U16Listed.lend.Given as goal

abbrev pub invariant-loop-i : goal.invariant-loop-i
invariant-loop-i l = (l.flip ≡ flip_of l.number) × At (placed (lent16 l.after (flip_of l.number))) l.initial.planes l.planes l.i × (2 * length l.initial.planes ≤ length l.after)
