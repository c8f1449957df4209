-- The loop of `raw::groups`: so many samples are read, some at a time (document 01, "Layout"). Assumes nothing.
use Prim.Native.Nat.{◌-◌}
use lib.ListN.{length}
use Rattle.raw.proofs.Unpacking.{Grouping}
use Rattle.raw.proofs.groups.Given as goal

abbrev pub invariant-loop-out : goal.invariant-loop-out
invariant-loop-out l =
    Grouping l.payload l.at l.depth (length l.initial.out) l.g l.out l.p l.k

abbrev pub decreases-loop-out : goal.decreases-loop-out
decreases-loop-out l = length l.initial.out - l.k
