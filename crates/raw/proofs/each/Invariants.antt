-- The loop of `raw::each`: so many samples are read, and the next stands there (document 01, "Layout"). Assumes nothing.
use lib.ListN.{length}
use Rattle.raw.proofs.Unpacking.{Each}
use Rattle.raw.proofs.each.Given as goal

abbrev pub invariant-loop-o : goal.invariant-loop-o
invariant-loop-o l =
    Each l.payload l.at l.depth (length l.fn.out) l.o-items l.p l.o-index
