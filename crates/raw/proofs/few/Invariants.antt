-- The loop of `raw::few`: so many samples are cut out, and so many bits are behind (document 01, "Layout"). Assumes nothing.
use lib.ListN.{length}
use Rattle.raw.proofs.Unpacking.{Cutting}
use Rattle.raw.proofs.few.Given as goal

abbrev pub invariant-loop-o : goal.invariant-loop-o
invariant-loop-o l =
    Cutting l.payload l.at l.depth l.x (length l.fn.out) l.o-items l.end l.o-index
