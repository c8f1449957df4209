-- What the loop of `build_all` keeps: the tables of the planes before p stand in the workspace (document 01, "Words and lookup"). Assumes nothing.
use Rattle.tables.proofs.Laying.{LaidBefore}
use Rattle.tables.proofs.build_all.Given as goal

abbrev pub invariant-loop-p : goal.invariant-loop-p
invariant-loop-p l = LaidBefore l.g.of l.lengths l.initial.workspace l.workspace l.planes l.p
