-- What the loop of `codes_of` keeps: the planes before p pass 9 and 10, and their codes are there (document 01, refusals 9 and 10). Assumes nothing.
use Rattle.tables.proofs.Weighing.{CodesBefore}
use Rattle.tables.proofs.codes_of.Given as goal

abbrev pub invariant-loop-p : goal.invariant-loop-p
invariant-loop-p l = CodesBefore l.g.of l.lengths l.c l.planes l.p
