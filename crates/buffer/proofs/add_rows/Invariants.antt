use Rattle.planes.proofs.Adding.{AddsTo}
use Rattle.buffer.proofs.add_rows.Given as goal

abbrev pub invariant-loop-r : goal.invariant-loop-r
invariant-loop-r g l = let values = g.T.Sample.values in AddsTo l.depth l.from l.to (values l.initial.planes) (values l.planes) l.r
