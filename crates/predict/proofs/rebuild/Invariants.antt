use Rattle.predict.proofs.Rebuilding.{Rebuilds}
use Rattle.predict.proofs.rebuild.Given as goal

abbrev pub invariant-loop-r : goal.invariant-loop-r
invariant-loop-r g l = let values = g.T.Sample.values in Rebuilds l.depth l.kind l.rows.width l.rows.pitch l.rows.count l.f (values l.initial.s) (values l.s) l.r
