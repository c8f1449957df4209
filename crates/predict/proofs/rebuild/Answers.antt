-- `predict::rebuild` meets its contract: the loop goes over the slice row after row. Assumes nothing.
use Rattle.std.proofs.Common.{refl}
use Rattle.predict.proofs.Rebuilding.{rebuilds_start, rebuilds_step, rebuilds_end, rebuilds_above}
use Rattle.predict.proofs.Samples.{values-rowed}
use Rattle.predict.proofs.rebuild.Goals as goal

pub loop-r-init : goal.loop-r-init
loop-r-init g c =
    let a = c.args in
    rebuilds_start a.depth a.kind a.rows.width a.rows.pitch a.rows.count a.f _

pub row-requires-clause-above : goal.row-requires-clause-above
row-requires-clause-above g c =
    let a = c.args in
    let t = c.loop-r in
    g.met.T.Predicted.asked_above _ _ _ _ _ (rebuilds_above a.depth a.kind a.rows.width a.rows.pitch a.rows.count a.f _ _ t.r t.invariant
    (values-rowed g.met.T.Sample.laws a.s.now a.rows.width a.rows.pitch a.rows.count c.requires.rowed) _ c.loop-r-test.true refl c.requires.f_nonzero.0)

pub loop-r-preserved : goal.loop-r-preserved
loop-r-preserved g c =
    let a = c.args in
    let t = c.loop-r in
    rebuilds_step a.depth a.kind a.rows.width a.rows.pitch a.rows.count a.f _ _ t.r t.invariant
    (values-rowed g.met.T.Sample.laws a.s.now a.rows.width a.rows.pitch a.rows.count c.requires.rowed) _ _ c.loop-r-test.true refl c.requires.f_nonzero.0 c.row.ensures

pub returns-clause-samples : goal.returns-clause-samples
returns-clause-samples g c =
    let a = c.args in
    let t = c.loop-r in
    rebuilds_end a.depth a.kind a.rows.width a.rows.pitch a.rows.count a.f _ _ t.r t.invariant
    (values-rowed g.met.T.Sample.laws a.s.now a.rows.width a.rows.pitch a.rows.count c.requires.rowed) c.loop-r-test.false
