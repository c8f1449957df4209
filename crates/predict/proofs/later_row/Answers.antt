-- `predict::later_row` meets its contract. Assumes nothing.
use Rattle.std.proofs.Common.{rules}
use Rattle.predict.proofs.Stored.{asked_stored, left_stored, gradient_stored, median_stored}
use Rattle.predict.proofs.later_row.Goals as goal

pub gradient_row-requires-clause-above : goal.gradient_row-requires-clause-above
gradient_row-requires-clause-above g c =
    let a = c.args in
    let r = c.requires.back_nonzero in
    asked_stored g.met.T.Sample.laws a.depth a.s.now a.start a.end c.index-s-start.result c.sum.result r.2 r.3 c.index-s-start.is
    a.kind a.back c.index-s-start-2.result c.index-s-start-2.is c.sum.ensures _ g.met.T.Predicted.asked_set c.requires.above

pub returns-in-1 : goal.returns-in-1
returns-in-1 g c =
    let a = c.args in
    let r = c.requires.back_nonzero in
    left_stored g.met.T.Sample.laws a.depth a.s.now a.start a.end c.index-s-start.result c.sum.result r.2 r.3 c.index-s-start.is
    a.kind a.back c.index-s-start-2.result c.index-s-start-2.is c.sum.ensures _ c.in-1.is c.left_row.ensures

pub returns-in-2 : goal.returns-in-2
returns-in-2 g c =
    let a = c.args in
    let r = c.requires.back_nonzero in
    gradient_stored g.met.T.Sample.laws a.depth a.s.now a.start a.end c.index-s-start.result c.sum.result r.2 r.3 c.index-s-start.is
    a.kind a.back c.index-s-start-2.result c.index-s-start-2.is c.sum.ensures _ c.in-2.is c.gradient_row.ensures

pub returns-in_default : goal.returns-in_default
returns-in_default g c =
    let a = c.args in
    let r = c.requires.back_nonzero in
    median_stored g.met.T.Sample.laws a.depth a.s.now a.start a.end c.index-s-start.result c.sum.result r.2 r.3 c.index-s-start.is
    a.kind a.back c.index-s-start-2.result c.index-s-start-2.is c.sum.ensures _ (search rules) (search rules) c.median_row.ensures
