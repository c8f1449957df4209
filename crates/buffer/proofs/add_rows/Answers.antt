-- `buffer::add_rows` meets its contract: the loop adds row after row. Assumes nothing.
use Rattle.planes.proofs.Adding.{adds_end}
use Rattle.buffer.proofs.Samples.{rows_none, rows_turn}
use Rattle.buffer.proofs.add_rows.Goals as goal

pub loop-r-init : goal.loop-r-init
loop-r-init g c = rows_none g.met.T.Sample.laws c.args.depth c.args.from c.args.to c.args.planes.now c.requires.apart

pub loop-r-preserved : goal.loop-r-preserved
loop-r-preserved g c =
    let a = c.args in
    let t = c.loop-r in
    rows_turn g.met.T.Sample.laws a.depth a.from a.to a.planes.now t.planes c.add.new.planes t.r t.invariant c.loop-r-test.true c.add.ensures c.add.auto.planes

pub returns : goal.returns
returns g c =
    let t = c.loop-r in
    adds_end c.args.depth c.args.from c.args.to _ _ t.r t.invariant c.loop-r-test.false
