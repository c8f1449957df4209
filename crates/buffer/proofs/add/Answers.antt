-- `buffer::add` meets its contract: the loop rebuilds the buffer in place from `to` on. Assumes nothing.
use Rattle.std.proofs.Common.{arith}
use Rattle.buffer.proofs.Samples.{added_none, added_turn, added_all}
use Rattle.buffer.proofs.add.Goals as goal

pub loop-i-init : goal.loop-i-init
loop-i-init g c =
    let a = c.args in
    added_none g.met.T.Sample.laws a.depth a.from a.to a.n a.planes.now c.requires.n_bound.0 c.requires.n_bound.1

pub loop-i-preserved : goal.loop-i-preserved
loop-i-preserved g c =
    let a = c.args in
    let t = c.loop-i in
    added_turn g.met.T.Sample.laws a.depth a.from a.to a.n a.planes.now c.requires.n_bound.0 t.planes t.i _ _ _ t.invariant c.loop-i-test.true
    (omega (arith, c.requires.n_bound.1, t.auto.planes)) c.index-planes-to.is c.index-planes-from.is c.sum.ensures

pub returns : goal.returns
returns g c =
    let a = c.args in
    let t = c.loop-i in
    added_all g.met.T.Sample.laws a.depth a.from a.to a.n a.planes.now c.requires.n_bound.0 t.planes t.i t.invariant t.auto.i-end c.loop-i-test.false
    (omega (arith, c.requires.n_bound.1, t.auto.planes))
