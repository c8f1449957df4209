-- `buffer::clear` meets its contract: the loop rebuilds the slice in place, each sample as 0. Assumes nothing.
use Rattle.std.proofs.Common.{arith}
use Rattle.memory.specs.Sum.{cleared}
use Rattle.memory.proofs.InPlace.{at_start}
use Rattle.buffer.proofs.Samples.{cleared_turn, cleared_all}
use Rattle.buffer.proofs.clear.Goals as goal

pub loop-i-init : goal.loop-i-init
loop-i-init g c = at_start cleared _

pub loop-i-preserved : goal.loop-i-preserved
loop-i-preserved g c =
    let t = c.loop-i in
    cleared_turn g.met.T.Sample.laws _ t.samples t.i c.of.result t.invariant (omega (arith, c.loop-i-test.true, t.auto.samples)) c.of.ensures

pub returns : goal.returns
returns g c =
    let t = c.loop-i in
    cleared_all g.met.T.Sample.laws c.args.samples.now t.samples t.i t.invariant (omega (arith, c.loop-i-test.false, t.auto.samples))
