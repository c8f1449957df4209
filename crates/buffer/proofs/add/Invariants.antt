use Rattle.std.proofs.Common.{◌+◌}
use Rattle.memory.specs.Sum.{added}
use Rattle.memory.proofs.InPlace.{At}
use Rattle.buffer.proofs.add.Given as goal

abbrev pub invariant-loop-i : goal.invariant-loop-i
invariant-loop-i g l = let values = g.T.Sample.values in At (added l.depth l.from l.to) (values l.initial.planes) (values l.planes) (l.to + l.i)
