use Rattle.memory.specs.Sum.{cleared}
use Rattle.memory.proofs.InPlace.{At}
use Rattle.buffer.proofs.clear.Given as goal

abbrev pub invariant-loop-i : goal.invariant-loop-i
invariant-loop-i g l = let values = g.T.Sample.values in At cleared (values l.initial.samples) (values l.samples) l.i
