-- The loop of `memory::clear_u32`: the words before place i are 0. Assumes nothing.
use Rattle.memory.specs.Sum.{cleared}
use Rattle.memory.proofs.InPlace.{At}
use Rattle.memory.proofs.clear_u32.Given as goal

abbrev pub invariant-loop-i : goal.invariant-loop-i
invariant-loop-i l = At cleared l.initial.words l.words l.i
