-- The loop of `words::shortest_in`: no symbol has a length below (document 01, "Words and lookup"). Assumes nothing.
use Rattle.words.proofs.Ends.{Up}
use Rattle.words.proofs.shortest_in.Given as goal

abbrev pub invariant-loop-l : goal.invariant-loop-l
invariant-loop-l l = Up l.count l.l
