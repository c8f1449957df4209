-- The loop of `words::first_words`: the lengths above are passed (document 01, "Words and lookup"). Assumes nothing.
use Rattle.words.proofs.Walking.{Walks}
use Rattle.words.proofs.first_words.Given as goal

abbrev pub invariant-loop-l : goal.invariant-loop-l
invariant-loop-l l = Walks l.count l.m l.at l.a l.l
