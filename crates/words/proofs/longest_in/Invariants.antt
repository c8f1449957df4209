-- The loop of `words::longest_in`: no symbol has a length above (document 01, "Words and lookup"). Assumes nothing.
use Rattle.words.proofs.Ends.{Down}
use Rattle.words.proofs.longest_in.Given as goal

abbrev pub invariant-loop-l : goal.invariant-loop-l
invariant-loop-l l = Down l.count l.l
