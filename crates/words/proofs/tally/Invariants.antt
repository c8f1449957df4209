-- The loop of `words::tally`: the symbols so far are counted, and none has a length above 18 (document 01, "Words and lookup").
-- Assumes nothing.
use Rattle.words.proofs.Tallying.{Counted}
use Rattle.words.proofs.tally.Given as goal

abbrev pub invariant-loop-length : goal.invariant-loop-length
invariant-loop-length l = Counted l.lengths l.count l.length-index
