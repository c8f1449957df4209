-- `longest_in` gives the longest length from the counts (document 01, "Words and lookup").
use Rattle.words.proofs.Ends.{down_found, down_step, down_end}
use Rattle.std.proofs.Common.{rules}
use Rattle.words.proofs.longest_in.Goals as goal

pub returns-then-count-l-gt0 : goal.returns-then-count-l-gt0
returns-then-count-l-gt0 c = (search down_found, search rules)

pub loop-l-preserved : goal.loop-l-preserved
loop-l-preserved c = search down_step

pub returns : goal.returns
returns c = (search (down_end, rules), search rules)
