-- `shortest_in` gives the shortest length from the counts (document 01, "Words and lookup").
use Rattle.std.proofs.Common.{rules}
use Rattle.words.proofs.Ends.{up_found, up_step, up_end}
use Rattle.words.proofs.shortest_in.Goals as goal

pub returns-then-count-l-gt0 : goal.returns-then-count-l-gt0
returns-then-count-l-gt0 c = search (up_found, rules)

pub loop-l-preserved : goal.loop-l-preserved
loop-l-preserved c = search (up_step, rules)

pub returns : goal.returns
returns c = search (up_end, rules)
