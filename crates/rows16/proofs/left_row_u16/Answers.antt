-- `rows16::left_row_u16` meets its contract. Assumes nothing.
use Rattle.std.proofs.Common.{rules}
use Rattle.rows16.proofs.Running.{running, left_turn, running_next}
use Rattle.rows16.proofs.left_row_u16.Goals as goal

pub loop-i-preserved : goal.loop-i-preserved
loop-i-preserved c = (search (left_turn, rules), search (running_next, rules), search rules, search rules, search rules)

pub returns : goal.returns
returns c = search running
