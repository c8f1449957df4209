-- `rows16::gradient_row_u16` meets its contract. Assumes nothing.
use Rattle.std.proofs.Common.{rules}
use Rattle.rows16.proofs.Running.{carried_step, carrying}
use Rattle.rows16.proofs.gradient_row_u16.Goals as goal

pub loop-i-preserved : goal.loop-i-preserved
loop-i-preserved c = (search (carried_step, rules), search rules, search rules, search rules, search rules)

pub returns : goal.returns
returns c = search carrying
