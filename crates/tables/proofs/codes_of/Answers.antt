-- `codes_of` weighs one plane after another (document 01, refusals 9 and 10).
use Rattle.tables.proofs.Weighing.{before_first, before_four, before_need, before_small, before_refused, before_next, before_end}
use Rattle.tables.proofs.codes_of.Goals as goal

pub loop-p-init : goal.loop-p-init
loop-p-init c = search before_first

pub returns-in-Err : goal.returns-in-Err
returns-in-Err c = search before_refused

pub with_code-c-requires : goal.with_code-c-requires
with_code-c-requires c = (search before_four, search before_need, search before_small)

pub loop-p-preserved : goal.loop-p-preserved
loop-p-preserved c = search before_next

pub returns : goal.returns
returns c = search before_end
