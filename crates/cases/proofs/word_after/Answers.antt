-- `cases::word_after` meets its contract: by the number. Assumes nothing.
use Rattle.std.proofs.Common.{arith}
use Rattle.cases.proofs.Placing.{word_planes, word_found, word_zero}
use Rattle.cases.proofs.word_after.Goals as goal

pub returns-in-1-to-4 : goal.returns-in-1-to-4
returns-in-1-to-4 c = word_found c.args.number (λ e. omega arith) (omega arith)

pub returns-in_default : goal.returns-in_default
returns-in_default c = word_planes c.args.number (omega arith)

pub returns-in_default-2 : goal.returns-in_default-2
returns-in_default-2 c = word_zero c.args.number (λ e. omega arith) (omega arith)
