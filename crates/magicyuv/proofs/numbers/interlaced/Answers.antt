-- `interlaced` takes 0 and 1, and refuses any other number by 1.
use Rattle.magicyuv.proofs.Said.{interlaced_0, interlaced_1, interlaced_none}
use borrow.Author.Rules.{rules}
use Rattle.magicyuv.proofs.numbers.interlaced.Goals as goal

pub returns-in-0 : goal.returns-in-0
returns-in-0 c = search interlaced_0

pub returns-in-1 : goal.returns-in-1
returns-in-1 c = search interlaced_1

pub returns-in_default : goal.returns-in_default
returns-in_default c = search (interlaced_none, rules)
