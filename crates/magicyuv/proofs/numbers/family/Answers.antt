-- `family` names the family of a number, or refuses by 1.
use Rattle.magicyuv.proofs.Said.{family_0, family_1, family_2, family_3, family_4, family_none}
use borrow.Author.Rules.{rules}
use Rattle.magicyuv.proofs.numbers.family.Goals as goal

pub returns-in-0 : goal.returns-in-0
returns-in-0 c = search family_0

pub returns-in-1 : goal.returns-in-1
returns-in-1 c = search family_1

pub returns-in-2 : goal.returns-in-2
returns-in-2 c = search family_2

pub returns-in-3 : goal.returns-in-3
returns-in-3 c = search family_3

pub returns-in-4 : goal.returns-in-4
returns-in-4 c = search family_4

pub returns-in_default : goal.returns-in_default
returns-in_default c = search (family_none, rules)
