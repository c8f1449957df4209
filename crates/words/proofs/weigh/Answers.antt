-- `weigh` gives refusals 9 and 10, else the code (document 01, "Words and lookup").
use Rattle.words.proofs.Weighing.{weighed_9, weighed_10, weighed_code, twelve_fits}
use Rattle.std.proofs.Common.{rules}
use Rattle.words.proofs.weigh.Goals as goal

pub returns-in_default : goal.returns-in_default
returns-in_default c = search weighed_9

pub returns-in_default-first_words : goal.returns-in_default-first_words
returns-in_default-first_words c = search weighed_10

pub need_from-requires : goal.need_from-requires
need_from-requires c = (search rules, search twelve_fits)

pub returns : goal.returns
returns c = search weighed_code
