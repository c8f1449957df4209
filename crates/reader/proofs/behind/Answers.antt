-- `behind` gives the position behind what is found (document 01, "Words and lookup").
use Rattle.reader.proofs.Stepping.{stepping}
use Rattle.reader.proofs.behind.Goals as goal

pub overflow_add-result : goal.overflow_add-result
overflow_add-result c = search stepping

pub returns-in-None : goal.returns-in-None
returns-in-None c = search stepping

pub returns-in-Some : goal.returns-in-Some
returns-in-Some c = search stepping
