-- `kept::entry` meets its contract: the slot of the first part, or of the second (document 01, "Words and lookup"). Assumes nothing.
use Rattle.kept.proofs.Entries.{entering}
use Rattle.kept.proofs.entry.Goals as goal

pub returns-then-e-m : goal.returns-then-e-m
returns-then-e-m c = search entering

pub returns-then-m-le12 : goal.returns-then-m-le12
returns-then-m-le12 c = search entering

pub overflow_add-w : goal.overflow_add-w
overflow_add-w c = search entering

pub returns-then-v-m : goal.returns-then-v-m
returns-then-v-m c = search entering

pub returns : goal.returns
returns c = search entering
