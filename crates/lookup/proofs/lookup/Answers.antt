-- `lookup` finds the word that the bits at a position begin with (document 01, "Words and lookup").
use Rattle.lookup.proofs.Looking.{looking}
use Rattle.lookup.proofs.lookup.Goals as goal

pub returns-then-m-gt18 : goal.returns-then-m-gt18
returns-then-m-gt18 c = search looking

pub returns-then-m-eq0 : goal.returns-then-m-eq0
returns-then-m-eq0 c = search looking

pub returns-then-m-le12 : goal.returns-then-m-le12
returns-then-m-le12 c = search looking

pub returns-then-e-eq255 : goal.returns-then-e-eq255
returns-then-e-eq255 c = search looking

pub returns : goal.returns
returns c = search looking
