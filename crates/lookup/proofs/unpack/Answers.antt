-- `unpack` says what a workspace word says (document 01, "Words and lookup").
use Rattle.lookup.proofs.Looking.{looking}
use Rattle.lookup.proofs.unpack.Goals as goal

pub returns-then-e-eq0 : goal.returns-then-e-eq0
returns-then-e-eq0 c = search looking

pub returns : goal.returns
returns c = search looking
