-- `cases::stored_of` meets its contract: number by number. Assumes nothing.
use Rattle.cases.proofs.Forms.{stored_is}
use Rattle.cases.proofs.stored_of.Goals as goal

pub returns : goal.returns
returns c = search stored_is
