-- `cases::shape_of` meets its contract: number by number. Assumes nothing.
use Rattle.cases.proofs.Forms.{shape_is}
use Rattle.cases.proofs.shape_of.Goals as goal

pub returns : goal.returns
returns c = search shape_is
