-- `Listed::lend` of `u8` meets its contract: the loop gives each place what is lent there. Assumes nothing.
use Rattle.cases.proofs.Placing.{placing}
use Rattle.cases.proofs.U8Listed.lend.Goals as goal

pub loop-i-init : goal.loop-i-init
loop-i-init c = search placing

pub loop-i-preserved : goal.loop-i-preserved
loop-i-preserved c = search placing

pub returns : goal.returns
returns c = search placing
