-- `cases::spread` meets its contract: the loop gives each place the length of the run that it is in. Assumes nothing.
use Rattle.cases.proofs.Forms.{spreading}
use Rattle.cases.proofs.spread.Goals as goal

pub loop-i-init : goal.loop-i-init
loop-i-init c = search spreading

pub loop-i-preserved : goal.loop-i-preserved
loop-i-preserved c = search spreading

pub returns : goal.returns
returns c = search spreading
