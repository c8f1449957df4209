-- `raw::few` meets its contract: samples out of eight bytes (document 01, "Layout"). Assumes nothing.
use Rattle.raw.proofs.Unpacking.{cuts}
use Rattle.raw.proofs.few.Goals as goal

pub loop-o-init : goal.loop-o-init
loop-o-init c = search cuts

pub loop-o-preserved : goal.loop-o-preserved
loop-o-preserved c = search cuts
