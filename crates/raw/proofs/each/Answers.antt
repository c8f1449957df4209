-- `raw::each` meets its contract: one window a sample (document 01, "Layout"). Assumes nothing.
use Rattle.raw.proofs.Unpacking.{eaching}
use Rattle.raw.proofs.each.Goals as goal

pub loop-o-init : goal.loop-o-init
loop-o-init c = search eaching

pub loop-o-preserved : goal.loop-o-preserved
loop-o-preserved c = search eaching
