-- `raw::raw_u8` meets its contract: the loop fills the buffer with the bytes as they stand (document 01, "Layout"). Assumes nothing.
use Rattle.raw.proofs.Fills.{fills}
use Rattle.raw.proofs.raw_u8.Goals as goal

pub loop-i-init : goal.loop-i-init
loop-i-init c = search fills

pub loop-i-preserved : goal.loop-i-preserved
loop-i-preserved c = search fills
