-- `bits::peek` meets its contract: k of the 32 bits that begin with the byte that the position is in (document 01, "Layout"). Assumes nothing.
use Rattle.bits.proofs.Windows.{windows}
use Rattle.bits.proofs.peek.Goals as goal

pub returns : goal.returns
returns c = search windows
