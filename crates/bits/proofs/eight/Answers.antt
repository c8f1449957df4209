-- `bits::eight` meets its contract: eight bytes, four of them and then the other four, are a window of 64 bits (document 01, "Layout"). Assumes nothing.
use Rattle.bits.proofs.Windows.{windows}
use Rattle.bits.proofs.eight.Goals as goal

pub returns : goal.returns
returns c = search windows
