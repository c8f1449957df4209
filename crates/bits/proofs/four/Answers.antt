-- `bits::four` meets its contract: four bytes, the first one highest, are a window of 32 bits, inside the payload and past its end (document 01,
-- "Layout"). Assumes nothing.
use Rattle.bits.proofs.Windows.{windows}
use Rattle.bits.proofs.four.Goals as goal

pub returns-then-i-payload : goal.returns-then-i-payload
returns-then-i-payload c = search windows

pub returns : goal.returns
returns c = search windows
