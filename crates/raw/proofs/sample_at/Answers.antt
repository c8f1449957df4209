-- `raw::sample_at` meets its contract: a window of at most 16 bits, which fits 16 bits (document 01, "Layout"). Assumes nothing.
use Rattle.bits.proofs.Windows.{windows}
use Rattle.raw.proofs.sample_at.Goals as goal

pub overflow_cast-result : goal.overflow_cast-result
overflow_cast-result c = search windows
