-- `layout::count_byte` meets its contract: the byte behind the entries (document 01, "Layout"). Assumes nothing.
use Rattle.layout.proofs.Readers.{count_is}
use Rattle.layout.proofs.count_byte.Goals as goal

pub returns : goal.returns
returns c = search count_is
