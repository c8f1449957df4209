-- `memory::sum_u16` meets its contract. Assumes nothing.
use Rattle.lists.proofs.Powers.{powers}
use Rattle.memory.proofs.sum_u16.Goals as goal

pub returns : goal.returns
returns c = search powers
