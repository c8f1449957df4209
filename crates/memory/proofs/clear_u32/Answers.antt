-- `memory::clear_u32` meets its contract: the loop rebuilds the slice in place, each word as 0. Assumes nothing.
use Rattle.memory.proofs.InPlace.{sweeps}
use Rattle.memory.proofs.Clearing.{clear_end}
use Rattle.memory.proofs.clear_u32.Goals as goal

pub loop-i-init : goal.loop-i-init
loop-i-init c = search sweeps

pub loop-i-preserved : goal.loop-i-preserved
loop-i-preserved c = search sweeps

pub returns : goal.returns
returns c = search (clear_end, sweeps)
