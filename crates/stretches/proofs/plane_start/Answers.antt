-- `stretches::plane_start` meets its contract: the sum over the planes before its place (document 01, "Layout"). Assumes nothing.
use Rattle.geometry.proofs.Figures.{sums}
use Rattle.stretches.proofs.plane_start.Goals as goal

pub samples_below-requires : goal.samples_below-requires
samples_below-requires c = search sums

pub returns : goal.returns
returns c = (search sums, search sums)
