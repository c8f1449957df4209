-- `stretches::plane_samples` meets its contract: the product of two sides (document 01, "Layout"). Assumes nothing.
use Rattle.geometry.proofs.Figures.{samples_most, samples_are}
use Rattle.stretches.proofs.plane_samples.Goals as goal

pub returns : goal.returns
returns c = (search samples_are, search samples_most)
