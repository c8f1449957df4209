-- `stretches::all_elements` meets its contract: the sum over all planes (document 01, "Layout"). Assumes nothing.
use Rattle.geometry.proofs.Figures.{sums}
use Rattle.stretches.proofs.all_elements.Goals as goal

pub returns : goal.returns
returns c = (search sums, search sums)
