-- `sides::is_small` meets its contract: planes 1 and 2 of a subsampled family (document 01, "Layout"). Assumes nothing.
use Rattle.geometry.proofs.Figures.{sides}
use Rattle.sides.proofs.is_small.Goals as goal

pub returns-then-p-eq1 : goal.returns-then-p-eq1
returns-then-p-eq1 c = search sides

pub returns-then-is_subsampled : goal.returns-then-is_subsampled
returns-then-is_subsampled c = search sides

pub returns : goal.returns
returns c = search sides
