-- `sides::plane_height` meets its contract: a whole side, or one that a factor divides (document 01, "Layout"). Assumes nothing.
use Rattle.scope.specs.Geometry as geo
use Rattle.geometry.proofs.Figures.{sides}
use Rattle.sides.proofs.plane_height.Goals as goal

pub returns-then-is_small : goal.returns-then-is_small
unfolding geo.plane_height
returns-then-is_small c = (search sides, search sides, search sides)

pub returns : goal.returns
unfolding geo.plane_height
returns c = (search sides, search sides, search sides)
