-- `figures::fields_of` meets its contract: f is 1, or 2 if interlaced (document 01, "Layout"). Assumes nothing.
use Rattle.scope.specs.Geometry as geo
use Rattle.geometry.proofs.Figures.{sides}
use borrow.Author.Rules.{rules}
use Rattle.geometry.proofs.fields_of.Goals as goal

pub returns-then-g : goal.returns-then-g
unfolding geo.fields
returns-then-g c = (search sides, search rules, search rules)

pub returns : goal.returns
unfolding geo.fields
returns c = (search sides, search rules, search rules)
