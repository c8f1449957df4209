-- `lent::geometry_fits` meets its contract: the rules one after the other (document 01, "Refusal numbers"). Assumes nothing.
use Rattle.scope.specs.Geometry as geo
use Rattle.incoming.proofs.Refused.{chained}
use Rattle.incoming.proofs.geometry_fits.Goals as goal

pub returns-then-not-size_fits : goal.returns-then-not-size_fits
unfolding geo.geometry_fits
returns-then-not-size_fits c = search chained depth 14

pub returns-then-not-size_fits-2 : goal.returns-then-not-size_fits-2
unfolding geo.geometry_fits
returns-then-not-size_fits-2 c = search chained depth 14

pub returns-then-not-size_fits-3 : goal.returns-then-not-size_fits-3
unfolding geo.geometry_fits
returns-then-not-size_fits-3 c = search chained depth 14 fits 20000

pub returns-then-not-factor_fits : goal.returns-then-not-factor_fits
unfolding geo.geometry_fits
returns-then-not-factor_fits c = search chained depth 14 fits 20000

pub returns-then-not-factor_fits-2 : goal.returns-then-not-factor_fits-2
unfolding geo.geometry_fits
returns-then-not-factor_fits-2 c = search chained depth 14

pub returns : goal.returns
unfolding geo.geometry_fits
returns c = search chained depth 14
