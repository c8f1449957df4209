-- `lent::check_shape` meets its contract: refusals 1 to 3 (document 01, "Refusal numbers"). Assumes nothing.
use Rattle.incoming.proofs.Refused.{shapes}
use Rattle.incoming.proofs.check_shape.Goals as goal

pub returns-then-not-geometry_fits : goal.returns-then-not-geometry_fits
returns-then-not-geometry_fits c = search shapes

pub divides-requires : goal.divides-requires
divides-requires c = search shapes

pub returns-then-not-divides : goal.returns-then-not-divides
returns-then-not-divides c = search shapes

pub divides-requires-2 : goal.divides-requires-2
divides-requires-2 c = search shapes

pub returns-then-not-divides-2 : goal.returns-then-not-divides-2
returns-then-not-divides-2 c = search shapes

pub divides-requires-3 : goal.divides-requires-3
divides-requires-3 c = search shapes

pub returns-then-not-divides-3 : goal.returns-then-not-divides-3
returns-then-not-divides-3 c = search shapes

pub returns : goal.returns
returns c = search shapes
