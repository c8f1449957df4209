-- `incoming::factor_fits` meets its contract: "each 1 or 2, and 1 unless Yuv or Yuva" (document 01, "What comes in"). Assumes nothing.
use Rattle.std.proofs.Common.{rules}
use Rattle.scope.specs.Geometry as geo
use Rattle.incoming.proofs.factor_fits.Goals as goal

pub returns-then-s-eq1 : goal.returns-then-s-eq1
unfolding geo.factor_fits
returns-then-s-eq1 c = search rules

pub returns-then-is_subsampled : goal.returns-then-is_subsampled
unfolding geo.factor_fits
returns-then-is_subsampled c = search rules

pub returns-else-is_subsampled : goal.returns-else-is_subsampled
unfolding geo.factor_fits
returns-else-is_subsampled c = search rules
