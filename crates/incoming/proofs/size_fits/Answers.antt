-- `incoming::size_fits` meets its contract: "each 1 to 16,384" (document 01, "What comes in"). Assumes nothing.
use Rattle.std.proofs.Common.{rules}
use Rattle.scope.specs.Geometry as geo
use Rattle.incoming.proofs.size_fits.Goals as goal

pub returns : goal.returns
unfolding geo.size_fits
returns c = search rules
