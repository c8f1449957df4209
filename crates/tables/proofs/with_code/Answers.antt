-- `with_code` adds one plane's code.
use mathlib.Core.Path.{refl}
use Rattle.tables.specs.Codes.{with_code}
use Rattle.tables.proofs.with_code.Goals as goal

pub returns : goal.returns
unfolding with_code
returns c = refl
