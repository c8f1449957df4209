-- `no_codes` gives an answer and no plane's code.
use mathlib.Core.Path.{refl}
use Rattle.tables.specs.Codes.{no_codes}
use Rattle.tables.proofs.no_codes.Goals as goal

pub returns : goal.returns
unfolding no_codes
returns c = refl
