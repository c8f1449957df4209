-- `rows8::gradient_u8` meets its contract. Assumes nothing.
use Rattle.scope.specs.Prediction as prediction
use Rattle.rows.proofs.Formulas.{formulas}
use Rattle.rows8.proofs.gradient_u8.Goals as goal

pub returns : goal.returns
unfolding prediction.gradient
returns c = search formulas
