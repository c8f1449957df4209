-- `stretches::stretch_of` meets its contract: the rows of a plane in the buffer (document 01, "Planes lie one after another with no
-- gaps"). Assumes nothing.
use Rattle.stretches.proofs.Stretching.{stretch_fits, stretch_adds, stretch_most, stretch_is}
use Rattle.stretches.proofs.stretch_of.Goals as goal

pub overflow_mul-result : goal.overflow_mul-result
overflow_mul-result c = search stretch_fits

pub overflow_add-result : goal.overflow_add-result
overflow_add-result c = search stretch_adds

pub returns-clause-stretch : goal.returns-clause-stretch
returns-clause-stretch c = search stretch_is

pub returns-clause-bounds : goal.returns-clause-bounds
returns-clause-bounds c = search stretch_most
