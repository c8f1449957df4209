-- `incoming::lent_checks` meets its contract: the two steps one after the other (document 01, "Refusal numbers"). Assumes nothing.
use Rattle.std.proofs.lemmas.Result.{err_from_is_err_and}
use Rattle.incoming.proofs.Refused.{lent}
use Rattle.incoming.proofs.lent_checks.Goals as goal

-- refusals 1 to 3 left the geometry that the second step takes
pub invariant_of-check_sizes : goal.invariant_of-check_sizes
invariant_of-check_sizes c = record { sound = search lent }

pub returns-in_err-check_shape : goal.returns-in_err-check_shape
returns-in_err-check_shape c =
    let p = err_from_is_err_and c.from_residual.result c.from_residual.ensures.1 in
    rw (p.1, p.2) (search lent)

pub returns : goal.returns
returns c = search lent
