-- The geometry that the host's numbers say, or refusal 1.
use Rattle.std.proofs.lemmas.Result.{err_from_is_err_and}
use Rattle.magicyuv.proofs.Said.{said_family, said_interlaced, said}
use Rattle.magicyuv.proofs.numbers.GeometryTryFromNumbers.try_from.Goals as goal

pub returns-in_err-family : goal.returns-in_err-family
returns-in_err-family c =
    let p = err_from_is_err_and c.from_residual.result c.from_residual.ensures.1 in
    rw (p.1, p.2) (said_family _ _ c.family.ensures _ c.in_err-family.was)

pub returns-in_err-interlaced : goal.returns-in_err-interlaced
returns-in_err-interlaced c =
    let p = err_from_is_err_and c.from_residual-in_err-interlaced.result c.from_residual-in_err-interlaced.ensures.1 in
    rw (p.1, p.2) (said_interlaced _ _ c.family.ensures _ c.in_ok-family.was _ c.interlaced.ensures _ c.in_err-interlaced.was)

pub returns : goal.returns
returns c = said _ _ c.family.ensures _ c.in_ok-family.was _ c.interlaced.ensures _ c.in_ok-interlaced.was
