-- `preamble::check_layout` meets its contract: the two steps one after the other (document 01, "Layout" and "Refusal numbers"). Assumes nothing.
use Rattle.std.proofs.lemmas.Result.{err_from_is_err_and}
use Rattle.preamble.specs.Layout as laid
use Rattle.preamble.proofs.Checks.{layouts}
use Rattle.preamble.proofs.check_layout.Goals as goal

pub returns-in_err-check_preamble : goal.returns-in_err-check_preamble
unfolding laid.layout_checks
returns-in_err-check_preamble c =
    let p = err_from_is_err_and c.from_residual.result c.from_residual.ensures.1 in
    rw (p.1, p.2) (search layouts)

pub returns : goal.returns
returns c = search layouts
