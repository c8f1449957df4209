-- `decode::read_planes` meets its contract: planes that stand in their stretches, coloured, are the picture (document 01, "Prediction, slice by
-- slice"). Assumes nothing.
use Rattle.std.proofs.Common.{sym, ◌∙◌}
use Rattle.std.proofs.lemmas.Result.{err_from_is_err_and}
use Rattle.picture.proofs.Entry.{read_picture}
use Rattle.decode.proofs.read_planes.Goals as goal

pub returns-in_err-read_slices-clause-answer : goal.returns-in_err-read_slices-clause-answer
returns-in_err-read_slices-clause-answer g c =
    let p = err_from_is_err_and c.from_residual.result c.from_residual.ensures.1 in
    rw (p.1, p.2) (sym c.in_err-read_slices.was ∙ c.read_slices.ensures.answer)

pub returns-clause-planes : goal.returns-clause-planes
returns-clause-planes g c = λ e.
    read_picture _ _ _ _ _ c.in_ok-read_slices.was c.read_slices.ensures.planes c.add_green.ensures
