-- `checks::check_frame` meets its contract: 5 to 8, then what the lengths, the workspace and the slices answer (document 01, "Refusal numbers").
-- Assumes nothing.
use Rattle.std.proofs.lemmas.Result.{err_from_is_err_and}
use Rattle.checks.proofs.Framed.{frames, frame_early}
use Rattle.checks.proofs.check_frame.Goals as goal

pub returns-in_err-check_layout : goal.returns-in_err-check_layout
returns-in_err-check_layout c =
    let p = err_from_is_err_and c.from_residual.result c.from_residual.ensures.1 in
    rw (p.1, p.2) (frame_early _ _ _ _ _ _ _ c.check_layout.ensures c.in_err-check_layout.was)

pub returns : goal.returns
returns c = search frames
