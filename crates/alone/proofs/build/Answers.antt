-- `build` answers and leaves what a table built by itself does (document 01, "Words and lookup").
use Rattle.std.proofs.lemmas.Result.{err_from_is_err_and}
use Rattle.alone.proofs.Building.{told_refused, told_table}
use Rattle.alone.proofs.build.Goals as goal

pub returns-in_err-build_table : goal.returns-in_err-build_table
returns-in_err-build_table c =
    let p = err_from_is_err_and c.from_residual.result c.from_residual.ensures.1 in
    rw (p.1, p.2) (told_refused _ _ _ _ c.build_table.ensures _ c.in_err-build_table.was)

pub returns : goal.returns
returns c = told_table _ _ _ _ c.build_table.ensures _ c.in_ok-build_table.was
