-- `read` answers and leaves what a reading by itself does (document 01, "Words and lookup").
use Rattle.std.proofs.lemmas.Result.{err_from_is_err_and}
use Rattle.alone.proofs.Reading.{read_4, read_refused, read_asked, read_table}
use borrow.Author.Rules.{rules}
use Rattle.alone.proofs.read.Goals as goal

pub returns-then-samples-gt268435456 : goal.returns-then-samples-gt268435456
returns-then-samples-gt268435456 c = search read_4

pub returns-in_err-m : goal.returns-in_err-m
returns-in_err-m c =
    let p = err_from_is_err_and c.from_residual.result c.from_residual.ensures.1 in
    rw (p.1, p.2) (read_refused _ _ _ _ (search rules) _ _ c.build_table.ensures _ c.in_err-m.was)

pub read_built-requires : goal.read_built-requires
read_built-requires c = read_asked _ _ _ _ (search rules) _ _ c.build_table.ensures _ c.in_ok-m.was

pub returns : goal.returns
returns c = read_table _ _ _ _ (search rules) _ _ c.build_table.ensures _ c.in_ok-m.was _ _ _ (search rules) c.read_built.ensures
