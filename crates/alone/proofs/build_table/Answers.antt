-- `build_table` answers and leaves what a table built by itself does, and gives the longest length (document 01, "Words and lookup").
use Rattle.std.proofs.lemmas.Result.{err_from_is_err_and}
use Rattle.alone.proofs.Building.{build_4, build_refused, build_11, part_small, part_full, part-longest, part_size, build_done}
use borrow.Author.Rules.{rules}
use Rattle.alone.proofs.build_table.Goals as goal

pub returns-then-lengths-gt16384 : goal.returns-then-lengths-gt16384
returns-then-lengths-gt16384 c = search build_4

pub returns-in_err-code : goal.returns-in_err-code
returns-in_err-code c =
    let p = err_from_is_err_and c.from_residual.result c.from_residual.ensures.1 in
    rw (p.1, p.2) (build_refused _ _ (search rules) _ c.weigh.ensures _ c.in_err-code.was)

pub returns-then-workspace-code : goal.returns-then-workspace-code
returns-then-workspace-code c = build_11 _ _ (search rules) _ c.weigh.ensures _ c.in_ok-code.was (search rules)

pub build_part-requires-clause-m_value : goal.build_part-requires-clause-m_value
build_part-requires-clause-m_value c = part-longest _ c.args.workspace.now (search rules) _ c.weigh.ensures _ c.in_ok-code.was

pub build_part-requires-clause-lengths_len_bound : goal.build_part-requires-clause-lengths_len_bound
build_part-requires-clause-lengths_len_bound c =
    (search rules, part_small _ c.args.workspace.now (search rules) _ c.weigh.ensures _ c.in_ok-code.was, part_full _ c.args.workspace.now (search rules) _ c.weigh.ensures _ c.in_ok-code.was)

pub build_part-requires-clause-from_le_to : goal.build_part-requires-clause-from_le_to
build_part-requires-clause-from_le_to c = (search rules, search rules, part_size _ c.args.workspace.now (search rules) _ c.weigh.ensures _ c.in_ok-code.was)

pub returns : goal.returns
returns c = build_done _ _ (search rules) _ c.weigh.ensures _ c.in_ok-code.was _ (search rules) (search rules)
