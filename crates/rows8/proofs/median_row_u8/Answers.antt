-- `rows8::median_row_u8` meets its contract. Assumes nothing.
use Rattle.std.proofs.Common.{rules}
use Rattle.rows.proofs.Across.{across_rows}
use Rattle.rows8.proofs.median_row_u8.Goals as goal

pub loop-i-preserved : goal.loop-i-preserved
loop-i-preserved c = (search across_rows, search across_rows, search across_rows, search rules, search rules, search rules)

pub returns : goal.returns
returns c = search across_rows
