-- `predict::row` meets its contract. Assumes nothing.
use Rattle.rows.proofs.Parts.{row_first, row_later}
use Rattle.predict.proofs.row.Goals as goal

pub returns-then-start-back : goal.returns-then-start-back
returns-then-start-back g c =
    let a = c.args in
    row_first a.depth a.kind a.back _ _ a.start a.end c.if-start-back.true c.first_row.ensures

pub returns-else-start-back : goal.returns-else-start-back
returns-else-start-back g c =
    let a = c.args in
    row_later a.depth a.kind a.back _ _ a.start a.end c.if-start-back.false c.later_row.ensures
