-- `median_row` of predict's u16 meets its contract: above depth 8 the median is that of T.87. Assumes nothing.
use Rattle.rows.proofs.Parts.{t87_swept}
use Rattle.predict.proofs.U16Predicted.median_row.Goals as goal

pub returns : goal.returns
returns c =
    let a = c.args in
    t87_swept a.depth a.back a.s.now _ a.start _ c.requires.depth_value.0 c.median_row_u16.ensures
