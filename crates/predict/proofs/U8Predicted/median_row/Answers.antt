-- `median_row` of predict's u8 meets its contract: at depth 8 the median is the clamp. Assumes nothing.
use Rattle.rows.proofs.Parts.{clamp_swept}
use Rattle.predict.proofs.U8Predicted.median_row.Goals as goal

pub returns : goal.returns
returns c =
    let a = c.args in
    clamp_swept a.depth a.back a.s.now _ a.start _ c.requires.depth_value c.median_row_u8.ensures
