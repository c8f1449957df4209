-- `raw::raw_u16` meets its contract: samples deeper than 8 are packed, and sample `first` begins `first` times the depth on (document 01,
-- "Layout"). Assumes nothing.
use Rattle.raw.proofs.Raw.{raws}
use Rattle.raw.proofs.raw_u16.Goals as goal

pub returns : goal.returns
returns c = search raws
