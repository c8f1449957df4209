-- `layout::plane_index` meets its contract: the byte of the slice behind the plane count (document 01, "Layout"). Assumes nothing.
use Rattle.layout.proofs.Readers.{index_is}
use Rattle.layout.proofs.plane_index.Goals as goal

pub returns : goal.returns
returns c = search index_is
