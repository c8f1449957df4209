-- `layout::slice_at` meets its contract: what stands at the front of the slice, with its plane and place (document 01, "Layout"). Assumes nothing.
use Rattle.layout.proofs.Readers.{slice_is}
use Rattle.layout.proofs.slice_at.Goals as goal

pub returns-clause-slice : goal.returns-clause-slice
returns-clause-slice c = search slice_is
