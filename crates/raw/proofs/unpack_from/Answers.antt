-- `raw::unpack_from` meets its contract: by eight bytes, and the rest one by one (document 01, "Layout"). Assumes nothing.
use Rattle.raw.proofs.Unpacking.{rests}
use Rattle.raw.proofs.unpack_from.Goals as goal

pub returns : goal.returns
returns c = search rests
