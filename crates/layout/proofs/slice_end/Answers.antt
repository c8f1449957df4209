-- `layout::slice_end` meets its contract: a slice ends where the next one starts, the last one with the frame (document 01, "Layout"). Assumes nothing.
use Rattle.layout.proofs.Readers.{ends_next, ends_last}
use Rattle.layout.proofs.slice_end.Goals as goal

pub returns-then-s-t : goal.returns-then-s-t
returns-then-s-t c = search ends_next

pub returns : goal.returns
returns c = search ends_last
