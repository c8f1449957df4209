-- `layout::slice_start` meets its contract: at the entry behind its own (document 01, "Layout"). Assumes nothing.
use Rattle.layout.proofs.Readers.{starts_at}
use borrow.Author.Rules.{rules}
use Rattle.layout.proofs.slice_start.Goals as goal

pub returns : goal.returns
returns c = (search starts_at, search rules)
