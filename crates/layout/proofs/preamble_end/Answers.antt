-- `layout::preamble_end` meets its contract: at entry 1 (document 01, "Layout"). Assumes nothing.
use Rattle.layout.proofs.Readers.{preamble_ends}
use borrow.Author.Rules.{rules}
use Rattle.layout.proofs.preamble_end.Goals as goal

pub returns : goal.returns
returns c = (search preamble_ends, search rules)
