-- `figures::symbol_count` meets its contract: 2^depth by a shift (document 01, "Layout"). Assumes nothing.
use Rattle.geometry.proofs.Figures.{powers}
use Rattle.geometry.proofs.symbol_count.Goals as goal

pub returns : goal.returns
returns c = (search powers, search powers, search powers)
