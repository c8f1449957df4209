-- `stretches::order_of` meets its contract: 0 and 1 change places in a correlated family (document 01, "Layout"). Assumes nothing.
use Rattle.geometry.proofs.Figures.{swaps}
use Rattle.stretches.proofs.order_of.Goals as goal

pub returns-then-p-eq0 : goal.returns-then-p-eq0
returns-then-p-eq0 c = search swaps

pub returns-then-p-eq1 : goal.returns-then-p-eq1
returns-then-p-eq1 c = search swaps

pub returns-else-p-eq1 : goal.returns-else-p-eq1
returns-else-p-eq1 c = search swaps

pub returns-else-is_correlated : goal.returns-else-is_correlated
returns-else-is_correlated c = search swaps
