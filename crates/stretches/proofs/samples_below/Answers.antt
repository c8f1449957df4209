-- `stretches::samples_below` meets its contract: the loop sums the planes before n (document 01, "Layout"). Assumes nothing.
use Rattle.geometry.proofs.Figures.{sums}
use borrow.Author.Rules.{rules}
use Rattle.stretches.proofs.samples_below.Goals as goal

pub loop-b-init : goal.loop-b-init
loop-b-init c = (search sums, search rules)

pub loop-b-preserved : goal.loop-b-preserved
loop-b-preserved c = (search sums, search rules)
