-- `tally` counts the lengths in one pass (document 01, "Words and lookup").
use Rattle.words.proofs.Tallying.{counted_start, counted_fits, counted_step, counted_long, counted_end}
use Rattle.words.proofs.tally.Goals as goal

pub loop-length-init : goal.loop-length-init
loop-length-init c = search counted_start

pub returns-then-l-gt18 : goal.returns-then-l-gt18
returns-then-l-gt18 c = search counted_long

pub overflow_add-count : goal.overflow_add-count
overflow_add-count c = search counted_fits

pub loop-length-preserved : goal.loop-length-preserved
loop-length-preserved c = search counted_step

pub returns : goal.returns
returns c = search counted_end
