-- `raw::groups` meets its contract: a few samples at a time (document 01, "Layout"). Assumes nothing.
use Rattle.raw.proofs.Unpacking.{groupings}
use Rattle.raw.proofs.groups.Goals as goal

pub returns-then-depth-eq0 : goal.returns-then-depth-eq0
returns-then-depth-eq0 c = search groupings

pub loop-out-init : goal.loop-out-init
loop-out-init c = search groupings

pub loop-out-preserved : goal.loop-out-preserved
loop-out-preserved c = search groupings
