-- `kept::begun` meets its contract: 64 bits out of sixteen bytes (document 01, "Layout"). Assumes nothing.
use Rattle.kept.proofs.Window.{beginning}
use Rattle.kept.proofs.begun.Goals as goal

pub overflow_add-result : goal.overflow_add-result
overflow_add-result c = search beginning

pub returns : goal.returns
returns c = search beginning
