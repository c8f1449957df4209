-- `kept::ahead` meets its contract: eight bytes moved up to the position (document 01, "Layout"). Assumes nothing.
use Rattle.kept.proofs.Window.{beginning}
use Rattle.kept.proofs.ahead.Goals as goal

pub returns : goal.returns
returns c = search beginning
