-- `kept::words` meets its contract: where sixteen bytes are left, turn after turn (document 01, "Words and lookup"). Assumes nothing.
use Rattle.kept.proofs.Groups.{beginnings}
use Rattle.kept.proofs.words.Goals as goal

pub returns-then-m-eq0 : goal.returns-then-m-eq0
returns-then-m-eq0 g c = search beginnings
