-- `kept::turn` meets its contract: a group, and one word more (document 01, "Words and lookup"). Assumes nothing.
use Rattle.kept.proofs.Groups.{turning, turning_start}
use Rattle.kept.proofs.turn.Goals as goal

pub returns-then-payload-from-clause-read : goal.returns-then-payload-from-clause-read
returns-then-payload-from-clause-read g c = let laws = g.met.T.Sample.laws in search turning

pub last-requires-clause-turning : goal.last-requires-clause-turning
last-requires-clause-turning g c = let laws = g.met.T.Sample.laws in search (turning_start laws, turning)
