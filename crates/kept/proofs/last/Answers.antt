-- `kept::last` meets its contract: one word more, behind which the window is filled up (document 01, "Words and lookup"). Assumes nothing.
use Rattle.kept.proofs.Groups.{ending, turning_read}
use Rattle.kept.proofs.last.Goals as goal

pub of-requires : goal.of-requires
of-requires g c = let laws = g.met.T.Sample.laws in search ending

pub overflow_add-result : goal.overflow_add-result
overflow_add-result g c = let laws = g.met.T.Sample.laws in search ending

pub returns-clause-read : goal.returns-clause-read
returns-clause-read g c = let laws = g.met.T.Sample.laws in search (turning_read laws, ending)

pub returns-clause-next : goal.returns-clause-next
returns-clause-next g c = let laws = g.met.T.Sample.laws in search ending
