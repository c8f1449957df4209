-- `kept::group` meets its contract: words taken out of one window (document 01, "Words and lookup"). Assumes nothing.
use Rattle.kept.proofs.Groups.{taking}
use Rattle.kept.proofs.group.Goals as goal

pub loop-i-init : goal.loop-i-init
loop-i-init g c = let laws = g.met.T.Sample.laws in search taking

pub of-requires : goal.of-requires
of-requires g c = let laws = g.met.T.Sample.laws in search taking

pub loop-i-preserved : goal.loop-i-preserved
loop-i-preserved g c = let laws = g.met.T.Sample.laws in search taking
