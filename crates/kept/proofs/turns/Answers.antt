-- `kept::turns` meets its contract: turn after turn, each from where the last one ended (document 01, "Words and lookup"). Assumes nothing.
use borrow.Author.Rules.{rules}
use Rattle.kept.proofs.Groups.{going, going_more, going_position, going_next}
use Rattle.kept.proofs.turns.Goals as goal

pub loop-k-init : goal.loop-k-init
loop-k-init g c = let laws = g.met.T.Sample.laws in search going

pub turn-r-requires-clause-readable : goal.turn-r-requires-clause-readable
turn-r-requires-clause-readable g c = let laws = g.met.T.Sample.laws in search going

pub overflow_add-here : goal.overflow_add-here
overflow_add-here g c = let laws = g.met.T.Sample.laws in search (going_next, rules)

pub returns-then-r-c : goal.returns-then-r-c
returns-then-r-c g c = let laws = g.met.T.Sample.laws in search (going_more laws, going)

pub loop-k-preserved : goal.loop-k-preserved
loop-k-preserved g c = let laws = g.met.T.Sample.laws in search going

pub overflow_add-end : goal.overflow_add-end
overflow_add-end g c = let laws = g.met.T.Sample.laws in search (going_position, rules)

pub overflow_add-k-in-loop-k : goal.overflow_add-k-in-loop-k
overflow_add-k-in-loop-k g c = let laws = g.met.T.Sample.laws in search going
