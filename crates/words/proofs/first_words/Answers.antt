-- `first_words` walks from the longest length down with the running end that wraps (document 01, "Words and lookup").
use Rattle.std.proofs.Common.{arith}
use Rattle.words.proofs.Walking.{walks_start, walks_refused, walks_step, walks_end}
use Rattle.words.proofs.first_words.Goals as goal

pub loop-l-init : goal.loop-l-init
loop-l-init c = search walks_start

pub returns-then-room-a : goal.returns-then-room-a
returns-then-room-a c = search walks_refused

pub loop-l-preserved : goal.loop-l-preserved
loop-l-preserved c = search walks_step

pub returns : goal.returns
returns c = walks_end _ _ _ _ _ c.requires c.loop-l.invariant (omega arith)
