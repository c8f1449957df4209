-- Each case lies in what is left of the list, so no more cases are counted than bytes were taken.
use Rattle.std.proofs.Common.{◌-◌, ◌≤◌, length}
use Rattle.replay.proofs.replay_all.Given as goal

abbrev pub invariant-loop-at : goal.invariant-loop-at
invariant-loop-at g l = (l.at ≤ length l.list) × (l.i ≤ l.at) × (l.wrong ≤ l.i)

abbrev pub decreases-loop-at : goal.decreases-loop-at
decreases-loop-at g l = length l.list - l.at
