-- The loop of `rows8::left_fours_u8`: what its turns still make, and the samples that it carries (document 01, "Prediction, slice by slice").
-- Assumes nothing.
use Rattle.std.proofs.Common.{◌≡◌, ◌+◌, ◌-◌, ◌%◌, ◌^◌, ◌<◌, ◌≤◌, length, get_or}
use Rattle.memory.specs.Loop.{swept}
use Rattle.rows.specs.Rows.{leftward}
use Rattle.rows8.proofs.left_fours_u8.Given as goal

abbrev pub invariant-loop-i : goal.invariant-loop-i
invariant-loop-i l = (l.s ≡ swept (leftward 8) l.initial.s l.start (l.i - l.start)) × ((l.left + l.sum) % 2 ^ 8 ≡ get_or l.s (l.i - 1) 0 % 2 ^ 8) × (l.start ≤ l.i) × (l.i ≤ l.end) × (0 < l.i) × (l.end ≤ length l.s) × (length l.s ≡ length l.initial.s)

abbrev pub decreases-loop-i : goal.decreases-loop-i
decreases-loop-i l = l.end - l.i
