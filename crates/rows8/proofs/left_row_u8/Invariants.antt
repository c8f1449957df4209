-- The loop of `rows8::left_row_u8`: what its turns still make, and the samples that it carries (document 01, "Prediction, slice by slice").
-- Assumes nothing.
use Rattle.std.proofs.Common.{◌≡◌, ◌-◌, ◌<◌, ◌≤◌, length, get_or}
use Rattle.memory.proofs.InPlace.{Sweep}
use Rattle.rows.specs.Rows.{leftward}
use Rattle.rows8.proofs.left_row_u8.Given as goal

abbrev pub invariant-loop-i : goal.invariant-loop-i
invariant-loop-i l = Sweep (leftward 8) l.initial.s l.s l.from l.i l.end × (l.left ≡ get_or l.s (l.i - 1) 0) × (0 < l.i) × (l.end ≤ length l.s)
