-- The loop of `rows16::left_row_u16`: what its turns still make, and what it carries (document 01, "Prediction, slice by slice").
-- Assumes nothing.
use Rattle.std.proofs.Common.{◌≡◌, ◌-◌, ◌%◌, ◌^◌, ◌<◌, ◌≤◌, length, get_or}
use Rattle.memory.proofs.InPlace.{Sweep}
use Rattle.rows.specs.Rows.{leftward}
use Rattle.rows16.proofs.left_row_u16.Given as goal

abbrev pub invariant-loop-i : goal.invariant-loop-i
invariant-loop-i l = Sweep (leftward l.depth) l.initial.s l.s l.start l.i l.end × (l.sum % 2 ^ l.depth ≡ get_or l.s (l.i - 1) 0 % 2 ^ l.depth) × (0 < l.i) × (l.end ≤ length l.s) × (l.depth ≤ 16)
