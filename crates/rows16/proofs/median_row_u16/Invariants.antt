-- The loop of `rows16::median_row_u16`: what its turns still make, and what it carries (document 01, "Prediction, slice by slice").
-- Assumes nothing.
use Rattle.std.proofs.Common.{◌≡◌, ◌-◌, ◌<◌, ◌≤◌, length, get_or}
use Rattle.memory.proofs.InPlace.{Sweep}
use Rattle.scope.specs.Prediction.{t87_median}
use Rattle.rows.specs.Rows.{across}
use Rattle.rows16.proofs.median_row_u16.Given as goal

abbrev pub invariant-loop-i : goal.invariant-loop-i
invariant-loop-i l = Sweep (across l.depth t87_median l.back) l.initial.s l.s l.start l.i l.end × (l.left ≡ get_or l.s (l.i - 1) 0) × (l.topleft ≡ get_or l.s (l.i - l.back - 1) 0) × (0 < l.back) × (l.back < l.i) × (l.end ≤ length l.s) × (l.depth ≤ 16)
