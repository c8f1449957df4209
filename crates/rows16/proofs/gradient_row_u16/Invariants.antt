-- The loop of `rows16::gradient_row_u16`: what its turns still make, and what it carries (document 01, "Prediction, slice by slice").
-- Assumes nothing.
use Rattle.std.proofs.Common.{◌<◌, ◌≤◌, length}
use Rattle.rows16.proofs.Running.{Carried}
use Rattle.rows16.proofs.gradient_row_u16.Given as goal

abbrev pub invariant-loop-i : goal.invariant-loop-i
invariant-loop-i l = Carried l.depth l.back l.initial.s l.s l.start l.i l.end l.sum l.topleft × (0 < l.back) × (l.back < l.i) × (l.end ≤ length l.s) × (l.depth ≤ 16)
