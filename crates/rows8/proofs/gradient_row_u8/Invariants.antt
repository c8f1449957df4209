-- The loop of `rows8::gradient_row_u8`: what its turns still make, and the samples that it carries (document 01, "Prediction, slice by slice").
-- Assumes nothing.
use Rattle.std.proofs.Common.{◌≡◌, ◌-◌, ◌<◌, ◌≤◌, length, get_or}
use Rattle.memory.proofs.InPlace.{Sweep}
use Rattle.scope.specs.Prediction.{gradient}
use Rattle.rows.specs.Rows.{across}
use Rattle.rows8.proofs.gradient_row_u8.Given as goal

abbrev pub invariant-loop-i : goal.invariant-loop-i
invariant-loop-i l = Sweep (across 8 (gradient 8) l.back) l.initial.s l.s l.start l.i l.end × (l.left ≡ get_or l.s (l.i - 1) 0) × (l.topleft ≡ get_or l.s (l.i - l.back - 1) 0) × (0 < l.back) × (l.back < l.i) × (l.end ≤ length l.s)
