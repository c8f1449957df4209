-- The loop of `stretches::samples_below`: the planes before are summed (document 01, "Layout"). Assumes nothing.
use mathlib.Core.Path.{◌≡◌}
use Prim.Native.Nat.{◌*◌, ◌≤◌}
use Rattle.scope.specs.Base.{sum_below}
use Rattle.scope.specs.Geometry.{plane_samples}
use Rattle.stretches.proofs.samples_below.Given as goal

abbrev pub invariant-loop-b : goal.invariant-loop-b
invariant-loop-b l = (l.at ≡ sum_below l.b (plane_samples l.g.of)) × (l.at ≤ l.b * 268435456)
