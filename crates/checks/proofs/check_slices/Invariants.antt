-- What the loop of `checks::check_slices` keeps: the slices before s are counted and have passed (document 01, "Refusal numbers"). Assumes nothing.
use Rattle.layout.proofs.Going.{Going}
use Rattle.checks.specs.Slices.{slices_by}
use Rattle.checks.proofs.check_slices.Given as goal

abbrev pub invariant-loop-s : goal.invariant-loop-s
invariant-loop-s l = Going (slices_by l.frame l.g.of l.shortest) l.frame l.g.of l.t l.seen l.s
