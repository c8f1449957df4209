-- What the loop of `decode::read_slices` keeps: the slices before s are counted, have passed, and stand in their rows of the planes (document
-- 01, "Layout"). Assumes nothing.
use Rattle.std.proofs.Common.{◌≡◌, length}
use Rattle.picture.specs.Steps.{table_look}
use Rattle.picture.proofs.Filling.{Reading}
use Rattle.decode.proofs.read_slices.Given as goal

abbrev pub invariant-loop-s : goal.invariant-loop-s
invariant-loop-s g l =
    let values = g.T.Sample.values in
    Reading (table_look l.workspace l.codes) l.frame l.g.of l.t l.seen l.s (values l.planes) × (length l.planes ≡ length l.initial.planes)
