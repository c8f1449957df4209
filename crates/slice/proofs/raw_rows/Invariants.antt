use lib.ListN.{length}
use Rattle.views.specs.Places.{Rowed}
use Rattle.slice.proofs.Raw.{RawRows}
use Rattle.slice.proofs.raw_rows.Given as goal

abbrev pub invariant-loop-r : goal.invariant-loop-r
invariant-loop-r g l =
    let values = g.T.Sample.values in
    RawRows l.depth l.payload l.rows.width l.rows.pitch l.rows.count (values l.initial.s) (values l.s) l.r × Rowed (length l.initial.s) l.rows.width l.rows.pitch l.rows.count
