use lib.ListN.{length}
use Rattle.scope.specs.Lookup.{lookup_in}
use Rattle.views.specs.Places.{Rowed}
use Rattle.reader.proofs.Rows.{RowsRead}
use Rattle.chain.proofs.words_rows.Given as goal

abbrev pub invariant-loop-r : goal.invariant-loop-r
invariant-loop-r g l =
    RowsRead (lookup_in l.table l.m l.payload) g.T.Sample.limit l.rows.width l.rows.pitch l.rows.count (g.T.Sample.values l.initial.s) (g.T.Sample.values l.s) l.q l.r
    × Rowed (length l.initial.s) l.rows.width l.rows.pitch l.rows.count
