-- `predict::first_row` meets its contract. Assumes nothing.
use Rattle.predict.proofs.Stored.{first_stored}
use Rattle.predict.proofs.first_row.Goals as goal

pub returns : goal.returns
returns g c =
    let a = c.args in
    first_stored g.met.T.Sample.laws a.depth a.s.now a.start a.end c.index-s-start.result c.sum.result c.requires.start_lt_end.0 c.requires.start_lt_end.1
    c.index-s-start.is c.of.result _ c.of.ensures c.sum.ensures c.left_row.ensures
