-- `buffer::add_green` meets its contract: B and R are B'+G and R'+G modulo 2^depth (document 01). Assumes nothing.
use Rattle.std.proofs.Common.{◌+◌, ◌*◌, arith, ◌∙◌}
use Rattle.sample.proofs.Values.{values-length}
use Rattle.planes.proofs.Colours.{two_in, three_still_in, coloured_both, coloured_none}
use Rattle.buffer.proofs.Green.{green_apart, green_added}
use Rattle.buffer.proofs.add_green.Goals as goal

pub returns-then-is_correlated : goal.returns-then-is_correlated
returns-then-is_correlated g c =
    let values = g.T.Sample.values in
    let w = c.plane_width-w in
    let h = c.plane_height-h in
    let n = h.result * w.result in
    coloured_both c.args.g.of c.is_correlated.result c.is_correlated.ensures c.if-is_correlated.true w.result h.result w.ensures.0 h.ensures.0
    (values c.args.planes.now) (values c.add_rows.new.planes) (values c.add_rows-then-is_correlated.new.planes)
    (values-length g.met.T.Sample.laws c.args.planes.now ∙ c.requires.planes_len)
    (green_added n w.result h.result c.plane_at-green.result c.plane_at-blue.result c.plane_at-green.ensures c.plane_at-blue.ensures c.args.g.of.depth _ _ c.add_rows.ensures)
    (green_added (n + n) w.result h.result c.plane_at-green.result c.plane_at-red.result c.plane_at-green.ensures c.plane_at-red.ensures c.args.g.of.depth _ _ c.add_rows-then-is_correlated.ensures)

pub returns-else-is_correlated : goal.returns-else-is_correlated
returns-else-is_correlated g c =
    coloured_none c.args.g.of c.is_correlated.result (g.T.Sample.values c.args.planes.now) c.is_correlated.ensures c.if-is_correlated.false

pub add_rows-requires-clause-apart : goal.add_rows-requires-clause-apart
add_rows-requires-clause-apart g c =
    let w = c.plane_width-w in
    let h = c.plane_height-h in
    green_apart (h.result * w.result) w.result h.result c.plane_at-green.result c.plane_at-blue.result c.plane_at-green.ensures c.plane_at-blue.ensures _
    (omega arith)
    (two_in c.args.g.of c.is_correlated.result c.is_correlated.ensures c.if-is_correlated.true w.result h.result w.ensures.0 h.ensures.0 _ c.requires.planes_len)

pub add_rows-requires-then-is_correlated-clause-apart : goal.add_rows-requires-then-is_correlated-clause-apart
add_rows-requires-then-is_correlated-clause-apart g c =
    let w = c.plane_width-w in
    let h = c.plane_height-h in
    green_apart (h.result * w.result + h.result * w.result) w.result h.result c.plane_at-green.result c.plane_at-red.result c.plane_at-green.ensures c.plane_at-red.ensures _
    (omega arith)
    (three_still_in c.args.g.of c.is_correlated.result c.is_correlated.ensures c.if-is_correlated.true w.result h.result w.ensures.0 h.ensures.0 _ _ c.add_rows.auto.planes c.requires.planes_len)
