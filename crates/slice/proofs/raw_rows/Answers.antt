-- `slice::raw_rows` meets its contract: row after row of a raw slice (document 01, "Layout"). Assumes nothing.
use Rattle.slice.proofs.Samples.{raw_rows, samples_start, samples_asked, samples_step}
use Rattle.slice.proofs.raw_rows.Goals as goal

pub loop-r-init : goal.loop-r-init
loop-r-init g c = let laws = g.met.T.Sample.laws in search (samples_start laws, raw_rows)

pub read_raw-requires-clause-raw_in : goal.read_raw-requires-clause-raw_in
read_raw-requires-clause-raw_in g c = let laws = g.met.T.Sample.laws in search (samples_asked laws, raw_rows)

pub loop-r-preserved : goal.loop-r-preserved
loop-r-preserved g c = let laws = g.met.T.Sample.laws in search (samples_step laws, raw_rows)

pub returns-clause-samples : goal.returns-clause-samples
returns-clause-samples g c = search raw_rows
