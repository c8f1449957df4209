-- `chain::words_rows` meets its contract: row after row, each from where the last one ended (document 01, "Words and lookup"). Assumes
-- nothing.
use Rattle.std.proofs.lemmas.Result.{err_from_is_err_and}
use Rattle.chain.proofs.Samples.{rowing, samples_start, samples_next, samples_stuck, samples_kept}
use Rattle.chain.proofs.words_rows.Goals as goal

pub loop-r-init : goal.loop-r-init
loop-r-init g c = let laws = g.met.T.Sample.laws in search (samples_start laws, rowing)

pub words-requires : goal.words-requires
words-requires g c = let laws = g.met.T.Sample.laws in search rowing

pub returns-in_err-q-clause-words : goal.returns-in_err-q-clause-words
returns-in_err-q-clause-words g c =
    let laws = g.met.T.Sample.laws in
    let p = err_from_is_err_and c.from_residual.result c.from_residual.ensures.1 in
    rw (p.1, p.2) (search (c.in_err-q.was, samples_stuck laws, rowing))

pub returns-in_err-q-clause-gaps : goal.returns-in_err-q-clause-gaps
returns-in_err-q-clause-gaps g c = let laws = g.met.T.Sample.laws in search (samples_kept laws, rowing)

pub loop-r-preserved : goal.loop-r-preserved
loop-r-preserved g c = let laws = g.met.T.Sample.laws in search (c.in_ok-q.was, samples_next laws, rowing)

pub returns-clause-words : goal.returns-clause-words
returns-clause-words g c = search rowing
