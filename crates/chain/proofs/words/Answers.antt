-- `chain::words` meets its contract: words out of a kept window, and then one after the other (document 01, "Words and lookup"). Assumes nothing.
use Rattle.chain.proofs.Samples.{reading, samples_from, samples_step}
use Rattle.chain.proofs.Symbols.{symbol_fits}
use Rattle.chain.proofs.words.Goals as goal

pub loop-k-init : goal.loop-k-init
loop-k-init g c = let laws = g.met.T.Sample.laws in search (samples_from laws, reading)

pub next-requires : goal.next-requires
next-requires g c = search reading

pub returns-in_default : goal.returns-in_default
returns-in_default g c = search reading

pub of-requires : goal.of-requires
of-requires g c = search reading

pub overflow_cast-word : goal.overflow_cast-word
overflow_cast-word g c = symbol_fits _ c.type_inv.table _ _ _ _ _ c.next.ensures c.in-Some.is

pub loop-k-preserved : goal.loop-k-preserved
loop-k-preserved g c = let laws = g.met.T.Sample.laws in search (samples_step laws, reading)

pub returns : goal.returns
returns g c = search reading
