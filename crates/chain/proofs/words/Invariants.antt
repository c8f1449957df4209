use Rattle.scope.specs.Lookup.{lookup_in}
use Rattle.reader.proofs.Reading.{Reads}
use Rattle.chain.proofs.words.Given as goal

abbrev pub invariant-loop-k : goal.invariant-loop-k
invariant-loop-k g l = Reads (lookup_in l.table l.m l.payload) g.T.Sample.limit l.at l.n (g.T.Sample.values l.out) l.p l.k
