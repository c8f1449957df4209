use Prim.Native.Nat.{◌+◌}
use lib.ListN.{length}
use Rattle.kept.proofs.Groups.{Taking}
use Rattle.kept.proofs.group.Given as goal

abbrev pub invariant-loop-i : goal.invariant-loop-i
invariant-loop-i g l =
    Taking g.T.Sample.values l.table l.m l.payload g.T.Sample.limit l.from.at (l.from.at + l.from.gone) (length l.initial.out) l.out l.v l.d l.i
