use Prim.Native.Nat.{◌-◌}
use lib.ListN.{length}
use Rattle.kept.proofs.Groups.{Going}
use Rattle.kept.proofs.turns.Given as goal

abbrev pub invariant-loop-k : goal.invariant-loop-k
invariant-loop-k g l =
    Going g.T.Sample.values l.table l.m l.payload g.T.Sample.limit l.at (length l.initial.out) l.g l.out l.w.window l.w.at l.w.gone l.k

abbrev pub decreases-loop-k : goal.decreases-loop-k
decreases-loop-k g l = length l.initial.out - l.k
