-- What the loop of `preamble::check_order` keeps: what it has counted before slice s, all of it within bounds (document 01, refusal 8). Assumes nothing.
use Rattle.preamble.proofs.Walking.{Walk}
use Rattle.preamble.proofs.check_order.Given as goal

abbrev pub invariant-loop-s : goal.invariant-loop-s
invariant-loop-s l = Walk l.frame l.g.of l.planes l.k l.t l.seen l.s
