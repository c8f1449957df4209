-- `preamble::check_order` meets its contract: the loop counts the slices of each plane, and stops at the first that has no room (document 01, "Layout" and "Refusal numbers"). Assumes nothing.
use Rattle.preamble.proofs.Walking.{walks, walk_full}
use Rattle.preamble.proofs.check_order.Goals as goal

pub loop-s-init : goal.loop-s-init
loop-s-init c = search walks

pub returns-then-planes-p : goal.returns-then-planes-p
returns-then-planes-p c = search walks

pub returns-then-k-seen : goal.returns-then-k-seen
returns-then-k-seen c =
    walk_full
    (record {
      known = c.loop-s.invariant;
      within = c.loop-s-test.true;
      plane_is = c.plane_index-p.ensures;
      plane_below = c.if-planes-p.false;
      all = c.if-k-seen.true;
    })

pub loop-s-preserved : goal.loop-s-preserved
loop-s-preserved c = search walks
