-- `checks::check_slices` meets its contract: the loop checks one slice after another (document 01, "Refusal numbers", 12 to 14). Assumes nothing.
use Rattle.layout.proofs.Going.{goes, going_placed, going_plane}
use Rattle.checks.proofs.Framed.{slice_refused, slice_step, short_small}
use Rattle.std.proofs.lemmas.Result.{err_from_is_err_and}
use borrow.Author.Rules.{rules}
use Rattle.checks.proofs.check_slices.Goals as goal

pub loop-s-init : goal.loop-s-init
loop-s-init c = search goes

pub offset_bounds-seen-p : goal.offset_bounds-seen-p
offset_bounds-seen-p c = search goes

pub bounds-seen-p : goal.bounds-seen-p
bounds-seen-p c = search goes

pub slice_at-a-requires-clause-placed : goal.slice_at-a-requires-clause-placed
slice_at-a-requires-clause-placed c = search going_placed

pub offset_bounds-shortest-p : goal.offset_bounds-shortest-p
offset_bounds-shortest-p c = search goes

pub bounds-shortest-p : goal.bounds-shortest-p
bounds-shortest-p c = search goes

pub check_slice-requires-clause-depth_bound : goal.check_slice-requires-clause-depth_bound
check_slice-requires-clause-depth_bound c = (search rules, search (short_small, going_plane))

pub overflow_add-seen : goal.overflow_add-seen
overflow_add-seen c = search goes

pub offset_bounds-seen-p-in-loop-s : goal.offset_bounds-seen-p-in-loop-s
offset_bounds-seen-p-in-loop-s c = search goes

pub bounds-seen-p-in-loop-s : goal.bounds-seen-p-in-loop-s
bounds-seen-p-in-loop-s c = search goes

pub loop-s-preserved : goal.loop-s-preserved
loop-s-preserved c =
    slice_step
    (record {
      known = c.loop-s.invariant;
      within = c.loop-s-test.true;
      plane_is = c.plane_index-p.ensures;
      record_is = c.slice_at-a.ensures.slice;
      answer_is = c.check_slice.ensures;
      passed = search rules;
    })

pub returns-in_err-check_slice : goal.returns-in_err-check_slice
returns-in_err-check_slice c =
    let p = err_from_is_err_and c.from_residual.result c.from_residual.ensures.1 in
    rw (p.1, p.2)
    (slice_refused _ _ _ _ _ _ c.loop-s.invariant _ c.loop-s-test.true c.plane_index-p.ensures _ c.slice_at-a.ensures.slice _ c.check_slice.ensures _ c.in_err-check_slice.was)
