-- `decode::read_slices` meets its contract: the loop reads one slice after another (document 01, "Layout"; "Refusal numbers", 14 and 15). Assumes
-- nothing.
use Rattle.std.proofs.Common.{rules, ◌∙◌, sym}
use Rattle.std.proofs.lemmas.Result.{err_from_is_err_and}
use Rattle.sample.proofs.Values.{values-length}
use Rattle.picture.specs.Steps.{table_look}
use Rattle.picture.proofs.Filling.{readings, reading_start, reading_at, reading_own, reading_below, reading_placed, reading_step, reading_refused, reading_done, reading_planes}
use Rattle.picture.proofs.Entry.{no_planes}
use Rattle.decode.proofs.read_slices.Goals as goal

pub loop-s-init : goal.loop-s-init
loop-s-init g c = (reading_start _ _ _ _ _ (search rules) c.requires.ready.indices (values-length g.met.T.Sample.laws c.args.planes.now ∙ c.requires.planes_len), search rules)

pub offset_bounds-seen-p : goal.offset_bounds-seen-p
offset_bounds-seen-p g c = search readings

pub bounds-seen-p : goal.bounds-seen-p
bounds-seen-p g c = search readings

pub slice_at-a-requires-clause-placed : goal.slice_at-a-requires-clause-placed
slice_at-a-requires-clause-placed g c = search reading_at

pub place_slice-requires-clause-a_value : goal.place_slice-requires-clause-a_value
place_slice-requires-clause-a_value g c = (search reading_own, search reading_below)

pub place_slice-requires-clause-placed : goal.place_slice-requires-clause-placed
place_slice-requires-clause-placed g c = search reading_placed

pub overflow_add-seen : goal.overflow_add-seen
overflow_add-seen g c = search readings

pub offset_bounds-seen-p-in-loop-s : goal.offset_bounds-seen-p-in-loop-s
offset_bounds-seen-p-in-loop-s g c = search readings

pub bounds-seen-p-in-loop-s : goal.bounds-seen-p-in-loop-s
bounds-seen-p-in-loop-s g c = search readings

pub loop-s-preserved : goal.loop-s-preserved
loop-s-preserved g c = (
  reading_step
      (record {
        sound = c.requires.ready.sound;
        known = c.loop-s.invariant.0;
        within = c.loop-s-test.true;
        plane_is = c.plane_index-p.ensures;
        record_is = c.slice_at-a.ensures.slice;
        answer_is = c.place_slice.ensures.answer;
        passed = search rules;
        rows_are = c.place_slice.ensures.planes;
        kept = values-length g.met.T.Sample.laws _ ∙ c.place_slice.auto.planes ∙ sym (values-length g.met.T.Sample.laws _);
      }),
  search rules,
)

pub returns-in_err-place_slice-clause-answer : goal.returns-in_err-place_slice-clause-answer
returns-in_err-place_slice-clause-answer g c =
    let p = err_from_is_err_and c.from_residual.result c.from_residual.ensures.1 in
    rw (p.1, p.2)
    (reading_refused (table_look c.args.workspace.now c.args.codes) _ _ _ _ _ _ c.loop-s.invariant.0 _ c.loop-s-test.true c.plane_index-p.ensures _ c.slice_at-a.ensures.slice _ c.place_slice.ensures.answer _ c.in_err-place_slice.was)

pub returns-in_err-place_slice-clause-planes : goal.returns-in_err-place_slice-clause-planes
returns-in_err-place_slice-clause-planes g c =
    let p = err_from_is_err_and c.from_residual.result c.from_residual.ensures.1 in
    rw (p.1, p.2) (no_planes _ _ _ _)

pub returns-clause-answer : goal.returns-clause-answer
returns-clause-answer g c = search reading_done

pub returns-clause-planes : goal.returns-clause-planes
returns-clause-planes g c = λ e. search reading_planes
