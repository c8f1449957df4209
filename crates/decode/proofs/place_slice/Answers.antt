-- `decode::place_slice` meets its contract: the slice's rows lie in the buffer, and are read into (document 01, "Layout"). Assumes nothing.
use Rattle.std.proofs.Common.{◌≤◌, length, sym, ◌∙◌, rules, arith}
use Rattle.sample.proofs.Values.{values-length}
use Rattle.sample.proofs.More.{values-put_mid, values-mid}
use Rattle.picture.proofs.Placing.{rows_in, elements_fit, end_fits, part_in, part_rowed, words_ready, answer_at, part_put}
use Rattle.decode.proofs.place_slice.Goals as goal

pub stretch_of-r-requires : goal.stretch_of-r-requires
stretch_of-r-requires g c = (search rules, search rows_in)

pub overflow_mul-end : goal.overflow_mul-end
overflow_mul-end g c = search elements_fit

pub overflow_add-end : goal.overflow_add-end
overflow_add-end g c = search end_fits

pub offset_bounds-planes-r : goal.offset_bounds-planes-r
offset_bounds-planes-r g c =
    let h : c.stretch_of-r.result.at ≤ length c.args.planes.now = omega (arith, part_in _ _ _ _ _ c.requires.ready _ c.args.a c.requires.a_value.0 c.requires.placed _ c.stretch_of-r.ensures.stretch c.requires.a_value.1 c.args.planes.now c.requires.planes_len) in
    search rules

pub slice_bounds-read-end-2 : goal.slice_bounds-read-end-2
slice_bounds-read-end-2 g c = search part_in

pub read-requires-clause-rowed : goal.read-requires-clause-rowed
read-requires-clause-rowed g c = search part_rowed

pub read-requires-clause-readable : goal.read-requires-clause-readable
read-requires-clause-readable g c = search words_ready

pub returns-clause-answer : goal.returns-clause-answer
returns-clause-answer g c = search answer_at

pub returns-clause-planes : goal.returns-clause-planes
returns-clause-planes g c = λ e.
    let laws = g.met.T.Sample.laws in
    values-put_mid laws _ _ _ _
    ∙ part_put
    (record {
      ready = c.requires.ready;
      record_is = c.requires.a_value.0;
      below = c.requires.a_value.1;
      placed = c.requires.placed;
      stretch_is = c.stretch_of-r.ensures.stretch;
      long = values-length laws c.args.planes.now ∙ c.requires.planes_len;
      kept = values-length laws _ ∙ c.read.auto.part ∙ sym (values-mid laws _ _ _);
      samples_are = c.read.ensures.samples;
      passed = e;
    })
