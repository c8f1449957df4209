-- `decode::decode` meets its contract: what the lent checks answer, and what each way out leaves (document 01, "Refusal numbers"). Assumes
-- nothing.
use Rattle.std.proofs.Common.{arith, rules, ◌≡◌, cond, sym, ◌∙◌, length}
use Rattle.std.specs.Result.{is_err}
use Rattle.std.proofs.lemmas.Result.{err_from_is_err_and}
use Rattle.scope.specs.Base.{zeros}
use Rattle.scope.specs.Pieces.{lent_checks}
use Rattle.sample.proofs.Values.{values-length}
use Rattle.refusals.proofs.Outcomes.{out_early}
use Rattle.picture.proofs.Entry.{lent_sound, lent_lengths, lent_planes, lent_served}
use Rattle.decode.proofs.Outcomes.{left, cleared_part}
use Rattle.decode.proofs.decode.Goals as goal
use Rattle.decode.proofs.decode.Goals.{then-is_err, else-is_err}

-- refusals 1 to 3 left the geometry that the rest takes
pub invariant_of-g : goal.invariant_of-g
invariant_of-g g c = record { sound = lent_sound _ _ _ _ _ c.lent_checks.ensures c.in_ok-lent_checks.was }

pub run-answer-requires-clause-lengths_len : goal.run-answer-requires-clause-lengths_len
run-answer-requires-clause-lengths_len g c = lent_lengths _ _ _ _ _ c.lent_checks.ensures c.in_ok-lent_checks.was

pub run-answer-requires-clause-planes_len : goal.run-answer-requires-clause-planes_len
run-answer-requires-clause-planes_len g c = lent_planes _ _ _ _ _ c.lent_checks.ensures c.in_ok-lent_checks.was

pub run-answer-requires-clause-depth_value : goal.run-answer-requires-clause-depth_value
run-answer-requires-clause-depth_value g c =
    g.met.T.Width.entry_depth _ (rw (← c.ENTRY.ensures) (lent_served _ _ _ _ _ c.lent_checks.ensures c.in_ok-lent_checks.was))

pub returns-in_err-lent_checks : goal.returns-in_err-lent_checks
returns-in_err-lent_checks g c =
    let a = c.args in
    let planes = g.T.Sample.values a.planes.now in
    let said : c.lent_checks.result ≡ lent_checks g.T.Width.ENTRY a.g (length a.lengths.now) (length planes) = rw (values-length g.met.T.Sample.laws a.planes.now, ← c.ENTRY.ensures) c.lent_checks.ensures in
    let p = err_from_is_err_and c.from_residual.result c.from_residual.ensures.1 in
    rw (p.1, p.2) (out_early g.T.Width.ENTRY a.frame.now a.g a.lengths.now planes a.workspace.now c.lent_checks.result said _ c.in_err-lent_checks.was)

pub returns : goal.returns
returns g c =
    let a = c.args in
    let laws = g.met.T.Sample.laws in
    let values = g.T.Sample.values in
    let r = c.run-answer in
    let said : c.lent_checks.result ≡ lent_checks g.T.Width.ENTRY a.g (length a.lengths.now) (length (values a.planes.now)) = rw (values-length laws a.planes.now, ← c.ENTRY.ensures) c.lent_checks.ensures in
    let cleared : values c.if-is_err.planes ≡ cond (is_err r.result) (zeros (values r.new.planes)) (values r.new.planes) =
    elim c.if-is_err.branch [
      | then-is_err w ↦ rw (w.planes-is, ← c.is_err.ensures.value, w.if-is_err.true) w.clear_planes.ensures
      | else-is_err w ↦ rw (w.planes-is, ← c.is_err.ensures.value, w.if-is_err.false)
    ]
    in
    left g.T.Width.ENTRY a.frame.now a.g a.lengths.now (values a.planes.now) a.workspace.now c.lent_checks.result said c.in_ok-lent_checks.was r.result r.ensures.answer
    (values r.new.planes) r.new.workspace (values c.if-is_err.planes) _
    (values-length laws _ ∙ r.auto.planes ∙ sym (values-length laws _)) r.auto.workspace r.ensures.planes cleared
    (let gone = c.clear_u32.ensures in search (gone, cleared_part, arith, rules))
