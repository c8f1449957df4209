-- `slice::read` meets its contract: 15 by the predictor byte, then what the reading of the residues says, and the samples that are rebuilt
-- from them (document 01, "Refusal numbers" and "Prediction, slice by slice"). Assumes nothing.
use Rattle.std.proofs.Common.{rules, arith, ◌≡◌, true, false}
use Rattle.std.specs.Prelude.{◌&&◌, leb}
use Rattle.std.proofs.lemmas.Result.{err_from_is_err_and}
use Rattle.slice.proofs.Answers.{no_kind, slice_refused, slice_read, slice_rebuilt}
use Rattle.slice.proofs.read.Goals as goal

pub returns-then-not-contains-clause-answer : goal.returns-then-not-contains-clause-answer
returns-then-not-contains-clause-answer g c =
    let kind : leb 1 c.args.a.predictor && leb c.args.a.predictor 3 ≡ false = search rules in
    no_kind _ _ _ _ kind _ _ (search (arith, rules)) (search rules)

pub returns-in_err-map_err-clause-answer : goal.returns-in_err-map_err-clause-answer
returns-in_err-map_err-clause-answer g c =
    let kind : leb 1 c.args.a.predictor && leb c.args.a.predictor 3 ≡ true = search rules in
    let p = err_from_is_err_and c.from_residual.result c.from_residual.ensures.1 in
    rw (p.1, p.2) (slice_refused kind c.residues.ensures.residues c.map_err.result c.map_err.ensures.cases (λ s why q. search rules) _ c.in_err-map_err.was)

pub returns-clause-answer : goal.returns-clause-answer
returns-clause-answer g c =
    let kind : leb 1 c.args.a.predictor && leb c.args.a.predictor 3 ≡ true = search rules in
    slice_read kind c.residues.ensures.residues c.map_err.result c.map_err.ensures.cases (λ s why q. search rules) _ c.in_ok-map_err.was

pub returns-clause-samples : goal.returns-clause-samples
returns-clause-samples g c =
    let kind : leb 1 c.args.a.predictor && leb c.args.a.predictor 3 ≡ true = search rules in
    λ _. slice_rebuilt kind c.residues.ensures.residues c.map_err.result c.map_err.ensures.cases (λ s why q. search rules) c.args.g _ c.in_ok-map_err.was c.fields_of-f.ensures.0 c.rebuild.ensures.samples
