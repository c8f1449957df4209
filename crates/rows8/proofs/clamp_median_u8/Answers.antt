-- `rows8::clamp_median_u8` meets its contract. Assumes nothing.
use Rattle.std.proofs.Common.{◌∙◌}
use native.Mathlib.Nat.{min_comm}
use Rattle.rows.proofs.Formulas.{clamped}
use Rattle.rows8.proofs.clamp_median_u8.Goals as goal

pub returns : goal.returns
returns c =
    let a = c.args in
    clamped a.left a.top a.topleft c.gradient_u8-g.result c.min-lo.result c.max-hi.result c.min.result c.max.result c.gradient_u8-g.ensures
    (c.min-lo.ensures ∙ min_comm a.top a.left) c.max-hi.ensures (c.min.ensures ∙ min_comm c.max-hi.result c.gradient_u8-g.result) c.max.ensures
