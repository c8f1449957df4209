-- `rows16::t87_median_u16` meets its contract. Assumes nothing.
use Rattle.std.proofs.Common.{◌∙◌, refl}
use native.Mathlib.Nat.{min_comm}
use Rattle.rows.proofs.Formulas.{t87_clamped}
use Rattle.rows16.proofs.t87_median_u16.Goals as goal

pub returns : goal.returns
returns c =
    let a = c.args in
    t87_clamped a.left a.top a.topleft c.min-lo.result c.max-hi.result c.min.result c.max.result _
    (c.min-lo.ensures ∙ min_comm a.top a.left) c.max-hi.ensures (c.min.ensures ∙ min_comm c.max-hi.result a.topleft) c.max.ensures refl
