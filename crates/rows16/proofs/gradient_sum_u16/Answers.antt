-- `rows16::gradient_sum_u16` meets its contract. Assumes nothing.
use Rattle.std.proofs.Common.{◌+◌, ◌-◌, ◌%◌, ◌^◌, refl, arith}
use Rattle.rows.proofs.Formulas.{gradient-sum}
use Rattle.rows16.proofs.gradient_sum_u16.Goals as goal

pub returns : goal.returns
returns c =
    let a = c.args in
    gradient-sum a.depth a.residue a.left a.top a.topleft ((a.residue + a.top) % 2 ^ 16)
    (((a.residue + a.top) % 2 ^ 16 + (2 ^ 16 - a.topleft)) % 2 ^ 16) _ refl (omega (arith, c.ranges.topleft.fits)) c.sum_u16.ensures
    c.requires.0 c.requires.1
