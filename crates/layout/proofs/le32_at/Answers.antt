-- `layout::le32_at` meets its contract: four bytes, the lowest first (document 01, "Layout"). Assumes nothing.
use Rattle.std.proofs.Common.{arith}
use Rattle.scope.specs.Layout as lay
use Rattle.layout.proofs.le32_at.Goals as goal

pub returns : goal.returns
unfolding lay.le32
returns c =
    (omega (arith, c.from_le_bytes.ensures, c.byte_at.ensures, c.byte_at-2.ensures, c.byte_at-3.ensures, c.byte_at-4.ensures), c.from_le_bytes.type_inv)
