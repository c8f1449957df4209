-- `slot_base` says where the part begins in which a word stands (document 01, "Words and lookup").
use Rattle.std.proofs.Common.{sym}
use Rattle.builder.proofs.Filling.{base_first, base_second}
use Rattle.builder.proofs.slot_base.Goals as goal

pub returns-then-l-le12 : goal.returns-then-l-le12
returns-then-l-le12 c = sym (base_first c.args.l c.if-l-le12.true)

pub returns-else-l-le12 : goal.returns-else-l-le12
returns-else-l-le12 c = sym (base_second c.args.l c.if-l-le12.false)
