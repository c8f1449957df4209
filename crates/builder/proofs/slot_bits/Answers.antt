-- `slot_bits` says how many bits the slots have in which a word stands (document 01, "Words and lookup").
use Rattle.std.proofs.Common.{sym, ◌∙◌}
use Rattle.builder.proofs.Filling.{bits_first, bits_second}
use Rattle.builder.proofs.slot_bits.Goals as goal

pub returns-then-l-le12 : goal.returns-then-l-le12
returns-then-l-le12 c = c.min.ensures ∙ sym (bits_first c.args.m c.args.l c.if-l-le12.true)

pub returns-else-l-le12 : goal.returns-else-l-le12
returns-else-l-le12 c = sym (bits_second c.args.m c.args.l c.if-l-le12.false)
