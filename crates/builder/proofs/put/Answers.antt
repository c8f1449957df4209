-- `put` writes a symbol's word into every slot that begins with it (document 01, "Words and lookup").
use Rattle.std.proofs.Common.{length}
use Rattle.builder.proofs.Filling.{filled_part}
use Rattle.builder.proofs.Placing.{put_room, put_written}
use Rattle.builder.proofs.put.Goals as goal

pub returns : goal.returns
returns c =
    let a = c.args in
    put_written a.m a.l a.s a.w (length a.ws.now) c.requires c.slot_bits.result c.slot_base.result c.slot_bits.ensures c.slot_base.ensures
    a.ws.now _
    (filled_part a.ws.now _ _ _ c.fill.new.self
    (put_room a.m a.l a.s a.w (length a.ws.now) c.requires c.slot_bits.result c.slot_base.result c.slot_bits.ensures c.slot_base.ensures)
    (c.fill.ensures.after (λ y h. h)))
