-- `place` writes every symbol's word, in one pass over the lengths (document 01, "Words and lookup").
use Rattle.builder.proofs.Filling.{filled_all, filled_front, front_length}
use Rattle.builder.proofs.Placing.{placed_start, length_below, symbol_asked, placed_step}
use native.Mathlib.Omega.{arith}
use borrow.Author.Rules.{rules}
use Rattle.builder.proofs.place.Goals as goal

pub loop-s-init : goal.loop-s-init
loop-s-init c =
    let after = c.fill.ensures.after (λ y h. h) in (
      search (placed_start, filled_all, filled_front, front_length, after, arith, rules),
      search (front_length, arith, rules),
    )

pub bounds-next-l : goal.bounds-next-l
bounds-next-l c = search length_below

pub place_symbol-requires : goal.place_symbol-requires
place_symbol-requires c = search symbol_asked

pub bounds-next-l-in-loop-s : goal.bounds-next-l-in-loop-s
bounds-next-l-in-loop-s c = search length_below

pub loop-s-preserved : goal.loop-s-preserved
loop-s-preserved c = (search placed_step, search rules)
