-- `rows8::left_fours_u8` meets its contract. Assumes nothing.
use Rattle.rows8.proofs.Fours.{fours, four_step, four_kept}
use Rattle.std.proofs.Common.{refl, rules}
use Rattle.rows8.proofs.left_fours_u8.Goals as goal

pub loop-i-init : goal.loop-i-init
loop-i-init c = search fours

pub loop-i-preserved : goal.loop-i-preserved
loop-i-preserved c =
    let turn = c.loop-i.invariant in (
      four_step _ _ _ _ _ _ _ _ _ _ _ _ _ _ _ c.loop-i-test.true turn.5 turn.0 turn.2 turn.4 turn.1 refl refl refl refl refl refl refl refl,
      search fours,
      search rules,
      search rules,
      search rules,
      search rules,
      four_kept c.loop-i.s _ _ _ _ _ _ turn.6,
    )
