-- The loop of `builder::place`: the words of the symbols so far stand in their slots (document 01, "Words and lookup"). Assumes nothing.
use mathlib.Core.Path.{◌≡◌}
use lib.ListN.{length}
use Rattle.builder.specs.Slots.{WordsPlaced}
use Rattle.builder.proofs.place.Given as goal

abbrev pub invariant-loop-s : goal.invariant-loop-s
invariant-loop-s l = WordsPlaced l.lengths l.m l.ws l.next l.s × (length l.ws ≡ length l.initial.ws)
