-- Document 01, "Words and lookup": what a reading of n words from a bit position on says, by any way to look a word up ("the table
-- reading takes every sample from that lookup"). Assumes nothing.
use Rattle.std.specs.Prelude.{◌≡◌, ℕ, List}
use Rattle.scope.specs.Words.{Chain, symbols, stuck_at, chain_by}
use Rattle.scope.specs.Found.{Found}
use Rattle.codes.specs.Reading.{position_after}
use Rattle.std.specs.Prelude.{Result, Ok, Err}
use Rattle.reader.specs.declared.Stuck.{Stuck}

-- where a reading stands: at the end of its last word, or at a position where no word fits
abbrev pub Reached : Type 0
Reached = Result ℕ Stuck

abbrev pub reached_end : (at : ℕ) → Reached
reached_end at = Ok at

abbrev pub reached_stuck : (at : ℕ) → Reached
reached_stuck p = Err (record { at = p })

-- what each case says: a chain ends at a position, or no word fits at one
unfoldable pub reached : Chain → ℕ → Reached
reached (symbols ss) at = reached_end at
reached (stuck_at p) at = reached_stuck p

-- The statement: the answer is the chain's, and the symbols of a chain of n words are what is handed out. What a reading that is stuck
-- leaves is not said.
pub record WordsRead (look : ℕ → Found) (at n : ℕ) (r : Reached) (out : List ℕ) : Type 0 where
  pub answer : r ≡ reached (chain_by look at n) (position_after look at n)
  pub handed : (ss : List ℕ) → chain_by look at n ≡ symbols ss → out ≡ ss
