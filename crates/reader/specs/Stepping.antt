-- What one step of the coded loop meets (document 01, "Words and lookup": the chain goes on behind each word). Assumes nothing.
use Rattle.std.specs.Prelude.{ℕ, ◌+◌}
use Rattle.scope.specs.Found.{Found}
use Rattle.std.specs.Prelude.{Option, None, Some}
use Rattle.reader.specs.declared.Passed.{Passed}

abbrev pub Stepped : Type 0
Stepped = Option Passed

-- past a word of a symbol, to its end
abbrev pub past : (symbol end : ℕ) → Stepped
past s b = Some (record { symbol = s; end = b })

-- the position behind what is found at a position: a word's length on, and the same position where there is no word
unfoldable pub behind : Found → ℕ → ℕ
behind None at = at
behind (Some w) at = at + w.length

-- the step to a position
unfoldable pub step_to : Found → ℕ → Stepped
step_to None end = None
step_to (Some w) end = past w.symbol end

-- the step from a position: past the word that is found there
unfoldable pub step_from : Found → ℕ → Stepped
step_from found at = step_to found (behind found at)
