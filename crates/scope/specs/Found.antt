-- What the lookup finds at a bit position, as Rust has it: `Some` word, or `None`. Assumes nothing.
use Rattle.std.specs.Prelude.{ℕ, Option, Some}
use Rattle.scope.specs.declared.Word.{Word}

abbrev pub Found : Type 0
Found = Option Word

-- a word of a length and its symbol
abbrev pub some_word : (length symbol : ℕ) → Found
some_word l s = Some (record { length = l; symbol = s })
