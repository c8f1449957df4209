-- Document 01, "Words and lookup": a reading of n words from a bit position on, by any way to look a word up ("the table reading takes
-- every sample from that lookup"): where it stands, what it asks, and how far it has come. Assumes nothing.
use Rattle.std.specs.Prelude.{◌≡◌, ℕ, zero, suc, ◌+◌, ◌*◌, ◌^◌, ◌≤◌, ◌<◌, List, length, take}
use Rattle.scope.specs.Words.{symbols, chain_by}
use Rattle.scope.specs.Found.{Found, some_word}
use Rattle.std.specs.Prelude.{None, Some}

-- on from a word that is found, by its length
unfoldable pub onward : Found → ℕ → (ℕ → ℕ) → ℕ
onward None at go = at
onward (Some w) at go = go (at + w.length)

-- the position after n words; where no word fits, the position of that
unfoldable pub position_after : (ℕ → Found) → ℕ → ℕ → ℕ
position_after look at zero = at
position_after look at (suc n) = onward (look at) at (λ p. position_after look p n)

-- What it asks: every symbol that is found is below the element's limit, no word is longer than 18, and the last position is a number
-- of 64 bits.
pub record Readable (look : ℕ → Found) (limit at n : ℕ) : Type 0 where
  pub symbol : (p l s : ℕ) → look p ≡ some_word l s → s < limit
  pub short : (p l s : ℕ) → look p ≡ some_word l s → l ≤ 18
  pub near : at + 18 * n < 2 ^ 64

-- The first k words from a position on are read: they are a chain, their symbols stand first in out, and p is the position behind them.
pub record Began (look : ℕ → Found) (at : ℕ) (out : List ℕ) (p k : ℕ) : Type 0 where
  pub within : k ≤ length out
  pub read : chain_by look at k ≡ symbols (take k out)
  pub stands : p ≡ position_after look at k
