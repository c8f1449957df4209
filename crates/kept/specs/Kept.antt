-- OURS, not document 01's: a window of 64 bits of a payload, out of which words are taken. What it is good for is said of document 01's own
-- lookup (`Told`, over `lookup_in`), so a reader need not believe this file. Assumes nothing.
use Rattle.std.specs.Prelude.{◌≡◌, ℕ, ◌+◌, ◌-◌, ◌*◌, ◌/◌, ◌%◌, ◌^◌, ◌≤◌, ◌<◌, min, cond, length, get_or, ltb, leb}
use Rattle.scope.specs.Base.{Bytes, Samples, Words}
use Rattle.scope.specs.Bits.{window}
use Rattle.scope.specs.Lookup.{lookup_in}
use Rattle.scope.specs.Found.{Found, some_word}
use Rattle.codes.specs.Reading.{Readable, Began}

-- 64 bits: those of the payload from a position on, and d zeros behind them
abbrev pub top_bits : (payload : Bytes) (at d : ℕ) → ℕ
top_bits payload at d = window payload at (64 - d) * 2 ^ d

-- the highest bits of w, m of them or fewer, are the bits at a position
pub record Shows (payload : Bytes) (at w m : ℕ) : Type 0 where
  pub head : (j : ℕ) → j ≤ m → w / 2 ^ (64 - j) ≡ window payload at j

-- i words of at most n are taken, of at most m bits each, and one more before them: w is the 64 bits at q without the d bits that they have
-- together, and zeros behind. Then one word more is in sight, and the bits that follow are at hand for all that were taken.
pub record Kept (payload : Bytes) (q w d i m n : ℕ) : Type 0 where
  pub holds : w ≡ top_bits payload (q + d) d
  pub most : d ≤ (i + 1) * m
  pub within : i ≤ n
  pub sight : (n + 2) * m ≤ 64
  pub room : (n + 1) * m ≤ 56

-- a group of at most n words is read into out, which has a place for one more
pub record Turning (table : Words) (m : ℕ) (payload : Bytes) (limit p q n : ℕ) (out : Samples) (v d i : ℕ) : Type 0 where
  pub kept : Kept payload q v d i m n
  pub began : Began (lookup_in table m payload) p out (q + d) i
  pub asked : Readable (lookup_in table m payload) limit p (n + 1)
  pub long : length out ≡ n + 1
  pub some : 0 < m
  pub short : m ≤ 18

-- a whole turn, of n words: the window at the last of them, whose d bits are taken, so that the next turn may begin
pub record Turned (payload : Bytes) (m n w q d i : ℕ) : Type 0 where
  pub window : i ≡ n → w ≡ top_bits payload (q + d) d
  pub last : i ≡ n → d ≤ m

-- ---- the lookup in a window, where words are no longer than m: 0, no word, where an entry says more than m

unfoldable pub up_to : (m e : ℕ) → ℕ
up_to m e = cond (leb (e % 256) m) e 0

-- the slot of the first part; where that leads on (255), the slot of the second
unfoldable pub entry_in : (words : Words) (m w : ℕ) → ℕ
entry_in words m w =
    cond (leb (get_or words (w / 2 ^ (64 - min m 12)) 0 % 256) m) (get_or words (w / 2 ^ (64 - min m 12)) 0)
    (cond (leb m 12) 0
    (cond (ltb (get_or words (w / 2 ^ (64 - min m 12)) 0 % 256) 255) 0 (up_to m (get_or words (4096 + w / 2 ^ (64 - m)) 0))))

-- what an entry tells of a word that is found: it is no longer than m, and where its low byte is not 0 it is that word
pub record Told (found : Found) (m e : ℕ) : Type 0 where
  pub most : e % 256 ≤ m
  pub word : (e % 256 ≡ 0 → ⊥) → found ≡ some_word (e % 256) (e / 256)
