-- Document 01, "Words and lookup": the end of the words of a length, and the running end of the Rust, which "starts at
-- 4,294,967,295 and its first sum wraps to the count less one". Assumes nothing.
use Rattle.std.specs.Prelude.{ℕ, zero, suc, ◌+◌, ◌-◌, ◌/◌, ◌%◌, ◌^◌, List}
use Rattle.scope.specs.Base.{count}
use Rattle.scope.specs.Words.{longest, first}

-- u, "the end of the words and room used" at length l: the first number of l bits past them
unfoldable pub end : List ℕ → ℕ → ℕ
end ls l = first ls l + count l ls

-- the 32-bit running end before the words that are d bits shorter than the longest: all ones first, then half of the sum
unfoldable pub running : List ℕ → ℕ → ℕ
running ls zero = 4294967295
running ls (suc d) = (running ls d + count (longest ls - d) ls) % 2 ^ 32 / 2

-- the sum that the Rust tests at that length: with the count added, wrapping
unfoldable pub summed : List ℕ → ℕ → ℕ
summed ls d = (running ls d + count (longest ls - d) ls) % 2 ^ 32
