-- OURS, not document 01's: what a table's words hold, and how the lookup reads them. Document 01, "Words and lookup", asks for no layout: "the
-- statement fixes the words within it", and the lookup "finds at a payload's bit position the word that the bits there begin with". That
-- it does over these words is a theorem (`looks_table`, crates/codes; `usable`, crates/demands), so a reader need not believe this file. Assumes nothing.
use Rattle.std.specs.Prelude.{ℕ, zero, suc, ◌+◌, ◌-◌, ◌*◌, ◌/◌, ◌%◌, ◌^◌, Bool, cond, ◌&&◌, [], ◌∷◌, ◌++◌, length, get_or, eqb, ltb, leb}
use Rattle.scope.specs.Base.{Bytes, Lengths, Words, list_below}
use Rattle.scope.specs.Bits.{window}
use Rattle.scope.specs.Words.{longest, length_of, word_of, head_below, heads}
use Rattle.scope.specs.Found.{Found, some_word}
use Rattle.std.specs.Prelude.{None, Some}

-- ---- what one workspace word says: 0, an unfilled slot; 255 in the low byte, go on in the second part; else a word's length
-- in the low byte and its symbol above it

unfoldable pub packed : (found : Found) → ℕ
packed None = 0
packed (Some w) = w.symbol * 256 + w.length

unfoldable pub unpacked : (e : ℕ) → Found
unpacked e = cond (eqb (e % 256) 0) None (some_word (e % 256) (e / 256))

-- ---- the table

-- the number w of k bits begins with symbol s's word
unfoldable pub begins_in : (ls : Lengths) (k w s : ℕ) → Bool
begins_in ls k w s = leb (length_of ls s) k && (ltb 0 (length_of ls s) && eqb (w / 2 ^ (k - length_of ls s)) (word_of ls s))

-- the word that it begins with, among the symbols below n
unfoldable pub word_in : (ls : Lengths) (k w n : ℕ) → Found
word_in ls k w zero = None
word_in ls k w (suc s) = cond (begins_in ls k w s) (some_word (length_of ls s) s) (word_in ls k w s)

-- slot w of the first part, whose slots have k bits: the first twelve bits of a longer word lead to the second part
unfoldable pub first_part : (ls : Lengths) (k w : ℕ) → ℕ
first_part ls k w = cond (head_below ls w (length ls)) 255 (packed (word_in ls k w (length ls)))

-- n slots of k bits each, with the word that each begins with
unfoldable pub slots : (ls : Lengths) (k n : ℕ) → Words
slots ls k n = list_below n (λ w. packed (word_in ls k w (length ls)))

-- "the statement fixes the words within it". With m above 12 a first part of 4,096 slots is followed by 2^(m−12) slots for
-- each of the S first twelve bits. These are the numbers 0 to S − 1, so the second part's slot of m bits is their own number.
unfoldable pub table_of : (ls : Lengths) → Words
table_of ls =
    cond (eqb (longest ls) 0) (0 ∷ [])
    (cond (leb (longest ls) 12) (list_below (2 ^ longest ls) (first_part ls (longest ls)))
    (list_below 4096 (first_part ls 12) ++ slots ls (longest ls) (heads ls * 2 ^ (longest ls - 12))))

-- ---- the lookup, "from these and m alone, without the lengths". It has an answer for all words and every m; no table's m is
-- above 18.

unfoldable pub lookup_in : (words : Words) (m : ℕ) (payload : Bytes) (at : ℕ) → Found
lookup_in words m payload at =
    cond (ltb 18 m) None
    (cond (eqb m 0) None
    (cond (leb m 12) (unpacked (get_or words (window payload at m) 0))
    (cond (eqb (get_or words (window payload at 12) 0 % 256) 255)
    (unpacked (get_or words (4096 + window payload at m) 0))
    (unpacked (get_or words (window payload at 12) 0)))))
