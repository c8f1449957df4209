-- Document 01, "Words and lookup": a code's words, their shares, the workspace that a table needs, and chains of words.
-- ls is one plane's lengths, a length for each symbol, 0 meaning no word; symbols are places in it. Assumes nothing.
use Rattle.std.specs.Prelude.{◌≡◌, ℕ, zero, suc, ◌+◌, ◌-◌, ◌*◌, ◌/◌, ◌^◌, ◌<◌, min, max, Bool, true, false, cond, ◌&&◌, ◌||◌, [], ◌∷◌, length, take, get_or, eqb, ltb, leb}
use Rattle.scope.specs.Base.{Bytes, Lengths, Samples, half_up, one, count, sum_below}
use Rattle.scope.specs.Bits.{window}
use Rattle.scope.specs.Found.{Found, some_word}
use Rattle.std.specs.Prelude.{None, Some}

-- ---- lengths

-- symbol s's length
abbrev pub length_of : (ls : Lengths) (s : ℕ) → ℕ
length_of ls s = get_or ls s 0

-- m, the longest length; 0 where no symbol has a word
unfoldable pub longest : (ls : Lengths) → ℕ
longest [] = 0
longest (l ∷ ls) = max l (longest ls)

-- the shorter of two lengths, where 0 is no length
unfoldable pub shorter : (a b : ℕ) → ℕ
shorter zero b = b
shorter (suc a) zero = suc a
shorter (suc a) (suc b) = min (suc a) (suc b)

-- the shortest word's length; 0 where no symbol has a word
unfoldable pub shortest : (ls : Lengths) → ℕ
shortest [] = 0
shortest (l ∷ ls) = shorter l (shortest ls)

-- refusal 9: "a length above 18"
unfoldable pub too_long : (ls : Lengths) → Bool
too_long ls = ltb 18 (longest ls)

-- ---- shares

-- what a word of l bits takes of 262,144 = 2^18: 2^(18−l). No word takes nothing.
unfoldable pub share : (l : ℕ) → ℕ
share zero = 0
share (suc l) = 2 ^ (18 - suc l)

-- "the sum of 2^(18−length) over nonzero lengths"
unfoldable pub shares : (ls : Lengths) → ℕ
shares [] = 0
shares (l ∷ ls) = share l + shares ls

-- refusal 10: that sum "exceeds 262,144"
unfoldable pub overfull : (ls : Lengths) → Bool
overfull ls = ltb 262144 (shares ls)

-- ---- words

-- "Take lengths from the longest down. Words of the longest length start at 0 .. With u the end of the words and room used at
-- one length, the length one bit shorter, whether it has words or not, starts at u/2 rounded up": where the words start that
-- are d bits shorter than the longest
unfoldable pub start_down : (ls : Lengths) (d : ℕ) → ℕ
start_down ls zero = 0
start_down ls (suc d) = half_up (start_down ls d + count (longest ls - d) ls)

-- the first word of length l
unfoldable pub first : (ls : Lengths) (l : ℕ) → ℕ
first ls l = start_down ls (longest ls - l)

-- "given to symbols in ascending order": symbol s's word, as a number of that many bits
unfoldable pub word_of : (ls : Lengths) (s : ℕ) → ℕ
word_of ls s = first ls (length_of ls s) + count (length_of ls s) (take s ls)

-- ---- need

-- symbol s's word is longer than 12, and x is its first twelve bits
unfoldable pub is_head : (ls : Lengths) (x s : ℕ) → Bool
is_head ls x s = ltb 12 (length_of ls s) && eqb (word_of ls s / 2 ^ (length_of ls s - 12)) x

-- the same of some symbol below n
unfoldable pub head_below : (ls : Lengths) (x n : ℕ) → Bool
head_below ls x zero = false
head_below ls x (suc s) = is_head ls x s || head_below ls x s

-- S, "the number of different first twelve bits among words longer than 12"
unfoldable pub heads : (ls : Lengths) → ℕ
heads ls = sum_below 4096 (λ x. one (head_below ls x (length ls)))

-- "1 word for m = 0; 2^m for m up to 12; else 4,096 + S·2^(m−12)"
unfoldable pub need_from : (m S : ℕ) → ℕ
need_from m S = cond (eqb m 0) 1 (cond (leb m 12) (2 ^ m) (4096 + S * 2 ^ (m - 12)))

-- a plane's need, in workspace words
unfoldable pub need : (ls : Lengths) → ℕ
need ls = need_from (longest ls) (heads ls)

-- ---- the word at a position

-- the bits at a position begin with symbol s's word
unfoldable pub begins_with : (ls : Lengths) (payload : Bytes) (at s : ℕ) → Bool
begins_with ls payload at s = ltb 0 (length_of ls s) && eqb (window payload at (length_of ls s)) (word_of ls s)

-- the word that they begin with, among the symbols below n
unfoldable pub word_below : (ls : Lengths) (payload : Bytes) (at n : ℕ) → Found
word_below ls payload at zero = None
word_below ls payload at (suc s) =
    cond (begins_with ls payload at s) (some_word (length_of ls s) s) (word_below ls payload at s)

-- "the word that the bits there begin with, its length and symbol, or none"
unfoldable pub word_at : (ls : Lengths) (payload : Bytes) (at : ℕ) → Found
word_at ls payload at = word_below ls payload at (length ls)

-- ---- chains: n words one after the other

-- their symbols, or the position at which no word fits
pub data Chain : Type 0 where
  symbols : (residues : Samples) → Chain
  stuck_at : (at : ℕ) → Chain

infixr 20 ◌before◌
unfoldable pub ◌before◌ : (s : ℕ) (rest : Chain) → Chain
s before symbols ss = symbols (s ∷ ss)
s before stuck_at at = stuck_at at

unfoldable pub on_word : (found : Found) (at : ℕ) (go : ℕ → ℕ → Chain) → Chain
on_word None at go = stuck_at at
on_word (Some w) at go = go w.length w.symbol

-- by any way to look a word up
unfoldable pub chain_by : (look : ℕ → Found) (at n : ℕ) → Chain
chain_by look at zero = symbols []
chain_by look at (suc n) = on_word (look at) at (λ l s. s before chain_by look (at + l) n)

-- of a code's own words
abbrev pub chain : (ls : Lengths) (payload : Bytes) (at n : ℕ) → Chain
chain ls payload at n = chain_by (word_at ls payload) at n

-- the chain got stuck
abbrev pub is_stuck : (chain : Chain) → Bool
is_stuck (symbols residues) = false
is_stuck (stuck_at at) = true

-- the symbols of a chain that did not
unfoldable pub symbols_of : (chain : Chain) → Samples
symbols_of (symbols residues) = residues
symbols_of (stuck_at at) = []

-- ---- the same as propositions, in which demand 3 is put

-- the bits at a position begin with symbol s's word
pub record Begins (ls : Lengths) (payload : Bytes) (at s : ℕ) : Type 0 where
  pub inside : s < length ls
  pub some : 0 < length_of ls s
  pub same : window payload at (length_of ls s) ≡ word_of ls s

-- the bits from a position on begin with the words of the symbols ss, one after the other
unfoldable pub Spells : (ls : Lengths) (payload : Bytes) (at : ℕ) (ss : Samples) → Type 0
Spells ls payload at [] = Unit {0}
Spells ls payload at (s ∷ ss) = Begins ls payload at s × Spells ls payload (at + length_of ls s) ss
