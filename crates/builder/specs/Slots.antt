-- What the functions that write a table ask of each other (document 01, "Words and lookup"). Assumes nothing.
use Rattle.std.specs.Prelude.{◌≡◌, ℕ, ◌+◌, ◌-◌, ◌*◌, ◌^◌, ◌≤◌, ◌<◌, min, cond, List, leb, length, take, get_or}
use Rattle.scope.specs.Base.{count}
use Rattle.scope.specs.Words.{longest, first, heads, shares, need}
use Rattle.scope.specs.Lookup.{packed, word_in}

-- words of up to 12 bits stand in the first part, whose slots have at most 12 bits; longer ones in the second, whose slots have all
-- m bits
unfoldable pub slot_bits : ℕ → ℕ → ℕ
slot_bits m l = cond (leb l 12) (min m 12) m

-- where that part begins
unfoldable pub slot_base : ℕ → ℕ
slot_base l = cond (leb l 12) 0 4096

-- ws after n words from `from` on are written with e
pub record StretchWritten (ws : List ℕ) (from n e : ℕ) (ws' : List ℕ) : Type 0 where
  pub inside : (i : ℕ) → from ≤ i → i < from + n → get_or ws' i 0 ≡ e
  pub before : (i : ℕ) → i < from → get_or ws' i 0 ≡ get_or ws i 0
  pub behind : (i : ℕ) → from + n ≤ i → get_or ws' i 0 ≡ get_or ws i 0

-- the slots that begin with symbol s's word w, of l bits, lie within n words
pub record WordSlots (m l s w n : ℕ) : Type 0 where
  pub fits : l ≤ slot_bits m l
  pub small : slot_bits m l ≤ 18
  pub few : s < 16384
  pub inside : slot_base l + w * 2 ^ (slot_bits m l - l) + 2 ^ (slot_bits m l - l) ≤ n
  pub room : n ≤ 266240

-- the lengths pass refusals 4, 9 and 10, m is the longest, and n words are the need
pub record Buildable (ls : List ℕ) (m n : ℕ) : Type 0 where
  pub few : length ls ≤ 16384
  pub small : longest ls ≤ 18
  pub full : shares ls ≤ 262144
  pub is : m ≡ longest ls
  pub whole : n ≡ need ls

-- each slot holds the word that it begins with, among the symbols below s
pub record Slotted (ls ws : List ℕ) (s : ℕ) : Type 0 where
  pub first : (i : ℕ) → i < 2 ^ min (longest ls) 12 → get_or ws i 0 ≡ packed (word_in ls (min (longest ls) 12) i s)
  pub second : 12 < longest ls → (i : ℕ) → i < heads ls * 2 ^ (longest ls - 12) → get_or ws (4096 + i) 0 ≡ packed (word_in ls (longest ls) i s)

-- the words of the symbols below s stand in their slots, and next holds the word that the next symbol of each length gets
pub record WordsPlaced (ls : List ℕ) (m : ℕ) (ws next : List ℕ) (s : ℕ) : Type 0 where
  pub ready : Buildable ls m (length ws)
  pub within : s ≤ length ls
  pub many : length next ≡ 19
  pub words : (l : ℕ) → 0 < l → l ≤ 18 → get_or next l 0 ≡ first ls l + count l (take s ls)
  pub slotted : Slotted ls ws s

-- what a symbol of length l that gets the word w asks, where it has one: its slots lie within n words, and w is not the last number
pub record SymbolAsked (m l s w n : ℕ) : Type 0 where
  pub slots : (l ≡ 0 → ⊥) → WordSlots m l s w n
  pub more : (l ≡ 0 → ⊥) → w + 1 < 2 ^ 32

-- what it leaves of ws, and the word r that the next symbol of its length gets
pub record SymbolPut (m l s w : ℕ) (ws : List ℕ) (r : ℕ) (ws' : List ℕ) : Type 0 where
  pub none : l ≡ 0 → (r ≡ w) × (ws' ≡ ws)
  pub next : (l ≡ 0 → ⊥) → r ≡ w + 1
  pub written : (l ≡ 0 → ⊥) → StretchWritten ws (slot_base l + w * 2 ^ (slot_bits m l - l)) (2 ^ (slot_bits m l - l)) (s * 256 + l) ws'
