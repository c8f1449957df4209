-- Document 01, "Known answers": one table under one statement, which the checker computes. A star marks the answers that
-- document 01 wants "proved together as one table under one statement". The rows without one are its other answers, and rows of our own: at least one for every bound,
-- place and order that the rules name, so that a slip in a definition makes a row wrong ("Slips to shut out"). What cannot be
-- computed, because the lists would be too long, stands below the table as a short law. Assumes nothing.
use Rattle.std.specs.Prelude.{◌≡◌, refl, ℕ, zero, suc, ◌+◌, ◌-◌, ◌*◌, Bool, true, false, cond, ◌&&◌, List, [], ◌∷◌, ◌++◌, length, take, drop, set, replicate, T, eqb, ltb}
use Prim.Native.String.{String}
use Rattle.std.proofs.Common.{arith, leb→le}
use Rattle.scope.specs.Base.{Bytes, Lengths, half_up, over_up, one, count, sum_below, list_from, list_below, grown}
use Rattle.scope.specs.Refusals.{number_of, place_of, kind_number, place_number, refuse_if, ◌and_then◌, rows_of_each, left_by}
use Rattle.scope.specs.Geometry.{size_fits, factor_fits, geometry_fits, factors_divide, slice_height_divides, slices_per_plane, slice_count, small, plane_width, plane_height, plane_slice_height, first_row, rows_at, plane_samples, all_samples, lengths_of, fields, swapped, order_of, plane_start, row_start}
use Rattle.scope.specs.Layout.{le32, entry, preamble_end, count_byte, plane_index, named_before, place_in_plane, slice_start, slice_end, is_raw, predictor_of, payload_of, samples_in, slice_at}
use Rattle.scope.specs.Bits.{bit_at, window, packed_from, raw_samples}
use Rattle.scope.specs.Words.{length_of, longest, shorter, shortest, too_long, share, shares, overfull, start_down, first, word_of, is_head, head_below, heads, need_from, need, begins_with, word_below, word_at, Chain, symbols, stuck_at, ◌before◌, on_word, chain_by, chain, is_stuck, symbols_of, Begins, Spells}
use Rattle.scope.specs.Lookup.{packed, unpacked, begins_in, word_in, first_part, slots, table_of, lookup_in}
use Rattle.scope.specs.Prediction.{gradient, clamp_median, t87_median, median, predictor, prediction, sample, samples_of, plus}
use Rattle.scope.specs.Frame.{need_of_all, fewest_bytes, residues_of, slice_samples, plane_up_to, wire_plane, colour_plane, planes_up_to, picture_of, table, answer_of, planes_after, workspace_after}
use Rattle.scope.specs.Pieces.{readable}
use Rattle.scope.specs.Alone.{build_answer, workspace_built, read_answer, samples_read, workspace_read}
use Rattle.scope.specs.declared.Entry.{Entry}
use Rattle.scope.specs.declared.Entry.TheVariants.{Eight, Deep}
use Rattle.scope.specs.declared.Family.{Family}
use Rattle.scope.specs.declared.Family.TheVariants.{Gray, Rgb, Yuv, Rgba, Yuva}
use Rattle.scope.specs.declared.Geometry.{Geometry}
use Rattle.scope.specs.declared.SliceAt.{SliceAt}
use Rattle.scope.specs.Found.{Found, some_word}
use Rattle.std.specs.Prelude.{None, Some}
use Rattle.scope.specs.declared.Place.TheVariants.{Plane, Nothing}
use Rattle.scope.specs.Answers.{Answer, refused}

-- ---- rows, and what it means that they hold

-- a row: what it pins, what the definitions give, and what document 01 says, both as numbers
pub record Known : Type 0 where
  pub name : String
  pub given : List ℕ
  pub stated : List ℕ

infix 10 ◌of◌is◌
abbrev pub ◌of◌is◌ : (name : String) (given stated : List ℕ) → Known
n of a is b = record { name = n; given = a; stated = b }

abbrev pub same : (xs ys : List ℕ) → Bool
same [] [] = true
same [] (y ∷ ys) = false
same (x ∷ xs) [] = false
same (x ∷ xs) (y ∷ ys) = eqb x y && same xs ys

-- Nothing has this type, so a wrong row cannot be passed over; the checker's error shows it, and with it the row's name.
pub data Wrong (name : String) : Type 0 where

-- the first wrong row's name, or else what the others come to
abbrev pub or_else : (holds : Bool) (name : String) (others : Type 0) → Type 0
or_else true name others = others
or_else false name others = Wrong name

-- every row of a group holds, and every row of every group
abbrev pub Hold : (rows : List Known) → Type 0
Hold [] = Unit
Hold (r ∷ rs) = or_else (same r.given r.stated) r.name (Hold rs)

abbrev pub AllHold : (groups : List (List Known)) → Type 0
AllHold [] = Unit
AllHold (g ∷ gs) = Hold g × AllHold gs

-- ---- answers as numbers

-- the words of all symbols: length and value of each, 0 0 for none
unfoldable pub words_below : (ls : Lengths) (n : ℕ) → List ℕ
words_below ls zero = []
words_below ls (suc s) = words_below ls s ++ length_of ls s ∷ cond (eqb (length_of ls s) 0) 0 (word_of ls s) ∷ []

unfoldable pub words_of : (ls : Lengths) → List ℕ
words_of ls = words_below ls (length ls)

-- length and symbol of a word that was found; 0 0 for none
unfoldable pub found : (word : Found) → List ℕ
found (Some w) = w.length ∷ w.symbol ∷ []
found None = 0 ∷ 0 ∷ []

-- 1 and the symbols; 0 and the position where no word fits
unfoldable pub read : (chain : Chain) → List ℕ
read (symbols ss) = 1 ∷ ss
read (stuck_at at) = 0 ∷ at ∷ []

-- number, kind of place (0 nothing, 1 slice, 2 plane), and which
unfoldable pub said : (answer : Answer) → List ℕ
said a = number_of a ∷ kind_number (place_of a) ∷ place_number (place_of a) ∷ []

-- the same as document 01 puts it: nothing refused, or refusal n with a place of nothing, at a slice, at a plane
abbrev pub done : List ℕ
done = 0 ∷ 0 ∷ 0 ∷ []

abbrev pub refusal : (n : ℕ) → List ℕ
refusal n = n ∷ 0 ∷ 0 ∷ []

abbrev pub at_slice : (n s : ℕ) → List ℕ
at_slice n s = n ∷ 1 ∷ s ∷ []

abbrev pub at_plane : (n p : ℕ) → List ℕ
at_plane n p = n ∷ 2 ∷ p ∷ []

-- f of each number of a list
unfoldable pub each : (f : ℕ → ℕ) (xs : List ℕ) → List ℕ
each f [] = []
each f (x ∷ xs) = f x ∷ each f xs

-- ---- geometries, lengths and frames

unfoldable pub shape : (family : Family) (w h sh sx sy depth : ℕ) (two : Bool) → Geometry
shape family w h sh sx sy depth two =
    record { width = w; height = h; slice_height = sh; family = family; sx = sx; sy = sy; depth = depth; interlaced = two }

-- depth 8, no factors, one field
unfoldable pub plain : (family : Family) (w h sh : ℕ) → Geometry
plain family w h sh = shape family w h sh 1 1 8 false

-- The lengths of a plane of depth 8: no word, but for the last symbols those given. The definitions try the last symbol first, so
-- this is soon computed.
unfoldable pub code : (ls : Lengths) → Lengths
code ls = replicate (256 - length ls) 0 ++ ls

-- the lengths of three planes, and of n planes without a word
unfoldable pub codes : (a b c : Lengths) → Lengths
codes a b c = code a ++ (code b ++ code c)

unfoldable pub wordless : (n : ℕ) → Lengths
wordless n = replicate (n * 256) 0

-- a little-endian entry below 256
unfoldable pub le : (n : ℕ) (rest : Bytes) → Bytes
le n rest = n ∷ 0 ∷ 0 ∷ 0 ∷ rest

-- the entries of slices that follow one another from `at` on, and the slices
unfoldable pub entries : (at : ℕ) (slices : List Bytes) → Bytes
entries at [] = []
entries at (s ∷ ss) = le at (entries (at + length s) ss)

unfoldable pub joined : (slices : List Bytes) → Bytes
joined [] = []
joined (s ∷ ss) = s ++ joined ss

-- 32 bytes of zero, the entries, the preamble and the slices: entry s+1 is at 36+4s, the preamble at 36+4T
unfoldable pub frame_of : (preamble : Bytes) (slices : List Bytes) → Bytes
frame_of preamble slices =
    replicate 36 0
    ++ (entries (4 + 4 * length slices + length preamble) slices ++ (preamble ++ joined slices))

-- ---- what an entry says and leaves: every row about a whole frame goes through these

-- the answer of the byte entry, with memory of these lengths
unfoldable pub answer8 : (frame : Bytes) (g : Geometry) (lengths : Lengths) (planes workspace : ℕ) → List ℕ
answer8 frame g lengths planes workspace = said (answer_of Eight frame g lengths planes workspace)

-- the answer, the planes and the workspace after it. Both held 9 everywhere.
unfoldable pub decode : (which : Entry) (frame : Bytes) (g : Geometry) (lengths : Lengths) (planes workspace : ℕ) → List ℕ
decode which frame g lengths planes workspace =
    said (answer_of which frame g lengths planes workspace)
    ++ planes_after which frame g lengths (replicate planes 9) workspace
    ++ workspace_after which frame g lengths planes (replicate workspace 9)

unfoldable pub decode8 : (frame : Bytes) (g : Geometry) (lengths : Lengths) (planes workspace : ℕ) → List ℕ
decode8 = decode Eight

-- Only a geometry is lent, with an empty frame, the lengths of n planes (at the deep entry n lengths) and a plane buffer of m
-- samples: the number of a refusal from 1 to 4, or 5 where those pass.
unfoldable pub lent8 : (g : Geometry) (n m : ℕ) → ℕ
lent8 g n m = number_of (answer_of Eight [] g (wordless n) m 0)

unfoldable pub lent16 : (g : Geometry) (n m : ℕ) → ℕ
lent16 g n m = number_of (answer_of Deep [] g (replicate n 0) m 0)

-- ---- words and tables

-- "Take lengths from the longest down. Words of the longest length start at 0, given to symbols in ascending order. With u the
-- end of the words and room used at one length, the length one bit shorter, whether it has words or not, starts at u/2 rounded
-- up (3,3,3,1 gives 000, 001, 010 and 1)."
unfoldable pub words : List Known
words =
    -- * "Lengths 1,2,2: words 1, 00, 01; need 4." The slip "Words assigned shortest first" gives 0, 10, 11.
    ("1,2,2: words 1, 00, 01" of words_of (1 ∷ 2 ∷ 2 ∷ []) is 1 ∷ 0b1 ∷ 2 ∷ 0b00 ∷ 2 ∷ 0b01 ∷ [])
    -- * "2,2,2: words 00, 01, 10; bits 11 refused."
    ∷ ("2,2,2: words 00, 01, 10" of words_of (2 ∷ 2 ∷ 2 ∷ []) is 2 ∷ 0b00 ∷ 2 ∷ 0b01 ∷ 2 ∷ 0b10 ∷ [])
    -- * "1: word 0; bit 1 refused."
    ∷ ("1: word 0" of words_of (1 ∷ []) is 1 ∷ 0b0 ∷ [])
    -- * "0,3,1: words 000 (symbol 1) and 1 (symbol 2)."
    ∷ ("0,3,1: words 000 and 1" of words_of (0 ∷ 3 ∷ 1 ∷ []) is 0 ∷ 0 ∷ 3 ∷ 0b000 ∷ 1 ∷ 0b1 ∷ [])
    ∷ ("3,3,3,1: words 000, 001, 010 and 1" of words_of (3 ∷ 3 ∷ 3 ∷ 1 ∷ []) is 3 ∷ 0b000 ∷ 3 ∷ 0b001 ∷ 3 ∷ 0b010 ∷ 1 ∷ 0b1 ∷ [])
    -- "Lengths 13 and 1: thirteen zeros, and 1; need 4,098."
    ∷ ("13 and 1: thirteen zeros, and 1" of words_of (13 ∷ 1 ∷ []) is 13 ∷ 0 ∷ 1 ∷ 0b1 ∷ [])
    ∷ ("2,4,4,4,2: 01, 0000, 0001, 0010, 10" of words_of (2 ∷ 4 ∷ 4 ∷ 4 ∷ 2 ∷ []) is 2 ∷ 0b01 ∷ 4 ∷ 0b0000 ∷ 4 ∷ 0b0001 ∷ 4 ∷ 0b0010 ∷ 2 ∷ 0b10 ∷ [])
    ∷ ("4,3,3,3,2: 0000, 001, 010, 011, 10" of words_of (4 ∷ 3 ∷ 3 ∷ 3 ∷ 2 ∷ []) is 4 ∷ 0b0000 ∷ 3 ∷ 0b001 ∷ 3 ∷ 0b010 ∷ 3 ∷ 0b011 ∷ 2 ∷ 0b10 ∷ [])
    ∷ ("a symbol past the lengths has no word" of length_of (1 ∷ 1 ∷ []) 2 ∷ [] is 0 ∷ [])
    ∷ ("longest and shortest, where 0 is no length" of longest (0 ∷ 3 ∷ 5 ∷ 2 ∷ 0 ∷ []) ∷ shortest (0 ∷ 3 ∷ 5 ∷ 2 ∷ 0 ∷ []) ∷ shortest (2 ∷ 3 ∷ []) ∷ shortest (0 ∷ 0 ∷ []) ∷ [] is 5 ∷ 2 ∷ 2 ∷ 0 ∷ [])
    ∷ []

-- "Refusal 10 is exactly: the sum of 2^(18−length) over nonzero lengths exceeds 262,144."
unfoldable pub sums : List Known
sums =
    ("1,2,2 shares exactly one, a word of 18 bits more is too much" of shares (1 ∷ 2 ∷ 2 ∷ []) ∷ shares (1 ∷ 2 ∷ 2 ∷ 18 ∷ []) ∷ [] is 262144 ∷ 262145 ∷ [])
    ∷ ("no word takes nothing" of shares (0 ∷ 18 ∷ 0 ∷ []) ∷ [] is 1 ∷ [])
    ∷ []

-- "bits past its end read as zero"; "a coded payload is read byte after byte, highest bit first"
unfoldable pub reading : List Known
reading =
    ("bits of A5, highest first" of list_from (bit_at (0xA5 ∷ [])) 0 8 is 1 ∷ 0 ∷ 1 ∷ 0 ∷ 0 ∷ 1 ∷ 0 ∷ 1 ∷ [])
    ∷ ("a window over two bytes" of window (0x0F ∷ 0xA5 ∷ []) 4 8 ∷ window (0x0F ∷ 0xA5 ∷ []) 5 3 ∷ [] is 0xFA ∷ 7 ∷ [])
    ∷ ("bits past the end" of window (0xFF ∷ []) 4 8 ∷ window [] 0 8 ∷ [] is 0xF0 ∷ 0 ∷ [])
    -- * the slip "Taking an unfilled slot for symbol 0" reads 0 here
    ∷ ("2,2,2: no word at 11" of found (word_at (2 ∷ 2 ∷ 2 ∷ []) (0b1100_0000 ∷ []) 0) is 0 ∷ 0 ∷ [])
    -- * 1: bit 1 refused
    ∷ ("1: no word at 1" of found (word_at (1 ∷ []) (0b1000_0000 ∷ []) 0) is 0 ∷ 0 ∷ [])
    ∷ ("the word at a position: its length and symbol" of found (word_at (0 ∷ 3 ∷ 1 ∷ []) (0b1000_0000 ∷ []) 1) ++ found (word_at (0 ∷ 3 ∷ 1 ∷ []) (0b1000_0000 ∷ []) 0) is 3 ∷ 1 ∷ 1 ∷ 2 ∷ [])
    -- * "Byte 8C under 1,2,2, four samples: 0, 1, 2, 0. Six samples: then 1, 1, the last from past the end."
    ∷ ("8C under 1,2,2, four samples" of read (chain (1 ∷ 2 ∷ 2 ∷ []) (0x8C ∷ []) 0 4) is 1 ∷ 0 ∷ 1 ∷ 2 ∷ 0 ∷ [])
    ∷ ("six samples: the last from past the end" of read (chain (1 ∷ 2 ∷ 2 ∷ []) (0x8C ∷ []) 0 6) is 1 ∷ 0 ∷ 1 ∷ 2 ∷ 0 ∷ 1 ∷ 1 ∷ [])
    ∷ ("the position where no word fits" of read (chain (2 ∷ 2 ∷ 2 ∷ []) (0b0110_1100 ∷ []) 0 4) is 0 ∷ 4 ∷ [])
    ∷ []

-- "A plane's need, with m its longest length: 1 word for m = 0; 2^m for m up to 12; else 4,096 + S·2^(m−12), S being the number
-- of different first twelve bits among words longer than 12."
unfoldable pub needs : List Known
needs =
    -- * 1,2,2: need 4
    ("1,2,2: need 4" of need (1 ∷ 2 ∷ 2 ∷ []) ∷ [] is 4 ∷ [])
    ∷ ("all zero: need 1" of need (0 ∷ 0 ∷ []) ∷ [] is 1 ∷ [])
    ∷ ("the need by m, with S = 5" of each (λ m. need_from m 5) (0 ∷ 1 ∷ 11 ∷ 12 ∷ 13 ∷ 18 ∷ []) is 1 ∷ 2 ∷ 2048 ∷ 4096 ∷ 4106 ∷ 4416 ∷ [])
    ∷ ("first twelve bits: of words longer than 12 only" of one (is_head (12 ∷ []) 0 0) ∷ one (is_head (13 ∷ []) 0 0) ∷ one (is_head (13 ∷ []) 1 0) ∷ [] is 0 ∷ 1 ∷ 0 ∷ [])
    ∷ ("words of 14 bits: four to a head" of each (λ s. one (is_head (replicate 6 14) 1 s)) (0 ∷ 3 ∷ 4 ∷ 5 ∷ []) is 0 ∷ 0 ∷ 1 ∷ 1 ∷ [])
    ∷ ("a head among the first n symbols" of each (λ n. one (head_below (replicate 6 14) 1 n)) (0 ∷ 4 ∷ 5 ∷ 6 ∷ []) is 0 ∷ 0 ∷ 1 ∷ 1 ∷ [])
    ∷ []

unfoldable pub long_need : List Known
long_need = ("13 and 1: need 4,098" of need (13 ∷ 1 ∷ []) ∷ [] is 4098 ∷ []) ∷ []

unfoldable pub two_heads : List Known
two_heads = ("13,13,13: words in two heads, need 4,100" of need (13 ∷ 13 ∷ 13 ∷ []) ∷ [] is 4100 ∷ []) ∷ []

-- "the statement fixes the words within it. From these and m alone, without the lengths, the lookup finds at a payload's bit
-- position the word that the bits there begin with, its length and symbol, or none"
unfoldable pub tables : List Known
tables =
    ("1,2,2: the table" of table_of (1 ∷ 2 ∷ 2 ∷ []) is 258 ∷ 514 ∷ 1 ∷ 1 ∷ [])
    ∷ ("2,2,2: the table, an unfilled slot last" of table_of (2 ∷ 2 ∷ 2 ∷ []) is 2 ∷ 258 ∷ 514 ∷ 0 ∷ [])
    ∷ ("1,1: the table" of table_of (1 ∷ 1 ∷ []) is 1 ∷ 257 ∷ [])
    ∷ ("no word: a table of one unfilled slot" of table_of (0 ∷ 0 ∷ []) is 0 ∷ [])
    ∷ ("a slot and what it says" of packed (some_word 3 5) ∷ packed None ∷ [] ++ found (unpacked 1283) ++ found (unpacked 1280) is 1283 ∷ 0 ∷ 3 ∷ 5 ∷ 0 ∷ 0 ∷ [])
    ∷ ("2,2,2: the lookup at 11 and at 10" of found (lookup_in (table_of (2 ∷ 2 ∷ 2 ∷ [])) 2 (0b1110_0000 ∷ []) 0) ++ found (lookup_in (table_of (2 ∷ 2 ∷ 2 ∷ [])) 2 (0b1110_0000 ∷ []) 2) is 0 ∷ 0 ∷ 2 ∷ 2 ∷ [])
    ∷ ("m = 0 and m above 18 find no word" of found (lookup_in (258 ∷ []) 0 [] 0) ++ found (lookup_in (258 ∷ []) 19 [] 0) is 0 ∷ 0 ∷ 0 ∷ 0 ∷ [])
    ∷ ("m = 18 does" of found (lookup_in (258 ∷ []) 18 [] 0) is 2 ∷ 1 ∷ [])
    ∷ ("255 leads on for m above 12 only" of found (lookup_in (255 ∷ []) 12 [] 0) ++ found (lookup_in (255 ∷ []) 13 [] 0) ++ found (lookup_in (511 ∷ []) 13 [] 0) is 255 ∷ 0 ∷ 0 ∷ 0 ∷ 0 ∷ 0 ∷ [])
    ∷ ("past the words of a workspace stands no word" of found (lookup_in [] 12 [] 0) ++ found (lookup_in [] 13 [] 0) is 0 ∷ 0 ∷ 0 ∷ 0 ∷ [])
    ∷ ("bits of a slot begin with a word that fits in them" of one (begins_in (2 ∷ 2 ∷ 2 ∷ []) 3 0b011 1) ∷ one (begins_in (2 ∷ 2 ∷ 2 ∷ []) 3 0b001 1) ∷ one (begins_in (2 ∷ 2 ∷ 2 ∷ []) 2 0b01 1) ∷ one (begins_in (3 ∷ []) 2 0 0) ∷ one (begins_in (0 ∷ []) 2 0 0) ∷ [] is 1 ∷ 0 ∷ 1 ∷ 0 ∷ 0 ∷ [])
    ∷ ("n slots of k bits" of slots (2 ∷ 2 ∷ 2 ∷ []) 3 8 is 2 ∷ 2 ∷ 258 ∷ 258 ∷ 514 ∷ 514 ∷ 0 ∷ 0 ∷ [])
    ∷ ("a slot of the first part: a head, a short word, none" of first_part (13 ∷ 13 ∷ 13 ∷ 2 ∷ []) 12 1 ∷ first_part (13 ∷ 13 ∷ 13 ∷ 2 ∷ []) 12 1024 ∷ first_part (13 ∷ 13 ∷ 13 ∷ 2 ∷ []) 12 2 ∷ [] is 255 ∷ 770 ∷ 0 ∷ [])
    ∷ []

-- 13,13,13,2 has the words 0, 1 and 2 of thirteen bits in two heads, and 01: these are the words that its table holds
unfoldable pub two_parts : List ℕ
two_parts = 255 ∷ 255 ∷ (replicate 1022 0 ++ (replicate 1024 770 ++ (replicate 2048 0 ++ (13 ∷ 269 ∷ 525 ∷ 0 ∷ []))))

unfoldable pub second_part : List Known
second_part =
    ("13,13,13,2: the table, its heads, the end of its short word, and its second part" of take 3 (table_of (13 ∷ 13 ∷ 13 ∷ 2 ∷ [])) ++ take 2 (drop 2047 (table_of (13 ∷ 13 ∷ 13 ∷ 2 ∷ []))) ++ drop 4095 (table_of (13 ∷ 13 ∷ 13 ∷ 2 ∷ [])) is 255 ∷ 255 ∷ 0 ∷ 770 ∷ 0 ∷ 0 ∷ 13 ∷ 269 ∷ 525 ∷ 0 ∷ [])
    ∷ []

unfoldable pub lookups : List Known
lookups =
    ("in the second part, in each head" of found (lookup_in two_parts 13 (0x00 ∷ 0x08 ∷ []) 0) ++ found (lookup_in two_parts 13 (0x00 ∷ 0x10 ∷ []) 0) is 13 ∷ 1 ∷ 13 ∷ 2 ∷ [])
    ∷ ("its unfilled slot" of found (lookup_in two_parts 13 (0x00 ∷ 0x18 ∷ []) 0) is 0 ∷ 0 ∷ [])
    ∷ ("a short word, and none" of found (lookup_in two_parts 13 (0x20 ∷ 0x80 ∷ []) 1) ++ found (lookup_in two_parts 13 (0x80 ∷ []) 0) is 2 ∷ 3 ∷ 0 ∷ 0 ∷ [])
    ∷ ("a word of 12 bits next to the heads" of found (lookup_in (255 ∷ 255 ∷ 1036 ∷ []) 13 (0x00 ∷ 0x20 ∷ []) 0) is 12 ∷ 4 ∷ [])
    ∷ []

-- ---- a table and a reading by themselves

-- "A table built by itself is refused for more than 16,384 lengths by 4, then by 9, 10 and 11 as above for that one plane (called
-- plane 0), and each leaves the workspace as found. Success leaves the words past the need as found"
unfoldable pub built : List Known
built =
    -- * "1,1,1 and 1,2,2,2: refusal 10. All zero: built, need 1."
    ("1,1,1: refusal 10" of said (build_answer (1 ∷ 1 ∷ 1 ∷ []) 4) is at_plane 10 0)
    -- *
    ∷ ("1,2,2,2: refusal 10" of said (build_answer (1 ∷ 2 ∷ 2 ∷ 2 ∷ []) 4) is at_plane 10 0)
    ∷ ("shares one too many by a word of 18 bits" of said (build_answer (1 ∷ 2 ∷ 2 ∷ 18 ∷ []) 300000) is at_plane 10 0)
    ∷ ("all zero: built" of said (build_answer (0 ∷ 0 ∷ []) 1) is done)
    ∷ ("all zero, no workspace: 11" of said (build_answer (0 ∷ 0 ∷ []) 0) is refusal 11)
    ∷ ("a length of 19: 9" of said (build_answer (0 ∷ 19 ∷ []) 4) is at_plane 9 0)
    ∷ ("9 before 10" of said (build_answer (1 ∷ 19 ∷ 1 ∷ 1 ∷ []) 4) is at_plane 9 0)
    ∷ ("10 before 11" of said (build_answer (1 ∷ 1 ∷ 1 ∷ []) 0) is at_plane 10 0)
    ∷ ("one workspace word too few: 11" of said (build_answer (1 ∷ 2 ∷ 2 ∷ []) 3) is refusal 11)
    ∷ ("exactly enough" of said (build_answer (1 ∷ 2 ∷ 2 ∷ []) 4) is done)
    ∷ ("9 leaves the workspace as found" of workspace_built (19 ∷ []) (9 ∷ 9 ∷ []) is 9 ∷ 9 ∷ [])
    ∷ ("10 leaves it as found" of workspace_built (1 ∷ 1 ∷ 1 ∷ []) (9 ∷ 9 ∷ []) is 9 ∷ 9 ∷ [])
    ∷ ("11 leaves it as found" of workspace_built (1 ∷ 2 ∷ 2 ∷ []) (9 ∷ 9 ∷ 9 ∷ []) is 9 ∷ 9 ∷ 9 ∷ [])
    ∷ ("success: the table, and the words past the need as found" of workspace_built (1 ∷ 2 ∷ 2 ∷ []) (9 ∷ 9 ∷ 9 ∷ 9 ∷ 8 ∷ 7 ∷ []) is 258 ∷ 514 ∷ 1 ∷ 1 ∷ 8 ∷ 7 ∷ [])
    ∷ []

-- the cap on both sides; a length of 19 shows which check comes first
unfoldable pub too_many_lengths : List Known
too_many_lengths =
    ("16,385 lengths: 4, before 9" of said (build_answer (19 ∷ replicate 16384 0) 1) is refusal 4)
    ∷ ("4 leaves the workspace as found" of workspace_built (replicate 16385 0) (9 ∷ []) is 9 ∷ [])
    ∷ []

unfoldable pub as_many_lengths : List Known
as_many_lengths = ("16,384 lengths: not 4" of said (build_answer (19 ∷ replicate 16383 0) 1) is at_plane 9 0) ∷ []

-- "A reading by itself .. builds first, with those refusals, and 4 also for more than 268,435,456 samples .., all of which leave
-- buffer and workspace as found; then it reads, with no slice checks. A failed word gives 14 (plane 0 ..) and leaves both wholly
-- zero; success leaves the workspace zero. For n = 0 it succeeds once the table is built."
unfoldable pub read_alone : List Known
read_alone =
    ("six samples of 8C under 1,2,2" of said (read_answer (1 ∷ 2 ∷ 2 ∷ []) (0x8C ∷ []) 6 4) ++ samples_read (1 ∷ 2 ∷ 2 ∷ []) (0x8C ∷ []) (replicate 6 7) 4 is 0 ∷ 0 ∷ 0 ∷ 0 ∷ 1 ∷ 2 ∷ 0 ∷ 1 ∷ 1 ∷ [])
    ∷ ("success leaves the workspace zero, past the need too" of workspace_read (1 ∷ 2 ∷ 2 ∷ []) (0x8C ∷ []) 6 (9 ∷ 9 ∷ 9 ∷ 9 ∷ 9 ∷ []) is 0 ∷ 0 ∷ 0 ∷ 0 ∷ 0 ∷ [])
    -- * 2,2,2: bits 11 refused
    ∷ ("a failed word: 14 at plane 0" of said (read_answer (2 ∷ 2 ∷ 2 ∷ []) (0b0011_0000 ∷ []) 2 4) is at_plane 14 0)
    ∷ ("14 leaves the buffer zero" of samples_read (2 ∷ 2 ∷ 2 ∷ []) (0b0011_0000 ∷ []) (7 ∷ 7 ∷ []) 4 is 0 ∷ 0 ∷ [])
    ∷ ("14 leaves the workspace zero" of workspace_read (2 ∷ 2 ∷ 2 ∷ []) (0b0011_0000 ∷ []) 2 (9 ∷ 9 ∷ 9 ∷ 9 ∷ 9 ∷ []) is 0 ∷ 0 ∷ 0 ∷ 0 ∷ 0 ∷ [])
    ∷ ("no samples: done once the table is built" of said (read_answer (0 ∷ 0 ∷ []) (0x8C ∷ []) 0 1) is done)
    ∷ ("no samples and no room for the table: 11" of said (read_answer (0 ∷ 0 ∷ []) (0x8C ∷ []) 0 0) is refusal 11)
    ∷ ("one sample and no word: 14" of said (read_answer (0 ∷ 0 ∷ []) (0x8C ∷ []) 1 1) is at_plane 14 0)
    ∷ ("9 leaves both as found" of said (read_answer (19 ∷ []) [] 1 2) ++ samples_read (19 ∷ []) [] (7 ∷ []) 2 ++ workspace_read (19 ∷ []) [] 1 (9 ∷ 9 ∷ []) is 9 ∷ 2 ∷ 0 ∷ 7 ∷ 9 ∷ 9 ∷ [])
    ∷ ("10 leaves both as found" of said (read_answer (1 ∷ 1 ∷ 1 ∷ []) [] 1 2) ++ samples_read (1 ∷ 1 ∷ 1 ∷ []) [] (7 ∷ []) 2 ++ workspace_read (1 ∷ 1 ∷ 1 ∷ []) [] 1 (9 ∷ 9 ∷ []) is 10 ∷ 2 ∷ 0 ∷ 7 ∷ 9 ∷ 9 ∷ [])
    ∷ ("11 leaves both as found" of said (read_answer (2 ∷ 2 ∷ 2 ∷ []) [] 1 2) ++ samples_read (2 ∷ 2 ∷ 2 ∷ []) [] (7 ∷ []) 2 ++ workspace_read (2 ∷ 2 ∷ 2 ∷ []) [] 1 (9 ∷ 9 ∷ []) is 11 ∷ 0 ∷ 0 ∷ 7 ∷ 9 ∷ 9 ∷ [])
    ∷ ("268,435,457 samples: 4, before 10" of said (read_answer (1 ∷ 1 ∷ 1 ∷ []) [] 268435457 4) ++ workspace_read (1 ∷ 1 ∷ 1 ∷ []) [] 268435457 (9 ∷ 9 ∷ []) is 4 ∷ 0 ∷ 0 ∷ 9 ∷ 9 ∷ [])
    ∷ ("268,435,456 samples: not 4" of said (read_answer (1 ∷ 1 ∷ 1 ∷ []) [] 268435456 4) is at_plane 10 0)
    ∷ []

-- ---- prediction

-- "the first min(f, rows) rows start from their own first residue and add the left sample across. Later rows add, in column 0, the
-- sample f rows up; then the predictor of left, top (f rows up) and top-left. All sums are modulo 2^depth."
unfoldable pub slices : List Known
slices =
    -- * "Residues 10,5,250 / 1,2,3 at depth 8. Row 0: 10,15,9. Row 1: Left 11,13,16; Gradient 11,18,15; Median 11,17,14."
    ("Left" of samples_of 8 1 3 1 (10 ∷ 5 ∷ 250 ∷ 1 ∷ 2 ∷ 3 ∷ []) is 10 ∷ 15 ∷ 9 ∷ 11 ∷ 13 ∷ 16 ∷ [])
    ∷ ("Gradient" of samples_of 8 2 3 1 (10 ∷ 5 ∷ 250 ∷ 1 ∷ 2 ∷ 3 ∷ []) is 10 ∷ 15 ∷ 9 ∷ 11 ∷ 18 ∷ 15 ∷ [])
    ∷ ("Median" of samples_of 8 3 3 1 (10 ∷ 5 ∷ 250 ∷ 1 ∷ 2 ∷ 3 ∷ []) is 10 ∷ 15 ∷ 9 ∷ 11 ∷ 17 ∷ 14 ∷ [])
    -- the slip is "With two fields, adding the row directly above"
    ∷ ("two fields: row 2 adds row 0" of samples_of 8 2 2 2 (1 ∷ 2 ∷ 10 ∷ 20 ∷ 100 ∷ 5 ∷ []) is 1 ∷ 3 ∷ 10 ∷ 30 ∷ 101 ∷ 108 ∷ [])
    ∷ ("two fields, row 3 adds row 1" of samples_of 8 1 1 2 (1 ∷ 2 ∷ 3 ∷ 4 ∷ []) is 1 ∷ 2 ∷ 4 ∷ 6 ∷ [])
    ∷ ("two fields, one row" of samples_of 8 2 2 2 (1 ∷ 2 ∷ []) is 1 ∷ 3 ∷ [])
    ∷ ("sums modulo 2^10" of samples_of 10 1 2 1 (1000 ∷ 100 ∷ 1000 ∷ 1 ∷ []) is 1000 ∷ 76 ∷ 976 ∷ 977 ∷ [])
    ∷ []

-- "Left: left. Gradient: left + top − top-left modulo 2^depth. Median at depth 8: that modular gradient clamped between the
-- smaller and larger of left and top. Median at 10 to 14: T.87"
unfoldable pub predictors : List Known
predictors =
    -- * "Left 200, top 100, top-left 10: median 100 at depth 8, 200 at depth 10."; the slip is "Using T.87's median at depth 8, or the clamp at 10."
    ("left 200, top 100, top-left 10: median 100 at depth 8, 200 at depth 10" of median 8 200 100 10 ∷ median 10 200 100 10 ∷ [] is 100 ∷ 200 ∷ [])
    ∷ ("the gradient, below 0, within, and above 255" of gradient 8 10 20 50 ∷ gradient 8 50 20 10 ∷ gradient 8 200 100 10 ∷ [] is 236 ∷ 60 ∷ 34 ∷ [])
    ∷ ("the clamp, from below, within, and from above" of median 8 100 200 100 ∷ median 8 100 200 150 ∷ median 8 10 20 25 ∷ median 8 10 20 5 ∷ [] is 200 ∷ 150 ∷ 10 ∷ 20 ∷ [])
    ∷ ("T.87 between its bounds" of median 10 200 100 150 ∷ median 10 100 200 101 ∷ median 12 100 200 199 ∷ [] is 150 ∷ 199 ∷ 101 ∷ [])
    ∷ ("T.87 at its bounds" of median 10 200 100 200 ∷ median 10 200 100 100 ∷ [] is 100 ∷ 200 ∷ [])
    ∷ ("T.87 where left + top − top-left leaves 0 to 1023" of median 10 1000 900 10 ∷ median 10 10 20 1000 ∷ [] is 1000 ∷ 10 ∷ [])
    ∷ ("1 Left, 2 Gradient, 3 Median" of each (λ k. predictor 8 k 200 100 10) (1 ∷ 2 ∷ 3 ∷ []) is 200 ∷ 34 ∷ 100 ∷ [])
    -- * "B'=1020, G=10 at depth 10: B=6."
    ∷ ("1020 and 10 at depth 10 are 6" of plus 10 (1020 ∷ []) (10 ∷ []) is 6 ∷ [])
    ∷ []

-- "Raw depth 8 is one byte a sample; deeper raw samples are packed at depth bits, highest bit first. Bytes left over are ignored."
unfoldable pub raws : List Known
raws =
    -- * "Raw depth 10, bytes FF C0 00: 1023, 0."
    ("depth 10, FF C0 00" of raw_samples 10 (0xFF ∷ 0xC0 ∷ 0x00 ∷ []) 2 is 1023 ∷ 0 ∷ [])
    ∷ ("depth 8" of raw_samples 8 (0xFF ∷ 0xC0 ∷ 0x00 ∷ []) 2 is 255 ∷ 192 ∷ [])
    ∷ ("depth 12" of raw_samples 12 (0xAB ∷ 0xCD ∷ 0xEF ∷ 0xFF ∷ []) 2 is 0xABC ∷ 0xDEF ∷ [])
    ∷ ("depth 14" of raw_samples 14 (0xFF ∷ 0xFC ∷ 0x00 ∷ 0x10 ∷ 0xFF ∷ []) 2 is 16383 ∷ 1 ∷ [])
    ∷ []

-- ---- 1 to 4: what is lent

-- 1: "geometry outside the rules above, or wrong entry for the depth"; 4 says here that the geometry passed
unfoldable pub rules : List Known
rules =
    ("widths 0, 1, 16,384, 16,385" of each (λ n. lent8 (plain Gray n 1 1) 0 0) (0 ∷ 1 ∷ 16384 ∷ 16385 ∷ []) is 1 ∷ 4 ∷ 4 ∷ 1 ∷ [])
    ∷ ("heights" of each (λ n. lent8 (plain Gray 1 n 1) 0 0) (0 ∷ 1 ∷ 16384 ∷ 16385 ∷ []) is 1 ∷ 4 ∷ 4 ∷ 1 ∷ [])
    ∷ ("slice heights" of each (λ n. lent8 (plain Gray 1 1 n) 0 0) (0 ∷ 1 ∷ 16384 ∷ 16385 ∷ []) is 1 ∷ 4 ∷ 4 ∷ 1 ∷ [])
    ∷ ("depths 7 to 17 at the byte entry" of list_from (λ d. lent8 (shape Gray 1 1 1 1 1 d false) 0 0) 7 11 is 1 ∷ 4 ∷ 1 ∷ 1 ∷ 1 ∷ 1 ∷ 1 ∷ 1 ∷ 1 ∷ 1 ∷ 1 ∷ [])
    ∷ ("depths 7 to 17 at the deep entry" of list_from (λ d. lent16 (shape Gray 1 1 1 1 1 d false) 0 0) 7 11 is 1 ∷ 1 ∷ 1 ∷ 4 ∷ 1 ∷ 4 ∷ 1 ∷ 4 ∷ 1 ∷ 1 ∷ 1 ∷ [])
    ∷ ("Yuv: sx 0 to 3" of list_from (λ s. lent8 (shape Yuv 2 2 2 s 1 8 false) 0 0) 0 4 is 1 ∷ 4 ∷ 4 ∷ 1 ∷ [])
    ∷ ("Yuva: sy 0 to 3" of list_from (λ s. lent8 (shape Yuva 2 2 2 1 s 8 false) 0 0) 0 4 is 1 ∷ 4 ∷ 4 ∷ 1 ∷ [])
    ∷ ("Gray, Rgb and Rgba have no factor of 2" of lent8 (shape Gray 2 2 2 2 1 8 false) 0 0 ∷ lent8 (shape Gray 2 2 2 1 2 8 false) 0 0 ∷ lent8 (shape Rgb 2 2 2 2 1 8 false) 0 0 ∷ lent8 (shape Rgb 2 2 2 1 2 8 false) 0 0 ∷ lent8 (shape Rgba 2 2 2 2 1 8 false) 0 0 ∷ lent8 (shape Rgba 2 2 2 1 2 8 false) 0 0 ∷ [] is 1 ∷ 1 ∷ 1 ∷ 1 ∷ 1 ∷ 1 ∷ [])
    ∷ ("interlaced passes" of lent8 (shape Yuv 2 2 2 2 2 8 true) 0 0 ∷ [] is 4 ∷ [])
    ∷ []

-- 2 and 3: "width not a multiple of sx, or height not of sy"; "slice height not a multiple of sy"
unfoldable pub multiples : List Known
multiples =
    ("2 by width, under 4:2:2" of lent8 (shape Yuv 3 2 2 2 1 8 false) 0 0 ∷ lent8 (shape Yuv 2 3 3 2 1 8 false) 0 0 ∷ [] is 2 ∷ 4 ∷ [])
    ∷ ("2 by height, under 4:4:0" of lent8 (shape Yuv 2 3 2 1 2 8 false) 0 0 ∷ lent8 (shape Yuv 3 2 2 1 2 8 false) 0 0 ∷ [] is 2 ∷ 4 ∷ [])
    ∷ ("3 under 4:4:0, not under 4:2:2" of lent8 (shape Yuv 2 4 3 1 2 8 false) 0 0 ∷ lent8 (shape Yuv 2 4 3 2 1 8 false) 0 0 ∷ [] is 3 ∷ 4 ∷ [])
    ∷ ("1 before 2" of lent8 (shape Yuv 16385 2 2 2 2 8 false) 0 0 ∷ [] is 1 ∷ [])
    ∷ ("2 before 3" of lent8 (shape Yuv 2 3 3 2 2 8 false) 0 0 ∷ [] is 2 ∷ [])
    ∷ ("3 before 4" of lent8 (shape Yuv 2 4 3 2 2 8 false) 0 0 ∷ [] is 3 ∷ [])
    ∷ ("2 and 3 have no place" of answer8 [] (shape Yuv 3 2 2 2 1 8 false) [] 0 0 ++ answer8 [] (shape Yuv 2 4 3 1 2 8 false) [] 0 0 is refusal 2 ++ refusal 3)
    ∷ []

-- 4: "lengths not exactly P·2^depth bytes, or plane buffer not exactly all planes' samples"; 5 says here that 4 passed.
-- "Planes 1 and 2 of Yuv and Yuva have width/sx, height/sy and slice height/sy; all others have the full figures."
unfoldable pub amounts : List Known
amounts =
    ("Gray 1 plane" of each (λ n. lent8 (plain Gray 1 1 1) n 1) (0 ∷ 1 ∷ 2 ∷ []) is 4 ∷ 5 ∷ 4 ∷ [])
    ∷ ("Rgb 3 planes" of each (λ n. lent8 (plain Rgb 1 1 1) n 3) (2 ∷ 3 ∷ 4 ∷ []) is 4 ∷ 5 ∷ 4 ∷ [])
    ∷ ("Yuv 3 planes" of each (λ n. lent8 (plain Yuv 1 1 1) n 3) (2 ∷ 3 ∷ 4 ∷ []) is 4 ∷ 5 ∷ 4 ∷ [])
    ∷ ("Rgba 4 planes" of each (λ n. lent8 (plain Rgba 1 1 1) n 4) (3 ∷ 4 ∷ 5 ∷ []) is 4 ∷ 5 ∷ 4 ∷ [])
    ∷ ("Yuva 4 planes" of each (λ n. lent8 (plain Yuva 1 1 1) n 4) (3 ∷ 4 ∷ 5 ∷ []) is 4 ∷ 5 ∷ 4 ∷ [])
    ∷ ("Rgb 5×3: 45 samples" of each (lent8 (plain Rgb 5 3 1) 3) (44 ∷ 45 ∷ 46 ∷ []) is 4 ∷ 5 ∷ 4 ∷ [])
    ∷ ("Yuva 6×4 under 4:2:2: 24, 12, 12 and 24 samples" of each (lent8 (shape Yuva 6 4 2 2 1 8 false) 4) (71 ∷ 72 ∷ 73 ∷ []) is 4 ∷ 5 ∷ 4 ∷ [])
    ∷ ("Yuv 6×4 under 4:4:0: 24, 12 and 12" of each (lent8 (shape Yuv 6 4 2 1 2 8 false) 3) (47 ∷ 48 ∷ 49 ∷ []) is 4 ∷ 5 ∷ 4 ∷ [])
    ∷ ("Yuv 6×4 under 4:2:0: 24, 6 and 6" of each (lent8 (shape Yuv 6 4 2 2 2 8 false) 3) (35 ∷ 36 ∷ 37 ∷ []) is 4 ∷ 5 ∷ 4 ∷ [])
    ∷ ("4 before 5, with no place" of answer8 [] (plain Gray 1 1 1) [] 1 0 is refusal 4)
    ∷ []

unfoldable pub length_amounts : List Known
length_amounts =
    ("one length more or less" of each (λ n. number_of (answer_of Eight [] (plain Gray 1 1 1) (replicate n 0) 1 0)) (255 ∷ 256 ∷ 257 ∷ []) is 4 ∷ 5 ∷ 4 ∷ [])
    ∷ ("depth 10: 1,024 lengths a plane" of each (λ n. lent16 (shape Gray 1 1 1 1 1 10 false) n 1) (1023 ∷ 1024 ∷ 1025 ∷ []) is 4 ∷ 5 ∷ 4 ∷ [])
    ∷ []

unfoldable pub most_lengths : List Known
most_lengths =
    ("depths 12 and 14: 4,096 and 16,384" of lent16 (shape Gray 1 1 1 1 1 12 false) 4096 1 ∷ lent16 (shape Gray 1 1 1 1 1 14 false) 16384 1 ∷ [] is 5 ∷ 5 ∷ []) ∷ []

-- "Refusals 1 to 4 leave planes and workspace as found. All others leave both wholly zero.": these held 9
unfoldable pub leaves : List Known
leaves =
    ("1 leaves planes and workspace as found" of decode8 [] (plain Gray 0 1 1) [] 2 1 is refusal 1 ++ (9 ∷ 9 ∷ 9 ∷ []))
    ∷ ("2 leaves them as found" of decode8 [] (shape Yuv 3 2 2 2 1 8 false) [] 2 1 is refusal 2 ++ (9 ∷ 9 ∷ 9 ∷ []))
    ∷ ("3 leaves them as found" of decode8 [] (shape Yuv 2 4 3 1 2 8 false) [] 2 1 is refusal 3 ++ (9 ∷ 9 ∷ 9 ∷ []))
    ∷ ("4 leaves them as found" of decode8 [] (plain Gray 1 1 1) [] 2 1 is refusal 4 ++ (9 ∷ 9 ∷ 9 ∷ []))
    ∷ ("5 leaves them zero" of decode8 [] (plain Gray 1 1 1) (wordless 1) 1 2 is refusal 5 ++ (0 ∷ 0 ∷ 0 ∷ []))
    ∷ []

-- ---- layout

-- "P is the plane count, K = height / slice height rounded up, T = P·K"; "Place k covers rows from k times the plane's slice height,
-- cut at the plane's height"; "Planes lie one after another with no gaps."
unfoldable pub figures : List Known
figures =
    ("Yuva 6×10 of slices of 4 under 4:2:2: K and T" of slices_per_plane (shape Yuva 6 10 4 2 1 8 false) ∷ slice_count (shape Yuva 6 10 4 2 1 8 false) ∷ [] is 3 ∷ 12 ∷ [])
    ∷ ("its planes' widths" of each (plane_width (shape Yuva 6 10 4 2 1 8 false)) (0 ∷ 1 ∷ 2 ∷ 3 ∷ []) is 6 ∷ 3 ∷ 3 ∷ 6 ∷ [])
    ∷ ("heights" of each (plane_height (shape Yuva 6 10 4 2 1 8 false)) (0 ∷ 1 ∷ 2 ∷ 3 ∷ []) is 10 ∷ 10 ∷ 10 ∷ 10 ∷ [])
    ∷ ("slice heights" of each (plane_slice_height (shape Yuva 6 10 4 2 1 8 false)) (0 ∷ 1 ∷ 2 ∷ 3 ∷ []) is 4 ∷ 4 ∷ 4 ∷ 4 ∷ [])
    ∷ ("Yuv 6×10 of slices of 4 under 4:4:0: widths" of each (plane_width (shape Yuv 6 10 4 1 2 8 false)) (0 ∷ 1 ∷ 2 ∷ []) is 6 ∷ 6 ∷ 6 ∷ [])
    ∷ ("heights" of each (plane_height (shape Yuv 6 10 4 1 2 8 false)) (0 ∷ 1 ∷ 2 ∷ []) is 10 ∷ 5 ∷ 5 ∷ [])
    ∷ ("slice heights" of each (plane_slice_height (shape Yuv 6 10 4 1 2 8 false)) (0 ∷ 1 ∷ 2 ∷ []) is 4 ∷ 2 ∷ 2 ∷ [])
    ∷ ("first rows and rows of each place of plane 0" of each (first_row (shape Yuv 6 10 4 1 2 8 false) 0) (0 ∷ 1 ∷ 2 ∷ []) ++ each (rows_at (shape Yuv 6 10 4 1 2 8 false) 0) (0 ∷ 1 ∷ 2 ∷ []) is 0 ∷ 4 ∷ 8 ∷ 4 ∷ 4 ∷ 2 ∷ [])
    ∷ ("and of plane 1" of each (first_row (shape Yuv 6 10 4 1 2 8 false) 1) (0 ∷ 1 ∷ 2 ∷ []) ++ each (rows_at (shape Yuv 6 10 4 1 2 8 false) 1) (0 ∷ 1 ∷ 2 ∷ []) is 0 ∷ 2 ∷ 4 ∷ 2 ∷ 2 ∷ 1 ∷ [])
    ∷ ("samples of each plane, and of all" of each (plane_samples (shape Yuva 6 10 4 2 1 8 false)) (0 ∷ 1 ∷ 2 ∷ 3 ∷ []) ++ all_samples (shape Yuva 6 10 4 2 1 8 false) ∷ [] is 60 ∷ 30 ∷ 30 ∷ 60 ∷ 180 ∷ [])
    ∷ ("where the planes of Yuva start" of each (plane_start (shape Yuva 6 10 4 2 1 8 false)) (0 ∷ 1 ∷ 2 ∷ 3 ∷ []) is 0 ∷ 60 ∷ 90 ∷ 120 ∷ [])
    ∷ ("where those of Rgba start: G before B" of each (plane_start (plain Rgba 2 3 1)) (0 ∷ 1 ∷ 2 ∷ 3 ∷ []) is 6 ∷ 0 ∷ 12 ∷ 18 ∷ [])
    ∷ ("the buffer's place of the wire's planes" of each (order_of (plain Rgb 1 1 1)) (0 ∷ 1 ∷ 2 ∷ 3 ∷ []) ++ each (order_of (plain Rgba 1 1 1)) (0 ∷ 1 ∷ 2 ∷ 3 ∷ []) is 1 ∷ 0 ∷ 2 ∷ 3 ∷ 1 ∷ 0 ∷ 2 ∷ 3 ∷ [])
    ∷ ("the other families keep wire order" of each (order_of (plain Gray 1 1 1)) (0 ∷ 1 ∷ []) ++ each (order_of (plain Yuv 1 1 1)) (0 ∷ 1 ∷ []) ++ each (order_of (plain Yuva 1 1 1)) (0 ∷ 1 ∷ []) is 0 ∷ 1 ∷ 0 ∷ 1 ∷ 0 ∷ 1 ∷ [])
    ∷ ("where rows start: row 2 of B' and of R' of Rgb 2×3" of row_start (plain Rgb 2 3 1) 0 2 ∷ row_start (plain Rgb 2 3 1) 2 2 ∷ [] is 10 ∷ 16 ∷ [])
    ∷ ("row 2 of plane 2 under 4:2:2" of row_start (shape Yuva 6 10 4 2 1 8 false) 2 2 ∷ [] is 96 ∷ [])
    ∷ ("one field or two" of fields (plain Gray 1 1 1) ∷ fields (shape Gray 1 1 1 1 1 8 true) ∷ [] is 1 ∷ 2 ∷ [])
    ∷ []

-- "T+1 little-endian 32-bit entries; entry 0 isn't used"
unfoldable pub places : List Known
places =
    ("each byte of an entry" of le32 (9 ∷ 1 ∷ 2 ∷ 3 ∷ 4 ∷ []) 1 ∷ [] is 0x0403_0201 ∷ [])
    ∷ ("entry 1" of entry (replicate 36 7 ++ (1 ∷ 2 ∷ 3 ∷ 4 ∷ 5 ∷ [])) 1 ∷ [] is 0x0403_0201 ∷ [])
    ∷ ("past the frame stands 0" of le32 [] 0 ∷ [] is 0 ∷ [])
    ∷ []

-- "Gray 2×1, depth 8, slice height 1, lengths all zero: 32 bytes of zero; 00 00 00 00; 0A 00 00 00; 01 00; 01 01 07 05. 46 bytes"
unfoldable pub tiny : List ℕ
tiny = replicate 32 0 ++ (0x00 ∷ 0x00 ∷ 0x00 ∷ 0x00 ∷ 0x0A ∷ 0x00 ∷ 0x00 ∷ 0x00 ∷ 0x01 ∷ 0x00 ∷ 0x01 ∷ 0x01 ∷ 0x07 ∷ 0x05 ∷ [])

unfoldable pub tiny_says : (frame : Bytes) → List ℕ
tiny_says frame = decode8 frame (plain Gray 2 1 1) (wordless 1) 2 1

-- "planes 7, 12. Cut to 45: refusal 12. Predictor byte 0: 15. Entry 1 of 7 or 8: 6; of 9: 6. Count byte 2: 7."
unfoldable pub whole_frame : List Known
whole_frame =
    ("46 bytes, as the frames here are built" of tiny is frame_of (1 ∷ 0 ∷ []) ((1 ∷ 1 ∷ 7 ∷ 5 ∷ []) ∷ []))
    ∷ ("planes 7, 12" of length tiny ∷ tiny_says tiny is 46 ∷ (done ++ (7 ∷ 12 ∷ 0 ∷ [])))
    ∷ ("cut to 45" of tiny_says (take 45 tiny) is at_slice 12 0 ++ (0 ∷ 0 ∷ 0 ∷ []))
    ∷ ("predictor byte 0" of tiny_says (set tiny 43 0) is at_slice 15 0 ++ (0 ∷ 0 ∷ 0 ∷ []))
    ∷ ("entry 1 of 7" of tiny_says (set tiny 36 7) is refusal 6 ++ (0 ∷ 0 ∷ 0 ∷ []))
    ∷ ("entry 1 of 8" of tiny_says (set tiny 36 8) is refusal 6 ++ (0 ∷ 0 ∷ 0 ∷ []))
    ∷ ("entry 1 of 9" of tiny_says (set tiny 36 9) is refusal 6 ++ (0 ∷ 0 ∷ 0 ∷ []))
    ∷ ("count byte 2" of tiny_says (set tiny 40 2) is refusal 7 ++ (0 ∷ 0 ∷ 0 ∷ []))
    ∷ ("bytes left over are ignored" of tiny_says (tiny ++ (8 ∷ 8 ∷ [])) is done ++ (7 ∷ 12 ∷ 0 ∷ []))
    ∷ ("byte 3 of an entry counts" of tiny_says (set tiny 39 1) is refusal 6 ++ (0 ∷ 0 ∷ 0 ∷ []))
    ∷ []

-- "bytes that we don't read": 300 of them after the index, so that entry 1 is 310, above 255
unfoldable pub far : List Known
far =
    ("a slice past 255, after bytes of the preamble that are not read"
    of decode8 (replicate 36 0 ++ ((0x36 ∷ 0x01 ∷ 0x00 ∷ 0x00 ∷ 1 ∷ 0 ∷ []) ++ (replicate 300 8 ++ (1 ∷ 1 ∷ 7 ∷ 5 ∷ [])))) (plain Gray 2 1 1) (wordless 1) 2 1
    is done ++ (7 ∷ 12 ∷ 0 ∷ []))
    ∷ []

-- ---- 5 to 15, in Rgb 1×1 with one slice a plane, which name planes 1, 2 and 0

-- Three raw slices: G 10, R' 250, B' 5. Entries at 36, 40 and 44 are 20, 23 and 26; the count at 48, the indices at 49, 50 and 51;
-- the slices at 52, 55 and 58; 61 bytes in all.
unfoldable pub colours : List ℕ
colours = frame_of (3 ∷ 1 ∷ 2 ∷ 0 ∷ []) ((1 ∷ 1 ∷ 10 ∷ []) ∷ (1 ∷ 1 ∷ 250 ∷ []) ∷ (1 ∷ 1 ∷ 5 ∷ []) ∷ [])

-- the answer with some bytes changed, all lengths zero and exactly the workspace that this needs
unfoldable pub colours_say : (frame : Bytes) → List ℕ
colours_say frame = answer8 frame (plain Rgb 1 1 1) (wordless 3) 3 3

-- "Rgb and Rgba wire order is B', G, R', (A); B and R are B'+G and R'+G modulo 2^depth. The plane buffer holds G, B, R, (A)."
unfoldable pub order : List Known
order =
    -- the slips are "Assuming plane-major slices instead of the indices" and "Giving B first in the output"
    ("slices that name G, R', B'" of decode8 colours (plain Rgb 1 1 1) (wordless 3) 3 3 is done ++ (10 ∷ 15 ∷ 4 ∷ 0 ∷ 0 ∷ 0 ∷ []))
    ∷ ("slices in plane order" of planes_after Eight (frame_of (3 ∷ 0 ∷ 1 ∷ 2 ∷ []) ((1 ∷ 1 ∷ 10 ∷ []) ∷ (1 ∷ 1 ∷ 250 ∷ []) ∷ (1 ∷ 1 ∷ 5 ∷ []) ∷ [])) (plain Rgb 1 1 1) (wordless 3) (9 ∷ 9 ∷ 9 ∷ []) 3 is 250 ∷ 4 ∷ 255 ∷ [])
    ∷ []

-- 5: "frame shorter than 32+4(T+1)"; 6: "preamble ends before it starts or past the frame, is empty, or lacks T indices"; 7: "plane
-- count byte is not P". "In 6 and 7: bounds and emptiness, then 7, then missing indices."
unfoldable pub preambles : List Known
preambles =
    ("one byte too few for the entries: 5, before 6" of colours_say (take 47 colours) is refusal 5)
    ∷ ("just enough for them, and the preamble past the frame" of colours_say (take 48 colours) is refusal 6)
    ∷ ("just enough for them, and an empty preamble" of colours_say (take 48 (set colours 36 16)) is refusal 6)
    ∷ ("6: ends before it starts" of colours_say (set colours 36 15) is refusal 6)
    ∷ ("6: is empty" of colours_say (set colours 36 16) is refusal 6)
    ∷ ("6: ends past the frame" of colours_say (set colours 36 30) is refusal 6)
    ∷ ("ends at the frame's end: no longer 6" of colours_say (set colours 36 29) is at_slice 12 0)
    ∷ ("6 by bounds before 7" of colours_say (set (set colours 36 15) 48 2) ++ colours_say (set (set colours 36 30) 48 2) is refusal 6 ++ refusal 6)
    ∷ ("6 by emptiness before 7" of colours_say (set (set colours 36 16) 48 2) is refusal 6)
    ∷ ("7, by count bytes 2 and 4" of colours_say (set colours 48 2) ++ colours_say (set colours 48 4) is refusal 7 ++ refusal 7)
    ∷ ("7 before missing indices" of colours_say (set (set colours 36 17) 48 2) is refusal 7)
    ∷ ("6: no index" of colours_say (set colours 36 17) is refusal 6)
    ∷ ("6: one index too few, before 8" of colours_say (set (set colours 36 19) 50 3) is refusal 6)
    ∷ ("7 before 8" of colours_say (set (set colours 48 2) 50 3) is refusal 7)
    ∷ []

-- 8: "index not below P, or that plane already has K slices", at the "first such slice"
unfoldable pub indices : List Known
indices =
    -- "Rgb, K = 1, indices 0,0,1: refusal 8 at slice 1."
    ("Rgb, K = 1, indices 0,0,1: 8 at slice 1" of colours_say (set (set (set colours 49 0) 50 0) 51 1) is at_slice 8 1)
    ∷ ("index 3 at slice 1" of colours_say (set colours 50 3) is at_slice 8 1)
    ∷ ("index 255 at slice 2" of colours_say (set colours 51 255) is at_slice 8 2)
    ∷ ("plane 1 again at slice 2" of colours_say (set colours 51 1) is at_slice 8 2)
    ∷ ("the first such slice, by index before count" of colours_say (set (set colours 50 3) 51 1) is at_slice 8 1)
    ∷ ("by count before index" of colours_say (set (set colours 50 1) 51 3) is at_slice 8 1)
    ∷ ("8 leaves all zero" of decode8 (set colours 51 3) (plain Rgb 1 1 1) (wordless 3) 3 3 is at_slice 8 2 ++ replicate 6 0)
    ∷ ("8 before 9" of answer8 (set colours 51 1) (plain Rgb 1 1 1) (codes (19 ∷ []) [] []) 3 3 is at_slice 8 2)
    ∷ []

-- 9 and 10: "Refusals 9 and 10 go plane by plane, 9 first in each."
unfoldable pub lengths : List Known
lengths =
    ("9 at plane 2" of answer8 colours (plain Rgb 1 1 1) (codes [] [] (18 ∷ 19 ∷ [])) 3 3 is at_plane 9 2)
    ∷ ("10 at plane 1" of answer8 colours (plain Rgb 1 1 1) (codes [] (1 ∷ 1 ∷ 1 ∷ []) []) 3 4 is at_plane 10 1)
    ∷ ("9 before 10 in a plane" of answer8 colours (plain Rgb 1 1 1) (codes [] (1 ∷ 1 ∷ 1 ∷ 19 ∷ []) []) 3 4 is at_plane 9 1)
    ∷ ("10 of plane 1 before 9 of plane 2" of answer8 colours (plain Rgb 1 1 1) (codes [] (1 ∷ 1 ∷ 1 ∷ []) (19 ∷ [])) 3 4 is at_plane 10 1)
    ∷ ("9 of plane 0 before 10 of plane 1" of answer8 colours (plain Rgb 1 1 1) (codes (19 ∷ []) (1 ∷ 1 ∷ 1 ∷ []) []) 3 4 is at_plane 9 0)
    ∷ ("10 before 11" of answer8 colours (plain Rgb 1 1 1) (codes [] [] (1 ∷ 1 ∷ 1 ∷ [])) 3 0 is at_plane 10 2)
    ∷ []

unfoldable pub lengths_leave : List Known
lengths_leave =
    ("9 leaves all zero" of decode8 colours (plain Rgb 1 1 1) (codes [] [] (19 ∷ [])) 3 1 is at_plane 9 2 ++ replicate 4 0)
    ∷ ("10 leaves all zero" of decode8 colours (plain Rgb 1 1 1) (codes [] (1 ∷ 1 ∷ 1 ∷ []) []) 3 1 is at_plane 10 1 ++ replicate 4 0)
    ∷ []

-- 11: "workspace shorter than the sum of all planes' needs"
unfoldable pub room : List Known
room =
    ("needs 1, 4 and 2: a workspace of 7" of answer8 colours (plain Rgb 1 1 1) (codes [] (1 ∷ 2 ∷ 2 ∷ []) (1 ∷ 1 ∷ [])) 3 7 is done)
    ∷ ("and of 6: 11" of answer8 colours (plain Rgb 1 1 1) (codes [] (1 ∷ 2 ∷ 2 ∷ []) (1 ∷ 1 ∷ [])) 3 6 is refusal 11)
    ∷ ("11 before 12" of answer8 (take 60 colours) (plain Rgb 1 1 1) (wordless 3) 3 2 is refusal 11)
    ∷ []

unfoldable pub room_leaves : List Known
room_leaves =
    ("11 leaves all zero" of decode8 colours (plain Rgb 1 1 1) (wordless 3) 3 2 is refusal 11 ++ (0 ∷ 0 ∷ 0 ∷ 0 ∷ 0 ∷ [])) ∷ []

-- 12, 13 and 14: "Then every slice in wire order: bounds (12), 13, wordless plane (14), size (12)."
unfoldable pub bounds : List Known
bounds =
    ("12: slice 1 ends before its start" of colours_say (set colours 44 22) is at_slice 12 1)
    ∷ ("12: slice 1 ends past the frame" of colours_say (set colours 44 30) is at_slice 12 1)
    ∷ ("12 by bounds before 13: slice 1 has a byte, past the frame" of colours_say (set (set colours 40 29) 44 30) is at_slice 12 1)
    ∷ ("12 by size of slice 0 before 12 by bounds of slice 1" of colours_say (set (set colours 40 22) 44 30) is at_slice 12 0)
    ∷ []

unfoldable pub entry_bytes : List Known
entry_bytes =
    ("byte 1 of slice 1's end counts" of colours_say (set colours 45 1) is at_slice 12 1)
    ∷ ("byte 2 does" of colours_say (set colours 46 1) is at_slice 12 1)
    ∷ ("byte 3 does" of colours_say (set colours 47 1) is at_slice 12 1)
    ∷ []

unfoldable pub short : List Known
short =
    ("13: slice 1 is empty" of colours_say (set colours 44 23) is at_slice 13 1)
    ∷ ("13: slice 1 has one byte" of colours_say (set colours 44 24) is at_slice 13 1)
    ∷ ("two bytes: no longer 13, but 12 by size" of colours_say (set colours 44 25) is at_slice 12 1)
    ∷ ("13 at the last slice, which starts at the frame's end" of colours_say (set colours 44 29) is at_slice 13 2)
    ∷ ("12 by size at slice 2" of colours_say (take 60 colours) is at_slice 12 2)
    ∷ []

unfoldable pub short_leaves : List Known
short_leaves =
    ("13 leaves all zero" of decode8 (take 59 colours) (plain Rgb 1 1 1) (wordless 3) 3 3 is at_slice 13 2 ++ replicate 6 0)
    ∷ ("12 leaves all zero" of decode8 (take 60 colours) (plain Rgb 1 1 1) (wordless 3) 3 3 is at_slice 12 2 ++ replicate 6 0)
    ∷ []

unfoldable pub flags : List Known
flags =
    ("14: slice 1 is coded, and its plane has no word" of colours_say (set colours 55 0) is at_plane 14 2)
    ∷ ("flag 2 is coded" of colours_say (set colours 55 2) is at_plane 14 2)
    ∷ ("flag 3 is raw" of colours_say (set colours 55 3) is done)
    ∷ ("14 where the wordless slice has no byte after its prefix" of colours_say (set (set colours 55 0) 44 25) is at_plane 14 2)
    ∷ []

unfoldable pub wire_order : List Known
wire_order =
    ("13 before 14" of colours_say (set (set colours 55 0) 44 24) is at_slice 13 1)
    ∷ ("slices in wire order: 14 of slice 0 before 12 of slice 1" of colours_say (set (set colours 52 0) 44 22) is at_plane 14 1)
    ∷ []

-- 12 by size: "fewer bytes after the prefix than samples times b, over 8, rounded up; b is the depth for raw, else the plane's
-- shortest word". Gray with one coded slice of one byte.
unfoldable pub sizes : List Known
sizes =
    ("9 samples of a word of 1 bit do not fit a byte" of answer8 (frame_of (1 ∷ 0 ∷ []) ((0 ∷ 1 ∷ 0xFF ∷ []) ∷ [])) (plain Gray 9 1 1) (code (2 ∷ 2 ∷ 1 ∷ [])) 9 4 is at_slice 12 0)
    ∷ ("3 samples of a word of 3 bits do not" of answer8 (frame_of (1 ∷ 0 ∷ []) ((0 ∷ 1 ∷ 0 ∷ []) ∷ [])) (plain Gray 3 1 1) (code (3 ∷ 3 ∷ 3 ∷ [])) 3 8 is at_slice 12 0)
    ∷ ("8 samples of a word of 1 bit do" of answer8 (frame_of (1 ∷ 0 ∷ []) ((0 ∷ 1 ∷ 0xFF ∷ []) ∷ [])) (plain Gray 8 1 1) (code (2 ∷ 2 ∷ 1 ∷ [])) 8 4 is done)
    ∷ []

-- "Only after all slices pass are they read, in wire order, each 15 before its 14."
unfoldable pub kinds : List Known
kinds =
    ("15: predictor 0 at slice 1" of colours_say (set colours 56 0) is at_slice 15 1)
    ∷ ("predictor 2 at slice 1" of colours_say (set colours 56 2) is done)
    ∷ ("predictor 3 at slice 1" of colours_say (set colours 56 3) is done)
    ∷ ("15: predictor 4 at slice 1" of colours_say (set colours 56 4) is at_slice 15 1)
    ∷ []

unfoldable pub readings : List Known
readings =
    ("12 of slice 2 before 15 of slice 0" of colours_say (take 60 (set colours 53 0)) is at_slice 12 2)
    ∷ ("14 of a wordless plane at slice 1 before 15 of slice 0" of colours_say (set (set colours 53 0) 55 0) is at_plane 14 2)
    ∷ ("15 of slice 0 before 15 of slice 1" of colours_say (set (set colours 53 0) 56 0) is at_slice 15 0)
    ∷ []

-- the same where slice 0 or 1 is coded: 250 begins with 11, which under 2,2 is no word
unfoldable pub stuck : List Known
stuck =
    ("15 before 14 at a slice" of answer8 (set (set colours 55 0) 56 0) (plain Rgb 1 1 1) (codes [] [] (2 ∷ 2 ∷ [])) 3 6 is at_slice 15 1)
    ∷ ("15 of slice 0 before 14 of slice 1" of answer8 (set (set colours 53 0) 55 0) (plain Rgb 1 1 1) (codes [] [] (2 ∷ 2 ∷ [])) 3 6 is at_slice 15 0)
    ∷ []

unfoldable pub stuck_in_plane : List Known
stuck_in_plane =
    ("14 while reading slice 1, at plane 2" of answer8 (set colours 55 0) (plain Rgb 1 1 1) (codes [] [] (2 ∷ 2 ∷ [])) 3 6 is at_plane 14 2) ∷ []

unfoldable pub stuck_first : List Known
stuck_first =
    ("14 of slice 0 before 15 of slice 1" of answer8 (set (set (set colours 52 0) 54 250) 56 0) (plain Rgb 1 1 1) (codes [] (2 ∷ 2 ∷ []) []) 3 6 is at_plane 14 1) ∷ []

unfoldable pub stuck_planes : List Known
stuck_planes =
    ("14 while reading leaves the planes zero" of planes_after Eight (set colours 55 0) (plain Rgb 1 1 1) (codes [] [] (2 ∷ 2 ∷ [])) (9 ∷ 9 ∷ 9 ∷ []) 6 is 0 ∷ 0 ∷ 0 ∷ []) ∷ []

unfoldable pub stuck_workspace : List Known
stuck_workspace =
    ("and the workspace" of workspace_after Eight (set colours 55 0) (plain Rgb 1 1 1) (codes [] [] (2 ∷ 2 ∷ [])) 3 (replicate 6 9) is replicate 6 0) ∷ []

-- ---- pictures

-- "Its place in its plane is the count of earlier slices that name that plane."; "f = 1, or 2 if interlaced"
unfoldable pub grays : List Known
grays =
    ("rows of one column" of decode8 (frame_of (1 ∷ 0 ∷ []) ((1 ∷ 1 ∷ 1 ∷ 2 ∷ 3 ∷ 4 ∷ 5 ∷ []) ∷ [])) (plain Gray 1 5 5) (wordless 1) 5 1 is done ++ (1 ∷ 3 ∷ 6 ∷ 10 ∷ 15 ∷ 0 ∷ []))
    ∷ ("the same in two fields" of decode8 (frame_of (1 ∷ 0 ∷ []) ((1 ∷ 1 ∷ 1 ∷ 2 ∷ 3 ∷ 4 ∷ 5 ∷ []) ∷ [])) (shape Gray 1 5 5 1 1 8 true) (wordless 1) 5 1 is done ++ (1 ∷ 2 ∷ 4 ∷ 6 ∷ 9 ∷ 0 ∷ []))
    ∷ ("in slices of 3 rows, each starts anew and the last is cut" of decode8 (frame_of (1 ∷ 0 ∷ 0 ∷ []) ((1 ∷ 1 ∷ 1 ∷ 2 ∷ 3 ∷ []) ∷ (1 ∷ 1 ∷ 4 ∷ 5 ∷ []) ∷ [])) (plain Gray 1 5 3) (wordless 1) 5 1 is done ++ (1 ∷ 3 ∷ 6 ∷ 4 ∷ 9 ∷ 0 ∷ []))
    ∷ []

-- Rgba 1×2 in slices of one row, which name planes 3, 1, 0, 2, 1, 3, 2, 0. The preamble is at 68, the indices from 69 on.
unfoldable pub four : List ℕ
four =
    frame_of (4 ∷ 3 ∷ 1 ∷ 0 ∷ 2 ∷ 1 ∷ 3 ∷ 2 ∷ 0 ∷ [])
    ((1 ∷ 1 ∷ 7 ∷ []) ∷ (1 ∷ 1 ∷ 10 ∷ []) ∷ (1 ∷ 1 ∷ 20 ∷ []) ∷ (1 ∷ 1 ∷ 30 ∷ []) ∷ (1 ∷ 1 ∷ 50 ∷ []) ∷ (1 ∷ 1 ∷ 8 ∷ []) ∷ (1 ∷ 1 ∷ 60 ∷ []) ∷ (1 ∷ 1 ∷ 250 ∷ []) ∷ [])

unfoldable pub rgba : List Known
rgba =
    ("G 10 50, B 30 44, R 40 110, A 7 8" of planes_after Eight four (plain Rgba 1 2 1) (wordless 4) (replicate 8 9) 4 is 10 ∷ 50 ∷ 30 ∷ 44 ∷ 40 ∷ 110 ∷ 7 ∷ 8 ∷ [])
    ∷ ("6: one index too few of eight" of answer8 (set four 36 44) (plain Rgba 1 2 1) (wordless 4) 8 4 is refusal 6)
    ∷ ("8 at slice 6: plane 3 has its two slices" of answer8 (set four 75 3) (plain Rgba 1 2 1) (wordless 4) 8 4 is at_slice 8 6)
    ∷ ("8 at slice 7: index 4" of answer8 (set four 76 4) (plain Rgba 1 2 1) (wordless 4) 8 4 is at_slice 8 7)
    ∷ ("15 at the last slice" of answer8 (set four 99 0) (plain Rgba 1 2 1) (wordless 4) 8 4 is at_slice 15 7)
    ∷ []

-- Yuva 2×2 under 4:2:2 (sx = 2, sy = 1) in slices of one row: planes of 2×2, 1×2, 1×2 and 2×2
unfoldable pub yuva : List Known
yuva =
    ("4:2:2, slices of 2 and 1 samples"
    of planes_after Eight
    (frame_of (4 ∷ 0 ∷ 1 ∷ 2 ∷ 3 ∷ 3 ∷ 2 ∷ 1 ∷ 0 ∷ [])
    ((1 ∷ 1 ∷ 1 ∷ 2 ∷ []) ∷ (1 ∷ 1 ∷ 5 ∷ []) ∷ (1 ∷ 1 ∷ 6 ∷ []) ∷ (1 ∷ 1 ∷ 3 ∷ 4 ∷ []) ∷ (1 ∷ 1 ∷ 10 ∷ 20 ∷ []) ∷ (1 ∷ 1 ∷ 60 ∷ []) ∷ (1 ∷ 1 ∷ 50 ∷ []) ∷ (1 ∷ 1 ∷ 100 ∷ 1 ∷ []) ∷ []))
    (shape Yuva 2 2 1 2 1 8 false) (wordless 4) (replicate 12 9) 4
    is 1 ∷ 3 ∷ 100 ∷ 101 ∷ 5 ∷ 50 ∷ 6 ∷ 60 ∷ 3 ∷ 7 ∷ 10 ∷ 30 ∷ [])
    ∷ []

-- Yuv 2×4 under 4:4:0 (sx = 1, sy = 2) in slices of two rows: planes of 2×4, 2×2 and 2×2. One slice is of Gradient, one of Median.
unfoldable pub yuv : List Known
yuv =
    ("4:4:0, slices of 4 and 2 samples, of each predictor"
    of planes_after Eight
    (frame_of (3 ∷ 2 ∷ 0 ∷ 1 ∷ 0 ∷ 1 ∷ 2 ∷ [])
    ((1 ∷ 1 ∷ 1 ∷ 2 ∷ []) ∷ (1 ∷ 2 ∷ 10 ∷ 1 ∷ 2 ∷ 3 ∷ []) ∷ (1 ∷ 1 ∷ 20 ∷ 5 ∷ []) ∷ (1 ∷ 3 ∷ 100 ∷ 50 ∷ 1 ∷ 2 ∷ []) ∷ (1 ∷ 1 ∷ 7 ∷ 250 ∷ []) ∷ (1 ∷ 1 ∷ 9 ∷ 9 ∷ []) ∷ []))
    (shape Yuv 2 4 2 1 2 8 false) (wordless 3) (replicate 16 9) 3
    is 10 ∷ 11 ∷ 12 ∷ 16 ∷ 100 ∷ 150 ∷ 101 ∷ 152 ∷ 20 ∷ 25 ∷ 7 ∷ 1 ∷ 1 ∷ 3 ∷ 9 ∷ 18 ∷ [])
    ∷ []

-- Yuv 2×6 under 4:2:0 in slices of 4 rows: planes of 2×6, 1×3 and 1×3, each in a place of 4 (or 2) rows and a cut one of 2 (or 1)
unfoldable pub half : Geometry
half = shape Yuv 2 6 4 2 2 8 false

unfoldable pub bands : List ℕ
bands =
    frame_of (3 ∷ 1 ∷ 0 ∷ 2 ∷ 1 ∷ 2 ∷ 0 ∷ [])
    ((1 ∷ 1 ∷ 1 ∷ 1 ∷ []) ∷ (1 ∷ 1 ∷ 1 ∷ 1 ∷ 1 ∷ 1 ∷ 1 ∷ 1 ∷ 1 ∷ 1 ∷ []) ∷ (1 ∷ 1 ∷ 1 ∷ 1 ∷ []) ∷ (1 ∷ 1 ∷ 7 ∷ []) ∷ (1 ∷ 1 ∷ 9 ∷ []) ∷ (1 ∷ 1 ∷ 1 ∷ 1 ∷ 1 ∷ 1 ∷ []) ∷ [])

unfoldable pub cut : List Known
cut =
    ("4:2:0, a cut last place" of planes_after Eight bands half (wordless 3) (replicate 18 9) 3 is 1 ∷ 2 ∷ 2 ∷ 3 ∷ 3 ∷ 4 ∷ 4 ∷ 5 ∷ 1 ∷ 2 ∷ 2 ∷ 3 ∷ 1 ∷ 2 ∷ 7 ∷ 1 ∷ 2 ∷ 9 ∷ [])
    ∷ []

-- Coded slices: each plane has a code of its own. Gray 3×1 with the payload 8C under 1,2,2 of the symbols 253 to 255 reads those
-- three; Left adds them up.
unfoldable pub coded : List Known
coded =
    ("8C in a frame" of planes_after Eight (frame_of (1 ∷ 0 ∷ []) ((0 ∷ 1 ∷ 0x8C ∷ []) ∷ [])) (plain Gray 3 1 1) (code (1 ∷ 2 ∷ 2 ∷ [])) (9 ∷ 9 ∷ 9 ∷ []) 5 is 253 ∷ 251 ∷ 250 ∷ [])
    -- Gray 5×2: five words of 2 bits in one byte, the last from past its end, where the next slice's flag C1 stands
    ∷ ("past the end of a slice stand zeros, not the next slice" of planes_after Eight (frame_of (1 ∷ 0 ∷ 0 ∷ []) ((0 ∷ 1 ∷ 0x00 ∷ []) ∷ (0xC1 ∷ 1 ∷ 1 ∷ 1 ∷ 1 ∷ 1 ∷ 1 ∷ []) ∷ [])) (plain Gray 5 2 1) (code (1 ∷ 2 ∷ 2 ∷ [])) (replicate 10 9) 4 is 254 ∷ 252 ∷ 250 ∷ 248 ∷ 246 ∷ 1 ∷ 2 ∷ 3 ∷ 4 ∷ 5 ∷ [])
    ∷ ("success leaves the workspace zero" of workspace_after Eight (frame_of (1 ∷ 0 ∷ []) ((0 ∷ 1 ∷ 0x8C ∷ []) ∷ [])) (plain Gray 3 1 1) (code (1 ∷ 2 ∷ 2 ∷ [])) 3 (9 ∷ 9 ∷ 9 ∷ 9 ∷ 9 ∷ []) is 0 ∷ 0 ∷ 0 ∷ 0 ∷ 0 ∷ [])
    ∷ []

-- Rgb 2×1: G is 255 254 under 1,1, R' is 255 254 under 2,2,2 and B' is 255 253 under 1,2,2
unfoldable pub coded_colours : List Known
coded_colours =
    ("three codes" of planes_after Eight (frame_of (3 ∷ 1 ∷ 2 ∷ 0 ∷ []) ((0 ∷ 1 ∷ 0b1000_0000 ∷ []) ∷ (2 ∷ 1 ∷ 0b1001_0000 ∷ []) ∷ (0 ∷ 1 ∷ 0b0110_0000 ∷ []) ∷ [])) (plain Rgb 2 1 1) (codes (1 ∷ 2 ∷ 2 ∷ []) (1 ∷ 1 ∷ []) (2 ∷ 2 ∷ 2 ∷ [])) (replicate 6 9) 10 is 255 ∷ 253 ∷ 254 ∷ 249 ∷ 254 ∷ 250 ∷ []) ∷ []

-- ---- depths 10, 12 and 14

-- what the deep entry leaves in the planes, which held 9 everywhere, for a frame of one raw slice; and what it says
unfoldable pub deep_frame : (kind : ℕ) (bytes : Bytes) → Bytes
deep_frame kind bytes = frame_of (1 ∷ 0 ∷ []) ((1 ∷ kind ∷ bytes) ∷ [])

unfoldable pub deep_planes : (depth lengths w h kind : ℕ) (bytes : Bytes) → List ℕ
deep_planes depth lengths w h kind bytes =
    planes_after Deep (deep_frame kind bytes) (shape Gray w h h 1 1 depth false) (replicate lengths 0) (replicate (w * h) 9) 1

unfoldable pub ten : List Known
ten =
    ("depth 10: residues 1023 and 1" of deep_planes 10 1024 2 1 1 (0xFF ∷ 0xC0 ∷ 0x10 ∷ []) is 1023 ∷ 0 ∷ [])
    ∷ ("depth 10 at the byte entry: 1, and all as found" of decode Eight (deep_frame 1 (0xFF ∷ 0xC0 ∷ 0x10 ∷ [])) (shape Gray 2 1 1 1 1 10 false) (replicate 1024 0) 2 1 is refusal 1 ++ (9 ∷ 9 ∷ 9 ∷ []))
    ∷ ("one byte too few" of said (answer_of Deep (deep_frame 1 (0xFF ∷ 0xC0 ∷ [])) (shape Gray 2 1 1 1 1 10 false) (replicate 1024 0) 2 1) is at_slice 12 0)
    ∷ ("left 200, top 100, top-left 10" of deep_planes 10 1024 2 2 3 (0x02 ∷ 0x85 ∷ 0xA2 ∷ 0xF8 ∷ 0x00 ∷ []) is 10 ∷ 100 ∷ 200 ∷ 200 ∷ [])
    ∷ []

unfoldable pub twelve : List Known
twelve = ("depth 12: ABC and DEF, then a byte left over" of deep_planes 12 4096 2 1 1 (0xAB ∷ 0xCD ∷ 0xEF ∷ 0xFF ∷ []) is 0xABC ∷ 0x8AB ∷ []) ∷ []

-- The picture alone, since 16,384 lengths are long to look through; that they pass stands in `most_lengths`.
unfoldable pub fourteen : List Known
fourteen =
    ("depth 14: 16,383 and 1" of picture_of (deep_frame 1 (0xFF ∷ 0xFC ∷ 0x00 ∷ 0x10 ∷ [])) (shape Gray 2 1 1 1 1 14 false) [] is 16383 ∷ 0 ∷ []) ∷ []

-- * B'=1020, G=10 at depth 10: B=6, here in a frame
unfoldable pub deep_colours : List Known
deep_colours =
    ("depth 10: G 10, B 6, R 11"
    of planes_after Deep (frame_of (3 ∷ 0 ∷ 1 ∷ 2 ∷ []) ((1 ∷ 1 ∷ 0xFF ∷ 0x00 ∷ []) ∷ (1 ∷ 1 ∷ 0x02 ∷ 0x80 ∷ []) ∷ (1 ∷ 1 ∷ 0x00 ∷ 0x40 ∷ []) ∷ [])) (shape Rgb 1 1 1 1 1 10 false) (replicate 3072 0) (9 ∷ 9 ∷ 9 ∷ []) 3
    is 10 ∷ 6 ∷ 11 ∷ [])
    ∷ []

-- ---- small words, and a slice as one record

unfoldable pub listed : (a : SliceAt) → List ℕ
listed a =
    a.number ∷ a.plane ∷ a.place ∷ a.first ∷ a.rows ∷ a.width ∷ a.start ∷ a.end ∷ one a.raw ∷ a.predictor ∷ []

unfoldable pub small_words : List Known
small_words =
    ("half, and over, rounded up" of half_up 4 ∷ half_up 5 ∷ over_up 8 4 ∷ over_up 9 4 ∷ [] is 2 ∷ 3 ∷ 2 ∷ 3 ∷ [])
    ∷ ("count, sum, list" of count 2 (2 ∷ 1 ∷ 2 ∷ 0 ∷ []) ∷ sum_below 4 (λ i. i * i) ∷ list_below 3 (λ i. i + 5) is 2 ∷ 14 ∷ 5 ∷ 6 ∷ 7 ∷ [])
    ∷ ("a reading that got stuck is 14 at its plane" of said (readable 3 (stuck_at 5)) ++ said (readable 3 (symbols (1 ∷ []))) is at_plane 14 3 ++ done)
    ∷ ("slice 6 of Rgba" of listed (slice_at four (plain Rgba 1 2 1) 6) is 6 ∷ 2 ∷ 1 ∷ 1 ∷ 1 ∷ 1 ∷ 95 ∷ 98 ∷ 1 ∷ 1 ∷ [])
    ∷ ("the last slice under 4:2:0, which ends at the frame's end" of listed (slice_at bands half 5) is 5 ∷ 0 ∷ 1 ∷ 4 ∷ 2 ∷ 2 ∷ 91 ∷ 97 ∷ 1 ∷ 1 ∷ [])
    ∷ []

-- ---- the table

unfoldable pub known : List (List Known)
known =
    words ∷ sums ∷ reading ∷ needs ∷ tables ∷ lookups
    ∷ built ∷ read_alone
    ∷ slices ∷ predictors ∷ raws
    ∷ rules ∷ multiples ∷ amounts ∷ length_amounts ∷ leaves
    ∷ figures ∷ places ∷ whole_frame ∷ far
    ∷ order ∷ preambles ∷ indices ∷ lengths ∷ lengths_leave ∷ room ∷ room_leaves
    ∷ bounds ∷ entry_bytes ∷ short ∷ short_leaves ∷ flags ∷ wire_order ∷ sizes
    ∷ kinds ∷ readings ∷ stuck ∷ stuck_in_plane ∷ stuck_first ∷ stuck_planes ∷ stuck_workspace
    ∷ grays ∷ rgba ∷ yuva ∷ yuv ∷ cut ∷ coded ∷ coded_colours
    ∷ ten ∷ deep_colours ∷ small_words
    -- those with long lists come last
    ∷ most_lengths ∷ too_many_lengths ∷ as_many_lengths ∷ long_need ∷ two_heads ∷ second_part ∷ twelve ∷ fourteen
    ∷ []

-- One tt a group. The error at a wrong row shows `Wrong` and the row's name; where that row takes long to compute it shows the
-- group's, in which the row then stands alone.
pub known_answers : AllHold known
unfolding count sum_below list_from grown rows_of_each left_by
    size_fits factor_fits geometry_fits factors_divide slice_height_divides small plane_width plane_height plane_slice_height rows_at plane_samples all_samples lengths_of fields swapped plane_start row_start
    le32 entry preamble_end count_byte plane_index named_before place_in_plane slice_start slice_end is_raw predictor_of payload_of samples_in slice_at
    bit_at window packed_from raw_samples
    longest shorter shortest too_long share shares overfull start_down first word_of is_head head_below heads need_from need begins_with word_below word_at ◌before◌ on_word chain_by symbols_of
    packed unpacked begins_in word_in first_part slots table_of lookup_in
    gradient clamp_median t87_median median predictor prediction sample samples_of plus
    need_of_all fewest_bytes residues_of slice_samples plane_up_to wire_plane colour_plane planes_up_to picture_of table answer_of planes_after workspace_after readable
    build_answer workspace_built read_answer samples_read workspace_read
    words_below words_of found read said each shape plain code codes wordless le entries joined frame_of answer8 decode decode8 lent8 lent16
    two_parts tiny tiny_says colours colours_say four half bands deep_frame deep_planes listed
    words sums reading needs long_need two_heads tables second_part lookups built too_many_lengths as_many_lengths read_alone slices predictors raws rules multiples amounts length_amounts most_lengths leaves figures places whole_frame far order preambles indices lengths lengths_leave room room_leaves bounds entry_bytes short short_leaves flags wire_order sizes kinds readings stuck stuck_in_plane stuck_first stuck_planes stuck_workspace grays rgba yuva yuv cut coded coded_colours ten twelve fourteen deep_colours small_words known
known_answers =
    (tt, (tt, (tt, (tt, (tt, (tt, (tt, (tt, (tt, (tt, (tt, (tt, (tt, (tt, (tt, (tt, (tt, (tt, (tt, (tt, (tt, (tt, (tt, (tt, (tt, (tt, (tt, (tt, (tt, (tt, (tt, (tt, (tt, (tt, (tt, (tt, (tt, (tt, (tt, (tt, (tt, (tt, (tt, (tt, (tt, (tt, (tt, (tt, (tt, (tt, (tt, (tt, (tt, (tt, (tt, (tt, (tt, (tt, (tt, tt)))))))))))))))))))))))))))))))))))))))))))))))))))))))))))

-- ---- laws, for what takes lists too long to compute

-- "4 also for more than 268,435,456 samples", whatever the lengths, the payload and the workspace
pub too_many_samples : (ls : Lengths) (payload : Bytes) (workspace_len : ℕ) → read_answer ls payload 268435457 workspace_len ≡ refused 4 Nothing
unfolding read_answer
too_many_samples ls payload workspace_len = refl

-- and not for that many, unless by the lengths
not-four : (long over short stuck : Bool) → number_of (refuse_if long 9 (Plane 0) and_then refuse_if over 10 (Plane 0) and_then refuse_if short 11 Nothing and_then refuse_if stuck 14 (Plane 0)) ≡ 4 → ⊥
not-four true over short stuck h = omega (arith, h)
not-four false true short stuck h = omega (arith, h)
not-four false false true stuck h = omega (arith, h)
not-four false false false true h = omega (arith, h)
not-four false false false false h = omega (arith, h)

pub as_many_samples : (ls : Lengths) (payload : Bytes) (workspace_len : ℕ) → ltb 16384 (length ls) ≡ false → number_of (read_answer ls payload 268435456 workspace_len) ≡ 4 → ⊥
unfolding read_answer
as_many_samples ls payload workspace_len few =
    rw few (not-four (too_long ls) (overfull ls) (ltb workspace_len (need ls)) (is_stuck (chain ls payload 0 268435456)))

-- S counts the first twelve bits from 0 to 4,095: words of 13 bits reach the last of them where there are more than 8,190
pub last_head : (ls : Lengths) → heads ls ≡ sum_below 4095 (λ x. one (head_below ls x (length ls))) + one (head_below ls 4095 (length ls))
unfolding heads sum_below
last_head ls = refl

-- the same words by `Spells`, in which demand 3 is put: 8C under 1,2,2 spells 0, 1, 2, 0
begins : (ls : Lengths) (payload : Bytes) (at s : ℕ) → T (ltb s (length ls)) → T (ltb 0 (length_of ls s)) → window payload at (length_of ls s) ≡ word_of ls s → Begins ls payload at s
begins ls payload at s i l e =
    record { inside = leb→le (suc s) (length ls) i; some = leb→le 1 (length_of ls s) l; same = e }

pub spelled : Spells (1 ∷ 2 ∷ 2 ∷ []) (0x8C ∷ []) 0 (0 ∷ 1 ∷ 2 ∷ 0 ∷ [])
unfolding Spells window bit_at longest start_down count first word_of
spelled =
    let one_more : (at s : ℕ) → T (ltb s 3) → T (ltb 0 (length_of (1 ∷ 2 ∷ 2 ∷ []) s)) → window (0x8C ∷ []) at (length_of (1 ∷ 2 ∷ 2 ∷ []) s) ≡ word_of (1 ∷ 2 ∷ 2 ∷ []) s → Begins (1 ∷ 2 ∷ 2 ∷ []) (0x8C ∷ []) at s = begins (1 ∷ 2 ∷ 2 ∷ []) (0x8C ∷ []) in
    (one_more 0 0 tt tt refl, (one_more 1 1 tt tt refl, (one_more 3 2 tt tt refl, (one_more 5 0 tt tt refl, tt))))
