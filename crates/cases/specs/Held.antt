-- What memory is lent with for a stored case, what it must hold afterwards, and the verdict. Document 01, "Refusal numbers": planes
-- and a workspace of zeros; everything as found after 1 to 4; both wholly zero after any other. Assumes nothing.
use Rattle.std.specs.Prelude.{ℕ, zero, suc, ◌+◌, ◌*◌, Bool, true, false, cond, ◌&&◌, List, get_or, eqb, ltb, Result, Ok, Err}
use Rattle.std.specs.Int.Bits.{bit_xor}
use Rattle.cases.specs.declared.Told.{Told}
use Rattle.cases.specs.declared.Wrong.{Wrong}
use Rattle.cases.specs.declared.Wrong.TheVariants.{Number, Kind, Place, Sample, Word}

-- 1 to 4
unfoldable pub as_found : ℕ → Bool
as_found number = cond (eqb number 0) false (ltb number 5)

-- what place i of the planes must hold: a byte, or two with the low one first
unfoldable pub held8 : List ℕ → ℕ → ℕ
held8 after i = get_or after i 0

unfoldable pub held16 : List ℕ → ℕ → ℕ
held16 after i = get_or after (2 * i) 0 + 256 * get_or after (2 * i + 1) 0

-- the bits that are lent flipped: none where memory is left as found, else all
unfoldable pub flip_of : ℕ → ℕ
flip_of number = cond (as_found number) 0 255

-- what is lent there
unfoldable pub lent8 : List ℕ → ℕ → ℕ → ℕ
lent8 after flip i = bit_xor (get_or after i 0) flip

unfoldable pub lent16 : List ℕ → ℕ → ℕ → ℕ
lent16 after flip i = bit_xor (get_or after (2 * i) 0) flip + 256 * bit_xor (get_or after (2 * i + 1) 0) flip

-- every word of the workspace before, and after
unfoldable pub lent_word : ℕ
lent_word = 2779096485

unfoldable pub word_after : ℕ → ℕ
word_after number = cond (as_found number) lent_word 0

-- each of the first n elements is what it must be
unfoldable pub agrees : (ℕ → ℕ) → List ℕ → ℕ → Bool
agrees held xs zero = true
agrees held xs (suc n) = agrees held xs n && eqb (get_or xs n 0) (held n)

-- `Ok` where a case came out as stored, else what did not
abbrev pub Verdict : Type 0
Verdict = Result (Unit {0}) Wrong

abbrev pub right : Verdict
right = Ok tt

abbrev pub wrong : Wrong → Verdict
wrong w = Err w

abbrev pub unless : Bool → Verdict → Verdict → Verdict
unless true v w = w
unless false v w = v

-- the first of number, kind, place, samples and words that is not as stored
unfoldable pub verdict_of : Told → Told → Bool → Bool → Verdict
verdict_of told stored samples words =
    unless (eqb told.number stored.number) (wrong Number)
    (unless (eqb told.kind stored.kind) (wrong Kind)
    (unless (eqb told.place stored.place) (wrong Place)
    (unless samples (wrong Sample)
    (unless words (wrong Word) right))))
