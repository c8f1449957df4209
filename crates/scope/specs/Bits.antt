-- Document 01, "Layout": the bits of a payload, and raw samples. at is a bit position from the payload's first bit.
-- Assumes nothing.
use Rattle.std.specs.Prelude.{ℕ, zero, suc, ◌+◌, ◌-◌, ◌*◌, ◌/◌, ◌%◌, ◌^◌, cond, [], ◌∷◌, take, get_or, eqb}
use Rattle.scope.specs.Base.{Bytes, Samples}

-- "A coded payload is read byte after byte, highest bit first; bits past its end read as zero"
unfoldable pub bit_at : (payload : Bytes) (at : ℕ) → ℕ
bit_at payload at = get_or payload (at / 8) 0 / 2 ^ (7 - at % 8) % 2

-- the window of k bits at a position, as a number whose highest bit comes first
unfoldable pub window : (payload : Bytes) (at k : ℕ) → ℕ
window payload at zero = 0
window payload at (suc k) = window payload at k * 2 + bit_at payload (at + k)

-- n samples of depth bits each, one after the other from a position on
unfoldable pub packed_from : (depth : ℕ) (payload : Bytes) (at n : ℕ) → Samples
packed_from depth payload at zero = []
packed_from depth payload at (suc n) = window payload at depth ∷ packed_from depth payload (at + depth) n

-- "Raw depth 8 is one byte a sample; deeper raw samples are packed at depth bits, highest bit first. Bytes left over are
-- ignored.": the first n
unfoldable pub raw_samples : (depth : ℕ) (payload : Bytes) (n : ℕ) → Samples
raw_samples depth payload n = cond (eqb depth 8) (take n payload) (packed_from depth payload 0 n)
