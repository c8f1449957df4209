-- Document 01, "Layout": the raw samples of a payload from one of them on, so that rows can be read one after the other. Assumes
-- nothing.
use Rattle.std.specs.Prelude.{◌≡◌, ℕ, ◌+◌, ◌*◌, ◌≤◌, cond, List, length, take, drop, eqb}
use Rattle.scope.specs.Bits.{packed_from}

-- n raw samples from sample number `first` on: `raw_samples` without those before it
unfoldable pub raw_from : ℕ → List ℕ → ℕ → ℕ → List ℕ
raw_from depth payload first n = cond (eqb depth 8) (take n (drop first payload)) (packed_from depth payload (first * depth) n)

-- the payload has the bits of n samples from there on, and there are no more than the largest plane holds
pub record RawIn (depth : ℕ) (payload : List ℕ) (first n : ℕ) : Type 0 where
  pub room : (first + n) * depth ≤ 8 * length payload
  pub most : first + n ≤ 268435456

-- the first k of what a buffer holds are packed samples, from the bit position `at` on
pub record Unpacked (depth : ℕ) (payload : List ℕ) (at : ℕ) (out : List ℕ) (k : ℕ) : Type 0 where
  pub made : take k out ≡ packed_from depth payload at k
  pub within : k ≤ length out
