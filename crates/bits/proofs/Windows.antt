-- Laws of a window of bits and of packed samples (document 01, "Layout"), over the definitions alone: whoever reads a payload
-- cites these and not how a window is made. Assumes nothing.
use mathlib.Core.Path.{◌≡◌, refl, sym, ap, ◌∙◌}
use Prim.Native.Nat.{ℕ, zero, suc, ◌+◌, ◌-◌, ◌*◌, ◌/◌, ◌%◌, ◌^◌, ◌≤◌, ◌<◌}
use native.Mathlib.Nat.{add-suc, add-zero, mul-one, one-mul, mod-lt, mod-eq_of_lt, pow-suc, lt_of_lt_of_le, div-div-eq-div-mul, pow-succ', add-sub_of_le}
use native.Mathlib.Omega.{arith}
use mathlib.Core.List.{List}
use borrow.Author.Rules.{rules}
use mir.Syntax.{w16, w32}
use mir.Val.{Fits}
use lib.ListN.{length, get_or, get_or-eq_default}
use lib.Pow.{pow_mono, pow-lt, pow_pos}
use lib.Arith.{digits_mod}
use Rattle.scope.specs.Bits as bits
use Rattle.scope.specs.Bits.{bit_at, window, packed_from}

-- ---- windows

-- a bit is 0 or 1
pub bit_small : (payload : List ℕ) (at : ℕ) → bit_at payload at < 2
unfolding bits.bit_at
bit_small payload at = omega arith

-- a window of k bits is below 2^k
pub window_small : (payload : List ℕ) (at k : ℕ) → window payload at k < 2 ^ k
unfolding bits.window
window_small payload at zero = omega arith
window_small payload at (suc k) = rw pow-suc (omega (arith, window_small payload at k, bit_small payload (at + k)))

-- and so below any power of at least k bits
pub window_below : (payload : List ℕ) (at k j : ℕ) → k ≤ j → window payload at k < 2 ^ j
window_below payload at k j h = lt_of_lt_of_le (window_small payload at k) (pow_mono h)

-- the first j bits of a longer window
pub window_prefix : (payload : List ℕ) (at j k : ℕ) → window payload at (j + k) / 2 ^ k ≡ window payload at j
unfolding bits.window
window_prefix payload at j zero = simp add-zero (omega arith)
window_prefix payload at j (suc k) =
    let b : bit_at payload (at + (j + k)) < 2 = bit_small payload (at + (j + k)) in
    let e : (window payload at (j + k) * 2 + bit_at payload (at + (j + k))) / 2 ≡ window payload at (j + k) = omega arith in
    rw (add-suc, pow-succ', ← div-div-eq-div-mul, e) (window_prefix payload at j k)

-- the same, of a window of k bits and its first j
pub window_head : (payload : List ℕ) (at j k : ℕ) → j ≤ k → window payload at k / 2 ^ (k - j) ≡ window payload at j
window_head payload at j k h =
    ap (λ (n : ℕ). window payload at n / 2 ^ (k - j)) (sym (add-sub_of_le h)) ∙ window_prefix payload at j (k - j)

-- ---- a window and the one behind it

pub window-add : (payload : List ℕ) (at j k : ℕ) → window payload at (j + k) ≡ window payload at j * 2 ^ k + window payload (at + j) k
unfolding bits.window
window-add payload at j zero = simp (add-zero, mul-one)
window-add payload at j (suc k) =
    let e : at + (j + k) ≡ at + j + k = omega arith in
    rw (add-suc, window-add payload at j k, pow-succ', e) (omega arith)

-- the last k bits of a longer window
pub window_tail : (payload : List ℕ) (at j k : ℕ) → window payload at (j + k) % 2 ^ k ≡ window payload (at + j) k
window_tail payload at j k = rw (window-add payload at j k) (digits_mod (window payload at j) (window_small payload (at + j) k))

-- ---- bytes as the code reads them

-- bit j of byte i
byte_bit : (payload : List ℕ) (i j : ℕ) → j < 8 → bit_at payload (i * 8 + j) ≡ get_or payload i 0 / 2 ^ (7 - j) % 2
unfolding bits.bit_at
byte_bit payload i j h =
    let a : (i * 8 + j) / 8 ≡ i = omega arith in
    let b : (i * 8 + j) % 8 ≡ j = omega arith in
    rw (a, b)

-- one bit more of a number
bit_more : (x j : ℕ) → j < 8 → x / 2 ^ (8 - j) * 2 + x / 2 ^ (7 - j) % 2 ≡ x / 2 ^ (7 - j)
bit_more x j h =
    let a : 8 - j ≡ suc (7 - j) = omega arith in
    rw (a, pow-suc, ← div-div-eq-div-mul) (omega arith)

-- the first j bits of a byte are the byte without the others
byte_bits : (payload : List ℕ) (i j : ℕ) → get_or payload i 0 < 256 → j ≤ 8 → window payload (i * 8) j ≡ get_or payload i 0 / 2 ^ (8 - j)
unfolding bits.window
byte_bits payload i zero b h = omega arith
byte_bits payload i (suc j) b h =
    let e : 8 - suc j ≡ 7 - j = omega arith in
    rw (e, byte_bits payload i j b (omega arith), byte_bit payload i j (omega arith)) (bit_more (get_or payload i 0) j (omega arith))

-- all eight of them are the byte
byte_window : (payload : List ℕ) (i a : ℕ) → a ≡ get_or payload i 0 → a < 256 → a ≡ window payload (i * 8) 8
byte_window payload i a e h =
    let b : get_or payload i 0 < 256 = omega arith in
    let q : get_or payload i 0 / 2 ^ 0 ≡ get_or payload i 0 = omega arith in
    e ∙ sym (byte_bits payload i 8 b (omega arith) ∙ q)

-- j bytes and the one behind them
byte_behind : (payload : List ℕ) (i j : ℕ) → window payload (i * 8) (j * 8) * 256 + window payload ((i + j) * 8) 8 ≡ window payload (i * 8) (j * 8 + 8)
byte_behind payload i j =
    let e : (i + j) * 8 ≡ i * 8 + j * 8 = omega arith in
    rw e (sym (window-add payload (i * 8) (j * 8) 8))

-- past the last byte there is none, and 0 in its place
pub byte_outside : (payload : List ℕ) (i : ℕ) → length payload ≤ i → 0 ≡ get_or payload i 0
byte_outside payload i h = sym (get_or-eq_default payload 0 h)

-- four bytes, the first one highest, are the window of 32 bits
pub four_bytes : (payload : List ℕ) (i a b c d r : ℕ) → r ≡ ((a * 256 + b) * 256 + c) * 256 + d
    → a ≡ get_or payload i 0 → a < 256 → b ≡ get_or payload (i + 1) 0 → b < 256
    → c ≡ get_or payload (i + 2) 0 → c < 256 → d ≡ get_or payload (i + 3) 0 → d < 256
    → r ≡ window payload (i * 8) 32
four_bytes payload i a b c d r e a₁ a₂ b₁ b₂ c₁ c₂ d₁ d₂ =
    e
    ∙ rw (
      byte_window payload i a a₁ a₂,
      byte_window payload (i + 1) b b₁ b₂,
      byte_window payload (i + 2) c c₁ c₂,
      byte_window payload (i + 3) d d₁ d₂,
      byte_behind payload i 1,
      byte_behind payload i 2,
      byte_behind payload i 3,
    )

-- eight bytes, four and then four, are the window of 64 bits
pub eight_bytes : (payload : List ℕ) (i x y : ℕ) → x ≡ window payload (i * 8) 32 → y ≡ window payload ((i + 4) * 8) 32
    → x * 4294967296 + y ≡ window payload (i * 8) 64
eight_bytes payload i x y e f =
    let q : (i + 4) * 8 ≡ i * 8 + 32 = omega arith in
    rw (e, f, q) (sym (window-add payload (i * 8) 32 32))

-- ---- k of the 32 bits of four bytes

-- 2^k as the code makes it
pub power_made : (k : ℕ) → k ≤ 18 → (1 * 2 ^ k) % 2 ^ 64 ≡ 2 ^ k
power_made k h = rw (one-mul, mod-eq_of_lt (pow-lt {i = k} {j = 64} (omega arith)))

pub power_some : (k d : ℕ) → d ≡ 2 ^ k → 0 < d
power_some k d e = rw e (pow_pos k)

-- what is left of a division by it fits 32 bits
pub power_fits : (x k d : ℕ) → k ≤ 18 → d ≡ 2 ^ k → Fits w32 (x % d)
power_fits x k d h e =
    let l : 2 ^ k ≤ 2 ^ 18 = pow_mono h in
    record { fits = omega (arith, mod-lt x (power_some k d e)) }

-- the window begins at % 8 bits into the 32: the bits behind it are shifted out, those before it cut off
pub cut_out : (payload : List ℕ) (at k w d : ℕ) → k ≤ 18 → w ≡ window payload (at / 8 * 8) 32 → d ≡ 2 ^ k → w / 2 ^ (32 - at % 8 - k) % d ≡ window payload at k
cut_out payload at k w d h e p =
    let s : 32 - at % 8 - k ≡ 32 - (at % 8 + k) = omega arith in
    let q : at / 8 * 8 + at % 8 ≡ at = omega arith in
    rw (e, s, p) (ap (λ (n : ℕ). n % 2 ^ k) (window_head payload (at / 8 * 8) (at % 8 + k) 32 (omega arith)) ∙ window_tail payload (at / 8 * 8) (at % 8) k)
    ∙ ap (λ (n : ℕ). window payload n k) q

-- ---- packed samples

-- a sample of at most 16 bits fits 16 bits
pub sample_fits : (payload : List ℕ) (at depth r : ℕ) → depth ≤ 16 → r ≡ window payload at depth → Fits w16 r
sample_fits payload at depth r h e = record { fits = rw e (window_below payload at depth 16 h) }

-- as many as are asked for
pub packed-length : (depth : ℕ) (payload : List ℕ) (at n : ℕ) → length (packed_from depth payload at n) ≡ n
unfolding bits.packed_from
packed-length depth payload at zero = refl
packed-length depth payload at (suc n) = ap suc (packed-length depth payload (at + depth) n)

pub ruleset windows = (byte_outside, four_bytes, eight_bytes, power_made, power_some, power_fits, cut_out, sample_fits, rules)
