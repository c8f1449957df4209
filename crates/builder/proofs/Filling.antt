-- One value in a stretch, and the two choices of a word's slots (document 01, "Words and lookup").
-- Assumes nothing.
use mathlib.Core.Path.{◌≡◌, refl, sym, ap, ◌∙◌}
use Prim.Native.Nat.{ℕ, ◌+◌, ◌-◌, ◌≤◌, ◌<◌, min}
use native.Mathlib.Omega.{arith}
use mathlib.Core.List.{List, ◌++◌}
use borrow.Rule.Slice.PartMut.{put_mid}
use lib.ListN.{length, get_or, take, drop, replicate, length-append, length-drop, length-replicate, get_or-replicate, get_or-eq_default}
use lib.Seq.{length-take-le, get_or-take, get_or-drop}
use Rattle.std.proofs.lemmas.List.{get_or_append_left, get_or-append_right}
use borrow.Author.Tests.{le-leb, lt-leb}
use Rattle.builder.specs.Slots.{slot_bits, slot_base, StretchWritten}

-- a part, filled
pub filled_part : (ws : List ℕ) (from n e : ℕ) (ys : List ℕ) → from + n ≤ length ws
    → ys ≡ replicate (length (take (from + n - from) (drop from ws))) e → StretchWritten ws from n e (put_mid from (from + n - from) ws ys)
filled_part ws from n e ys h w =
    let k : from + n - from ≡ n = omega arith in
    let len : length (take n (drop from ws)) ≡ n = length-take-le n (drop from ws) (rw length-drop (omega arith)) in
    let f : length (take from ws) ≡ from = length-take-le from ws (omega arith) in
    let filled : ys ≡ replicate n e = w ∙ rw (k, len) refl in
    rw (k, filled)
    record {
      inside = λ i a b.
          get_or-append_right (take from ws) _ from i 0 f a
          ∙ get_or_append_left (replicate n e) _ 0 (i - from) (rw (length-replicate n e) (omega arith))
          ∙ get_or-replicate n (i - from) e 0 (omega arith);
      before = λ i a. get_or_append_left (take from ws) _ 0 i (rw f a) ∙ get_or-take from ws i 0 a;
      behind = λ i a.
          get_or-append_right (take from ws) _ from i 0 f (omega arith)
          ∙ get_or-append_right (replicate n e) _ n (i - from) 0 (length-replicate n e) (omega arith)
          ∙ get_or-drop n (drop from ws) (i - from - n) 0
          ∙ get_or-drop from ws (n + (i - from - n)) 0
          ∙ ap (λ (j : ℕ). get_or ws j 0) (omega arith);
    }

-- a front, filled
pub filled_front : (ws : List ℕ) (n e : ℕ) (ys : List ℕ) → n ≤ length ws → ys ≡ replicate (length (take n ws)) e
    → StretchWritten ws 0 n e (ys ++ drop n ws)
filled_front ws n e ys h w =
    let k : 0 + n - 0 ≡ n = omega arith in
    rw k at (filled_part ws 0 n e ys (omega arith) (rw k w))

-- which keeps the length
pub front_length : (ws : List ℕ) (n : ℕ) (ys : List ℕ) → n ≤ length ws → length ys ≡ length (take n ws) → length (ys ++ drop n ws) ≡ length ws
front_length ws n ys h e = simp (length-append, length-drop, e, length-take-le n ws h) (omega arith)

-- all of it, filled
pub filled_all : (ws : List ℕ) (e : ℕ) (ys : List ℕ) → ys ≡ replicate (length ws) e → StretchWritten ws 0 (length ws) e ys
filled_all ws e ys w = record {
  inside = λ i a b. rw w (get_or-replicate (length ws) i e 0 (omega arith));
  before = λ i a. absurd (omega arith);
  behind = λ i a.
      let l : length ys ≡ length ws = rw (w, length-replicate (length ws) e) refl in
      get_or-eq_default ys 0 {n = i} (omega arith) ∙ sym (get_or-eq_default ws 0 {n = i} (omega arith));
}

-- words of up to 12 bits stand in the first part
pub bits_first : (m l : ℕ) → l ≤ 12 → slot_bits m l ≡ min m 12
unfolding slot_bits
bits_first m l h = simp (le-leb _ _ h)

-- which begins at 0
pub base_first : (l : ℕ) → l ≤ 12 → slot_base l ≡ 0
unfolding slot_base
base_first l h = simp (le-leb _ _ h)

-- longer ones in the second
pub bits_second : (m l : ℕ) → 12 < l → slot_bits m l ≡ m
unfolding slot_bits
bits_second m l h = simp (lt-leb _ _ h)

-- which begins at 4,096
pub base_second : (l : ℕ) → 12 < l → slot_base l ≡ 4096
unfolding slot_base
base_second l h = simp (lt-leb _ _ h)
