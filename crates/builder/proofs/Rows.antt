-- Where a code's words stand in its table: each symbol's row of slots lies within its part, and no word of up to 12 bits begins a
-- slot of the second part (document 01, "Words and lookup"). Assumes nothing.
use mathlib.Core.Path.{◌≡◌, sym, ap, ◌∙◌, subst}
use Prim.Native.Nat.{ℕ, suc, ◌+◌, ◌-◌, ◌*◌, ◌/◌, ◌^◌, ◌≤◌, ◌<◌, min}
use native.Mathlib.Nat.{mul-le-mul_right, mul_assoc, div-lt_iff_lt-mul, div-div-eq-div-mul, add-mul, div-eq_of_lt-le, div-mul-le_self, lt-div-mul-add}
use native.Mathlib.Decide.{dec_le}
use native.Mathlib.Omega.{arith}
use mathlib.Core.List.{List}
use lib.Pow.{pow_pos, pow-add}
use lib.ListN.{length}
use Rattle.scope.specs.Words.{longest, length_of, word_of, first, heads}
use Rattle.codes.specs.Tiers.{end}
use Rattle.codes.proofs.Longest.{at_most_longest}
use Rattle.codes.proofs.Words.{first_le_word, word_lt_end, before_shorter}
use Rattle.codes.proofs.Kraft.{word_fits}
use Rattle.codes.proofs.Heads.{heads_first, need_small}
use Rattle.codes.proofs.Table.{need_short, need_long}
use Rattle.builder.specs.Slots.{slot_bits, WordSlots, Buildable}
use Rattle.builder.proofs.Filling.{bits_first, base_first, bits_second, base_second}

-- ---- a row of slots

-- the slots of a row are those that begin with its word
pub row_of : (v i j : ℕ) → v * 2 ^ j ≤ i → i < v * 2 ^ j + 2 ^ j → i / 2 ^ j ≡ v
row_of v i j a b = div-eq_of_lt-le (2 ^ j) a (omega arith)

-- and the other way round
pub of_row : (v i j : ℕ) → i / 2 ^ j ≡ v → (v * 2 ^ j ≤ i) × (i < v * 2 ^ j + 2 ^ j)
of_row v i j e = (rw e at (div-mul-le_self i (2 ^ j)), rw e at (lt-div-mul-add {a = i} (pow_pos j)))

-- a word of l bits begins slots, of k bits, below any bound that its first j bits lie below
row_below : (w l j k f : ℕ) → j ≤ l → l ≤ k → w / 2 ^ (l - j) < f → w * 2 ^ (k - l) + 2 ^ (k - l) ≤ f * 2 ^ (k - j)
row_below w l j k f a b h =
    let c : w < f * 2 ^ (l - j) = (div-lt_iff_lt-mul (pow_pos (l - j))).0 h in
    let d : (w + 1) * 2 ^ (k - l) ≤ f * 2 ^ (l - j) * 2 ^ (k - l) = mul-le-mul_right (2 ^ (k - l)) (omega arith) in
    let e : l - j + (k - l) ≡ k - j = omega arith in
    let g : f * 2 ^ (l - j) * 2 ^ (k - l) ≡ f * 2 ^ (k - j) =
    mul_assoc f (2 ^ (l - j)) (2 ^ (k - l)) ∙ ap (λ (x : ℕ). f * x) (sym (pow-add 2 (l - j) (k - l)) ∙ ap (λ (x : ℕ). 2 ^ x) e) in
    let q : (w + 1) * 2 ^ (k - l) ≡ w * 2 ^ (k - l) + 1 * 2 ^ (k - l) = add-mul w 1 (2 ^ (k - l)) in
    omega arith

-- the same where all l bits lie below 2^l
row_whole : (w l k : ℕ) → l ≤ k → w < 2 ^ l → w * 2 ^ (k - l) + 2 ^ (k - l) ≤ 2 ^ k
row_whole w l k b h =
    let d : (w + 1) * 2 ^ (k - l) ≤ 2 ^ l * 2 ^ (k - l) = mul-le-mul_right (2 ^ (k - l)) (omega arith) in
    let e : l + (k - l) ≡ k = omega arith in
    let g : 2 ^ l * 2 ^ (k - l) ≡ 2 ^ k = sym (pow-add 2 l (k - l)) ∙ ap (λ (x : ℕ). 2 ^ x) e in
    let q : (w + 1) * 2 ^ (k - l) ≡ w * 2 ^ (k - l) + 1 * 2 ^ (k - l) = add-mul w 1 (2 ^ (k - l)) in
    omega arith

-- what lies before the first word of a length lies before its end
early : (ls : List ℕ) (l v : ℕ) → v < first ls l → v < end ls l
unfolding end
early ls l v h = omega arith

-- ---- of a code that passes

module _ (ls : List ℕ) (m n : ℕ) (ok : Buildable ls m n) where
  -- the first part lies within the need
  pub first_room : 2 ^ min (longest ls) 12 ≤ n
  first_room = elim (dec_le (longest ls) 12) [
    | yes h ↦ (
        let e : min (longest ls) 12 ≡ longest ls = omega arith in
        rw e (omega (arith, ok.whole, need_short ls h)))
    | no h ↦ (
        let e : min (longest ls) 12 ≡ 12 = omega (arith, h) in
        rw e (omega (arith, ok.whole, need_long ls (omega (arith, h)))))
  ]

  -- and the slots of the second part behind it
  pub second_room : 12 < longest ls → 4096 + heads ls * 2 ^ (longest ls - 12) ≡ n
  second_room h = sym (ok.whole ∙ need_long ls h)

  module _ (s : ℕ) (i : s < length ls) (z : 0 < length_of ls s) where
    -- the row of a word of up to 12 bits
    pub short_row : length_of ls s ≤ 12
        → word_of ls s * 2 ^ (min (longest ls) 12 - length_of ls s) + 2 ^ (min (longest ls) 12 - length_of ls s) ≤ 2 ^ min (longest ls) 12
    short_row h =
        row_whole (word_of ls s) (length_of ls s) (min (longest ls) 12) (omega (arith, at_most_longest ls s))
        (word_fits ls ok.small ok.full s i z)

    -- and of a longer one
    pub long_row : 12 < length_of ls s
        → word_of ls s * 2 ^ (longest ls - length_of ls s) + 2 ^ (longest ls - length_of ls s) ≤ heads ls * 2 ^ (longest ls - 12)
    long_row h =
        let l : ℕ = length_of ls s in
        let b : l ≤ longest ls = at_most_longest ls s in
        let j : ℕ = l - 13 in
        let e : l ≡ 12 + suc j = omega arith in
        let f : l - 12 ≡ suc j = omega arith in
        let g : 12 < longest ls = omega arith in
        let w : word_of ls s < end ls (12 + suc j) = subst (λ (x : ℕ). word_of ls s < end ls x) e (word_lt_end ls s i) in
        let c : word_of ls s / 2 ^ suc j < first ls 12 = before_shorter ls 12 j (word_of ls s) (omega arith) w in
        let d : word_of ls s / 2 ^ (l - 12) < first ls 12 = rw f c in
        rw (heads_first ls g ok.small ok.full) (row_below (word_of ls s) l 12 (longest ls) (first ls 12) (omega arith) b d)

    -- so `put` may write it
    pub row : (w : ℕ) → w ≡ word_of ls s → WordSlots m (length_of ls s) s w n
    row w e = go (dec_le (length_of ls s) 12)
      where
        few : s < 16384
        few = omega (arith, ok.few)

        room : n ≤ 266240
        room = omega (arith, ok.whole, need_small ls ok.small)

        go : Dec (length_of ls s ≤ 12) → WordSlots m (length_of ls s) s w n
        go (yes h) =
            let k : slot_bits m (length_of ls s) ≡ min (longest ls) 12 = bits_first m (length_of ls s) h ∙ ap (λ (x : ℕ). min x 12) ok.is in
            record {
              fits = rw k (omega (arith, at_most_longest ls s));
              small = rw k (omega arith);
              few = few;
              inside = rw (k, base_first (length_of ls s) h, e) (omega (arith, short_row h, first_room));
              room = room;
            }
        go (no h) =
            let g : 12 < length_of ls s = omega (arith, h) in
            let k : slot_bits m (length_of ls s) ≡ longest ls = bits_second m (length_of ls s) g ∙ ok.is in
            let q : 12 < longest ls = omega (arith, at_most_longest ls s) in
            record {
              fits = rw k (at_most_longest ls s);
              small = rw k ok.small;
              few = few;
              inside = rw (k, base_second (length_of ls s) g, e) (omega (arith, long_row g, second_room q));
              room = room;
            }

  -- no word of up to 12 bits begins a slot of the second part
  pub apart : 12 < longest ls → (s i : ℕ) → i < heads ls * 2 ^ (longest ls - 12) → 0 < length_of ls s → length_of ls s ≤ 12
      → i / 2 ^ (longest ls - length_of ls s) ≡ word_of ls s → ⊥
  apart h s i a b c e = go (dec_le 12 (length_of ls s))
    where
      v : i / 2 ^ (longest ls - 12) < first ls 12
      v = subst (λ (x : ℕ). i / 2 ^ (longest ls - 12) < x) (heads_first ls h ok.small ok.full) ((div-lt_iff_lt-mul (pow_pos (longest ls - 12))).1 a)

      u : i / 2 ^ (longest ls - 12) < end ls 12
      u = early ls 12 (i / 2 ^ (longest ls - 12)) v

      go : Dec (12 ≤ length_of ls s) → ⊥
      go (yes d) =
          let q : length_of ls s ≡ 12 = omega arith in
          let r : first ls 12 ≤ word_of ls s = subst (λ (x : ℕ). first ls x ≤ word_of ls s) q (first_le_word ls s) in
          let t : i / 2 ^ (longest ls - 12) ≡ word_of ls s = subst (λ (x : ℕ). i / 2 ^ (longest ls - x) ≡ word_of ls s) q e in
          omega (arith, v)
      go (no d) =
          let l : ℕ = length_of ls s in
          let j : ℕ = 11 - l in
          let q : l + suc j ≡ 12 = omega (arith, d) in
          let x : i / 2 ^ (longest ls - 12) < end ls (l + suc j) = rw q u in
          let y : i / 2 ^ (longest ls - 12) / 2 ^ suc j < first ls l = before_shorter ls l j (i / 2 ^ (longest ls - 12)) (omega arith) x in
          let z : longest ls - 12 + suc j ≡ longest ls - l = omega (arith, d) in
          let t : i / 2 ^ (longest ls - 12) / 2 ^ suc j ≡ word_of ls s =
          div-div-eq-div-mul i (2 ^ (longest ls - 12)) (2 ^ suc j)
          ∙ ap (λ (p : ℕ). i / p) (sym (pow-add 2 (longest ls - 12) (suc j)) ∙ ap (λ (p : ℕ). 2 ^ p) z) ∙ e in
          omega (arith, first_le_word ls s)
