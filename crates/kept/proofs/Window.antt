-- The window of 64 bits (document 01, "Layout" and "Words and lookup"): how it begins and which bits follow it; words shifted out of it at
-- the top, the bits that follow added below when a group of words is taken. Assumes nothing.
use mathlib.Core.Path.{◌≡◌, ap, ◌∙◌}
use Prim.Native.Nat.{ℕ, ◌+◌, ◌-◌, ◌*◌, ◌/◌, ◌%◌, ◌^◌, ◌≤◌, ◌<◌}
use native.Mathlib.Nat.{mul-le-mul_right}
use native.Mathlib.Omega.{arith}
use mathlib.Core.List.{List}
use borrow.Author.Rules.{rules}
use Rattle.scope.specs.Bits.{window}
use Rattle.bits.proofs.Windows.{window_small, window_head}
use Rattle.bits.proofs.Tops.{over_both, shown, moved, filled, all_there}
use Rattle.kept.specs.Kept.{top_bits, Shows, Kept}

-- ---- how the two windows are read

-- eight bytes from a byte on, moved up by o bits
up : (payload : List ℕ) (q x o : ℕ) → x ≡ window payload q 64 → o ≤ 64 → (x * 2 ^ o) % 2 ^ 64 ≡ top_bits payload (q + o) o
up payload q x o e h =
    let z : 0 + o ≡ o = omega arith in
    moved payload q x 0 (all_there payload q x e) o (omega arith) ∙ ap (λ (n : ℕ). window payload (q + o) (64 - n) * 2 ^ n) z

module _ (payload : List ℕ) (p : ℕ) where
  pub ahead_is : (x : ℕ) → x ≡ window payload ((p / 8 + 8) * 8) 64 → (x * 2 ^ (p % 8)) % 2 ^ 64 ≡ top_bits payload (p + 64) (p % 8)
  ahead_is x e =
      let f : (p / 8 + 8) * 8 + p % 8 ≡ p + 64 = omega arith in
      up payload ((p / 8 + 8) * 8) x (p % 8) e (omega arith) ∙ ap (λ (n : ℕ). top_bits payload n (p % 8)) f

  -- a position at a byte
  pub begun_whole : (x : ℕ) → p % 8 ≡ 0 → x ≡ window payload (p / 8 * 8) 64 → x ≡ window payload p 64
  begun_whole x h e = e ∙ ap (λ (n : ℕ). window payload n 64) (omega arith)

  -- and within one
  module _ (x y : ℕ) (e : x ≡ window payload (p / 8 * 8) 64) (f : y ≡ window payload ((p / 8 + 8) * 8) 64) where
    rest : y / 2 ^ (64 - p % 8) ≡ window payload (p / 8 * 8 + p % 8 + (64 - p % 8)) (p % 8)
    rest =
        let c : (p / 8 + 8) * 8 ≡ p / 8 * 8 + p % 8 + (64 - p % 8) = omega arith in
        ap (λ (n : ℕ). n / 2 ^ (64 - p % 8)) f ∙ window_head payload ((p / 8 + 8) * 8) (p % 8) 64 (omega arith) ∙ ap (λ (n : ℕ). window payload n (p % 8)) c

    pub begun_parts : (x * 2 ^ (p % 8)) % 2 ^ 64 + y / 2 ^ (64 - p % 8) ≡ window payload p 64
    begun_parts =
        let a : p / 8 * 8 + p % 8 ≡ p = omega arith in
        filled payload (p / 8 * 8 + p % 8) ((x * 2 ^ (p % 8)) % 2 ^ 64) (p % 8) (up payload (p / 8 * 8) x (p % 8) e (omega arith)) (y / 2 ^ (64 - p % 8)) (omega arith) rest
        ∙ ap (λ (n : ℕ). window payload n 64) a

    pub begun_fits : (x * 2 ^ (p % 8)) % 2 ^ 64 + y / 2 ^ (64 - p % 8) < 2 ^ 64
    begun_fits = rw begun_parts (window_small payload p 64)

pub ruleset beginning = (ahead_is, begun_whole, begun_parts, begun_fits, rules)

-- ---- words taken out of the window

module _ (payload : List ℕ) (q w d i m n : ℕ) (k : Kept payload q w d i m n) where
  -- the bits that are gone are at hand again
  pub kept_far : d ≤ 56
  kept_far =
      let t : (i + 1) * m ≤ (n + 1) * m = mul-le-mul_right m (omega (arith, k.within)) in
      omega (arith, k.most, k.room, t)

  -- a word is in sight
  next_far : d + m ≤ 64
  next_far =
      let t : (i + 2) * m ≤ (n + 2) * m = mul-le-mul_right m (omega (arith, k.within)) in
      omega (arith, k.most, k.sight, t)

  -- the bits at the position stand at the window's top
  pub kept_shows : Shows payload (q + d) w m
  kept_shows = record { head = λ j l. shown payload (q + d) w d k.holds j (omega (arith, next_far, l)) }

  -- a word is shifted out
  pub kept_step : (l : ℕ) → i < n → l ≤ m → Kept payload q ((w * 2 ^ l) % 2 ^ 64) (d + l) (i + 1) m n
  kept_step l h b =
      let f : q + d + l ≡ q + (d + l) = omega arith in
      record {
        holds = moved payload (q + d) w d k.holds l (omega (arith, next_far)) ∙ ap (λ (j : ℕ). top_bits payload j (d + l)) f;
        most = omega (arith, k.most);
        within = omega arith;
        sight = k.sight;
        room = k.room;
      }

  -- ---- and the bits that follow added

  module _ (x : ℕ) (e : x ≡ top_bits payload (q + 64) (q % 8)) where
    -- as the code shifts them, so that no shift is by 64
    by_two : x / 2 / 2 ^ (63 - d) ≡ x / 2 ^ (64 - d)
    by_two =
        let f : 64 - d ≡ 1 + (63 - d) = omega (arith, kept_far) in
        rw (f, over_both x 1 (63 - d))

    added : x / 2 / 2 ^ (63 - d) ≡ window payload (q + d + (64 - d)) d
    added =
        let f : q + 64 ≡ q + d + (64 - d) = omega (arith, kept_far) in
        by_two ∙ shown payload (q + 64) x (q % 8) e d (omega (arith, kept_far)) ∙ ap (λ (j : ℕ). window payload j d) f

    pub kept_join : w + x / 2 / 2 ^ (63 - d) ≡ window payload (q + d) 64
    kept_join = filled payload (q + d) w d k.holds (x / 2 / 2 ^ (63 - d)) (omega (arith, kept_far)) added

    -- the sum is a number of 64 bits
    pub kept_fits : w + x / 2 / 2 ^ (63 - d) < 2 ^ 64
    kept_fits = rw kept_join (window_small payload (q + d) 64)

    -- then the last word is shifted out
    pub kept_turned : (l : ℕ) → l ≤ m → ((w + x / 2 / 2 ^ (63 - d)) * 2 ^ l) % 2 ^ 64 ≡ top_bits payload (q + d + l) l
    kept_turned l h =
        let z : 0 + l ≡ l = omega arith in
        moved payload (q + d) (w + x / 2 / 2 ^ (63 - d)) 0 (all_there payload (q + d) (w + x / 2 / 2 ^ (63 - d)) kept_join) l (omega (arith, next_far))
        ∙ ap (λ (j : ℕ). window payload (q + d + l) (64 - j) * 2 ^ j) z
