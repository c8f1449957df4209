-- The loop that gives each place of a list what a function says of the place: lengths, planes and workspace as they are lent; and what
-- is lent, as src/lib.rt finds it. Assumes nothing.
use mathlib.Core.Path.{◌≡◌, refl, sym, ap, ◌∙◌}
use mathlib.Core.List.{List}
use Prim.Native.Nat.{ℕ, zero, suc, ◌+◌, ◌*◌, ◌/◌, ◌%◌, ◌≤◌, ◌<◌}
use native.Mathlib.Omega.{arith}
use borrow.Author.Tests.{eq-eqb, ne_eqb, lt-ltb, le-ltb}
use lib.Bits.{bit_xor, differ, xor_step}
use lib.ListN.{length, get_or, set, replicate, length-replicate, get_or-replicate}
use Rattle.scope.specs.Base.{Step, list_below}
use Rattle.lists.proofs.Made.{length-list_from, get_or-below, list_below_only}
use Rattle.memory.proofs.InPlace.{At, at_step, at_end, rebuilt_only, sweeps}
use Rattle.cases.specs.Held as held
use Rattle.cases.specs.Held.{flip_of, lent8, lent16, lent_word, word_after}

unfoldable pub placed : (ℕ → ℕ) → Step
placed f i before x = f i

module _ (f : ℕ → ℕ) (xs s : List ℕ) (i : ℕ) (a : At (placed f) xs s i) where
  pub place_step : (v : ℕ) → i < length s → v ≡ f i → At (placed f) xs (set s i v) (i + 1)
  unfolding placed
  place_step v h e = at_step (placed f) xs s i a v h e

  pub place_end : length s ≤ i → s ≡ list_below (length xs) f
  unfolding placed
  place_end h =
      at_end (placed f) xs s i a h
      ∙ sym (rebuilt_only (placed f) xs (list_below (length xs) f) (length-list_from _ _ _) (λ j l. get_or-below f (length xs) j l))

-- ---- what is lent

module _ (number : ℕ) where
  pub flip_planes : number ≡ 0 → 255 ≡ flip_of number
  unfolding held.flip_of held.as_found
  flip_planes h = rw (eq-eqb number 0 h)

  pub word_planes : number ≡ 0 → 0 ≡ word_after number
  unfolding held.word_after held.as_found
  word_planes h = rw (eq-eqb number 0 h)

  module _ (n0 : number ≡ 0 → ⊥) where
    pub flip_found : number < 5 → 0 ≡ flip_of number
    unfolding held.flip_of held.as_found
    flip_found h = rw (ne_eqb number 0 n0, lt-ltb number 5 h)

    pub flip_zero : 5 ≤ number → 255 ≡ flip_of number
    unfolding held.flip_of held.as_found
    flip_zero h = rw (ne_eqb number 0 n0, le-ltb number 5 h)

    pub word_found : number < 5 → 2779096485 ≡ word_after number
    unfolding held.word_after held.as_found held.lent_word
    word_found h = rw (ne_eqb number 0 n0, lt-ltb number 5 h)

    pub word_zero : 5 ≤ number → 0 ≡ word_after number
    unfolding held.word_after held.as_found
    word_zero h = rw (ne_eqb number 0 n0, le-ltb number 5 h)

module _ (after : List ℕ) (number i : ℕ) (flip : ℕ) (e : flip ≡ flip_of number) where
  pub lent8_is : bit_xor (get_or after i 0) flip ≡ lent8 after (flip_of number) i
  unfolding held.lent8
  lent8_is = rw e

  pub lent16_is : (v : ℕ) → v ≡ bit_xor (get_or after (2 * i) 0) flip + 256 * bit_xor (get_or after (2 * i + 1) 0) flip → v ≡ lent16 after (flip_of number) i
  unfolding held.lent16
  lent16_is v h = h ∙ rw e

-- a decoder that leaves a byte as it found it leaves another than it must, but for 1 to 4
pub flipped_differs : (x : ℕ) → bit_xor x 255 ≡ x → ⊥
flipped_differs x e = clash (x % 2) refl (sym e ∙ xor_step x 255)
  where
    clash : (d : ℕ) → x % 2 ≡ d → x ≡ bit_xor (x / 2) (255 / 2) * 2 + differ d (255 % 2) → ⊥
    clash zero h k = omega arith
    clash (suc zero) h k = omega arith
    clash (suc (suc d)) h k = omega arith

-- every place filled with it
pub word_filled : (n : ℕ) (xs : List ℕ) → xs ≡ replicate n 2779096485 → xs ≡ list_below n (λ j. lent_word)
unfolding held.lent_word
word_filled n xs e =
    list_below_only (λ j. 2779096485) n xs (ap length e ∙ length-replicate {A = ℕ} n 2779096485)
    (λ k l. rw e (get_or-replicate {A = ℕ} n k 2779096485 0 l))

pub ruleset placing = (place_step, place_end, lent8_is, lent16_is, sweeps)
