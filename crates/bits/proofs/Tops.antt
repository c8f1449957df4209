-- Laws of bits that stand at the top of a number of 64 bits with zeros behind them, as a reader keeps what it has loaded: the first ones
-- read, the first ones shifted out, the zeros filled up (document 01, "Layout"). Over windows alone. Assumes nothing.
use mathlib.Core.Path.{◌≡◌, sym, ap, subst, ◌∙◌}
use Prim.Native.Nat.{ℕ, ◌+◌, ◌-◌, ◌*◌, ◌/◌, ◌%◌, ◌^◌, ◌≤◌, ◌<◌}
use native.Mathlib.Nat.{mul-one, sub-add_cancel}
use native.Mathlib.Omega.{arith}
use mathlib.Core.List.{List}
use lib.Pow.{pow-add, shl_lt, shl-shr, shr-shr, low}
use Rattle.scope.specs.Bits.{window}
use Rattle.bits.proofs.Windows.{window_small, window_head, window-add}

-- ---- shifts of numbers

-- a shift down is one shift and then another
pub over_both : (x a b : ℕ) → x / 2 ^ (a + b) ≡ x / 2 ^ a / 2 ^ b
over_both x a b = sym (shr-shr x a b)

-- two digits, the second of r bits, shifted up by d and by l, so far that the first one is out of 64 bits
out_of : (x y r d l : ℕ) → r + (d + l) ≡ 64 → (x * 2 ^ r + y) * 2 ^ d * 2 ^ l ≡ x * 2 ^ 64 + y * 2 ^ (d + l)
out_of x y r d l e =
    let p : 2 ^ r * 2 ^ (d + l) ≡ 2 ^ 64 = sym (pow-add 2 r (d + l)) ∙ ap (λ (n : ℕ). 2 ^ n) e in
    rw (← p, pow-add 2 d l) (omega arith)

-- the second one is not
not_out_of : (y r s : ℕ) → y < 2 ^ r → r + s ≡ 64 → y * 2 ^ s < 2 ^ 64
not_out_of y r s h e = subst (λ (n : ℕ). y * 2 ^ s < 2 ^ n) e (shl_lt r s h)

-- ---- w has the bits from position q on, and d zeros behind them

module _ (payload : List ℕ) (q w d : ℕ) (e : w ≡ window payload q (64 - d) * 2 ^ d) where
  -- the first j of them
  pub shown : (j : ℕ) → d + j ≤ 64 → w / 2 ^ (64 - j) ≡ window payload q j
  shown j h =
      let n : 64 - j ≡ d + (64 - d - j) = omega arith in
      rw (n, over_both w d (64 - d - j), e, shl-shr (window payload q (64 - d)) d) (window_head payload q j (64 - d) (omega arith))

  -- the first l of them shifted out, and l zeros more
  pub moved : (l : ℕ) → d + l ≤ 64 → (w * 2 ^ l) % 2 ^ 64 ≡ window payload (q + l) (64 - (d + l)) * 2 ^ (d + l)
  moved l h =
      let n : 64 - d ≡ l + (64 - (d + l)) = omega arith in
      let s : 64 - (d + l) + (d + l) ≡ 64 = omega arith in
      ap (λ (x : ℕ). (x * 2 ^ l) % 2 ^ 64) (e ∙ ap (λ (x : ℕ). x * 2 ^ d) (ap (window payload q) n ∙ window-add payload q l (64 - (d + l))))
      ∙ ap (λ (x : ℕ). x % 2 ^ 64) (out_of (window payload q l) (window payload (q + l) (64 - (d + l))) (64 - (d + l)) d l s)
      ∙ low (window payload q l) 64 (not_out_of (window payload (q + l) (64 - (d + l))) (64 - (d + l)) (d + l) (window_small payload (q + l) (64 - (d + l))) s)

  -- the bits that follow in the zeros' place
  pub filled : (z : ℕ) → d ≤ 64 → z ≡ window payload (q + (64 - d)) d → w + z ≡ window payload q 64
  filled z h f = rw (e, f) (sym (window-add payload q (64 - d) d) ∙ ap (window payload q) (sub-add_cancel h))

-- 64 bits, and no zero behind them
pub all_there : (payload : List ℕ) (q w : ℕ) → w ≡ window payload q 64 → w ≡ window payload q (64 - 0) * 2 ^ 0
all_there payload q w e = e ∙ sym (mul-one (window payload q 64))
