-- Products that have a cap, parts of a number, and as many as are enough, rounded up. Assumes nothing.
use mathlib.Core.Path.{◌≡◌, refl, ap, ◌∙◌}
use Prim.Native.Nat.{ℕ, zero, suc, ◌+◌, ◌-◌, ◌*◌, ◌/◌, ◌%◌, ◌≤◌, ◌<◌}
use native.Mathlib.Nat.{suc-mul, mul_left_comm, mul-zero, div-zero, mod-zero, div-add-mod, le-div_iff_mul-le, lt-div-mul-add, lt_of_mul-lt-mul_left, le_of_mul-le-mul_left, mul-le-mul, mul-le-mul_left, div-le_self}
use native.Mathlib.Omega.{arith}
use Rattle.scope.specs.Base.{over_up}

-- ---- products

-- a product of numbers that have a cap has one
pub product_most : (x y n m : ℕ) → x ≤ n → y ≤ m → x * y ≤ n * m
product_most x y n m h k = mul-le-mul h k

-- ---- parts

-- a part of a number that a factor divides is not nothing
pub part_some : (x s : ℕ) → 1 ≤ x → x % s ≡ 0 → 1 ≤ x / s
part_some x s h e = go (x / s) refl
  where
    go : (q : ℕ) → x / s ≡ q → 1 ≤ q
    go zero k = omega (arith, div-add-mod x s, ap (λ (y : ℕ). s * y) k, mul-zero s)
    go (suc q) k = omega arith

-- and so is the factor
pub factor_some : (x s : ℕ) → 1 ≤ x → x % s ≡ 0 → 1 ≤ s
factor_some x zero h e = omega (arith, mod-zero x)
factor_some x (suc s) h e = omega arith

-- nor is it larger than the whole
pub part_most : (x s n : ℕ) → x ≤ n → x / s ≤ n
part_most x s n h = omega (arith, div-le_self x s)

-- ---- rounded up

-- nothing is below h / b rounded up unless b is some
pub over_some : (h b k : ℕ) → k < over_up h b → 1 ≤ b
over_some h zero k l = omega (arith, div-zero (h + (0 - 1)))
over_some h (suc b) k l = omega arith

-- k times b is less than h for k below h / b rounded up
pub below_up : (h b k : ℕ) → 0 < b → k < over_up h b → k * b < h
below_up h b k l e = omega (arith, (le-div_iff_mul-le {k = b} {x = suc k} {y = h + (b - 1)} l).0 e, suc-mul k b)

-- and that many times b is enough
pub enough : (h b : ℕ) → 0 < b → h ≤ over_up h b * b
enough h b l = omega (arith, lt-div-mul-add {a = h + (b - 1)} {b = b} l)

-- the same of h / s and b / s: k of these, where s divides h
pub below_up_small : (h b s k : ℕ) → 0 < b → h % s ≡ 0 → k < over_up h b → k * (b / s) < h / s
below_up_small h b s k lb eh l = lt_of_mul-lt-mul_left s (omega (arith, most, mul_left_comm s k (b / s), below_up h b k lb l, div-add-mod h s))
  where
    most : k * (s * (b / s)) ≤ k * b
    most = mul-le-mul_left k (omega (arith, div-add-mod b s))

-- and h / b rounded up of them, where s divides b
pub enough_small : (h b s : ℕ) → 0 < s → 0 < b → b % s ≡ 0 → h / s ≤ over_up h b * (b / s)
enough_small h b s ls lb eb = le_of_mul-le-mul_left (omega (arith, times, enough h b lb, div-add-mod h s)) ls
  where
    times : s * (over_up h b * (b / s)) ≡ over_up h b * b
    times =
        let whole : s * (b / s) ≡ b = omega (arith, div-add-mod b s) in
        mul_left_comm s (over_up h b) (b / s) ∙ ap (λ (y : ℕ). over_up h b * y) whole
