-- Powers of two as the code has them. 2^depth for depths up to 16 is a shift, a divisor, and a cap on what a remainder can be. Document 01,
-- "All sums are modulo 2^depth". Assumes nothing.
use mathlib.Core.Path.{◌≡◌, ap, ◌∙◌}
use Prim.Native.Nat.{ℕ, ◌+◌, ◌-◌, ◌*◌, ◌%◌, ◌^◌, ◌≤◌, ◌<◌}
use native.Mathlib.Nat.{one-mul, mod-eq_of_lt, mod-lt}
use native.Mathlib.Omega.{arith}
use lib.Pow.{pow_pos, pow_mono, pow-lt, mod-mod-pow}
use borrow.Author.Rules.{rules}

-- 1 shifted by less than a width is a power of two
pub shl_one : (w l : ℕ) → l < w → 1 * 2 ^ l % 2 ^ w ≡ 2 ^ l
shl_one w l h = rw (one-mul (2 ^ l)) (mod-eq_of_lt (pow-lt {i = l} {j = w} h))

-- so 1 shifted by depth is 2^depth
pub power_shift : (depth : ℕ) → depth ≤ 16 → (1 * 2 ^ depth) % 2 ^ 32 ≡ 2 ^ depth
power_shift depth h = shl_one 32 depth (omega arith)

-- a power of two is not 0
pub power_pos : (m depth : ℕ) → m ≡ 2 ^ depth → 0 < m
power_pos m depth e = rw e (pow_pos depth)

-- it is at most 65,536
pub power_cap : (m depth : ℕ) → m ≡ 2 ^ depth → depth ≤ 16 → m ≤ 65536
power_cap m depth e h = rw e (pow_mono {j = 16} h)

-- so a remainder by it has 16 bits
pub mod_under : (n m depth : ℕ) → m ≡ 2 ^ depth → depth ≤ 16 → n % m < 65536
mod_under n m depth e h = omega (arith, mod-lt n (power_pos m depth e), power_cap m depth e h)

-- 2^depth divides 2^16
pub mod_of_wrapped : (n depth : ℕ) → depth ≤ 16 → n % 2 ^ 16 % 2 ^ depth ≡ n % 2 ^ depth
mod_of_wrapped n depth h =
    let e : 16 ≡ 16 - depth + depth = omega arith in
    ap (λ (k : ℕ). n % 2 ^ k % 2 ^ depth) e ∙ mod-mod-pow n (16 - depth) depth

-- so a remainder of what wrapped at 16 bits is one of the whole
pub wrapped_mod : (n w m depth : ℕ) → w ≡ n % 2 ^ 16 → m ≡ 2 ^ depth → depth ≤ 16 → w % m ≡ n % 2 ^ depth
wrapped_mod n w m depth ew em h = rw (ew, em) (mod_of_wrapped n depth h)

-- what wrapped at 8 bits is the remainder at a depth that is 8
pub wrapped_eight : (n w depth : ℕ) → w ≡ n % 2 ^ 8 → depth ≡ 8 → w ≡ n % 2 ^ depth
wrapped_eight n w depth ew e = rw e ew

-- what the answers of a function that takes sums modulo 2^depth search with
pub ruleset powers = (power_shift, power_pos, power_cap, mod_under, wrapped_mod, wrapped_eight, rules)
