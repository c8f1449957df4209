-- Document 01, "Layout": bits that lie inside a payload do not depend on what follows it, and neither do raw samples made of them. Assumes nothing.
use mathlib.Core.Path.{◌≡◌, refl, ap}
use mathlib.Core.Bool.{Bool, true, false, cond}
use mathlib.Core.List.{◌++◌}
use Prim.Native.Nat.{ℕ, zero, suc, ◌+◌, ◌*◌, ◌/◌, ◌≤◌, ◌<◌}
use native.Mathlib.Nat.{suc-mul}
use native.Mathlib.Omega.{arith}
use borrow.Author.Tests.{eqb-true}
use lib.Dec.{eqb}
use lib.ListN.{length, take, get_or-append}
use lib.Seq.{take-append-le}
use Rattle.scope.specs.Base.{Bytes}
use Rattle.scope.specs.Bits as bits
use Rattle.scope.specs.Bits.{bit_at, window, packed_from, raw_samples}

module _ (payload more : Bytes) where
  bit_own : (at : ℕ) → at < 8 * length payload → bit_at (payload ++ more) at ≡ bit_at payload at
  unfolding bits.bit_at
  bit_own at l = rw (get_or-append payload more 0 (at / 8) (omega (arith, l))) refl

  window_own : (at k : ℕ) → at + k ≤ 8 * length payload → window (payload ++ more) at k ≡ window payload at k
  unfolding bits.window
  window_own at zero l = refl
  window_own at (suc k) l = rw (window_own at k (omega (arith, l)), bit_own (at + k) (omega (arith, l))) refl

  packed_own : (depth at n : ℕ) → at + n * depth ≤ 8 * length payload → packed_from depth (payload ++ more) at n ≡ packed_from depth payload at n
  unfolding bits.packed_from
  packed_own depth at zero l = refl
  packed_own depth at (suc n) l =
      rw (window_own at depth (omega (arith, l, suc-mul n depth)), packed_own depth (at + depth) n (omega (arith, l, suc-mul n depth))) refl

  -- n raw samples for which there are bits
  pub raw_own : (depth n : ℕ) → n * depth ≤ 8 * length payload → raw_samples depth (payload ++ more) n ≡ raw_samples depth payload n
  unfolding bits.raw_samples
  raw_own depth n l = go (eqb depth 8) refl
    where
      go : (t : Bool) → eqb depth 8 ≡ t
          → cond t (take n (payload ++ more)) (packed_from depth (payload ++ more) 0 n) ≡ cond t (take n payload) (packed_from depth payload 0 n)
      go true e =
          let k : n * depth ≡ n * 8 = ap (λ (d : ℕ). n * d) (eqb-true depth 8 e) in
          take-append-le n payload more (omega (arith, l, k))
      go false e = packed_own depth 0 n (omega (arith, l))
