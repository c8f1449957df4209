-- Laws of raw samples from one of them on, over any depth (document 01, "Layout": "Raw depth 8 is one byte a sample; deeper raw samples
-- are packed at depth bits"). Assumes nothing.
use mathlib.Core.Path.{◌≡◌, refl, sym, ap, ◌∙◌}
use mathlib.Core.Bool.{Bool, true, false}
use mathlib.Core.List.{List, [], ◌∷◌, ◌++◌}
use Prim.Native.Nat.{ℕ, zero, suc, ◌+◌, ◌-◌, ◌*◌, ◌≤◌, ◌<◌}
use native.Mathlib.Nat.{suc-mul, zero-mul, add-mul, zero-add, suc-add, add-zero, mul-le-mul}
use native.Mathlib.Omega.{arith}
use mir.Syntax.{w64}
use mir.Val.{Fits}
use borrow.Author.Rules.{rules}
use borrow.Author.Tests.{eq-eqb, ne_eqb, eqb-true, eqb-false}
use lib.Dec.{eqb}
use lib.ListN.{length, take, drop, length-drop}
use lib.Seq.{take-add, drop-drop, length-take-le}
use Rattle.scope.specs.Bits as bts
use Rattle.scope.specs.Bits.{window, packed_from, raw_samples}
use Rattle.raw.specs.Raw.{raw_from, RawIn}
use Rattle.bits.proofs.Windows.{packed-length}

-- ---- the two cases

-- at depth 8 they are the bytes themselves
pub raw_bytes : (depth : ℕ) (payload : List ℕ) (first n : ℕ) → depth ≡ 8 → raw_from depth payload first n ≡ take n (drop first payload)
unfolding raw_from
raw_bytes depth payload first n e = rw (eq-eqb depth 8 e)

-- a copy of them
pub raw_copied : (depth : ℕ) (payload : List ℕ) (first n : ℕ) (out : List ℕ) → depth ≡ 8 → out ≡ take (first + n - first) (drop first payload) → out ≡ raw_from depth payload first n
raw_copied depth payload first n out d e =
    let k : first + n - first ≡ n = omega arith in
    e ∙ rw k (sym (raw_bytes depth payload first n d))

-- deeper ones are packed
raw_deep : (depth : ℕ) (payload : List ℕ) (first n : ℕ) → (depth ≡ 8 → ⊥) → raw_from depth payload first n ≡ packed_from depth payload (first * depth) n
unfolding raw_from
raw_deep depth payload first n h = rw (ne_eqb depth 8 h)

pub raw_packed : (depth : ℕ) (payload : List ℕ) (first n : ℕ) (out : List ℕ) → 8 < depth → out ≡ packed_from depth payload (first * depth) n → out ≡ raw_from depth payload first n
raw_packed depth payload first n out h e = e ∙ sym (raw_deep depth payload first n (λ (z : depth ≡ 8). omega arith))

-- ---- where they stand

-- at depth 8 the bytes are there
pub raw_inside : (depth : ℕ) (payload : List ℕ) (first n : ℕ) → depth ≡ 8 → RawIn depth payload first n → first + n ≤ length payload
raw_inside depth payload first n e r =
    let k : (first + n) * depth ≡ (first + n) * 8 = ap (λ (d : ℕ). (first + n) * d) e in
    omega (arith, r.room)

bytes_length : (payload : List ℕ) (first n : ℕ) → first + n ≤ length payload → length (take n (drop first payload)) ≡ n
bytes_length payload first n h = length-take-le n (drop first payload) (rw length-drop (omega arith))

-- the first bit's position is a number of 64 bits, and as near as unpacking asks
module _ (depth : ℕ) (payload : List ℕ) (first n : ℕ) (d : depth ≤ 16) (r : RawIn depth payload first n) where
  pub raw_near : first * depth ≤ 4294967296
  raw_near =
      let l : first ≤ 268435456 = omega (arith, r.most) in
      omega (arith, mul-le-mul l d)

  pub raw_fits : Fits w64 (first * depth)
  raw_fits = record { fits = omega (arith, raw_near) }

  pub raw_few : n ≤ 268435456
  raw_few = omega (arith, r.most)

-- ---- from the first one on they are all

pub raw_first : (depth : ℕ) (payload : List ℕ) (n : ℕ) → raw_from depth payload 0 n ≡ raw_samples depth payload n
unfolding raw_from bts.raw_samples
raw_first depth payload n = rw zero-mul

-- ---- none of them

pub raw_none : (depth : ℕ) (payload : List ℕ) (first : ℕ) → raw_from depth payload first 0 ≡ []
raw_none depth payload first = go (eqb depth 8) refl
  where
    go : (b : Bool) → eqb depth 8 ≡ b → raw_from depth payload first 0 ≡ []
    go true e = raw_bytes depth payload first 0 (eqb-true depth 8 e)
    go false e = raw_deep depth payload first 0 (eqb-false depth 8 e) ∙ unfold bts.packed_from in refl

-- ---- n of them, and then k more

pub packed_resumes : (depth : ℕ) (payload : List ℕ) (n at k : ℕ) → packed_from depth payload at (n + k) ≡ packed_from depth payload at n ++ packed_from depth payload (at + n * depth) k
unfolding bts.packed_from
packed_resumes depth payload zero at k = rw (zero-add, zero-mul, add-zero at)
packed_resumes depth payload (suc n) at k =
    let e : at + suc n * depth ≡ at + depth + n * depth = omega (arith, suc-mul n depth) in
    rw (suc-add n k, e) (ap (λ (z : List ℕ). window payload at depth ∷ z) (packed_resumes depth payload n (at + depth) k))

pub raw_resumes : (depth : ℕ) (payload : List ℕ) (first n k : ℕ) → raw_from depth payload first (n + k) ≡ raw_from depth payload first n ++ raw_from depth payload (first + n) k
raw_resumes depth payload first n k = go (eqb depth 8) refl
  where
    go : (b : Bool) → eqb depth 8 ≡ b → raw_from depth payload first (n + k) ≡ raw_from depth payload first n ++ raw_from depth payload (first + n) k
    go true e =
        let d : depth ≡ 8 = eqb-true depth 8 e in
        rw (raw_bytes depth payload first (n + k) d, raw_bytes depth payload first n d, raw_bytes depth payload (first + n) k d)
        (take-add n k (drop first payload) ∙ rw (drop-drop n first payload))
    go false e =
        let d : depth ≡ 8 → ⊥ = eqb-false depth 8 e in
        rw (raw_deep depth payload first (n + k) d, raw_deep depth payload first n d, raw_deep depth payload (first + n) k d, add-mul first n depth)
        (packed_resumes depth payload n (first * depth) k)

-- as many as are asked for, where the payload has them
pub raw_length : (depth : ℕ) (payload : List ℕ) (first n : ℕ) → RawIn depth payload first n → length (raw_from depth payload first n) ≡ n
raw_length depth payload first n r = go (eqb depth 8) refl
  where
    go : (b : Bool) → eqb depth 8 ≡ b → length (raw_from depth payload first n) ≡ n
    go true e =
        let d : depth ≡ 8 = eqb-true depth 8 e in
        rw (raw_bytes depth payload first n d) (bytes_length payload first n (raw_inside depth payload first n d r))
    go false e = rw (raw_deep depth payload first n (eqb-false depth 8 e)) (packed-length depth payload (first * depth) n)

pub ruleset raws = (raw_packed, raw_copied, raw_inside, raw_near, raw_fits, raw_few, rules)
