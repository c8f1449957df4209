-- An array with a number for each plane (document 01, "Rgba or Yuva (4)"): before the first plane, one plane more, and what it holds.
-- Laws of lists: lib.Seq, and `list_below` in crate codes. Assumes nothing.
use mathlib.Core.Path.{◌≡◌, refl, sym, ◌∙◌}
use mathlib.Core.Bool.{cond}
use Prim.Native.Nat.{ℕ, suc, ◌≤◌, ◌<◌}
use native.Mathlib.Decide.{ℕ_discrete, dec_lt}
use native.Mathlib.Omega.{arith}
use borrow.Author.Tests.{lt-ltb, le-ltb}
use lib.Dec.{ltb}
use lib.ListN.{length, get_or, set, length-set}
use lib.Seq.{get_or-set_same, get_or-set_other}
use Rattle.scope.specs.Base as base
use Rattle.lists.proofs.Made.{length-list_from, get_or-below, list_below_only}
use Rattle.tables.specs.Codes.{per_plane, zero4}

-- there are four
pub per_four : (n : ℕ) (f : ℕ → ℕ) → length (per_plane n f) ≡ 4
unfolding per_plane
per_four n f = length-list_from (λ p. cond (ltb p n) (f p) 0) 0 4

-- plane p's number
pub per_at : (n : ℕ) (f : ℕ → ℕ) (p : ℕ) → p < 4 → p < n → get_or (per_plane n f) p 0 ≡ f p
unfolding per_plane
per_at n f p l h = get_or-below (λ q. cond (ltb q n) (f q) 0) 4 p l ∙ simp (lt-ltb p n h)

-- that of a plane that is not there
pub per_none : (n : ℕ) (f : ℕ → ℕ) (p : ℕ) → p < 4 → n ≤ p → get_or (per_plane n f) p 0 ≡ 0
unfolding per_plane
per_none n f p l h = get_or-below (λ q. cond (ltb q n) (f q) 0) 4 p l ∙ simp (le-ltb p n h)

-- before the first plane
pub per_start : (f : ℕ → ℕ) → zero4 ≡ per_plane 0 f
unfolding per_plane base.list_from
per_start f = refl

-- one plane more
pub per_more : (f : ℕ → ℕ) (n v : ℕ) → n < 4 → v ≡ f n → set (per_plane n f) n v ≡ per_plane (suc n) f
unfolding per_plane
per_more f n v l e =
    list_below_only (λ p. cond (ltb p (suc n)) (f p) 0) 4 (set (per_plane n f) n v) (simp length-set (per_four n f))
    (λ k b. at k b (ℕ_discrete k n) (dec_lt k n))
  where
    at : (k : ℕ) → k < 4 → Dec (k ≡ n) → Dec (k < n) → get_or (set (per_plane n f) n v) k 0 ≡ cond (ltb k (suc n)) (f k) 0
    at k b (yes q) d =
        rw (q, get_or-set_same (per_plane n f) n v 0 (omega (arith, per_four n f, l)), lt-ltb n (suc n) (omega arith)) e
    at k b (no q) (yes h) =
        get_or-set_other (per_plane n f) n k v 0 q ∙ per_at n f k b h ∙ sym (simp (lt-ltb k (suc n) (omega arith)))
    at k b (no q) (no h) =
        get_or-set_other (per_plane n f) n k v 0 q ∙ per_none n f k b (omega (arith, h)) ∙ sym (simp (le-ltb k (suc n) (omega (arith, q, h))))
