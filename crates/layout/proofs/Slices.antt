-- Document 01, "Layout" and refusal 8: the slices in wire order. Each names a plane below P with fewer than K before it, and so the
-- T = P·K of them are K of each plane. Assumes nothing.
use mathlib.Core.Path.{◌≡◌, refl, sym, ◌∙◌}
use mathlib.Core.List.{List, [], ◌∷◌}
use Prim.Native.Nat.{ℕ, zero, suc, ◌+◌, ◌≤◌, ◌<◌}
use native.Mathlib.Decide.{ℕ_discrete}
use native.Mathlib.Numerals.{add-one}
use native.Mathlib.Omega.{arith}
use borrow.Author.Tests.{eq-eqb, ne_eqb}
use lib.ListN.{length, get_or, set, length-set}
use lib.Seq.{get_or-set_same, get_or-set_other}
use Rattle.scope.specs.Base.{sum_below}
use Rattle.scope.specs.Geometry.{plane_count, slices_per_plane, slice_count}
use Rattle.scope.specs.Layout as lay
use Rattle.scope.specs.Layout.{plane_index, named_before}
use Rattle.scope.specs.declared.Geometry.{Geometry}
use Rattle.scope.specs.Answers.{done}
use Rattle.scope.specs.Pieces.{in_order, index_check}
use Rattle.lists.proofs.Sums.{all_full, sum_one_more, sum_none}
use Rattle.refusals.proofs.Rows.{index_below, index_room}
use Rattle.refusals.proofs.InOrder.{each_passed}
use Rattle.lists.proofs.Made.{zero_at}

-- the array of counts
pub record Counted (frame : List ℕ) (g : Geometry) (seen : List ℕ) (s : ℕ) : Type 0 where
  pub counts : (p : ℕ) → p < plane_count g → get_or seen p 0 ≡ named_before frame g p s
  pub four : length seen ≡ 4

module _ (frame : List ℕ) (g : Geometry) where
  -- one more slice
  pub named_here : (s : ℕ) → named_before frame g (plane_index frame g s) (suc s) ≡ suc (named_before frame g (plane_index frame g s) s)
  unfolding lay.named_before
  named_here s = rw (eq-eqb (plane_index frame g s) (plane_index frame g s) refl) (omega arith)

  -- no other plane has one more
  pub named_other : (p s : ℕ) → (p ≡ plane_index frame g s → ⊥) → named_before frame g p (suc s) ≡ named_before frame g p s
  unfolding lay.named_before
  named_other p s ne = rw (ne_eqb (plane_index frame g s) p (λ z. ne (sym z))) (omega arith)

  -- and one more is still at most K, where there was room
  most_here : (p s : ℕ) → p ≡ plane_index frame g s → named_before frame g (plane_index frame g s) s < slices_per_plane g
      → named_before frame g p (suc s) ≤ slices_per_plane g
  most_here p s e h = rw e (omega (arith, named_here s))

  module _ (m : ℕ) (all : done ≡ in_order m (index_check frame g)) where
    named_most : (s : ℕ) → s ≤ m → (p : ℕ) → named_before frame g p s ≤ slices_per_plane g
    unfolding lay.named_before lay.place_in_plane
    named_most zero l p = omega arith
    named_most (suc s) l p = go (ℕ_discrete p (plane_index frame g s)) (named_most s (omega arith) p)
      where
        go : Dec (p ≡ plane_index frame g s) → named_before frame g p s ≤ slices_per_plane g → named_before frame g p (suc s) ≤ slices_per_plane g
        go (yes e) h = most_here p s e (index_room frame g s (each_passed _ m s all l))
        go (no e) h = omega (arith, named_other p s e)

    named_sum : (s : ℕ) → s ≤ m → sum_below (plane_count g) (λ p. named_before frame g p s) ≡ s
    unfolding lay.named_before
    named_sum zero l = sum_none (plane_count g)
    named_sum (suc s) l =
        sum_one_more (λ p. named_before frame g p s) (plane_index frame g s) (plane_count g) (index_below frame g s (each_passed _ m s all l))
        ∙ omega (arith, named_sum s (omega arith))

  -- each plane gets K slices
  pub named_all : done ≡ in_order (slice_count g) (index_check frame g) → (p : ℕ) → p < plane_count g → named_before frame g p (slice_count g) ≡ slices_per_plane g
  named_all all =
      all_full (λ p. named_before frame g p (slice_count g)) (slices_per_plane g) (plane_count g)
      (λ p l. named_most (slice_count g) all (slice_count g) (omega arith) p) (named_sum (slice_count g) all (slice_count g) (omega arith))

  -- ---- the loop's array
  pub counted_none : (seen : List ℕ) → length seen ≡ 4 → ((p : ℕ) → get_or seen p 0 ≡ 0) → Counted frame g seen 0
  unfolding lay.named_before
  counted_none seen e h = record { counts = λ p l. h p; four = e }

  -- one slice counted
  pub counted_more : (seen : List ℕ) (s q : ℕ) → q ≡ plane_index frame g s → q < 4 → Counted frame g seen s → Counted frame g (set seen q (get_or seen q 0 + 1)) (s + 1)
  counted_more seen s q eq l c =
      record { counts = λ p h. go p h (ℕ_discrete p q); four = simp length-set c.four }
    where
      go : (p : ℕ) → p < plane_count g → Dec (p ≡ q) → get_or (set seen q (get_or seen q 0 + 1)) p 0 ≡ named_before frame g p (s + 1)
      go p h (yes e) =
          let k : q < length seen = omega (arith, c.four) in
          let hq : q < plane_count g = rw e at h in
          rw (e, get_or-set_same seen q (get_or seen q 0 + 1) 0 k, add-one, add-one s, c.counts q hq, eq, named_here s)
      go p h (no e) =
          rw (get_or-set_other seen q p (get_or seen q 0 + 1) 0 e, add-one s, named_other p s (rw eq at e)) (c.counts p h)

module _ (frame : List ℕ) (g : Geometry) where
  -- four zeros count none
  pub counted_start : Counted frame g (0 ∷ 0 ∷ 0 ∷ 0 ∷ []) 0
  counted_start = counted_none frame g (0 ∷ 0 ∷ 0 ∷ 0 ∷ []) refl (zero_at 0 4)
