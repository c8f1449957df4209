-- Document 01, refusal 8: the loop over the plane indices. Assumes nothing.
use mathlib.Core.Path.{◌≡◌, refl, ap, ◌∙◌}
use mathlib.Core.List.{List, [], ◌∷◌}
use Prim.Native.Nat.{ℕ, ◌+◌, ◌≤◌, ◌<◌}
use native.Mathlib.Omega.{arith}
use borrow.Author.Tests.{le-leb, lt-leb}
use borrow.Author.Rules.{rules}
use lib.ListN.{length, get_or, set, length-set}
use Rattle.scope.specs.Geometry.{plane_count, slices_per_plane, slice_count}
use Rattle.scope.specs.Layout as lay
use Rattle.scope.specs.Layout.{plane_index, named_before}
use Rattle.scope.specs.Pieces as pcs
use Rattle.scope.specs.declared.Geometry.{Geometry}
use Rattle.scope.specs.declared.Place.TheVariants.{Slice}
use Rattle.scope.specs.Answers.{done, refused}
use Rattle.scope.specs.Pieces.{in_order, index_check}
use Rattle.layout.proofs.Slices.{Counted, counted_start, counted_more}
use Rattle.refusals.proofs.InOrder.{none_yet, one_passed, one_refused}
use Rattle.geometry.proofs.Places.{planes_most}

-- the loop of the check: what it has found before slice s
pub record Walk (frame : List ℕ) (g : Geometry) (planes k t : ℕ) (seen : List ℕ) (s : ℕ) : Type 0 where
  pub counted : Counted frame g seen s
  pub passed : done ≡ in_order s (index_check frame g)
  pub within : s ≤ t
  pub few : planes ≤ 4
  pub long : length seen ≡ 4
  pub planes_are : planes ≡ plane_count g
  pub per_plane_is : k ≡ slices_per_plane g
  pub slices_are : t ≡ slice_count g

module _ (frame : List ℕ) (g : Geometry) (planes k t : ℕ) where
  -- before the first slice
  pub walk_start : planes ≡ plane_count g → k ≡ slices_per_plane g → t ≡ slice_count g → Walk frame g planes k t (0 ∷ 0 ∷ 0 ∷ 0 ∷ []) 0
  walk_start ep ek et =
      record {
        counted = counted_start frame g;
        passed = none_yet (index_check frame g);
        within = omega arith;
        few = rw ep (planes_most g.family);
        long = refl;
        planes_are = ep;
        per_plane_is = ek;
        slices_are = et;
      }

  module _ (seen : List ℕ) (s : ℕ) (w : Walk frame g planes k t seen s) where
    -- past the last one
    pub walk_end : t ≤ s → done ≡ in_order (slice_count g) (index_check frame g)
    walk_end h =
        let z : s ≡ slice_count g = omega (arith, w.within, w.slices_are) in
        rw z at w.passed

    module _ (p : ℕ) (ls : s < t) (ei : p ≡ plane_index frame g s) where
      -- a slice that names no plane
      pub walk_no_plane : planes ≤ p → refused 8 (Slice s) ≡ in_order (slice_count g) (index_check frame g)
      unfolding pcs.index_check lay.place_in_plane
      walk_no_plane h =
          one_refused (index_check frame g) (slice_count g) s 8 (Slice s) (rw w.slices_are at ls) w.passed
          (rw (← ei, ← w.planes_are, le-leb planes p h))

      module _ (lp : p < planes) where
        so_far : get_or seen p 0 ≡ named_before frame g (plane_index frame g s) s
        so_far = let l : p < plane_count g = rw w.planes_are at lp in w.counted.counts p l ∙ ap (λ (y : ℕ). named_before frame g y s) ei

        all_there : k ≤ get_or seen p 0 → refused 8 (Slice s) ≡ in_order (slice_count g) (index_check frame g)
        unfolding pcs.index_check lay.place_in_plane
        all_there h =
            one_refused (index_check frame g) (slice_count g) s 8 (Slice s) (rw w.slices_are at ls) w.passed
            (rw (← so_far, ← w.per_plane_is, le-leb k (get_or seen p 0) h, ← ei, ← w.planes_are, lt-leb planes p lp))

        -- any other
        pub walk_step : get_or seen p 0 < k → Walk frame g planes k t (set seen p (get_or seen p 0 + 1)) (s + 1)
        unfolding pcs.index_check lay.place_in_plane
        walk_step h =
            record {
              counted = counted_more frame g seen s p ei (omega (arith, w.few)) w.counted;
              passed = one_passed (index_check frame g) s w.passed (rw (← so_far, ← w.per_plane_is, lt-leb k (get_or seen p 0) h, ← ei, ← w.planes_are, lt-leb planes p lp));
              within = omega arith;
              few = w.few;
              long = simp length-set w.long;
              planes_are = w.planes_are;
              per_plane_is = w.per_plane_is;
              slices_are = w.slices_are;
            }

-- slice s names a plane that has its K: what the loop knew before it, its plane, and what was counted there
pub record PlaneFull (frame : List ℕ) (g : Geometry) (planes k t : ℕ) (seen : List ℕ) (s p : ℕ) : Type 0 where
  pub known : Walk frame g planes k t seen s
  pub within : s < t
  pub plane_is : p ≡ plane_index frame g s
  pub plane_below : p < planes
  pub all : k ≤ get_or seen p 0

-- it is refused
pub walk_full : {frame : List ℕ} {g : Geometry} {planes k t : ℕ} {seen : List ℕ} {s p : ℕ} → PlaneFull frame g planes k t seen s p
    → refused 8 (Slice s) ≡ in_order (slice_count g) (index_check frame g)
walk_full {frame} {g} {planes} {k} {t} {seen} {s} {p} d = all_there frame g planes k t seen s d.known p d.within d.plane_is d.plane_below d.all

pub ruleset walks = (walk_start, walk_end, walk_no_plane, walk_step, rules)
