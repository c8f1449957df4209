-- A loop over the slices in wire order, once their indices are checked: it counts the slices of each plane, so that it knows each
-- slice's plane and place (document 01, "Layout"), and makes the checks f 0, f 1, .. until one refuses. Assumes nothing.
use mathlib.Core.Path.{◌≡◌, sym, ◌∙◌}
use mathlib.Core.List.{List, [], ◌∷◌}
use Prim.Native.Nat.{ℕ, ◌+◌, ◌*◌, ◌≤◌, ◌<◌}
use native.Mathlib.Omega.{arith}
use mir.Syntax.{w64}
use mir.Val.{Fits}
use borrow.Author.Rules.{rules}
use lib.ListN.{get_or, set}
use Rattle.scope.specs.Geometry.{plane_count, slices_per_plane, slice_count}
use Rattle.scope.specs.Layout as lay
use Rattle.scope.specs.Layout.{plane_index, named_before}
use Rattle.geometry.specs.Sound.{Sound}
use Rattle.layout.specs.Placed.{Placed}
use Rattle.scope.specs.declared.Geometry.{Geometry}
use Rattle.scope.specs.declared.Refusal.{Refusal}
use Rattle.std.specs.Prelude.{Err}
use Rattle.scope.specs.Answers.{Answer, done}
use Rattle.scope.specs.Pieces.{in_order, index_check}
use Rattle.geometry.proofs.Places.{planes_most, slices_most}
use Rattle.refusals.proofs.Rows.{index_below, index_room}
use Rattle.refusals.proofs.InOrder.{none_yet, one_passed, one_refused, each_passed}
use Rattle.layout.proofs.Slices.{Counted, counted_start, counted_more}

pub record Going (f : ℕ → Answer) (frame : List ℕ) (g : Geometry) (t : ℕ) (seen : List ℕ) (s : ℕ) : Type 0 where
  pub counted : Counted frame g seen s
  pub passed : done ≡ in_order s f
  pub within : s ≤ t
  pub slices_are : t ≡ slice_count g
  pub checked : done ≡ in_order (slice_count g) (index_check frame g)

module _ (f : ℕ → Answer) (frame : List ℕ) (g : Geometry) (t : ℕ) where
  -- before the first slice
  pub going_start : t ≡ slice_count g → done ≡ in_order (slice_count g) (index_check frame g) → Going f frame g t (0 ∷ 0 ∷ 0 ∷ 0 ∷ []) 0
  going_start et ck =
      record { counted = counted_start frame g; passed = none_yet f; within = omega arith; slices_are = et; checked = ck }

  module _ (seen : List ℕ) (s : ℕ) (w : Going f frame g t seen s) where
    -- past the last one
    pub going_last : t ≤ s → s ≡ slice_count g
    going_last h = omega (arith, w.within, w.slices_are)

    -- all checks passed
    pub going_done : t ≤ s → done ≡ in_order (slice_count g) f
    going_done h = rw (going_last h) at w.passed

    module _ (p : ℕ) (ls : s < t) (ei : p ≡ plane_index frame g s) where
      fine : done ≡ index_check frame g s
      fine = each_passed (index_check frame g) (slice_count g) s w.checked (rw w.slices_are at ls)

      -- slice s names a plane
      pub going_plane : p < plane_count g
      going_plane = rw ei (index_below frame g s fine)

      -- its place in it was counted
      pub going_place : get_or seen p 0 ≡ named_before frame g p s
      going_place = w.counted.counts p going_plane

      room : get_or seen p 0 < slices_per_plane g
      unfolding lay.place_in_plane
      room = rw (going_place, ei) (index_room frame g s fine)

      -- so slice s is that place of that plane
      pub going_placed : Placed frame g s p (get_or seen p 0)
      going_placed = record { plane = ei; place = going_place; plane_below = going_plane; place_below = room }

      -- the count is one of the four
      pub going_four : p < 4
      going_four = omega (arith, going_plane, planes_most g.family)

      -- and so its offset fits
      pub going_scaled : Fits w64 (p * 8)
      going_scaled = record { fits = omega (arith, going_four) }

      -- a count more fits 64 bits
      pub going_fits : Sound g → Fits w64 (get_or seen p 0 + 1)
      going_fits ok = record { fits = omega (arith, room, slices_most g ok) }

      module _ (r : Answer) (er : r ≡ f s) where
        -- check s passed
        pub going_step : r ≡ done → Going f frame g t (set seen p (get_or seen p 0 + 1)) (s + 1)
        going_step ed =
            record {
              counted = counted_more frame g seen s p ei going_four w.counted;
              passed = one_passed f s w.passed (sym ed ∙ er);
              within = omega arith;
              slices_are = w.slices_are;
              checked = w.checked;
            }

        -- check s refuses
        pub going_refused : (why : Refusal) → r ≡ Err why → Err why ≡ in_order (slice_count g) f
        going_refused why h = one_refused f (slice_count g) s why.0 why.1 (rw w.slices_are at ls) w.passed (sym h ∙ er)

pub ruleset goes = (going_start, going_done, going_placed, going_four, going_scaled, going_fits, going_step, going_refused, rules)
