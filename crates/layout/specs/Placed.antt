-- Document 01, "Layout": a slice's plane and place. Assumes nothing.
use Rattle.std.specs.Prelude.{◌≡◌, ℕ, ◌<◌, List}
use Rattle.scope.specs.Geometry.{plane_count, slices_per_plane}
use Rattle.scope.specs.Layout.{plane_index, named_before}
use Rattle.scope.specs.declared.Geometry.{Geometry}

-- slice s is place k of plane p
pub record Placed (frame : List ℕ) (g : Geometry) (s p k : ℕ) : Type 0 where
  pub plane : p ≡ plane_index frame g s
  pub place : k ≡ named_before frame g p s
  pub plane_below : p < plane_count g
  pub place_below : k < slices_per_plane g
