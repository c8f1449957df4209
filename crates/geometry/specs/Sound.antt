-- Document 01, "What comes in": what refusals 1 to 3 leave of a geometry. Assumes nothing.
use Rattle.std.specs.Prelude.{◌≡◌, ◌%◌, ◌≤◌}
use Rattle.scope.specs.declared.Geometry.{Geometry}

-- whichever entry it is
pub record Sound (g : Geometry) : Type 0 where
  pub wide : (1 ≤ g.width) × (g.width ≤ 16384)
  pub tall : (1 ≤ g.height) × (g.height ≤ 16384)
  pub sliced : (1 ≤ g.slice_height) × (g.slice_height ≤ 16384)
  pub across : (1 ≤ g.sx) × (g.sx ≤ 2)
  pub down : (1 ≤ g.sy) × (g.sy ≤ 2)
  pub deep : (8 ≤ g.depth) × (g.depth ≤ 14)
  pub even_width : g.width % g.sx ≡ 0
  pub even_height : g.height % g.sy ≡ 0
  pub even_slices : g.slice_height % g.sy ≡ 0
