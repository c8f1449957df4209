-- Document 01, "Layout": the places of a plane, one after another. Assumes nothing.
use Rattle.std.specs.Prelude.{ℕ, ◌*◌, min}
use Rattle.scope.specs.Geometry.{plane_width, plane_height, first_row}
use Rattle.scope.specs.declared.Geometry.{Geometry}

-- how many samples the first k places of plane p take together
unfoldable pub filled : Geometry → ℕ → ℕ → ℕ
filled g p k = min (first_row g p k) (plane_height g p) * plane_width g p
