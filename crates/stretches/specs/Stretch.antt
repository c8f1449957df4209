-- The rows of a plane in the plane buffer, as elements. Document 01, "Planes lie one after another with no gaps". Assumes nothing.
use Rattle.std.specs.Prelude.{ℕ}
use Rattle.scope.specs.Geometry.{plane_width, all_samples, row_start}
use Rattle.scope.specs.declared.Geometry.{Geometry}
use Rattle.views.specs.declared.Stretch.{Stretch}

-- The elements of the plane buffer: how many from a row's start to the next row's, and in all. "Planes lie one after another with no gaps", so every
-- element is a sample.
abbrev pub pitch_of : (g : Geometry) (p : ℕ) → ℕ
pitch_of = plane_width

abbrev pub all_elements : (g : Geometry) → ℕ
all_elements = all_samples

-- `rows` rows of the wire's plane p from `row` on
unfoldable pub stretch_of : Geometry → ℕ → ℕ → ℕ → Stretch
stretch_of g p row rows = record { at = row_start g p row; width = plane_width g p; pitch = pitch_of g p; rows = rows }
