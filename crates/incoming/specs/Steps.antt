-- Document 01, "Refusal numbers", 1 to 4, in the two steps in which they are judged. Assumes nothing.
use Rattle.std.specs.Prelude.{ℕ, ◌*◌, ◌^◌, not, ◌&&◌, eqb}
use Rattle.scope.specs.Refusals.{refuse_if, ◌and_then◌}
use Rattle.scope.specs.Geometry.{geometry_fits, factors_divide, slice_height_divides, plane_count, all_samples}
use Rattle.scope.specs.declared.Entry.{Entry}
use Rattle.scope.specs.declared.Geometry.{Geometry}
use Rattle.scope.specs.declared.Place.TheVariants.{Nothing}
use Rattle.scope.specs.Answers.{Answer}

-- refusals 1 to 3: the geometry by itself
unfoldable pub shape_checks : (which : Entry) (g : Geometry) → Answer
shape_checks which g =
    refuse_if (not (geometry_fits which g)) 1 Nothing
    and_then refuse_if (not (factors_divide g)) 2 Nothing
    and_then refuse_if (not (slice_height_divides g)) 3 Nothing

-- refusal 4: the lengths and the plane buffer
unfoldable pub size_checks : (g : Geometry) (lengths_len planes_len : ℕ) → Answer
size_checks g lengths_len planes_len =
    refuse_if (not (eqb lengths_len (plane_count g * 2 ^ g.depth) && eqb planes_len (all_samples g))) 4 Nothing
