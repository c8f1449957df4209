-- Document 01, "Refusal numbers": refusals 5 to 8 together. Assumes nothing.
use Rattle.std.specs.Prelude.{ℕ, List}
use Rattle.scope.specs.Refusals.{◌and_then◌}
use Rattle.scope.specs.Geometry.{slice_count}
use Rattle.scope.specs.declared.Geometry.{Geometry}
use Rattle.scope.specs.Answers.{Answer}
use Rattle.scope.specs.Pieces.{in_order, preamble_checks, index_check}

-- refusals 5 to 8
unfoldable pub layout_checks : List ℕ → Geometry → Answer
layout_checks frame g =
    let indices : Answer = in_order (slice_count g) (index_check frame g) in
    preamble_checks frame g and_then indices
