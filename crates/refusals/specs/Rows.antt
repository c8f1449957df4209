-- What is said of every row of document 01's table that an answer may be. Assumes nothing.
use Rattle.std.specs.Prelude.{ℕ, ◌<◌, List}
use Rattle.scope.specs.Geometry.{plane_count, slice_count}
use Rattle.scope.specs.Layout.{plane_index}
use Rattle.scope.specs.declared.Geometry.{Geometry}
use Rattle.scope.specs.declared.Place.{Place}
use Rattle.scope.specs.declared.Place.TheVariants.{Slice, Plane, Nothing}
use Rattle.scope.specs.Answers.{Answer}
use Rattle.std.specs.Prelude.{Ok, Err}

-- an answer is a success, or a refusal of which Q holds
unfoldable pub Every : (ℕ → Place → Type 0) → Answer → Type 0
Every Q (Ok _) = Unit {0}
Every Q (Err why) = Q why.0 why.1

-- Q holds of refusals 1 to 4
pub record LentRows (Q : ℕ → Place → Type 0) : Type 0 where
  pub row1 : Q 1 Nothing
  pub row2 : Q 2 Nothing
  pub row3 : Q 3 Nothing
  pub row4 : Q 4 Nothing

-- Q holds of refusals 5 to 15, at each place that they can have; 14 is only given once every index is below P
pub record FrameRows (Q : ℕ → Place → Type 0) (frame : List ℕ) (g : Geometry) : Type 0 where
  pub row5 : Q 5 Nothing
  pub row6 : Q 6 Nothing
  pub row7 : Q 7 Nothing
  pub row8 : (s : ℕ) → s < slice_count g → Q 8 (Slice s)
  pub row9 : (p : ℕ) → p < plane_count g → Q 9 (Plane p)
  pub row10 : (p : ℕ) → p < plane_count g → Q 10 (Plane p)
  pub row11 : Q 11 Nothing
  pub row12 : (s : ℕ) → s < slice_count g → Q 12 (Slice s)
  pub row13 : (s : ℕ) → s < slice_count g → Q 13 (Slice s)
  pub row14 : (s : ℕ) → s < slice_count g → plane_index frame g s < plane_count g → Q 14 (Plane (plane_index frame g s))
  pub row15 : (s : ℕ) → s < slice_count g → Q 15 (Slice s)
