-- Document 01, "Refusal numbers", 12 to 14 of a slice and 5 to 14 of a frame, as functions of what they are judged by: a slice's own
-- record and its plane's shortest word, and the answers of the lengths and of the workspace. proofs/Framed.antt has that they are
-- `slice_check` and `frame_checks`. Assumes nothing.
use Rattle.std.specs.Prelude.{ℕ, ◌+◌, ◌-◌, ◌*◌, ◌<◌, Bool, cond, not, ◌&&◌, List, eqb, ltb, length, get_or}
use Rattle.scope.specs.Base.{over_up}
use Rattle.scope.specs.Refusals.{refuse_if, ◌and_then◌}
use Rattle.scope.specs.Geometry.{plane_count, slice_count}
use Rattle.scope.specs.Layout.{plane_index, slice_at}
use Rattle.scope.specs.declared.Geometry.{Geometry}
use Rattle.scope.specs.declared.SliceAt.{SliceAt}
use Rattle.scope.specs.declared.Place.TheVariants.{Slice, Plane}
use Rattle.scope.specs.Answers.{Answer}
use Rattle.scope.specs.Pieces.{in_order}
use Rattle.preamble.specs.Layout.{layout_checks}

-- "fewer bytes after the prefix than samples times b, over 8, rounded up"
unfoldable pub size_check : ℕ → ℕ → ℕ → ℕ → Answer
size_check s bytes samples bits = refuse_if (ltb bytes (over_up (samples * bits) 8)) 12 (Slice s)

-- "bounds (12), 13, wordless plane (14), size (12)", of slice s from `start` to `end` in a frame of len bytes: b is its plane's shortest
-- word, 0 where it has none
unfoldable pub slice_rule : ℕ → ℕ → ℕ → ℕ → ℕ → Bool → ℕ → ℕ → ℕ → Answer
slice_rule s plane samples start end raw len depth b =
    refuse_if (ltb end start) 12 (Slice s)
    and_then refuse_if (ltb len end) 12 (Slice s)
    and_then refuse_if (ltb end (start + 2)) 13 (Slice s)
    and_then refuse_if (not raw && eqb b 0) 14 (Plane plane)
    and_then size_check s (end - (start + 2)) samples (cond raw depth b)

abbrev pub slice_check_by : ℕ → ℕ → ℕ → SliceAt → Answer
slice_check_by len depth b a =
    slice_rule a.number a.plane (a.rows * a.width) a.start a.end a.raw len depth b

-- slice s of a frame, by the shortest words of its planes
unfoldable pub slices_by : List ℕ → Geometry → List ℕ → ℕ → Answer
slices_by frame g shortest s = slice_check_by (length frame) g.depth (get_or shortest (plane_index frame g s) 0) (slice_at frame g s)

-- refusals 9 to 14: what the lengths answer, what the workspace does, then the slices in wire order
unfoldable pub words_by : List ℕ → Geometry → Answer → Answer → List ℕ → Answer
words_by frame g words room shortest =
    let slices : Answer = in_order (slice_count g) (slices_by frame g shortest) in
    words and_then room and_then slices

-- refusals 5 to 14
unfoldable pub framed_by : List ℕ → Geometry → Answer → Answer → List ℕ → Answer
framed_by frame g words room shortest =
    let rest : Answer = words_by frame g words room shortest in
    layout_checks frame g and_then rest

-- the shortest words of the planes are bytes
pub record Shortests (g : Geometry) (at : List ℕ) : Type 0 where
  pub small : (p : ℕ) → p < plane_count g → get_or at p 0 < 256
