-- What the functions of a decode promise each other once the checks have passed, by whatever way words are looked up. Assumes nothing.
use Rattle.std.specs.Prelude.{◌≡◌, ℕ, zero, suc, ◌-◌, ◌*◌, ◌≤◌, ◌<◌, cond, List, [], ◌++◌, eqb, length, get_or}
use Rattle.scope.specs.Geometry.{correlated, plane_count, slice_count, fields, row_start}
use Rattle.scope.specs.Layout.{plane_index, payload_of, slice_at}
use Rattle.scope.specs.Lookup.{lookup_in}
use Rattle.scope.specs.Frame.{buffer_plane, planes_up_to}
use Rattle.scope.specs.declared.Geometry.{Geometry}
use Rattle.scope.specs.declared.SliceAt.{SliceAt}
use Rattle.scope.specs.Found.{Found}
use Rattle.scope.specs.Answers.{Answer, done}
use Rattle.scope.specs.Pieces.{in_order, index_check}
use Rattle.lists.specs.Parts.{part, replaced}
use Rattle.geometry.specs.Sound.{Sound}
use Rattle.codes.specs.Reading.{Readable}
use Rattle.slice.specs.Slice.{SliceIn, read_by, samples_by}
use Rattle.tables.specs.declared.Codes.{Codes}

-- ---- looking words up

-- the word of plane p's code at a bit position of a payload
abbrev pub Look : Type 0
Look = ℕ → List ℕ → ℕ → Found

-- by the tables that stand in a workspace where the codes say
unfoldable pub table_look : List ℕ → Codes → Look
table_look workspace c p payload =
    lookup_in (part workspace (get_or c.from p 0) (get_or c.to p 0 - get_or c.from p 0)) (get_or c.longest p 0) payload

-- ---- the slices of a frame, read so

module _ (look : Look) (frame : List ℕ) (g : Geometry) where
  -- what slice s answers: 15, or 14, or nothing
  unfoldable pub read_at : ℕ → Answer
  read_at s = read_by (look (plane_index frame g s) (payload_of frame g s)) g.depth frame (slice_at frame g s)

  -- its samples
  unfoldable pub samples_for : ℕ → List ℕ
  samples_for s =
      samples_by (look (plane_index frame g s) (payload_of frame g s)) g.depth (fields g) frame (slice_at frame g s)

-- the samples of the slices before s that name plane p, in wire order
module _ (samples : ℕ → List ℕ) (frame : List ℕ) (g : Geometry) where
  unfoldable pub gathered : ℕ → ℕ → List ℕ
  gathered p zero = []
  gathered p (suc s) =
      let here : List ℕ = samples s in
      gathered p s ++ cond (eqb (plane_index frame g s) p) here []

  -- all of plane p
  unfoldable pub plane_of : ℕ → List ℕ
  plane_of p = gathered p (slice_count g)

-- ---- what the reading asks: a frame, tables and codes after the checks; symbols are below `limit`

pub record Ready (limit : ℕ) (frame : List ℕ) (g : Geometry) (workspace : List ℕ) (c : Codes) : Type 0 where
  pub sound : Sound g
  pub indices : done ≡ in_order (slice_count g) (index_check frame g)
  pub slices : (s : ℕ) → s < slice_count g → SliceIn g.depth frame (slice_at frame g s)
  pub starts : (p : ℕ) → p < plane_count g → get_or c.from p 0 ≤ get_or c.to p 0
  pub ends : (p : ℕ) → p < plane_count g → get_or c.to p 0 ≤ length workspace
  pub readable : (p : ℕ) (payload : List ℕ) (n : ℕ) → p < plane_count g → n ≤ 268435456 → Readable (table_look workspace c p payload) limit 0 n

-- the planes with a slice's samples in its rows
unfoldable pub with_rows : Geometry → SliceAt → List ℕ → List ℕ → List ℕ
with_rows g a samples planes = replaced planes (row_start g a.plane a.first) (a.rows * a.width) samples

-- the picture of planes in wire order: G added where the family is stored so, in the buffer's order
unfoldable pub picture_by : Geometry → (ℕ → List ℕ) → List ℕ
picture_by g wire = planes_up_to (buffer_plane (correlated g.family) g.depth wire) (plane_count g)
