-- Request L10: that the two theorems of Within.antt take no more than they must, and claim no less than they could. For each row of the table that they
-- take there is a smallest geometry or frame here for which, of the rows before, that row alone applies; and the claim fails. Last stands a frame at
-- which every bound of both claims is met exactly, so that none could be tighter. The checker computes all of it (proofs/Smallest.antt). Assumes nothing.
use Rattle.std.specs.Prelude.{◌≡◌, ℕ, ◌+◌, ◌*◌, ◌≤◌, Bool, true, false, cond, List, [], ◌∷◌, ◌++◌, length, take}
use Rattle.scope.specs.Base.{Bytes, Lengths, over_up}
use Rattle.scope.specs.Refusals.{Row, row, rows_of_each}
use Rattle.scope.specs.Geometry.{plane_count, slices_per_plane, plane_height, first_row, rows_at}
use Rattle.scope.specs.Layout.{plane_index, place_in_plane, is_raw, payload_of, samples_in}
use Rattle.scope.specs.Frame.{lent_rows, length_rows, room_rows, slice_rows}
use Rattle.scope.specs.Known.{shape, plain, code, wordless, frame_of}
use Rattle.scope.specs.declared.Entry.TheVariants.{Eight}
use Rattle.scope.specs.declared.Family.TheVariants.{Gray, Rgb, Yuv}
use Rattle.scope.specs.declared.Geometry.{Geometry}
use Rattle.scope.specs.declared.Place.TheVariants.{Slice, Nothing}
use Rattle.within.specs.Within.{InPlane, AllBytes, rows_to8}

-- the rows that apply
unfoldable pub applying : (rows : List Row) → List Row
applying [] = []
applying (r ∷ rows) = cond r.applies (r ∷ applying rows) (applying rows)

-- which of some rows apply, one by one
unfoldable pub tests : (rows : List Row) → List Bool
tests [] = []
tests (r ∷ rows) = r.applies ∷ tests rows

-- ---- 1. every slice begins in its plane

-- Where slice s of a frame stands: its first row, the height of its plane, and its rows.
pub record Stands (frame : Bytes) (g : Geometry) (s first height rows : ℕ) : Type 0 where
  pub first_is : first_row g (plane_index frame g s) (place_in_plane frame g s) ≡ first
  pub height_is : plane_height g (plane_index frame g s) ≡ height
  pub rows_is : rows_at g (plane_index frame g s) (place_in_plane frame g s) ≡ rows

-- A frame of so many bytes: of rows 1 to 8 those of the list apply and no other; slice s stands so; and the claim fails there. Lengths of `planes` planes
-- without a word are lent.
pub record Misplaced (frame : Bytes) (size : ℕ) (g : Geometry) (planes planes_len : ℕ) (rows8 : List Row) (s first height rows : ℕ) : Type 0 where
  pub size_is : length frame ≡ size
  pub just : applying (rows_to8 Eight frame g (wordless planes) planes_len) ≡ rows8
  pub stands : Stands frame g s first height rows
  pub fails : InPlane height first rows → ⊥

-- 2 alone: one row under sy = 2. Planes 1 and 2 have no row for a slice to begin in. No height is smaller, nor a slice height that 3 leaves.
abbrev pub Without2 : Type 0
Without2 =
    Misplaced (frame_of (3 ∷ 0 ∷ 1 ∷ 2 ∷ []) ([] ∷ [] ∷ [] ∷ [])) 52 (shape Yuv 1 1 2 1 2 8 false) 3 1
    (row 2 Nothing true ∷ []) 1 0 0 0

-- 3 alone: slices of one row under sy = 2. In planes 1 and 2 they begin in their plane and have no row. No slice height is smaller, nor a height that 2 leaves.
abbrev pub Without3 : Type 0
Without3 =
    Misplaced (frame_of (3 ∷ 0 ∷ 1 ∷ 2 ∷ 0 ∷ 1 ∷ 2 ∷ []) ([] ∷ [] ∷ [] ∷ [] ∷ [] ∷ [] ∷ [])) 67 (shape Yuv 1 2 1 1 2 8 false) 3 4
    (row 3 Nothing true ∷ []) 1 0 1 0

-- 8 alone, of the count: two slices for a plane of one row, the second of which begins below it. No side is smaller; with one plane no plane can have too many.
abbrev pub Without8 : Type 0
Without8 =
    Misplaced (frame_of (3 ∷ 0 ∷ 0 ∷ 1 ∷ []) ([] ∷ [] ∷ [] ∷ [])) 52 (plain Rgb 1 1 1) 3 3
    (row 8 (Slice 1) true ∷ []) 1 1 1 0

-- a slice that is none: rows 1 to 8 leave a frame of one slice, and past it the claim fails. No frame that they leave is smaller.
abbrev pub PastTheLast : Type 0
PastTheLast = Misplaced (frame_of (1 ∷ 0 ∷ []) ([] ∷ [])) 42 (plain Gray 1 1 1) 1 1 [] 1 1 1 0

-- Of rows 1 to 4 those of the list apply and no other, K is k, and place k of plane p begins in its plane.
pub record Beyond (g : Geometry) (planes planes_len : ℕ) (rows4 : List Row) (p k first height : ℕ) : Type 0 where
  pub just : applying (lent_rows Eight g (length (wordless planes)) planes_len) ≡ rows4
  pub k_is : slices_per_plane g ≡ k
  pub first_is : first_row g p k ≡ first
  pub height_is : plane_height g p ≡ height
  pub fails : height ≤ first → ⊥

-- 1 alone, of the slice height: no slices, and a plane of one row
abbrev pub Without1 : Type 0
Without1 = Beyond (plain Gray 1 1 0) 1 1 (row 1 Nothing true ∷ []) 0 0 0 1

-- 3 alone: as in `Without3`
abbrev pub Without3Beyond : Type 0
Without3Beyond = Beyond (shape Yuv 1 2 1 1 2 8 false) 3 4 (row 3 Nothing true ∷ []) 1 2 0 1

-- ---- 2. a raw slice has all its bytes

-- rows 1 to 11 of the table, in its order, for the byte entry with room for what is needed
abbrev pub rows_to11 : (frame : Bytes) (g : Geometry) (lengths : Lengths) (planes_len workspace_len : ℕ) → List Row
rows_to11 frame g lengths planes_len workspace_len =
    rows_to8 Eight frame g lengths planes_len
    ++ (rows_of_each (plane_count g) (length_rows g lengths)
    ++ room_rows g lengths workspace_len)

-- A frame of so many bytes: none of rows 1 to 11 applies; of the five rows of slice 0 ("bounds (12), 13, wordless plane (14), size (12)", of which bounds are two) those apply that are
-- true; it is raw or not, has so many samples and so many bytes behind its prefix; and the claim fails there. Gray, two workspace words.
pub record Short (frame : Bytes) (size : ℕ) (g : Geometry) (lengths : Lengths) (planes_len : ℕ) (rows5 : List Bool) (raw : Bool) (samples bytes : ℕ) : Type 0 where
  pub size_is : length frame ≡ size
  pub before : applying (rows_to11 frame g lengths planes_len 2) ≡ []
  pub just : tests (slice_rows frame g lengths 0) ≡ rows5
  pub raw_is : is_raw frame g 0 ≡ raw
  pub samples_is : samples_in frame g 0 ≡ samples
  pub bytes_is : length (payload_of frame g 0) ≡ bytes
  pub fails : AllBytes g.depth (samples_in frame g 0) (payload_of frame g 0) → ⊥

-- 12 by bounds alone: a frame of two slices that ends behind the flag byte of the first. The frame must end before its first slice does, and must have that byte.
abbrev pub Without12ByBounds : Type 0
Without12ByBounds =
    Short (take 48 (frame_of (1 ∷ 0 ∷ 0 ∷ []) ((1 ∷ 1 ∷ 7 ∷ []) ∷ (1 ∷ 1 ∷ 5 ∷ []) ∷ []))) 48 (plain Gray 1 2 1) (wordless 1) 2
    (false ∷ true ∷ false ∷ false ∷ false ∷ []) true 1 0

-- 12 by size alone: one sample, and nothing behind the prefix
abbrev pub Without12BySize : Type 0
Without12BySize =
    Short (frame_of (1 ∷ 0 ∷ []) ((1 ∷ 1 ∷ []) ∷ [])) 44 (plain Gray 1 1 1) (wordless 1) 1
    (false ∷ false ∷ false ∷ false ∷ true ∷ []) true 1 0

-- a coded slice, to which no row applies: two samples of words of one bit, in one byte
abbrev pub WithoutRaw : Type 0
WithoutRaw =
    Short (frame_of (1 ∷ 0 ∷ []) ((0 ∷ 1 ∷ 0 ∷ []) ∷ [])) 45 (plain Gray 2 1 1) (code (1 ∷ [])) 2
    (false ∷ false ∷ false ∷ false ∷ false ∷ []) false 2 1

-- ---- no bound could be tighter

-- A raw frame of one sample, to which none of these rows applies: its slice begins in the plane's last row and has one row, and its payload is the
-- one byte that it must be, in whose last bit the sample ends.
pub record Exact (frame : Bytes) (g : Geometry) : Type 0 where
  pub before : applying (rows_to11 frame g (wordless 1) 1 2) ≡ []
  pub just : applying (slice_rows frame g (wordless 1) 0) ≡ []
  pub raw_is : is_raw frame g 0 ≡ true
  pub stands : Stands frame g 0 0 1 1
  pub bytes_are : over_up (samples_in frame g 0 * g.depth) 8 ≡ length (payload_of frame g 0)
  pub bits_are : 0 * g.depth + g.depth ≡ 8 * length (payload_of frame g 0)

abbrev pub Tight : Type 0
Tight = Exact (frame_of (1 ∷ 0 ∷ []) ((1 ∷ 1 ∷ 7 ∷ []) ∷ [])) (plain Gray 1 1 1)

-- all of it
pub record NoMoreThanItMust : Type 0 where
  pub two : Without2
  pub three : Without3
  pub eight : Without8
  pub last : PastTheLast
  pub one_beyond : Without1
  pub three_beyond : Without3Beyond
  pub bounds : Without12ByBounds
  pub size : Without12BySize
  pub raw : WithoutRaw
  pub tight : Tight
