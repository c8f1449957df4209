-- Document 01, "Layout": where things stand in a frame. Every other file reads the frame through these names alone.
-- s is a slice's number in wire order. Assumes nothing.
use Rattle.std.specs.Prelude.{ℕ, zero, suc, ◌+◌, ◌-◌, ◌*◌, ◌%◌, Bool, cond, length, take, drop, get_or, eqb, ltb}
use Rattle.scope.specs.Base.{Bytes, one}
use Rattle.scope.specs.Geometry.{slice_count, plane_width, first_row, rows_at}
use Rattle.scope.specs.declared.Geometry.{Geometry}
use Rattle.scope.specs.declared.SliceAt.{SliceAt}

-- the little-endian 32-bit number at an offset
unfoldable pub le32 : (frame : Bytes) (at : ℕ) → ℕ
le32 frame at =
    get_or frame at 0 + 256 * get_or frame (at + 1) 0
    + 65536 * get_or frame (at + 2) 0 + 16777216 * get_or frame (at + 3) 0

-- "At offset 32 stand T+1 little-endian 32-bit entries; entry 0 isn't used."
unfoldable pub entry : (frame : Bytes) (i : ℕ) → ℕ
entry frame i = le32 frame (32 + 4 * i)

-- "The preamble runs from 32+4(T+1) to 32+entry 1: a plane count, T plane indices, bytes that we don't read."
abbrev pub preamble_start : (g : Geometry) → ℕ
preamble_start g = 32 + 4 * (slice_count g + 1)

unfoldable pub preamble_end : (frame : Bytes) → ℕ
preamble_end frame = 32 + entry frame 1

module _ (frame : Bytes) (g : Geometry) where
  unfoldable pub count_byte : ℕ
  count_byte = get_or frame (preamble_start g) 0

  -- the plane that slice s names
  unfoldable pub plane_index : (s : ℕ) → ℕ
  plane_index s = get_or frame (preamble_start g + 1 + s) 0

  -- how many of the slices before s name plane p
  unfoldable pub named_before : (p s : ℕ) → ℕ
  named_before p zero = 0
  named_before p (suc s) = named_before p s + one (eqb (plane_index s) p)

  -- "Its place in its plane is the count of earlier slices that name that plane."
  unfoldable pub place_in_plane : (s : ℕ) → ℕ
  place_in_plane s = named_before (plane_index s) s

  -- "Slice s starts at 32+entry s+1 and ends at the next start, the last at the frame's end."
  unfoldable pub slice_start : (s : ℕ) → ℕ
  slice_start s = 32 + entry frame (s + 1)

  unfoldable pub slice_end : (s : ℕ) → ℕ
  slice_end s = cond (ltb (s + 1) (slice_count g)) (slice_start (s + 1)) (length frame)

  -- "A slice is a flag byte (only bit 0 is read: set means raw), a predictor byte, and samples."
  unfoldable pub is_raw : (s : ℕ) → Bool
  is_raw s = eqb (get_or frame (slice_start s) 0 % 2) 1

  unfoldable pub predictor_of : (s : ℕ) → ℕ
  predictor_of s = get_or frame (slice_start s + 1) 0

  -- the bytes after that prefix
  unfoldable pub payload_of : (s : ℕ) → Bytes
  payload_of s = take (slice_end s - (slice_start s + 2)) (drop (slice_start s + 2) frame)

  -- how many samples slice s holds: the rows of its place, as wide as its plane
  unfoldable pub samples_in : (s : ℕ) → ℕ
  samples_in s = rows_at g (plane_index s) (place_in_plane s) * plane_width g (plane_index s)

  -- slice s as one record: what the checks and the reading of a slice are handed
  unfoldable pub slice_at : (s : ℕ) → SliceAt
  slice_at s =
      record {
        number = s;
        plane = plane_index s;
        place = place_in_plane s;
        first = first_row g (plane_index s) (place_in_plane s);
        rows = rows_at g (plane_index s) (place_in_plane s);
        width = plane_width g (plane_index s);
        start = slice_start s;
        end = slice_end s;
        raw = is_raw s;
        predictor = predictor_of s;
      }
