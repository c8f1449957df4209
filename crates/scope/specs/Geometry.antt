-- Document 01, "What comes in, what is ported" and the first lines of "Layout": the geometry record, its rules, and the figures
-- of each plane. g is the geometry, p a plane's number in wire order, k a place in its plane. Assumes nothing.
use Rattle.std.specs.Prelude.{ℕ, zero, suc, ◌+◌, ◌-◌, ◌*◌, ◌/◌, ◌%◌, ◌^◌, min, Bool, true, false, cond, ◌&&◌, ◌||◌, take, drop, eqb, leb}
use Rattle.scope.specs.Base.{Lengths, over_up, sum_below}
use Rattle.scope.specs.declared.Entry.{Entry}
use Rattle.scope.specs.declared.Entry.TheVariants.{Eight, Deep}
use Rattle.scope.specs.declared.Family.{Family}
use Rattle.scope.specs.declared.Family.TheVariants.{Gray, Rgb, Yuv, Rgba, Yuva}
use Rattle.scope.specs.declared.Geometry.{Geometry}

-- "family Gray (1 plane), Rgb or Yuv (3), Rgba or Yuva (4)"
abbrev pub planes_of : (family : Family) → ℕ
planes_of Gray = 1
planes_of Rgb = 3
planes_of Yuv = 3
planes_of Rgba = 4
planes_of Yuva = 4

-- the families whose planes 1 and 2 the factors divide: Yuv and Yuva
abbrev pub subsampled : (family : Family) → Bool
subsampled Gray = false
subsampled Rgb = false
subsampled Yuv = true
subsampled Rgba = false
subsampled Yuva = true

-- the families that are stored as B', G, R', (A): Rgb and Rgba
abbrev pub correlated : (family : Family) → Bool
correlated Gray = false
correlated Rgb = true
correlated Yuv = false
correlated Rgba = true
correlated Yuva = false

-- ---- refusal 1: "geometry outside the rules above, or wrong entry for the depth"

-- "width, height and slice height, each 1 to 16,384"
unfoldable pub size_fits : (n : ℕ) → Bool
size_fits n = leb 1 n && leb n 16384

-- "factors sx and sy, each 1 or 2, and 1 unless Yuv or Yuva"
unfoldable pub factor_fits : (family : Family) (s : ℕ) → Bool
factor_fits family s = eqb s 1 || (subsampled family && eqb s 2)

-- "One entry serves depth 8 (byte samples), one depths 10, 12 and 14 (16-bit samples).": `which` is the entry
abbrev pub depth_fits : (which : Entry) (depth : ℕ) → Bool
depth_fits Eight depth = eqb depth 8
depth_fits Deep depth = eqb depth 10 || eqb depth 12 || eqb depth 14

unfoldable pub geometry_fits : (which : Entry) (g : Geometry) → Bool
geometry_fits which g =
    size_fits g.width && size_fits g.height && size_fits g.slice_height
    && factor_fits g.family g.sx && factor_fits g.family g.sy
    && depth_fits which g.depth

-- ---- refusals 2 and 3

-- "width not a multiple of sx, or height not of sy"
unfoldable pub factors_divide : (g : Geometry) → Bool
factors_divide g = eqb (g.width % g.sx) 0 && eqb (g.height % g.sy) 0

-- "slice height not a multiple of sy"
unfoldable pub slice_height_divides : (g : Geometry) → Bool
slice_height_divides g = eqb (g.slice_height % g.sy) 0

module _ (g : Geometry) where
  -- P, "the plane count"
  abbrev pub plane_count : ℕ
  plane_count = planes_of g.family

  -- K, "height / slice height rounded up": how many slices each plane has
  abbrev pub slices_per_plane : ℕ
  slices_per_plane = over_up g.height g.slice_height

  -- T = P·K
  abbrev pub slice_count : ℕ
  slice_count = plane_count * slices_per_plane

  -- "Planes 1 and 2 of Yuv and Yuva have width/sx, height/sy and slice height/sy; all others have the full figures."
  unfoldable pub small : (p : ℕ) → Bool
  small p = subsampled g.family && (eqb p 1 || eqb p 2)

  unfoldable pub plane_width : (p : ℕ) → ℕ
  plane_width p = cond (small p) (g.width / g.sx) g.width

  unfoldable pub plane_height : (p : ℕ) → ℕ
  plane_height p = cond (small p) (g.height / g.sy) g.height

  unfoldable pub plane_slice_height : (p : ℕ) → ℕ
  plane_slice_height p = cond (small p) (g.slice_height / g.sy) g.slice_height

  -- "Place k covers rows from k times the plane's slice height, cut at the plane's height": its first row, and how many
  abbrev pub first_row : (p k : ℕ) → ℕ
  first_row p k = k * plane_slice_height p

  unfoldable pub rows_at : (p k : ℕ) → ℕ
  rows_at p k = min (plane_slice_height p) (plane_height p - first_row p k)

  -- a plane's samples, and all planes'
  unfoldable pub plane_samples : (p : ℕ) → ℕ
  plane_samples p = plane_width p * plane_height p

  unfoldable pub all_samples : ℕ
  all_samples = sum_below plane_count plane_samples

  -- "Lengths: 2^depth bytes a plane, planes in wire order": plane p's
  unfoldable pub lengths_of : (lengths : Lengths) (p : ℕ) → Lengths
  lengths_of lengths p = take (2 ^ g.depth) (drop (p * 2 ^ g.depth) lengths)

  -- "f = 1, or 2 if interlaced"
  unfoldable pub fields : ℕ
  fields = cond g.interlaced 2 1

-- "Rgb and Rgba wire order is B', G, R', (A) .. The plane buffer holds G, B, R, (A). Other families keep wire order.": the
-- buffer's place of the wire's plane p, and just as well the wire's plane at the buffer's place p. 0 and 1 change places.
unfoldable pub swapped : (rgb : Bool) (p : ℕ) → ℕ
swapped false p = p
swapped true zero = 1
swapped true (suc zero) = 0
swapped true (suc (suc p)) = suc (suc p)

module _ (g : Geometry) where
  abbrev pub order_of : (p : ℕ) → ℕ
  order_of = swapped (correlated g.family)

  -- "Planes lie one after another with no gaps.": where the wire's plane p starts in the buffer. The planes of Rgb and Rgba
  -- are all of one size, so it does not matter which of them stand before.
  unfoldable pub plane_start : (p : ℕ) → ℕ
  plane_start p = sum_below (order_of p) (plane_samples g)

  -- where row r of the wire's plane p starts in the buffer
  unfoldable pub row_start : (p r : ℕ) → ℕ
  row_start p r = plane_start p + r * plane_width g p
