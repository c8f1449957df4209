-- Document 01's picture sample by sample, from scope's definition of it as planes one after another ("Planes lie one after another with no
-- gaps."): how many samples, how large, and where each slice's stand. Assumes nothing.
use mathlib.Core.Path.{◌≡◌, refl, sym, ap, ◌∙◌}
use mathlib.Core.Bool.{true, ◌&&◌, ◌||◌}
use mathlib.Core.List.{◌++◌}
use Prim.Native.Nat.{ℕ, zero, suc, ◌+◌, ◌*◌, ◌^◌, ◌<◌}
use native.Mathlib.Decide.{ℕ_discrete}
use native.Mathlib.Nat.{suc-mul, mul_comm, mul-le-mul_right}
use native.Mathlib.Omega.{arith}
use lib.Dec.{eqb}
use lib.ListN.{length, get_or, length-append, get_or-append}
use lib.Pow.{pow_pos}
use lib.Seq.{get_or-append-add}
use Rattle.scope.specs.Base as base
use Rattle.scope.specs.Base.{Bytes, Lengths, Samples, sum_below}
use Rattle.scope.specs.Geometry as geo
use Rattle.scope.specs.Geometry.{correlated, plane_count, slice_count, plane_width, plane_height, first_row, rows_at, plane_samples, all_samples, swapped, order_of, row_start}
use Rattle.scope.specs.Layout.{plane_index, place_in_plane}
use Rattle.scope.specs.Frame as frm
use Rattle.scope.specs.Frame.{wire_plane, colour_plane, buffer_plane, planes_up_to, picture_of}
use Rattle.scope.specs.declared.Geometry.{Geometry}
use Rattle.lists.proofs.Sums.{sum_next}
use Rattle.lists.proofs.Tests.{and_both}
use Rattle.geometry.proofs.Places.{order, sizes_alike, correlated_full, correlated_three}
use Rattle.places.proofs.Passed.{Passed}
use Rattle.places.proofs.Samples.{Below, below_none, below_append}
use Rattle.places.proofs.Planes.{wire_below, wire_long, plane_below, place_at}
use Rattle.places.specs.Picture.{sample_at, AllStand}
use Rattle.places.proofs.Colours.{sum_same, colour_at, colour_long, colour_below}

-- ---- planes one after another

-- together as long as they are one by one
planes_long : (f : ℕ → Samples) (size : ℕ → ℕ) (n : ℕ) → ((b : ℕ) → b < n → length (f b) ≡ size b) → length (planes_up_to f n) ≡ sum_below n size
unfolding frm.planes_up_to base.sum_below
planes_long f size zero h = refl
planes_long f size (suc n) h =
    length-append (planes_up_to f n) (f n) ∙ omega (arith, planes_long f size n (λ b l. h b (omega arith)), h n (omega arith))

-- plane b begins where those before it end
planes_at : (f : ℕ → Samples) (size : ℕ → ℕ) (n : ℕ) → ((b : ℕ) → b < n → length (f b) ≡ size b) → (b i : ℕ) → b < n → i < size b
    → get_or (planes_up_to f n) (sum_below b size + i) 0 ≡ get_or (f b) i 0
unfolding frm.planes_up_to
planes_at f size zero h b i l k = elim l [ ]
planes_at f size (suc n) h b i l k = go (ℕ_discrete b n) (planes_at f size n (λ c m. h c (omega arith)) b i)
  where
    long : length (planes_up_to f n) ≡ sum_below n size
    long = planes_long f size n (λ c m. h c (omega arith))

    go : Dec (b ≡ n) → (b < n → i < size b → get_or (planes_up_to f n) (sum_below b size + i) 0 ≡ get_or (f b) i 0) → get_or (planes_up_to f n ++ f n) (sum_below b size + i) 0 ≡ get_or (f b) i 0
    go (yes e) more = rw (e, ← long) (get_or-append-add (planes_up_to f n) (f n) i 0)
    go (no e) more =
        get_or-append (planes_up_to f n) (f n) 0 (sum_below b size + i) (omega (arith, long, e, sum_next size b n (omega (arith, e))))
        ∙ more (omega (arith, e)) k

-- what bounds each bounds them all
below_planes : (m : ℕ) (f : ℕ → Samples) (n : ℕ) → 0 < m → ((b : ℕ) → Below m (f b)) → Below m (planes_up_to f n)
unfolding frm.planes_up_to
below_planes m f zero h k = below_none m h
below_planes m f (suc n) h k = below_append m (planes_up_to f n) (f n) (below_planes m f n h k) (k n)

-- ---- the picture

-- no sample of it needs more than depth bits, whatever the frame
pub picture_below : (frame : Bytes) (g : Geometry) (lengths : Lengths) (i : ℕ) → i < length (picture_of frame g lengths) → get_or (picture_of frame g lengths) i 0 < 2 ^ g.depth
unfolding frm.picture_of
picture_below frame g lengths i l =
    below_planes (2 ^ g.depth) (buffer_plane (correlated g.family) g.depth (wire_plane frame g lengths)) (plane_count g) (pow_pos g.depth)
    (λ b. colour_below (correlated g.family) g.depth (wire_plane frame g lengths) (swapped (correlated g.family) b) (wire_below frame g lengths (swapped (correlated g.family) b))) i

-- the planes of Rgb and Rgba have one width, and one height
module _ (g : Geometry) (e : correlated g.family ≡ true) (p q : ℕ) where
  pub widths_alike : plane_width g p ≡ plane_width g q
  unfolding geo.plane_width geo.small
  widths_alike = rw (correlated_full g.family e)

  pub heights_alike : plane_height g p ≡ plane_height g q
  unfolding geo.plane_height geo.small
  heights_alike = rw (correlated_full g.family e)

module _ (frame : Bytes) (g : Geometry) (lengths : Lengths) (ok : Passed frame g lengths) where
  -- the planes of Rgb and Rgba are as large as G
  green_long : correlated g.family ≡ true → (p : ℕ) → length (wire_plane frame g lengths 1) ≡ plane_samples g p
  green_long e p = wire_long frame g lengths ok 1 (omega (arith, correlated_three g.family e)) ∙ sizes_alike g e 1 p

  -- so every plane is as long coloured as it was stored
  plane_long : (p : ℕ) → p < plane_count g → length (colour_plane (correlated g.family) g.depth (wire_plane frame g lengths) p) ≡ plane_samples g p
  plane_long p l =
      colour_long (correlated g.family) g.depth (wire_plane frame g lengths) p (λ e. wire_long frame g lengths ok p l ∙ sym (green_long e p))
      ∙ wire_long frame g lengths ok p l

  -- and the buffer's plane b as long as the wire's, which is another of the same size or itself
  buffer_long : (b : ℕ) → b < plane_count g → length (buffer_plane (correlated g.family) g.depth (wire_plane frame g lengths) b) ≡ plane_samples g b
  buffer_long b l = plane_long (order_of g b) ((order g).among b l) ∙ (order g).alike b l

  -- as many samples as the planes have
  pub picture_size : length (picture_of frame g lengths) ≡ all_samples g
  unfolding frm.picture_of geo.all_samples
  picture_size = planes_long _ (plane_samples g) (plane_count g) buffer_long

  -- row r and column x lie in the plane
  at_in : (p r x : ℕ) → r < plane_height g p → x < plane_width g p → r * plane_width g p + x < plane_samples g p
  unfolding geo.plane_samples
  at_in p r x hr hx = omega (arith, mul_comm (plane_width g p) (plane_height g p), mul-le-mul_right (plane_width g p) hr, suc-mul r (plane_width g p))

  -- "Planes lie one after another with no gaps.": row r of the wire's plane p stands at row_start
  pub picture_at : (p r x : ℕ) → p < plane_count g → r < plane_height g p → x < plane_width g p
      → get_or (picture_of frame g lengths) (row_start g p r + x) 0 ≡ get_or (colour_plane (correlated g.family) g.depth (wire_plane frame g lengths) p) (r * plane_width g p + x) 0
  unfolding frm.picture_of geo.row_start geo.plane_start
  picture_at p r x hp hr hx =
      let e : sum_below (order_of g p) (plane_samples g) + r * plane_width g p + x ≡ sum_below (order_of g p) (plane_samples g) + (r * plane_width g p + x) = omega arith in
      ap (λ (n : ℕ). get_or (planes_up_to (buffer_plane (correlated g.family) g.depth (wire_plane frame g lengths)) (plane_count g)) n 0) e
      ∙ planes_at (buffer_plane (correlated g.family) g.depth (wire_plane frame g lengths)) (plane_samples g) (plane_count g) buffer_long (order_of g p) (r * plane_width g p + x)
      ((order g).among p hp) (omega (arith, at_in p r x hr hx, (order g).alike p hp))
      ∙ ap (λ (q : ℕ). get_or (colour_plane (correlated g.family) g.depth (wire_plane frame g lengths) q) (r * plane_width g p + x) 0) ((order g).back p hp)

  -- ---- a slice's rows in it

  -- the rows of a place lie in the plane
  row_in : (s : ℕ) → s < slice_count g → (r : ℕ) → r < rows_at g (plane_index frame g s) (place_in_plane frame g s)
      → first_row g (plane_index frame g s) (place_in_plane frame g s) + r < plane_height g (plane_index frame g s)
  row_in s l r hr = omega (arith, (ok.in_plane s l).ends)

  -- G is as it was stored
  green_at : correlated g.family ≡ true → (p r x : ℕ) → r < plane_height g p → x < plane_width g p
      → get_or (wire_plane frame g lengths 1) (r * plane_width g p + x) 0 ≡ sample_at g (picture_of frame g lengths) 1 r x
  unfolding frm.colour_plane
  green_at e p r x hr hx =
      let w : plane_width g p ≡ plane_width g 1 = widths_alike g e p 1 in
      let h : plane_height g p ≡ plane_height g 1 = heights_alike g e p 1 in
      ap (λ (n : ℕ). get_or (wire_plane frame g lengths 1) (r * n + x) 0) w
      ∙ sym (picture_at 1 r x (omega (arith, correlated_three g.family e)) (omega (arith, h)) (omega (arith, w)) ∙ rw e)

  -- every slice's samples stand in the picture: where the row stands, what is added to it, and what was stored there
  pub picture_rows : AllStand frame g lengths (picture_of frame g lengths)
  picture_rows s r x l hr hx =
      let p : ℕ = plane_index frame g s in
      let R : ℕ = first_row g p (place_in_plane frame g s) + r in
      let i : R * plane_width g p + x < plane_samples g p = at_in p R x (row_in s l r hr) hx in
      picture_at p R x (plane_below frame g lengths ok s l) (row_in s l r hr) hx
      ∙ colour_at (correlated g.family) g.depth (wire_plane frame g lengths) p (R * plane_width g p + x)
      (omega (arith, i, wire_long frame g lengths ok p (plane_below frame g lengths ok s l))) (λ e. omega (arith, i, green_long e p))
      ∙ sum_same (correlated g.family && (eqb p 0 || eqb p 2)) (2 ^ g.depth) _ _ _ _ (place_at frame g lengths ok s l r x hr hx)
      (λ t. green_at (and_both (correlated g.family) (eqb p 0 || eqb p 2) t).0 p R x (row_in s l r hr) hx)
