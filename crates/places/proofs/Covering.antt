-- Document 01, "Success .. defines every sample": every row of every plane lies in the rows of a slice that names the plane, and of no
-- other. Refusal 8 leaves K slices for each plane, whose places are 0 to K − 1, and K places cover a plane. Assumes nothing.
use mathlib.Core.Path.{◌≡◌, sym, ap, ◌∙◌, subst}
use Prim.Native.Nat.{ℕ, zero, suc, ◌+◌, ◌-◌, ◌/◌, ◌≤◌, ◌<◌}
use native.Mathlib.Decide.{ℕ_discrete, dec_le}
use native.Mathlib.Nat.{add-zero, add-suc, suc-mul, mul-le-mul_right, div-lt_iff_lt-mul, div-mul-le_self, lt-div-mul-add}
use native.Mathlib.Omega.{arith}
use Rattle.scope.specs.Base.{Bytes, Lengths}
use Rattle.scope.specs.Geometry as geo
use Rattle.scope.specs.Geometry.{plane_count, slices_per_plane, slice_count, plane_height, plane_slice_height, first_row, rows_at}
use Rattle.scope.specs.Layout as lay
use Rattle.scope.specs.Layout.{plane_index, named_before, place_in_plane}
use Rattle.scope.specs.declared.Geometry.{Geometry}
use Rattle.geometry.proofs.Places.{slice_height_fits}
use Rattle.within.proofs.Within.{no_place_beyond}
use Rattle.layout.proofs.Slices.{named_here, named_other, named_all}
use Rattle.places.specs.Picture.{Covers}
use Rattle.places.proofs.Passed.{Passed}

-- ---- the slices that name a plane, counted

-- one of the first n slices names plane p, and is at place k there
record Numbered (frame : Bytes) (g : Geometry) (p k n : ℕ) : Type 0 where
  slice : ℕ
  among : slice < n
  names : plane_index frame g slice ≡ p
  place : named_before frame g p slice ≡ k

module _ (frame : Bytes) (g : Geometry) (p : ℕ) where
  -- which more slices do not change
  later : (k n : ℕ) → Numbered frame g p k n → Numbered frame g p k (suc n)
  later k n c = record { slice = c.slice; among = omega (arith, c.among); names = c.names; place = c.place }

  -- as many slices as name the plane, so many places are taken
  numbered : (k n : ℕ) → k < named_before frame g p n → Numbered frame g p k n
  unfolding lay.named_before
  numbered k zero l = absurd (omega (arith, l))
  numbered k (suc n) l = go (ℕ_discrete p (plane_index frame g n)) (ℕ_discrete (named_before frame g p n) k) (numbered k n)
    where
      go : Dec (p ≡ plane_index frame g n) → Dec (named_before frame g p n ≡ k) → (k < named_before frame g p n → Numbered frame g p k n) → Numbered frame g p k (suc n)
      go (yes e) (yes z) more = record { slice = n; among = omega arith; names = sym e; place = z }
      go (yes e) (no z) more = later k n (more (omega (arith, z, l, ap (λ (q : ℕ). named_before frame g q (suc n)) e, named_here frame g n, ap (λ (q : ℕ). named_before frame g q n) e)))
      go (no e) z more = later k n (more (omega (arith, l, named_other frame g p n e)))

  -- no slice takes a place from the count
  named_more : (s n : ℕ) → named_before frame g p s ≤ named_before frame g p (s + n)
  unfolding lay.named_before
  named_more s zero = rw add-zero (omega arith)
  named_more s (suc n) = rw add-suc (omega (arith, named_more s n))

-- ---- the rows of a place

module _ (g : Geometry) (p r : ℕ) (some : 1 ≤ plane_slice_height g p) where
  -- row r lies in the place that its number over the slice height gives
  row_from : first_row g p (r / plane_slice_height g p) ≤ r
  row_from = div-mul-le_self r (plane_slice_height g p)

  -- and, where it is one of the plane's, before its end
  row_to : r < plane_height g p → r < first_row g p (r / plane_slice_height g p) + rows_at g p (r / plane_slice_height g p)
  unfolding geo.rows_at
  row_to l = omega (arith, lt-div-mul-add {a = r} {b = plane_slice_height g p} some, row_from)

-- a row of one place is in no later one
rows_apart : (g : Geometry) (p j k r : ℕ) → j < k → r < first_row g p j + rows_at g p j → r < first_row g p k
unfolding geo.rows_at
rows_apart g p j k r l h = omega (arith, suc-mul j (plane_slice_height g p), mul-le-mul_right (plane_slice_height g p) l)

-- ---- every row

module _ (frame : Bytes) (g : Geometry) (lengths : Lengths) (ok : Passed frame g lengths) where
  -- the slice at that place has row r
  covers : (p r : ℕ) → r < plane_height g p → (c : Numbered frame g p (r / plane_slice_height g p) (slice_count g)) → Covers frame g p r c.slice
  unfolding lay.place_in_plane
  covers p r l c =
      let some : 1 ≤ plane_slice_height g p = (slice_height_fits g ok.sound p).0 in
      let e : place_in_plane frame g c.slice ≡ r / plane_slice_height g p = ap (λ (q : ℕ). named_before frame g q c.slice) c.names ∙ c.place in
      record { among = c.among; names = c.names; from = rw e (row_from g p r some); to = rw e (row_to g p r some l) }

  -- every row lies in the rows of a slice: K places cover the plane, and each is taken
  pub row_covered : (p r : ℕ) → p < plane_count g → r < plane_height g p → (s : ℕ) × Covers frame g p r s
  row_covered p r lp lr =
      let some : 1 ≤ plane_slice_height g p = (slice_height_fits g ok.sound p).0 in
      let k : r / plane_slice_height g p < slices_per_plane g = (div-lt_iff_lt-mul some).1 (omega (arith, no_place_beyond g p (slices_per_plane g) ok.sound.sliced.0 ok.sound.even_slices (omega arith))) in
      let c : Numbered frame g p (r / plane_slice_height g p) (slice_count g) = numbered frame g p (r / plane_slice_height g p) (slice_count g) (omega (arith, k, named_all frame g ok.indices p lp)) in
      (c.slice, covers p r lr c)

-- of two slices that name a plane the later has a later place
place_later : (frame : Bytes) (g : Geometry) (p s t : ℕ) → plane_index frame g s ≡ p → plane_index frame g t ≡ p → s < t → place_in_plane frame g s < place_in_plane frame g t
unfolding lay.place_in_plane
place_later frame g p s t es et l =
    let z : suc s + (t - suc s) ≡ t = omega arith in
    let m : named_before frame g p (suc s) ≤ named_before frame g p t = subst (λ (n : ℕ). named_before frame g p (suc s) ≤ named_before frame g p n) z (named_more frame g p (suc s) (t - suc s)) in
    let h : named_before frame g p (suc s) ≡ suc (named_before frame g p s) = subst (λ (q : ℕ). named_before frame g q (suc s) ≡ suc (named_before frame g q s)) es (named_here frame g s) in
    rw (es, et) (omega (arith, m, h))

-- so their rows do not meet
not_later : (frame : Bytes) (g : Geometry) (p r s t : ℕ) → Covers frame g p r s → Covers frame g p r t → s < t → ⊥
not_later frame g p r s t a b l =
    omega (arith, b.from, rows_apart g p (place_in_plane frame g s) (place_in_plane frame g t) r (place_later frame g p s t a.names b.names l) a.to)

-- and no row is in those of two
pub row_once : (frame : Bytes) (g : Geometry) (p r s t : ℕ) → Covers frame g p r s → Covers frame g p r t → s ≡ t
row_once frame g p r s t a b = go (dec_le (suc s) t) (dec_le (suc t) s)
  where
    go : Dec (suc s ≤ t) → Dec (suc t ≤ s) → s ≡ t
    go (yes l) m = absurd (not_later frame g p r s t a b l)
    go (no l) (yes m) = absurd (not_later frame g p r t s b a m)
    go (no l) (no m) = omega (arith, l, m)
