-- A plane in wire order, which scope defines as the samples of its slices one after another: where each slice's samples stand in it.
-- Document 01, "Place k covers rows from k times the plane's slice height, cut at the plane's height." Assumes nothing.
use mathlib.Core.Path.{◌≡◌, refl, sym, ap, ◌∙◌, subst}
use mathlib.Core.Bool.{Bool, true, false, cond}
use mathlib.Core.List.{[], ◌++◌, append-nil}
use Prim.Native.Nat.{ℕ, zero, suc, ◌+◌, ◌-◌, ◌*◌, ◌^◌, ◌≤◌, ◌<◌}
use native.Mathlib.Decide.{ℕ_discrete}
use native.Mathlib.Nat.{add-zero, add-suc, suc-mul, add-mul, mul-le-mul_right}
use native.Mathlib.Omega.{arith}
use borrow.Author.Tests.{eq-eqb, ne_eqb}
use lib.Dec.{eqb}
use lib.ListN.{length, get_or, length-append, get_or-append}
use lib.Pow.{pow_pos}
use lib.Seq.{get_or-append-add}
use Rattle.scope.specs.Base.{Bytes, Lengths, Samples}
use Rattle.scope.specs.Geometry.{plane_count, slices_per_plane, slice_count, plane_width, first_row, rows_at, plane_samples}
use Rattle.scope.specs.Layout as lay
use Rattle.scope.specs.Layout.{plane_index, named_before, place_in_plane, samples_in}
use Rattle.scope.specs.Frame as frm
use Rattle.scope.specs.Frame.{slice_samples, plane_up_to, wire_plane}
use Rattle.scope.specs.declared.Geometry.{Geometry}
use Rattle.geometry.specs.Places.{filled}
use Rattle.geometry.proofs.Places.{filled_none, filled_next, filled_start, filled_all}
use Rattle.layout.proofs.Slices.{named_here, named_other, named_all}
use Rattle.refusals.proofs.InOrder.{each_passed}
use Rattle.refusals.proofs.Rows.{index_below, index_room}
use Rattle.scope.specs.Pieces.{index_check}
use Rattle.places.proofs.Passed.{Passed}
use Rattle.places.proofs.Samples.{Below, below_none, below_append, slice_long, slice_below}

-- ---- slice by slice

module _ (frame : Bytes) (g : Geometry) (lengths : Lengths) where
  -- a slice that names the plane
  plane_here : (s : ℕ) → plane_up_to frame g lengths (plane_index frame g s) (suc s) ≡ plane_up_to frame g lengths (plane_index frame g s) s ++ slice_samples frame g lengths s
  unfolding frm.plane_up_to
  plane_here s = rw (eq-eqb (plane_index frame g s) (plane_index frame g s) refl)

  -- one that names another
  plane_other : (p s : ℕ) → (p ≡ plane_index frame g s → ⊥) → plane_up_to frame g lengths p (suc s) ≡ plane_up_to frame g lengths p s
  unfolding frm.plane_up_to
  plane_other p s ne = rw (ne_eqb (plane_index frame g s) p (λ z. ne (sym z))) (append-nil (plane_up_to frame g lengths p s))

  -- more slices make a plane no shorter
  stays_long : (p n k : ℕ) → length (plane_up_to frame g lengths p n) ≤ length (plane_up_to frame g lengths p (n + k))
  unfolding frm.plane_up_to
  stays_long p n zero = rw add-zero (omega arith)
  stays_long p n (suc k) = rw (add-suc, length-append) (omega (arith, stays_long p n k))

  -- and what the first n made of it stays as it is
  stays : (p n k i : ℕ) → i < length (plane_up_to frame g lengths p n) → get_or (plane_up_to frame g lengths p (n + k)) i 0 ≡ get_or (plane_up_to frame g lengths p n) i 0
  unfolding frm.plane_up_to
  stays p n zero i l = rw add-zero
  stays p n (suc k) i l =
      rw add-suc
      (get_or-append (plane_up_to frame g lengths p (n + k)) _ 0 i (omega (arith, stays_long p n k)) ∙ stays p n k i l)

  -- what slice s adds to its plane stands behind what the slices before it made of it
  behind : (s i : ℕ) → s < slice_count g → i < length (slice_samples frame g lengths s)
      → get_or (wire_plane frame g lengths (plane_index frame g s)) (length (plane_up_to frame g lengths (plane_index frame g s) s) + i) 0 ≡ get_or (slice_samples frame g lengths s) i 0
  unfolding frm.wire_plane
  behind s i l h =
      let p : ℕ = plane_index frame g s in
      let before : Samples = plane_up_to frame g lengths p s in
      let z : suc s + (slice_count g - suc s) ≡ slice_count g = omega arith in
      let e : length (plane_up_to frame g lengths p (suc s)) ≡ length before + length (slice_samples frame g lengths s) =
      ap length (plane_here s) ∙ length-append before (slice_samples frame g lengths s) in
      ap (λ (n : ℕ). get_or (plane_up_to frame g lengths p n) (length before + i) 0) (sym z)
      ∙ stays p (suc s) (slice_count g - suc s) (length before + i) (omega (arith, e, h))
      ∙ ap (λ (q : Samples). get_or q (length before + i) 0) (plane_here s)
      ∙ get_or-append-add before (slice_samples frame g lengths s) i 0

  -- every sample of a plane is one of a slice
  below_upto : (p s : ℕ) → Below (2 ^ g.depth) (plane_up_to frame g lengths p s)
  unfolding frm.plane_up_to
  below_upto p zero = below_none (2 ^ g.depth) (pow_pos g.depth)
  below_upto p (suc s) = below_append (2 ^ g.depth) (plane_up_to frame g lengths p s) _ (below_upto p s) (go (eqb (plane_index frame g s) p))
    where
      go : (t : Bool) → Below (2 ^ g.depth) (cond t (slice_samples frame g lengths s) [])
      go true = slice_below frame g lengths s
      go false = below_none (2 ^ g.depth) (pow_pos g.depth)

  pub wire_below : (p : ℕ) → Below (2 ^ g.depth) (wire_plane frame g lengths p)
  unfolding frm.wire_plane
  wire_below p = below_upto p (slice_count g)

-- ---- once no row applies

module _ (frame : Bytes) (g : Geometry) (lengths : Lengths) (ok : Passed frame g lengths) where
  -- slice s names a plane
  pub plane_below : (s : ℕ) → s < slice_count g → plane_index frame g s < plane_count g
  plane_below s l = index_below frame g s (each_passed (index_check frame g) (slice_count g) s ok.indices l)

  -- and its place is one of that plane's K
  place_below : (s : ℕ) → s < slice_count g → place_in_plane frame g s < slices_per_plane g
  place_below s l = index_room frame g s (each_passed (index_check frame g) (slice_count g) s ok.indices l)

  -- one more slice fills one more place of its plane
  fills_more : (s : ℕ) → s < slice_count g
      → length (plane_up_to frame g lengths (plane_index frame g s) s) ≡ filled g (plane_index frame g s) (named_before frame g (plane_index frame g s) s)
      → length (plane_up_to frame g lengths (plane_index frame g s) (suc s)) ≡ filled g (plane_index frame g s) (named_before frame g (plane_index frame g s) (suc s))
  unfolding lay.samples_in lay.place_in_plane
  fills_more s l h =
      ap length (plane_here frame g lengths s)
      ∙ length-append (plane_up_to frame g lengths (plane_index frame g s) s) (slice_samples frame g lengths s)
      ∙ rw (h, slice_long frame g lengths ok s l) (sym (filled_next g (plane_index frame g s) (named_before frame g (plane_index frame g s) s)))
      ∙ ap (filled g (plane_index frame g s)) (sym (named_here frame g s))

  -- so the slices before s that name a plane fill its first places
  upto_long : (p s : ℕ) → s ≤ slice_count g → length (plane_up_to frame g lengths p s) ≡ filled g p (named_before frame g p s)
  unfolding frm.plane_up_to lay.named_before
  upto_long p zero l = sym (filled_none g p)
  upto_long p (suc s) l = go (ℕ_discrete p (plane_index frame g s)) (upto_long p s (omega arith))
    where
      go : Dec (p ≡ plane_index frame g s) → length (plane_up_to frame g lengths p s) ≡ filled g p (named_before frame g p s) → length (plane_up_to frame g lengths p (suc s)) ≡ filled g p (named_before frame g p (suc s))
      go (yes e) h = subst (λ (q : ℕ). length (plane_up_to frame g lengths q (suc s)) ≡ filled g q (named_before frame g q (suc s))) (sym e)
          (fills_more s l (subst (λ (q : ℕ). length (plane_up_to frame g lengths q s) ≡ filled g q (named_before frame g q s)) e h))
      go (no e) h = ap length (plane_other frame g lengths p s e) ∙ h ∙ ap (filled g p) (sym (named_other frame g p s e))

  -- all of them fill the plane
  pub wire_long : (p : ℕ) → p < plane_count g → length (wire_plane frame g lengths p) ≡ plane_samples g p
  unfolding frm.wire_plane
  wire_long p l = upto_long p (slice_count g) (omega arith) ∙ ap (filled g p) (named_all frame g ok.indices p l) ∙ filled_all g ok.sound p

  module _ (s : ℕ) (l : s < slice_count g) (r x : ℕ) (hr : r < rows_at g (plane_index frame g s) (place_in_plane frame g s)) (hx : x < plane_width g (plane_index frame g s)) where
    -- the slice has that row and column
    own_in : r * plane_width g (plane_index frame g s) + x < length (slice_samples frame g lengths s)
    unfolding lay.samples_in
    own_in =
        omega (arith, slice_long frame g lengths ok s l, mul-le-mul_right (plane_width g (plane_index frame g s)) hr, suc-mul r (plane_width g (plane_index frame g s)))

    -- its rows begin where the slices before it end
    begins : (first_row g (plane_index frame g s) (place_in_plane frame g s) + r) * plane_width g (plane_index frame g s) + x
        ≡ length (plane_up_to frame g lengths (plane_index frame g s) s) + (r * plane_width g (plane_index frame g s) + x)
    unfolding lay.place_in_plane
    begins =
        omega (
          arith,
          add-mul (first_row g (plane_index frame g s) (place_in_plane frame g s)) r (plane_width g (plane_index frame g s)),
          upto_long (plane_index frame g s) s (omega arith),
          filled_start g ok.sound (plane_index frame g s) (place_in_plane frame g s) (place_below s l),
        )

    -- "Place k covers rows from k times the plane's slice height": the slice's row r is the plane's row first_row + r
    pub place_at : get_or (wire_plane frame g lengths (plane_index frame g s)) ((first_row g (plane_index frame g s) (place_in_plane frame g s) + r) * plane_width g (plane_index frame g s) + x) 0
        ≡ get_or (slice_samples frame g lengths s) (r * plane_width g (plane_index frame g s) + x) 0
    place_at =
        ap (λ (n : ℕ). get_or (wire_plane frame g lengths (plane_index frame g s)) n 0) begins
        ∙ behind frame g lengths s (r * plane_width g (plane_index frame g s) + x) l own_in
