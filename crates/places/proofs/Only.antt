-- Document 01, "Success .. defines every sample": two buffers of the picture's size in which every slice's samples stand where they belong
-- (specs/Picture.antt) are equal. Assumes nothing.
use mathlib.Core.Path.{◌≡◌, refl, sym, ap, ◌∙◌, subst}
use mathlib.Core.Bool.{Bool, true, false, ◌&&◌, ◌||◌}
use Prim.Native.Nat.{ℕ, zero, suc, ◌+◌, ◌-◌, ◌*◌, ◌/◌, ◌≤◌, ◌<◌}
use native.Mathlib.Decide.{dec_le}
use native.Mathlib.Nat.{mul_comm, div-lt_iff_lt-mul, div-mul-le_self, lt-div-mul-add}
use native.Mathlib.Omega.{arith}
use lib.Dec.{eqb}
use lib.ListN.{length, get_or}
use lib.Seq.{ext_get_or}
use Rattle.scope.specs.Base as base
use Rattle.scope.specs.Base.{Bytes, Lengths, Samples, one, sum_below}
use Rattle.scope.specs.Geometry as geo
use Rattle.scope.specs.Geometry.{correlated, plane_count, slice_count, plane_width, plane_height, first_row, rows_at, plane_samples, all_samples, order_of, row_start}
use Rattle.scope.specs.Layout.{plane_index, place_in_plane}
use Rattle.scope.specs.declared.Geometry.{Geometry}
use Rattle.lists.proofs.Tests.{and_both}
use Rattle.geometry.proofs.Places.{order, correlated_three, width_fits}
use Rattle.geometry.specs.Sound.{Sound}
use Rattle.places.specs.Picture.{sample_at, AllStand, Covers}
use Rattle.places.proofs.Passed.{Passed}
use Rattle.places.proofs.Covering.{row_covered}
use Rattle.places.proofs.Rows.{widths_alike, heights_alike}
use Rattle.places.proofs.Colours.{sum_same}

-- ---- every place in the buffer is a row and column of a plane

-- a place below a sum lies in one of its terms
record InTerm (size : ℕ → ℕ) (n i : ℕ) : Type 0 where
  term : ℕ
  inside : ℕ
  term_in : term < n
  inside_in : inside < size term
  is : i ≡ sum_below term size + inside

in_term : (size : ℕ → ℕ) (n i : ℕ) → i < sum_below n size → InTerm size n i
unfolding base.sum_below
in_term size zero i l = absurd (omega (arith, l))
in_term size (suc n) i l = go (dec_le (suc i) (sum_below n size)) (in_term size n i)
  where
    go : Dec (suc i ≤ sum_below n size) → (i < sum_below n size → InTerm size n i) → InTerm size (suc n) i
    go (yes h) more =
        let c : InTerm size n i = more h in
        record { term = c.term; inside = c.inside; term_in = omega (arith, c.term_in); inside_in = c.inside_in; is = c.is }
    go (no h) more = record { term = n; inside = i - sum_below n size; term_in = omega arith; inside_in = omega (arith, l, h); is = omega (arith, h) }

-- place i is column `column` of row `row` of plane `plane`
record Somewhere (g : Geometry) (i : ℕ) : Type 0 where
  plane : ℕ
  row : ℕ
  column : ℕ
  plane_in : plane < plane_count g
  row_in : row < plane_height g plane
  column_in : column < plane_width g plane
  is : i ≡ row_start g plane row + column

module _ (g : Geometry) (sound : Sound g) where
  -- place j of the stretch of plane p
  in_plane : (p j : ℕ) → p < plane_count g → j < plane_samples g p → Somewhere g (sum_below (order_of g p) (plane_samples g) + j)
  unfolding geo.plane_samples geo.row_start geo.plane_start
  in_plane p j hp hj =
      let some : 1 ≤ plane_width g p = (width_fits g sound p).0 in
      let h : j / plane_width g p < plane_height g p = (div-lt_iff_lt-mul some).1 (omega (arith, hj, mul_comm (plane_width g p) (plane_height g p))) in
      record {
        plane = p;
        row = j / plane_width g p;
        column = j - j / plane_width g p * plane_width g p;
        plane_in = hp;
        row_in = h;
        column_in = omega (arith, lt-div-mul-add {a = j} {b = plane_width g p} some, div-mul-le_self j (plane_width g p));
        is = omega (arith, div-mul-le_self j (plane_width g p));
      }

  -- and so any place in the buffer
  somewhere : (i : ℕ) → i < all_samples g → Somewhere g i
  unfolding geo.all_samples
  somewhere i l = go (in_term (plane_samples g) (plane_count g) i l)
    where
      go : InTerm (plane_samples g) (plane_count g) i → Somewhere g i
      go c =
          let e : sum_below (order_of g (order_of g c.term)) (plane_samples g) + c.inside ≡ i = ap (λ (b : ℕ). sum_below b (plane_samples g) + c.inside) ((order g).back c.term c.term_in) ∙ sym c.is in
          subst (Somewhere g) e (in_plane (order_of g c.term) c.inside ((order g).among c.term c.term_in) (omega (arith, c.inside_in, (order g).alike c.term c.term_in)))

-- ---- no other buffer

-- in plane 1 nothing is added
none_added : (rgb : Bool) → (rgb && (eqb 1 0 || eqb 1 2)) ≡ true → ⊥
none_added rgb e =
    let z : false ≡ true = (and_both rgb (eqb 1 0 || eqb 1 2) e).1 in
    let y : ◌≡◌ {A = ℕ} 0 1 = ap one z in
    omega (arith, y)

module _ (frame : Bytes) (g : Geometry) (lengths : Lengths) (xs ys : Samples) (hx : AllStand frame g lengths xs) (hy : AllStand frame g lengths ys) where
  -- in the rows of slice s two such buffers hold the same, where G is the same
  same_slice : (s : ℕ) → s < slice_count g → (r x : ℕ) → r < rows_at g (plane_index frame g s) (place_in_plane frame g s) → x < plane_width g (plane_index frame g s)
      → ((correlated g.family && (eqb (plane_index frame g s) 0 || eqb (plane_index frame g s) 2)) ≡ true
      → sample_at g xs 1 (first_row g (plane_index frame g s) (place_in_plane frame g s) + r) x ≡ sample_at g ys 1 (first_row g (plane_index frame g s) (place_in_plane frame g s) + r) x)
      → sample_at g xs (plane_index frame g s) (first_row g (plane_index frame g s) (place_in_plane frame g s) + r) x
      ≡ sample_at g ys (plane_index frame g s) (first_row g (plane_index frame g s) (place_in_plane frame g s) + r) x
  same_slice s l r x hr hc green = hx s r x l hr hc ∙ sum_same _ _ _ _ _ _ refl green ∙ sym (hy s r x l hr hc)

  -- the same by row r of the plane that it names
  at_row : (s r x : ℕ) → Covers frame g (plane_index frame g s) r s → x < plane_width g (plane_index frame g s)
      → ((correlated g.family && (eqb (plane_index frame g s) 0 || eqb (plane_index frame g s) 2)) ≡ true → sample_at g xs 1 r x ≡ sample_at g ys 1 r x)
      → sample_at g xs (plane_index frame g s) r x ≡ sample_at g ys (plane_index frame g s) r x
  at_row s r x c hc green =
      let k : ℕ = first_row g (plane_index frame g s) (place_in_plane frame g s) in
      let e : k + (r - k) ≡ r = omega (arith, c.from) in
      subst (λ (n : ℕ). sample_at g xs (plane_index frame g s) n x ≡ sample_at g ys (plane_index frame g s) n x) e
      (same_slice s c.among (r - k) x (omega (arith, c.from, c.to)) hc
      (λ t. subst (λ (n : ℕ). sample_at g xs 1 n x ≡ sample_at g ys 1 n x) (sym e) (green t)))

  -- the same where the plane is given
  same_row : (s r x p : ℕ) → plane_index frame g s ≡ p → Covers frame g p r s → x < plane_width g p
      → ((correlated g.family && (eqb p 0 || eqb p 2)) ≡ true → sample_at g xs 1 r x ≡ sample_at g ys 1 r x)
      → sample_at g xs p r x ≡ sample_at g ys p r x
  same_row s r x p e =
      subst (λ (q : ℕ). Covers frame g q r s → x < plane_width g q → ((correlated g.family && (eqb q 0 || eqb q 2)) ≡ true → sample_at g xs 1 r x ≡ sample_at g ys 1 r x) → sample_at g xs q r x ≡ sample_at g ys q r x)
      e (at_row s r x)

  module _ (ok : Passed frame g lengths) where
    -- so G is the same everywhere, since nothing is added to it
    same_green : (r x : ℕ) → 1 < plane_count g → r < plane_height g 1 → x < plane_width g 1 → sample_at g xs 1 r x ≡ sample_at g ys 1 r x
    same_green r x hp hr hc =
        let c = row_covered frame g lengths ok 1 r hp hr in
        same_row c.0 r x 1 c.1.names c.1 hc (λ t. absurd (none_added (correlated g.family) t))

    -- and then every plane is
    same_at : (p r x : ℕ) → p < plane_count g → r < plane_height g p → x < plane_width g p → sample_at g xs p r x ≡ sample_at g ys p r x
    same_at p r x hp hr hc =
        let c = row_covered frame g lengths ok p r hp hr in
        same_row c.0 r x p c.1.names c.1 hc (λ t. mixed (and_both (correlated g.family) (eqb p 0 || eqb p 2) t).0)
      where
        mixed : correlated g.family ≡ true → sample_at g xs 1 r x ≡ sample_at g ys 1 r x
        mixed e =
            same_green r x (omega (arith, correlated_three g.family e)) (omega (arith, hr, heights_alike g e p 1)) (omega (arith, hc, widths_alike g e p 1))

    -- which is the whole buffer
    pub same_buffer : length xs ≡ all_samples g → length ys ≡ all_samples g → xs ≡ ys
    same_buffer ex ey = ext_get_or 0 xs ys (ex ∙ sym ey) (λ i l. go i (somewhere g ok.sound i (omega (arith, l, ex))))
      where
        go : (i : ℕ) → Somewhere g i → get_or xs i 0 ≡ get_or ys i 0
        go i c = rw c.is (same_at c.plane c.row c.column c.plane_in c.row_in c.column_in)
