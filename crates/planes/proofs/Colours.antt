-- Document 01, "B and R are B'+G and R'+G modulo 2^depth. The plane buffer holds G, B, R, (A)": one plane added to another, and the
-- planes of Rgb and Rgba with G added are the picture. Assumes nothing.
use mathlib.Core.Path.{◌≡◌, refl, sym, ap, ◌∙◌}
use mathlib.Core.Bool.{Bool, true, false, cond}
use mathlib.Core.List.{List}
use Prim.Native.Nat.{ℕ, zero, suc, ◌+◌, ◌-◌, ◌*◌, ◌≤◌, ◌<◌}
use native.Mathlib.Nat.{mul_comm}
use native.Mathlib.Omega.{arith}
use borrow.Author.Tests.{ne_eqb}
use lib.Dec.{eqb}
use lib.ListN.{length, length-take, length-drop}
use Rattle.scope.specs.Base as base
use Rattle.scope.specs.Base.{sum_below}
use Rattle.scope.specs.Geometry as geo
use Rattle.scope.specs.Geometry.{correlated, plane_count, plane_width, plane_height, plane_samples, all_samples, swapped, order_of, plane_start}
use Rattle.scope.specs.Prediction.{plus}
use Rattle.scope.specs.Frame as frm
use Rattle.scope.specs.Frame.{buffer_plane, planes_up_to}
use Rattle.scope.specs.declared.Geometry.{Geometry}
use Rattle.lists.specs.Parts.{part}
use Rattle.geometry.proofs.Order.{Order, stretch_in}
use Rattle.lists.proofs.Sums.{sum_upto}
use Rattle.geometry.proofs.Places.{order, sizes_alike, correlated_three}
use Rattle.planes.specs.Standing.{Planes, with_green, coloured}
use Rattle.lists.proofs.Parts.{put_keeps}
use Rattle.memory.proofs.Sums.{plus-length}
use Rattle.planes.specs.Adding.{added_rows}
use Rattle.planes.proofs.Adding.{added-plain}
use Rattle.planes.proofs.Holds.{Holds, holds_put, holds_all}

-- adding keeps the buffer's length
pub green_keeps : (d at n : ℕ) (xs : List ℕ) → n ≤ at → at + n ≤ length xs → length (with_green d at n xs) ≡ length xs
unfolding with_green
green_keeps d at n xs l h =
    let e : length (part xs at n) ≡ length (part xs 0 n) = simp (length-take, length-drop) (omega arith) in
    let k : length (plus d (part xs at n) (part xs 0 n)) ≡ n = plus-length d (part xs at n) (part xs 0 n) e ∙ simp (length-take, length-drop) (omega arith) in
    put_keeps xs at n (plus d (part xs at n) (part xs 0 n)) k h

-- ---- the planes of a correlated family: three of one size, whose rows stand one after another

module _ (g : Geometry) (r : Bool) (er : r ≡ correlated g.family) (t : r ≡ true) (w h : ℕ) (ew : w ≡ plane_width g 0) (eh : h ≡ plane_height g 0) where
  mixes : correlated g.family ≡ true
  mixes = sym er ∙ t

  size : h * w ≡ plane_samples g 0
  unfolding geo.plane_samples
  size = rw (ew, eh) (mul_comm (plane_height g 0) (plane_width g 0))

  three_sum : sum_below 3 (plane_samples g) ≡ h * w + h * w + h * w
  unfolding base.sum_below
  three_sum = omega (arith, size, sizes_alike g mixes 1 0, sizes_alike g mixes 2 0)

  three_in : (len : ℕ) → len ≡ all_samples g → h * w + h * w + h * w ≤ len
  unfolding geo.all_samples
  three_in len e =
      let z : 3 + (plane_count g - 3) ≡ plane_count g = omega (arith, correlated_three g.family mixes) in
      rw e (omega (arith, three_sum, rw z at (sum_upto (plane_samples g) 3 (plane_count g - 3))))

  -- B' and R' lie in the buffer, and R' still does once B is made
  pub two_in : (len : ℕ) → len ≡ all_samples g → h * w + h * w ≤ len
  two_in len e = omega (arith, three_in len e)

  pub three_still_in : (len len' : ℕ) → len' ≡ len → len ≡ all_samples g → h * w + h * w + h * w ≤ len'
  three_still_in len len' k e = omega (arith, three_in len e)

  module _ (xs ys zs : List ℕ) (e : length xs ≡ all_samples g) (ey : ys ≡ added_rows g.depth 0 w (h * w) w w h xs) (ez : zs ≡ added_rows g.depth 0 w (h * w + h * w) w w h ys) where
    room : h * w + h * w + h * w ≤ length xs
    room = three_in (length xs) e

    blue : ys ≡ with_green g.depth (h * w) (h * w) xs
    unfolding with_green
    blue = ey ∙ added-plain g.depth w h 0 (h * w) xs (omega arith) (omega (arith, room))

    kept : length ys ≡ length xs
    kept = ap length blue ∙ green_keeps g.depth (h * w) (h * w) xs (omega arith) (omega (arith, room))

    red : zs ≡ with_green g.depth (h * w + h * w) (h * w) ys
    unfolding with_green
    red = ez ∙ added-plain g.depth w h 0 (h * w + h * w) ys (omega arith) (omega (arith, room, kept))

    -- what the two sums make
    pub coloured_both : zs ≡ coloured g xs
    unfolding coloured
    coloured_both = red ∙ rw (mixes, ← size, ← blue)

-- and nothing where B and R are stored whole
pub coloured_none : (g : Geometry) (r : Bool) (xs : List ℕ) → r ≡ correlated g.family → r ≡ false → xs ≡ coloured g xs
unfolding coloured
coloured_none g r xs e t = rw (← e, t)

-- ---- the picture

pub planes_same : (f h : ℕ → List ℕ) (n : ℕ) → ((b : ℕ) → b < n → f b ≡ h b) → planes_up_to f n ≡ planes_up_to h n
unfolding frm.planes_up_to
planes_same f h zero e = refl
planes_same f h (suc n) e = rw (planes_same f h n (λ b l. e b (omega arith)), e n (omega arith))

module _ (d P : ℕ) (σ size : ℕ → ℕ) (o : Order P σ size) (xs : ℕ → List ℕ) (buf : List ℕ) (h : Holds P σ size size xs buf) where
  plane_length : (p : ℕ) → p < P → length (xs p) ≡ size p
  plane_length p l =
      ap length (sym (h.each p l)) ∙ simp (length-take, length-drop) (omega (arith, stretch_in P σ size o p l, h.room))

  -- the plane that is first in the buffer, added to plane q
  add_on : (q a n : ℕ) → q < P → 1 < P → a ≡ sum_below (σ q) size → n ≡ size q → n ≡ size 1 → 0 ≡ sum_below (σ 1) size → Holds P σ size size (λ p. cond (eqb q p) (plus d (xs q) (xs 1)) (xs p)) (with_green d a n buf)
  unfolding with_green
  add_on q a n lq l1 ea en e1 ez =
      let there : part buf a n ≡ xs q = rw (ea, en) (h.each q lq) in
      let first : part buf 0 n ≡ xs 1 = rw (← ez, ← e1) at (h.each 1 l1) in
      let len : length (plus d (xs q) (xs 1)) ≡ size q = plus-length d (xs q) (xs 1) (plane_length q lq ∙ sym en ∙ e1 ∙ sym (plane_length 1 l1)) ∙ plane_length q lq in
      rw (there, first, ea, en) (holds_put P σ size o xs buf h q (plus d (xs q) (xs 1)) lq len)

module _ (g : Geometry) (wire : ℕ → List ℕ) (buf : List ℕ) (pl : Planes g wire buf) where
  stand : Holds (plane_count g) (order_of g) (plane_samples g) (plane_samples g) wire buf
  unfolding geo.all_samples geo.plane_start
  stand = record { each = pl.each; room = omega (arith, pl.whole) }

  whole : length buf ≡ sum_below (plane_count g) (plane_samples g)
  unfolding geo.all_samples
  whole = pl.whole

  plain : correlated g.family ≡ false → buf ≡ planes_up_to (buffer_plane (correlated g.family) g.depth wire) (plane_count g)
  unfolding frm.colour_plane geo.swapped
  plain e =
      holds_all (plane_count g) (order_of g) (plane_samples g) (order g) (plane_samples g) wire buf stand whole (λ p l. refl)
      ∙ planes_same _ _ (plane_count g) (λ b l. rw e)

  mixed : correlated g.family ≡ true → with_green g.depth (plane_samples g 0 + plane_samples g 0) (plane_samples g 0) (with_green g.depth (plane_samples g 0) (plane_samples g 0) buf) ≡ planes_up_to (buffer_plane (correlated g.family) g.depth wire) (plane_count g)
  unfolding frm.colour_plane geo.swapped base.sum_below
  mixed e =
      holds_all (plane_count g) (order_of g) (plane_samples g) (order g) (plane_samples g) _ _ twice keeps (λ p l. refl)
      ∙ planes_same _ _ (plane_count g) (λ b l. rw e (cases b))
    where
      three : 3 ≤ plane_count g
      three = correlated_three g.family e

      once : Holds (plane_count g) (order_of g) (plane_samples g) (plane_samples g) (λ p. cond (eqb 0 p) (plus g.depth (wire 0) (wire 1)) (wire p)) (with_green g.depth (plane_samples g 0) (plane_samples g 0) buf)
      once =
          add_on g.depth (plane_count g) (order_of g) (plane_samples g) (order g) wire buf stand 0 (plane_samples g 0) (plane_samples g 0)
          (omega (arith, three)) (omega (arith, three)) (rw e (omega arith)) refl (sizes_alike g e 0 1) (rw e)

      twice : Holds (plane_count g) (order_of g) (plane_samples g) (plane_samples g) (λ p. cond (eqb 2 p) (plus g.depth (wire 2) (wire 1)) (cond (eqb 0 p) (plus g.depth (wire 0) (wire 1)) (wire p))) (with_green g.depth (plane_samples g 0 + plane_samples g 0) (plane_samples g 0) (with_green g.depth (plane_samples g 0) (plane_samples g 0) buf))
      twice =
          add_on g.depth (plane_count g) (order_of g) (plane_samples g) (order g) _ _ once 2 (plane_samples g 0 + plane_samples g 0) (plane_samples g 0)
          (omega (arith, three)) (omega (arith, three)) (rw e (omega (arith, sizes_alike g e 0 1))) (sizes_alike g e 0 2) (sizes_alike g e 0 1) (rw e)

      -- three planes of one size are there
      sizes : plane_samples g 0 + plane_samples g 0 + plane_samples g 0 ≤ length buf
      sizes =
          let two : plane_samples g 0 + plane_samples g 0 ≡ sum_below (order_of g 2) (plane_samples g) = rw e (omega (arith, sizes_alike g e 0 1)) in
          omega (arith, whole, two, stretch_in (plane_count g) (order_of g) (plane_samples g) (order g) 2 (omega (arith, three)), sizes_alike g e 0 2)

      keeps : length (with_green g.depth (plane_samples g 0 + plane_samples g 0) (plane_samples g 0) (with_green g.depth (plane_samples g 0) (plane_samples g 0) buf)) ≡ sum_below (plane_count g) (plane_samples g)
      keeps =
          let k : length (with_green g.depth (plane_samples g 0) (plane_samples g 0) buf) ≡ length buf = green_keeps g.depth (plane_samples g 0) (plane_samples g 0) buf (omega arith) (omega (arith, sizes)) in
          green_keeps g.depth (plane_samples g 0 + plane_samples g 0) (plane_samples g 0) (with_green g.depth (plane_samples g 0) (plane_samples g 0) buf) (omega arith) (omega (arith, sizes, k)) ∙ k ∙ whole

      cases : (b : ℕ) → cond (eqb 2 (swapped true b)) (plus g.depth (wire 2) (wire 1)) (cond (eqb 0 (swapped true b)) (plus g.depth (wire 0) (wire 1)) (wire (swapped true b))) ≡ buffer_plane true g.depth wire b
      cases zero = refl
      cases (suc zero) = refl
      cases (suc (suc zero)) = refl
      cases (suc (suc (suc b))) = rw (ne_eqb 2 (suc (suc (suc b))) (λ z. omega arith), ne_eqb 0 (suc (suc (suc b))) (λ z. omega arith), ne_eqb (suc (suc (suc b))) 0 (λ z. omega arith), ne_eqb (suc (suc (suc b))) 2 (λ z. omega arith))

  coloured_is : (t : Bool) → correlated g.family ≡ t → cond t (with_green g.depth (plane_samples g 0 + plane_samples g 0) (plane_samples g 0) (with_green g.depth (plane_samples g 0) (plane_samples g 0) buf)) buf ≡ planes_up_to (buffer_plane (correlated g.family) g.depth wire) (plane_count g)
  coloured_is true k = mixed k
  coloured_is false k = plain k

-- planes that stand in their stretches, coloured, are the picture
pub picture_is : (g : Geometry) (wire : ℕ → List ℕ) (buf buf' : List ℕ) → Planes g wire buf → buf' ≡ coloured g buf → buf' ≡ planes_up_to (buffer_plane (correlated g.family) g.depth wire) (plane_count g)
unfolding coloured
picture_is g wire buf buf' pl e = e ∙ coloured_is g wire buf pl (correlated g.family) refl
