-- Document 01, "Refusal numbers": what holds of every row of the table holds of every answer, said once over what is said (`Q`);
-- and what refusal 8 leaves of an index. Assumes nothing.
use mathlib.Core.Path.{◌≡◌, refl}
use Prim.Native.Nat.{ℕ, zero, suc, ◌+◌, ◌-◌, ◌*◌, ◌^◌, ◌<◌}
use mathlib.Core.Bool.{Bool, true, false, not, ◌&&◌}
use mathlib.Core.List.{List}
use native.Mathlib.Omega.{arith}
use borrow.Author.Tests.{leb-false}
use lib.Dec.{eqb, ltb, leb}
use lib.ListN.{length}
use Rattle.scope.specs.Refusals.{refuse_if, ◌and_then◌}
use Rattle.scope.specs.Geometry.{geometry_fits, factors_divide, slice_height_divides, plane_count, slices_per_plane, slice_count, all_samples, lengths_of}
use Rattle.scope.specs.Layout.{preamble_start, preamble_end, count_byte, plane_index, place_in_plane, slice_start, slice_end, is_raw, predictor_of}
use Rattle.scope.specs.Words.{longest, too_long, overfull, Chain, symbols, stuck_at}
use Rattle.scope.specs.Frame.{need_of_all, slice_lengths, fewest_bytes, residues_of, answer_of}
use Rattle.scope.specs.declared.Geometry.{Geometry}
use Rattle.scope.specs.declared.Place.{Place}
use Rattle.scope.specs.declared.Place.TheVariants.{Slice, Plane, Nothing}
use Rattle.scope.specs.Answers.{Answer, done, refused}
use Rattle.std.specs.Prelude.{Ok, Err}
use Rattle.scope.specs.Pieces.{in_order, lent_checks, preamble_checks, index_check, length_check, room_check, slice_check, readable, read_check, frame_checks, read_checks, rest_of}
use Rattle.scope.specs.declared.Entry.{Entry}
use Rattle.scope.proofs.Table.{in_pieces}
use Rattle.refusals.specs.Rows.{Every, LentRows, FrameRows}
use Rattle.refusals.proofs.InOrder.{first_passed, then_passed, both_passed, each_passed}

-- ---- the indices, once they have passed

module _ (frame : List ℕ) (g : Geometry) (s : ℕ) (e : done ≡ index_check frame g s) where
  passed : (leb (plane_count g) (plane_index frame g s) ≡ false) × (leb (slices_per_plane g) (place_in_plane frame g s) ≡ false)
  unfolding index_check
  passed = both_passed (leb (plane_count g) (plane_index frame g s)) (leb (slices_per_plane g) (place_in_plane frame g s)) 8 8 (Slice s) (Slice s) e

  -- slice s names a plane
  pub index_below : plane_index frame g s < plane_count g
  index_below = leb-false _ _ passed.0

  -- which has fewer than K slices before it
  pub index_room : place_in_plane frame g s < slices_per_plane g
  index_room = leb-false _ _ passed.1

-- what the checks of a frame have passed when all have
pub indices_passed : (frame : List ℕ) (g : Geometry) (lengths : List ℕ) (room : Answer) → done ≡ frame_checks frame g lengths room → done ≡ in_order (slice_count g) (index_check frame g)
unfolding frame_checks
indices_passed frame g lengths room e = first_passed (in_order (slice_count g) (index_check frame g)) _ (then_passed (preamble_checks frame g) _ e)

-- ---- every answer

module _ (Q : ℕ → Place → Type 0) where
  -- one check, a check and more, and checks in order
  every_if : (t : Bool) (n : ℕ) (p : Place) → Q n p → Every Q (refuse_if t n p)
  unfolding Every
  every_if true n p h = h
  every_if false n p h = tt

  every_then : (a b : Answer) → Every Q a → Every Q b → Every Q (a and_then b)
  unfolding Every
  every_then (Ok _) b ha hb = hb
  every_then (Err why) b ha hb = ha

  pub every_next : (a b : Answer) → Every Q a → (done ≡ a → Every Q b) → Every Q (a and_then b)
  unfolding Every
  every_next (Ok _) b ha hb = hb refl
  every_next (Err why) b ha hb = ha

  pub every_one : (t : Bool) (n : ℕ) (p : Place) (b : Answer) → Q n p → Every Q b → Every Q (refuse_if t n p and_then b)
  every_one t n p b h hb = every_then (refuse_if t n p) b (every_if t n p h) hb

  every_order : (f : ℕ → Answer) (n : ℕ) → ((i : ℕ) → i < n → Every Q (f i)) → Every Q (in_order n f)
  unfolding in_order Every
  every_order f zero h = tt
  every_order f (suc n) h =
      every_then (in_order n f) (f n) (every_order f n (λ i l. h i (omega arith))) (h n (omega arith))

  -- refusals 1 to 4
  pub every_lent : (which : Entry) (g : Geometry) (l p : ℕ) → LentRows Q → Every Q (lent_checks which g l p)
  unfolding lent_checks
  every_lent which g l p q =
      every_one (not (geometry_fits which g)) 1 Nothing _ q.row1
      (every_one (not (factors_divide g)) 2 Nothing _ q.row2
      (every_one (not (slice_height_divides g)) 3 Nothing _ q.row3
      (every_if (not (eqb l (plane_count g * 2 ^ g.depth) && eqb p (all_samples g))) 4 Nothing q.row4)))

  module _ (frame : List ℕ) (g : Geometry) (lengths : List ℕ) (q : FrameRows Q frame g) where
    every_preamble : Every Q (preamble_checks frame g)
    unfolding preamble_checks
    every_preamble =
        every_one (ltb (length frame) (preamble_start g)) 5 Nothing _ q.row5
        (every_one (ltb (preamble_end frame) (preamble_start g)) 6 Nothing _ q.row6
        (every_one (ltb (length frame) (preamble_end frame)) 6 Nothing _ q.row6
        (every_one (eqb (preamble_end frame) (preamble_start g)) 6 Nothing _ q.row6
        (every_one (not (eqb (count_byte frame g) (plane_count g))) 7 Nothing _ q.row7
        (every_if (ltb (preamble_end frame) (preamble_start g + 1 + slice_count g)) 6 Nothing q.row6)))))

    every_index : (s : ℕ) → s < slice_count g → Every Q (index_check frame g s)
    unfolding index_check
    every_index s l =
        every_one (leb (plane_count g) (plane_index frame g s)) 8 (Slice s) _ (q.row8 s l)
        (every_if (leb (slices_per_plane g) (place_in_plane frame g s)) 8 (Slice s) (q.row8 s l))

    every_length : (p : ℕ) → p < plane_count g → Every Q (length_check g lengths p)
    unfolding length_check
    every_length p l =
        every_one (too_long (lengths_of g lengths p)) 9 (Plane p) _ (q.row9 p l)
        (every_if (overfull (lengths_of g lengths p)) 10 (Plane p) (q.row10 p l))

    every_slice : (s : ℕ) → s < slice_count g → plane_index frame g s < plane_count g → Every Q (slice_check frame g lengths s)
    unfolding slice_check
    every_slice s l i =
        every_one (ltb (slice_end frame g s) (slice_start frame g s)) 12 (Slice s) _ (q.row12 s l)
        (every_one (ltb (length frame) (slice_end frame g s)) 12 (Slice s) _ (q.row12 s l)
        (every_one (ltb (slice_end frame g s) (slice_start frame g s + 2)) 13 (Slice s) _ (q.row13 s l)
        (every_one (not (is_raw frame g s) && eqb (longest (slice_lengths frame g lengths s)) 0) 14 (Plane (plane_index frame g s)) _ (q.row14 s l i)
        (every_if (ltb (slice_end frame g s - (slice_start frame g s + 2)) (fewest_bytes frame g lengths s)) 12 (Slice s) (q.row12 s l)))))

    every_readable : (s : ℕ) (c : Chain) → s < slice_count g → plane_index frame g s < plane_count g → Every Q (readable (plane_index frame g s) c)
    unfolding readable Every
    every_readable s (symbols rs) l i = tt
    every_readable s (stuck_at at) l i = q.row14 s l i

    every_read : (s : ℕ) → s < slice_count g → plane_index frame g s < plane_count g → Every Q (read_check frame g lengths s)
    unfolding read_check readable
    every_read s l i =
        every_one (not (leb 1 (predictor_of frame g s) && leb (predictor_of frame g s) 3)) 15 (Slice s) _ (q.row15 s l)
        (every_readable s (residues_of frame g lengths s) l i)

    every_room : (w : ℕ) → Every Q (room_check g lengths w)
    unfolding room_check
    every_room w = every_if (ltb w (need_of_all g lengths)) 11 Nothing q.row11

    every_frame : (room : Answer) → Every Q room → Every Q (frame_checks frame g lengths room)
    unfolding frame_checks
    every_frame room r =
        every_then (preamble_checks frame g) _ every_preamble
        (every_next (in_order (slice_count g) (index_check frame g)) _ (every_order _ _ every_index) (λ e.
        every_then (in_order (plane_count g) (length_check g lengths)) _ (every_order _ _ every_length)
        (every_then room _ r (every_order _ _ (λ s l. every_slice s l (index_below frame g s (each_passed _ _ s e l)))))))

    -- refusals 5 to 15
    pub every_rest : (w : ℕ) → Every Q (rest_of frame g lengths (room_check g lengths w))
    unfolding rest_of read_checks
    every_rest w =
        every_next (frame_checks frame g lengths (room_check g lengths w)) (in_order (slice_count g) (read_check frame g lengths)) (every_frame (room_check g lengths w) (every_room w))
        (λ e. every_order _ _ (λ s l. every_read s l (index_below frame g s (each_passed _ _ s (indices_passed frame g lengths (room_check g lengths w) e) l))))

    -- all of them
    pub every_answer : (which : Entry) (planes w : ℕ) → LentRows Q → Every Q (answer_of which frame g lengths planes w)
    every_answer which planes w r =
        rw (in_pieces which frame g lengths planes w)
        (every_then (lent_checks which g (length lengths) planes) (rest_of frame g lengths (room_check g lengths w)) (every_lent which g (length lengths) planes r) (every_rest w))

-- what is said of a refusal, from what is said of the answer
pub every_refused : (Q : ℕ → Place → Type 0) (a : Answer) (n : ℕ) (p : Place) → Every Q a → a ≡ refused n p → Q n p
unfolding Every
every_refused Q a n p h e = rw e at h
