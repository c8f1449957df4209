-- Document 01, "Checked in this order; the first that applies is given": when a refusal is answered, for every row of a table at once; and the
-- table of a frame in the pieces that contracts cite. Assumes nothing.
use mathlib.Core.Path.{◌≡◌, refl, sym, ap, ◌∙◌}
use mathlib.Core.Logic.{◌↔◌}
use Prim.Native.Nat.{ℕ, zero, suc}
use mathlib.Core.Bool.{Bool, true, false}
use mathlib.Core.List.{List, [], ◌∷◌, ◌++◌}
use native.Mathlib.Omega.{arith}
use lib.ListN.{length}
use lib.Dec.{ltb}
use Rattle.scope.specs.Base.{Bytes, Lengths}
use Rattle.scope.specs.Refusals.{number_of, place_of, Row, row, refuse_if, ◌and_then◌, first_of, rows_of_each, NoneApplies, FirstApplies}
use Rattle.scope.specs.Geometry.{plane_count, slice_count}
use Rattle.scope.specs.Words.{chain, is_stuck}
use Rattle.scope.specs.Frame.{lent_rows, preamble_rows, index_rows, length_rows, room_rows, slice_rows, read_rows, table, answer_of}
use Rattle.scope.specs.Pieces.{in_order, lent_checks, preamble_checks, index_check, length_check, room_check, readable, slice_check, read_check, frame_checks, read_checks, rest_of}
use Rattle.scope.specs.Alone.{build_rows, build_answer, read_answer}
use Rattle.scope.specs.declared.Entry.{Entry}
use Rattle.scope.specs.declared.Geometry.{Geometry}
use Rattle.scope.specs.declared.Place.{Place}
use Rattle.scope.specs.declared.Place.TheVariants.{Plane, Nothing}
use Rattle.scope.specs.Answers.{Answer, done, refused}
use Rattle.std.specs.Prelude.{Ok, Err}

-- ---- a list of rows

-- nothing more to check
then_done : (a : Answer) → a ≡ (a and_then done)
then_done (Ok _) = refl
then_done (Err why) = refl

then_then : (a b c : Answer) → ((a and_then b) and_then c) ≡ (a and_then b and_then c)
then_then (Ok _) b c = refl
then_then (Err why) b c = refl

-- a row, then the others
pub first_cons : (r : Row) (rows : List Row) → first_of (r ∷ rows) ≡ (refuse_if r.applies r.number r.place and_then first_of rows)
first_cons r [] = then_done (refuse_if r.applies r.number r.place)
first_cons r (s ∷ rows) = refl

-- rows, then more rows
pub first_append : (xs ys : List Row) → first_of (xs ++ ys) ≡ (first_of xs and_then first_of ys)
first_append [] ys = refl
first_append (r ∷ xs) ys =
    first_cons r (xs ++ ys)
    ∙ ap (λ (a : Answer). refuse_if r.applies r.number r.place and_then a) (first_append xs ys)
    ∙ sym (then_then (refuse_if r.applies r.number r.place) (first_of xs) (first_of ys))
    ∙ ap (λ (a : Answer). a and_then first_of ys) (sym (first_cons r xs))

-- the rows of each slice, or of each plane
pub first_each : (n : ℕ) (rows : ℕ → List Row) → first_of (rows_of_each n rows) ≡ in_order n (λ i. first_of (rows i))
unfolding rows_of_each in_order
first_each zero rows = refl
first_each (suc n) rows = first_append (rows_of_each n rows) (rows n) ∙ ap (λ (a : Answer). a and_then first_of (rows n)) (first_each n rows)

-- ---- exactly when

-- nothing is refused exactly when no row applies
none_done : (rows : List Row) → NoneApplies rows → first_of rows ≡ done
unfolding NoneApplies
none_done [] h = refl
none_done (r ∷ rows) h = first_cons r rows ∙ rw (h.0, none_done rows h.1) refl

one_or_other : (n : ℕ) (p : Place) → refused n p ≡ done → ⊥
one_or_other n p e = let z : ◌≡◌ {A = ℕ} 0 1 = cc in omega (arith, z)

passes : (t : Bool) (n : ℕ) (p : Place) (b : Answer) → (refuse_if t n p and_then b) ≡ done → (t ≡ false) × (b ≡ done)
passes false n p b e = (refl, e)
passes true n p b e = absurd (one_or_other n p e)

done_none : (rows : List Row) → first_of rows ≡ done → NoneApplies rows
unfolding NoneApplies
done_none [] e = tt
done_none (r ∷ rows) e =
    let h = passes r.applies r.number r.place (first_of rows) (sym (first_cons r rows) ∙ e) in
    (h.0, done_none rows h.1)

pub planes_when : (rows : List Row) → (first_of rows ≡ done) ↔ NoneApplies rows
planes_when rows = (done_none rows, none_done rows)

-- a refusal exactly when a row of its number and place applies and none before it does
first_refused : (rows : List Row) (n : ℕ) (p : Place) → FirstApplies rows n p → first_of rows ≡ refused n p
first_refused rows n p f =
    ap first_of f.split
    ∙ first_append f.before (row n p true ∷ f.after)
    ∙ rw (none_done f.before f.none, first_cons (row n p true) f.after) refl

this_row : (r : Row) (n : ℕ) (p : Place) → r.number ≡ n → r.place ≡ p → r.applies ≡ true → r ≡ row n p true
this_row r n p a b c =
    ap (λ (x : ℕ). row x r.place r.applies) a
    ∙ ap (λ (x : Place). row n x r.applies) b
    ∙ ap (λ (x : Bool). row n p x) c

-- a row before those among which the first applies
later : (r : Row) (rows : List Row) (n : ℕ) (p : Place) → r.applies ≡ false → FirstApplies rows n p → FirstApplies (r ∷ rows) n p
unfolding NoneApplies
later r rows n p h f = record { before = r ∷ f.before; after = f.after; split = ap (λ (x : List Row). r ∷ x) f.split; none = (h, f.none) }

here : (r : Row) (rows : List Row) (n : ℕ) (p : Place) → r ≡ row n p true → FirstApplies (r ∷ rows) n p
unfolding NoneApplies
here r rows n p e = record { before = []; after = rows; split = ap (λ (x : Row). x ∷ rows) e; none = tt }

by_row : (r : Row) (rows : List Row) (n : ℕ) (p : Place) (t : Bool) → r.applies ≡ t → (first_of rows ≡ refused n p → FirstApplies rows n p)
    → (refuse_if t r.number r.place and_then first_of rows) ≡ refused n p → FirstApplies (r ∷ rows) n p
by_row r rows n p false h more e = later r rows n p h (more e)
by_row r rows n p true h more e = here r rows n p (this_row r n p (ap number_of e) (ap place_of e) h)

refused_first : (rows : List Row) (n : ℕ) (p : Place) → first_of rows ≡ refused n p → FirstApplies rows n p
refused_first [] n p e = absurd (one_or_other n p (sym e))
refused_first (r ∷ rows) n p e = by_row r rows n p r.applies refl (refused_first rows n p) (sym (first_cons r rows) ∙ e)

pub exactly_when : (rows : List Row) (n : ℕ) (p : Place) → (first_of rows ≡ refused n p) ↔ FirstApplies rows n p
exactly_when rows n p = (refused_first rows n p, first_refused rows n p)

-- ---- the table of a frame, in pieces

seven : (a b c d e f g : List Row)
    → first_of (a ++ (b ++ (c ++ (d ++ (e ++ (f ++ g))))))
    ≡ (first_of a and_then first_of b and_then first_of c and_then first_of d and_then first_of e and_then first_of f and_then first_of g)
seven a b c d e f g =
    rw (
      first_append a (b ++ (c ++ (d ++ (e ++ (f ++ g))))),
      first_append b (c ++ (d ++ (e ++ (f ++ g)))),
      first_append c (d ++ (e ++ (f ++ g))),
      first_append d (e ++ (f ++ g)),
      first_append e (f ++ g),
      first_append f g,
    ) refl

five_and_one : (a b c d e f : Answer) → (a and_then b and_then c and_then d and_then e and_then f) ≡ ((a and_then b and_then c and_then d and_then e) and_then f)
five_and_one a b c d e f = sym (rw (then_then a (b and_then c and_then d and_then e) f, then_then b (c and_then d and_then e) f, then_then c (d and_then e) f, then_then d e f) refl)

pub in_pieces : (which : Entry) (frame : Bytes) (g : Geometry) (lengths : Lengths) (planes_len workspace_len : ℕ)
    → answer_of which frame g lengths planes_len workspace_len
    ≡ (lent_checks which g (length lengths) planes_len and_then rest_of frame g lengths (room_check g lengths workspace_len))
unfolding answer_of table lent_checks rest_of frame_checks read_checks preamble_checks index_check length_check room_check slice_check read_check
in_pieces which frame g lengths planes_len workspace_len =
    seven (lent_rows which g (length lengths) planes_len) (preamble_rows frame g) (rows_of_each (slice_count g) (index_rows frame g))
    (rows_of_each (plane_count g) (length_rows g lengths)) (room_rows g lengths workspace_len) (rows_of_each (slice_count g) (slice_rows frame g lengths))
    (rows_of_each (slice_count g) (read_rows frame g lengths))
    ∙ ap (λ (a : Answer). lent_checks which g (length lengths) planes_len and_then a)
    (rw (first_each (slice_count g) (index_rows frame g), first_each (plane_count g) (length_rows g lengths), first_each (slice_count g) (slice_rows frame g lengths), first_each (slice_count g) (read_rows frame g lengths))
    (five_and_one (preamble_checks frame g) (in_order (slice_count g) (index_check frame g)) (in_order (plane_count g) (length_check g lengths)) (room_check g lengths workspace_len)
    (in_order (slice_count g) (slice_check frame g lengths)) (in_order (slice_count g) (read_check frame g lengths))))

-- a reading by itself: its own 4, then what building a table refuses, then the chain
pub read_in_pieces : (ls : Lengths) (payload : Bytes) (n workspace_len : ℕ)
    → read_answer ls payload n workspace_len
    ≡ (refuse_if (ltb 268435456 n) 4 Nothing and_then build_answer ls workspace_len and_then readable 0 (chain ls payload 0 n))
unfolding read_answer build_answer readable
read_in_pieces ls payload n workspace_len =
    ap (λ (a : Answer). refuse_if (ltb 268435456 n) 4 Nothing and_then a)
    (first_append (build_rows ls workspace_len) (row 14 (Plane 0) (is_stuck (chain ls payload 0 n)) ∷ []))
