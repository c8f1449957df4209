-- Document 01, "Refusal numbers": what an answer says, what a row of the table is, and what a refusal leaves in lent memory. The
-- rows themselves stand in Frame.antt, and for a table or a reading by itself in Alone.antt. Assumes nothing.
use Rattle.std.specs.Prelude.{◌≡◌, ℕ, zero, suc, Bool, true, false, cond, List, [], ◌∷◌, ◌++◌, leb}
use Rattle.scope.specs.declared.Place.{Place}
use Rattle.scope.specs.declared.Place.TheVariants.{Slice, Plane, Nothing}
use Rattle.scope.specs.Answers.{Answer, done, refused}
use Rattle.std.specs.Prelude.{Ok, Err}

-- ---- what an answer says

-- document 01's number of an answer; 0 where nothing is refused
abbrev pub number_of : (answer : Answer) → ℕ
number_of (Ok _) = 0
number_of (Err why) = why.0

-- "Each carries its place: a slice, a plane, or nothing."
abbrev pub place_of : (answer : Answer) → Place
place_of (Ok _) = Nothing
place_of (Err why) = why.1

-- a place as two numbers: its kind (0 nothing, 1 a slice, 2 a plane), and which one
abbrev pub kind_number : (place : Place) → ℕ
kind_number Nothing = 0
kind_number (Slice s) = 1
kind_number (Plane p) = 2

abbrev pub place_number : (place : Place) → ℕ
place_number Nothing = 0
place_number (Slice s) = s
place_number (Plane p) = p

-- ---- the table

-- a row of the table: its number, its place, and whether it applies
pub record Row : Type 0 where
  pub number : ℕ
  pub place : Place
  pub applies : Bool

abbrev pub row : (number : ℕ) (place : Place) (applies : Bool) → Row
row n p t = record { number = n; place = p; applies = t }

-- refusal n at a place, where a test is true
abbrev pub refuse_if : (applies : Bool) (number : ℕ) (place : Place) → Answer
refuse_if true n p = refused n p
refuse_if false n p = done

-- an answer, and where it is no refusal the next
infixr 15 ◌and_then◌
abbrev pub ◌and_then◌ : (answer next : Answer) → Answer
Ok _ and_then b = b
Err why and_then b = Err why

-- "Checked in this order; the first that applies is given."
abbrev pub first_of : (rows : List Row) → Answer
first_of [] = done
first_of (r ∷ []) = refuse_if r.applies r.number r.place
first_of (r ∷ s ∷ rows) = refuse_if r.applies r.number r.place and_then first_of (s ∷ rows)

-- no row of them applies
unfoldable pub NoneApplies : (rows : List Row) → Type 0
NoneApplies [] = Unit {0}
NoneApplies (r ∷ rows) = (r.applies ≡ false) × NoneApplies rows

-- a row with that number and place applies, and no row before it does. Of any list of rows this is exactly when `first_of` refuses by that
-- number and place (`exactly_when`, proofs/Table.antt).
pub record FirstApplies (rows : List Row) (n : ℕ) (p : Place) : Type 0 where
  pub before : List Row
  pub after : List Row
  pub split : rows ≡ before ++ row n p true ∷ after
  pub none : NoneApplies before

-- the rows of slice 0, of slice 1, .. of slice n − 1; or of planes
unfoldable pub rows_of_each : (n : ℕ) (rows : ℕ → List Row) → List Row
rows_of_each zero rows = []
rows_of_each (suc n) rows = rows_of_each n rows ++ rows n

-- ---- what is left in lent memory

-- `good` after success; as found after the refusals numbered up to `last`, which are those given before anything is written;
-- `cleared`, which is what clearing leaves of it, after any other
unfoldable pub left_by : (last : ℕ) (answer : Answer) (found cleared good : List ℕ) → List ℕ
left_by last (Ok _) found cleared good = good
left_by last (Err why) found cleared good = cond (leb why.0 last) found cleared

-- a frame: "Refusals 1 to 4 leave planes and workspace as found. All others leave both wholly zero."
abbrev pub left_by_frame : (answer : Answer) (found cleared good : List ℕ) → List ℕ
left_by_frame = left_by 4

-- a table or a reading by itself: 4, 9, 10 and 11 "leave buffer and workspace as found"; 14 "leaves both wholly zero"
abbrev pub left_alone : (answer : Answer) (found cleared good : List ℕ) → List ℕ
left_alone = left_by 11
