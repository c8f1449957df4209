-- The table of Frame.antt in pieces, which are what contracts cite: a function that makes some of its checks answers the first row
-- of theirs that applies. That these pieces, one after the other, are the table is a law of lists (`in_pieces`, proofs/Table.antt),
-- so nothing here has to be believed. Assumes nothing.
use Rattle.std.specs.Prelude.{ℕ, zero, suc}
use Rattle.scope.specs.Base.{Bytes, Lengths}
use Rattle.scope.specs.Refusals.{refuse_if, ◌and_then◌, first_of}
use Rattle.scope.specs.Geometry.{plane_count, slice_count}
use Rattle.scope.specs.Words.{Chain, is_stuck}
use Rattle.scope.specs.Frame.{lent_rows, preamble_rows, index_rows, length_rows, room_rows, slice_rows, read_rows}
use Rattle.scope.specs.declared.Entry.{Entry}
use Rattle.scope.specs.declared.Geometry.{Geometry}
use Rattle.scope.specs.declared.Place.TheVariants.{Plane}
use Rattle.scope.specs.Answers.{Answer, done}

-- the first refusal of the checks f 0, f 1, .. f (n - 1)
unfoldable pub in_order : (n : ℕ) (f : ℕ → Answer) → Answer
in_order zero f = done
in_order (suc n) f = in_order n f and_then f n

-- 1 to 4: what is lent
unfoldable pub lent_checks : (which : Entry) (g : Geometry) (lengths_len planes_len : ℕ) → Answer
lent_checks which g lengths_len planes_len = first_of (lent_rows which g lengths_len planes_len)

-- 5 to 7: the entries and the preamble
unfoldable pub preamble_checks : (frame : Bytes) (g : Geometry) → Answer
preamble_checks frame g = first_of (preamble_rows frame g)

-- 8, of slice s
unfoldable pub index_check : (frame : Bytes) (g : Geometry) (s : ℕ) → Answer
index_check frame g s = first_of (index_rows frame g s)

-- 9 and 10, of plane p
unfoldable pub length_check : (g : Geometry) (lengths : Lengths) (p : ℕ) → Answer
length_check g lengths p = first_of (length_rows g lengths p)

-- 11
unfoldable pub room_check : (g : Geometry) (lengths : Lengths) (workspace_len : ℕ) → Answer
room_check g lengths workspace_len = first_of (room_rows g lengths workspace_len)

-- 14 of a reading that got stuck
unfoldable pub readable : (p : ℕ) (chain : Chain) → Answer
readable p chain = refuse_if (is_stuck chain) 14 (Plane p)

module _ (frame : Bytes) (g : Geometry) (lengths : Lengths) where
  -- 12 to 14, of slice s, before any is read
  unfoldable pub slice_check : (s : ℕ) → Answer
  slice_check s = first_of (slice_rows frame g lengths s)

  -- 15 and 14, of slice s as it is read
  unfoldable pub read_check : (s : ℕ) → Answer
  read_check s = first_of (read_rows frame g lengths s)

  -- what is checked before anything is written; `room` is 11's answer, or `done` for an entry that needs no workspace
  unfoldable pub frame_checks : (room : Answer) → Answer
  frame_checks room =
      let indices : Answer = in_order (slice_count g) (index_check frame g) in
      let words : Answer = in_order (plane_count g) (length_check g lengths) in
      let slices : Answer = in_order (slice_count g) slice_check in
      preamble_checks frame g and_then indices and_then words and_then room and_then slices

  unfoldable pub read_checks : Answer
  read_checks = in_order (slice_count g) read_check

  -- the rest of the table, once 1 to 4 have passed; `room` is 11's answer
  unfoldable pub rest_of : (room : Answer) → Answer
  rest_of room =
      let reading : Answer = read_checks in
      frame_checks room and_then reading
