-- Request L10: the two theorems of specs/Within.antt. Assumes nothing.
use mathlib.Core.Path.{◌≡◌, sym, ap, ◌∙◌}
use mathlib.Core.Bool.{Bool, true, false, cond}
use mathlib.Core.List.{List, ◌++◌, append_assoc}
use Prim.Native.Nat.{ℕ, ◌+◌, ◌-◌, ◌*◌, ◌/◌, ◌%◌, ◌≤◌, ◌<◌}
use native.Mathlib.Nat.{suc-mul, mul-le-mul_right}
use native.Mathlib.Omega.{arith}
use borrow.Author.Tests.{eqb-true, ltb-false, leb-false, not-false}
use lib.Dec.{eqb}
use lib.ListN.{length, drop, length-take, length-drop}
use Rattle.scope.specs.Base.{Bytes, Lengths, over_up}
use Rattle.scope.specs.Refusals as refusals
use Rattle.scope.specs.Refusals.{Row, rows_of_each, NoneApplies}
use Rattle.scope.specs.Geometry as geo
use Rattle.scope.specs.Geometry.{plane_count, slices_per_plane, slice_count, small, plane_height, plane_slice_height, first_row}
use Rattle.scope.specs.Layout as lay
use Rattle.scope.specs.Layout.{plane_index, place_in_plane, slice_start, slice_end, is_raw, payload_of, samples_in}
use Rattle.scope.specs.Frame as frm
use Rattle.scope.specs.Frame.{lent_rows, preamble_rows, index_rows, length_rows, room_rows, slice_rows, read_rows, table}
use Rattle.scope.specs.declared.Entry.{Entry}
use Rattle.scope.specs.declared.Geometry.{Geometry}
use Rattle.lists.proofs.Numbers.{part_some, factor_some, over_some, below_up, enough, below_up_small, enough_small}
use Rattle.lists.proofs.Tests.{and_both}
use Rattle.refusals.proofs.None.{none_append, none_each}
use Rattle.within.proofs.Own.{raw_own}
use Rattle.within.specs.Within.{PlaceChecked, PlaceBegins, NoPlaceBeyond, rows_to8, EverySliceBeginsInItsPlane, AllBytes, RawWhole, RawSliceHasAllItsBytes}

-- ---- 1. every slice begins in its plane

module _ (g : Geometry) (k : ℕ) (w : PlaceChecked g k) where
  -- there is a place only where slices have rows, and so has the frame
  sliced : 1 ≤ g.slice_height
  sliced = over_some g.height g.slice_height k w.place

  before_end : k * g.slice_height < g.height
  before_end = below_up g.height g.slice_height k sliced w.place

  starts : (p : ℕ) → first_row g p k < plane_height g p
  unfolding geo.plane_slice_height geo.plane_height
  starts p = go (small g p)
    where
      go : (t : Bool) → k * cond t (g.slice_height / g.sy) g.slice_height < cond t (g.height / g.sy) g.height
      go true = below_up_small g.height g.slice_height g.sy k sliced w.height w.place
      go false = before_end

  -- a place that is not cut has a row
  high : (p : ℕ) → 1 ≤ plane_slice_height g p
  unfolding geo.plane_slice_height
  high p = go (small g p)
    where
      go : (t : Bool) → 1 ≤ cond t (g.slice_height / g.sy) g.slice_height
      go true = part_some g.slice_height g.sy sliced w.slices
      go false = sliced

-- of any place
pub place_begins : PlaceBegins
unfolding geo.rows_at
place_begins g p k w = record { begins = starts g k w p; some = omega (arith, starts g k w p, high g k w p); ends = omega (arith, starts g k w p) }

-- and of none from K on
pub no_place_beyond : NoPlaceBeyond
unfolding geo.plane_slice_height geo.plane_height
no_place_beyond g p k some e l = omega (arith, go (small g p), mul-le-mul_right (plane_slice_height g p) l)
  where
    go : (t : Bool) → cond t (g.height / g.sy) g.height ≤ slices_per_plane g * cond t (g.slice_height / g.sy) g.slice_height
    go true = enough_small g.height g.slice_height g.sy (factor_some g.slice_height g.sy some e) some e
    go false = enough g.height g.slice_height some

-- what rows 1 to 8 leave of a slice
slice_checked : (which : Entry) (frame : Bytes) (g : Geometry) (lengths : Lengths) (planes_len : ℕ) → NoneApplies (rows_to8 which frame g lengths planes_len)
    → (s : ℕ) → s < slice_count g → PlaceChecked g (place_in_plane frame g s)
unfolding refusals.NoneApplies geo.factors_divide geo.slice_height_divides
slice_checked which frame g lengths planes_len none s l =
    let parts = none_append (lent_rows which g (length lengths) planes_len) (preamble_rows frame g ++ rows_of_each (slice_count g) (index_rows frame g)) none in
    let indices = (none_append (preamble_rows frame g) (rows_of_each (slice_count g) (index_rows frame g)) parts.1).1 in
    let sides = and_both (eqb (g.width % g.sx) 0) (eqb (g.height % g.sy) 0) (not-false _ parts.0.1.0) in
    record {
      height = eqb-true _ 0 sides.1;
      slices = eqb-true _ 0 (not-false _ parts.0.1.1.0);
      place = leb-false _ _ (none_each (slice_count g) (index_rows frame g) indices s l).1.0;
    }

-- the theorem
pub every_slice_begins_in_its_plane : EverySliceBeginsInItsPlane
every_slice_begins_in_its_plane which frame g lengths planes_len none s l =
    place_begins g (plane_index frame g s) (place_in_plane frame g s) (slice_checked which frame g lengths planes_len none s l)

-- the table begins with rows 1 to 8
pub table_begins : (which : Entry) (frame : Bytes) (g : Geometry) (lengths : Lengths) (planes_len workspace_len : ℕ)
    → table which frame g lengths planes_len workspace_len
    ≡ rows_to8 which frame g lengths planes_len
    ++ (rows_of_each (plane_count g) (length_rows g lengths)
    ++ (room_rows g lengths workspace_len
    ++ (rows_of_each (slice_count g) (slice_rows frame g lengths)
    ++ rows_of_each (slice_count g) (read_rows frame g lengths))))
unfolding frm.table
table_begins which frame g lengths planes_len workspace_len =
    sym
    (append_assoc (lent_rows which g (length lengths) planes_len) (preamble_rows frame g ++ rows_of_each (slice_count g) (index_rows frame g)) _
    ∙ ap (λ (rows : List Row). lent_rows which g (length lengths) planes_len ++ rows) (append_assoc (preamble_rows frame g) (rows_of_each (slice_count g) (index_rows frame g)) _))

-- ---- 2. a raw slice has all its bytes

-- bytes for n samples have every sample's bits
pub all_bytes : (depth n : ℕ) (payload : Bytes) → over_up (n * depth) 8 ≤ length payload → AllBytes depth n payload
all_bytes depth n payload h =
    record {
      bytes = h;
      bits = λ i l. omega (arith, h, mul-le-mul_right depth l, suc-mul i depth);
      own = λ more. raw_own payload more depth n (omega (arith, h));
    }

-- of a raw slice "b is the depth"
by_depth : (raw : Bool) (n depth b m : ℕ) → raw ≡ true → over_up (n * cond raw depth b) 8 ≤ m → over_up (n * depth) 8 ≤ m
by_depth raw n depth b m e h = rw e at h

-- of any one slice
pub raw_whole : RawWhole
unfolding lay.payload_of frm.fewest_bytes
raw_whole frame g lengths s w =
    all_bytes g.depth (samples_in frame g s) (payload_of frame g s)
    (omega (arith, by_depth (is_raw frame g s) (samples_in frame g s) g.depth _ _ w.raw w.size, w.inside, length-take (slice_end frame g s - (slice_start frame g s + 2)) (drop (slice_start frame g s + 2) frame), length-drop (slice_start frame g s + 2) frame))

-- of one that its five rows leave
pub slice_whole : (frame : Bytes) (g : Geometry) (lengths : Lengths) (s : ℕ) → NoneApplies (slice_rows frame g lengths s) → is_raw frame g s ≡ true
    → AllBytes g.depth (samples_in frame g s) (payload_of frame g s)
unfolding refusals.NoneApplies
slice_whole frame g lengths s none e =
    raw_whole frame g lengths s (record { raw = e; inside = ltb-false _ _ none.1.0; size = ltb-false _ _ none.1.1.1.1.0 })

-- the theorem
pub raw_slice_has_all_its_bytes : RawSliceHasAllItsBytes
raw_slice_has_all_its_bytes frame g lengths none s l e =
    slice_whole frame g lengths s (none_each (slice_count g) (slice_rows frame g lengths) none s l) e
