-- One slice into its rows of the planes: which elements they are, that they lie within the buffer, and what they become. Assumes
-- nothing.
use mathlib.Core.Path.{◌≡◌, refl, sym, ap, ◌∙◌}
use mathlib.Core.List.{List}
use Prim.Native.Nat.{ℕ, ◌+◌, ◌-◌, ◌*◌, ◌≤◌, ◌<◌}
use native.Mathlib.Omega.{arith}
use mir.Syntax.{w64}
use mir.Val.{Fits}
use borrow.Rule.Slice.PartMut.{put_mid}
use lib.ListN.{length, get_or, take, drop, length-take, length-drop}
use Rattle.scope.specs.Geometry.{plane_count, slices_per_plane, slice_count, plane_width, plane_height, first_row, rows_at, fields, row_start}
use Rattle.scope.specs.Layout as lay
use Rattle.scope.specs.Layout.{plane_index, place_in_plane, payload_of, slice_at}
use Rattle.scope.specs.Lookup.{lookup_in}
use Rattle.scope.specs.declared.Geometry.{Geometry}
use Rattle.scope.specs.declared.SliceAt.{SliceAt}
use Rattle.scope.specs.Answers.{Answer, done}
use Rattle.geometry.specs.Sound.{Sound}
use Rattle.geometry.proofs.Places.{place_room, width_fits, height_fits}
use Rattle.layout.specs.Placed.{Placed}
use Rattle.layout.proofs.Readers.{record_in_plane}
use Rattle.codes.specs.Reading.{Readable}
use Rattle.slice.specs.Slice.{payload_in, SliceIn, read_by, samples_by}
use Rattle.tables.specs.declared.Codes.{Codes}
use Rattle.stretches.specs.Stretch as str
use Rattle.stretches.specs.Stretch.{stretch_of, all_elements}
use Rattle.views.specs.declared.Stretch.{Stretch}
use Rattle.views.specs.Places.{samples_at, rows_places, Rowed}
use Rattle.views.proofs.Views.{samples_all}
use Rattle.views.proofs.Windows.{rows_all}
use Rattle.picture.specs.Steps as stp
use Rattle.picture.specs.Steps.{table_look, read_at, samples_for, Ready, with_rows}

-- ---- the record of a slice

module _ (frame : List ℕ) (g : Geometry) (s : ℕ) (a : SliceAt) (is : a ≡ slice_at frame g s) where
  pub at_number : a.number ≡ s
  unfolding lay.slice_at
  at_number = rw is

  pub at_plane : a.plane ≡ plane_index frame g s
  unfolding lay.slice_at
  at_plane = rw is

  pub at_place : a.place ≡ place_in_plane frame g s
  unfolding lay.slice_at
  at_place = rw is

  pub at_first : a.first ≡ first_row g (plane_index frame g s) (place_in_plane frame g s)
  unfolding lay.slice_at
  at_first = rw is

  pub at_rows : a.rows ≡ rows_at g (plane_index frame g s) (place_in_plane frame g s)
  unfolding lay.slice_at
  at_rows = rw is

  pub at_width : a.width ≡ plane_width g (plane_index frame g s)
  unfolding lay.slice_at
  at_width = rw is

-- ---- its rows

module _ (frame : List ℕ) (g : Geometry) (s : ℕ) (a : SliceAt) (is : a ≡ slice_at frame g s) (pl : Placed frame g s a.plane a.place) where
  plane_in : plane_index frame g s < plane_count g
  plane_in = rw (at_plane frame g s a is) at pl.plane_below

  place_below : place_in_plane frame g s < slices_per_plane g
  place_below = rw (at_place frame g s a is) at pl.place_below

  pub rows_in : Sound g → a.first + a.rows ≤ plane_height g a.plane
  rows_in ok = (record_in_plane frame g s a.plane a.place pl ok a is).ends

  module _ (ok : Sound g) (r : Stretch) (er : r ≡ stretch_of g a.plane a.first a.rows) where
    start_is : r.at ≡ row_start g a.plane a.first
    unfolding str.stretch_of
    start_is = rw er

    pitch_is : r.pitch ≡ a.width
    unfolding str.stretch_of
    pitch_is =
        let e : plane_width g a.plane ≡ plane_width g (plane_index frame g s) = ap (plane_width g) (at_plane frame g s a is) in
        rw er (e ∙ sym (at_width frame g s a is))

    count_is : r.rows ≡ a.rows
    unfolding str.stretch_of
    count_is = rw er

    area_is : r.rows * r.pitch ≡ a.rows * a.width
    area_is = rw (count_is, pitch_is)

    start_at : r.at ≡ row_start g (plane_index frame g s) (first_row g (plane_index frame g s) (place_in_plane frame g s))
    start_at = start_is ∙ ap (λ (q : ℕ). row_start g q a.first) (at_plane frame g s a is) ∙ ap (row_start g (plane_index frame g s)) (at_first frame g s a is)

    area_at : a.rows * a.width ≡ rows_at g (plane_index frame g s) (place_in_plane frame g s) * plane_width g (plane_index frame g s)
    area_at = rw (at_rows frame g s a is, at_width frame g s a is)

    within : r.at + r.rows * r.pitch ≤ all_elements g
    within = omega (arith, start_at, area_is, area_at, place_room g ok (plane_index frame g s) (place_in_plane frame g s) plane_in place_below)

    -- they lie within the buffer
    pub stretch_in : (len : ℕ) → len ≡ all_elements g → r.at + r.rows * r.pitch ≤ len
    stretch_in len el = omega (arith, within, el)

    module _ {S : Type 0} (planes : List S) (el : length planes ≡ all_elements g) where
      long : length (take (r.at + r.rows * r.pitch - r.at) (drop r.at planes)) ≡ r.rows * r.pitch
      long =
          let q : r.at + r.rows * r.pitch - r.at ≡ r.rows * r.pitch = omega arith in
          rw q (simp (length-take, length-drop) (omega (arith, within, el)))

      -- and are as the reading of a slice asks for them
      pub stretch_rowed : r.rows ≤ 16384 → Rowed (length (take (r.at + r.rows * r.pitch - r.at) (drop r.at planes))) a.width r.pitch a.rows
      stretch_rowed few = record {
        wide = omega (arith, pitch_is);
        some = omega (arith, at_width frame g s a is, (width_fits g ok (plane_index frame g s)).0);
        most = omega (arith, pitch_is, at_width frame g s a is, (width_fits g ok (plane_index frame g s)).1);
        few = omega (arith, few, count_is);
        long = long ∙ ap (λ (n : ℕ). n * r.pitch) count_is;
      }

    -- what they become
    module _ (xs ys zs : List ℕ) (ly : length ys ≡ length (take (r.at + r.rows * r.pitch - r.at) (drop r.at xs))) (el : length xs ≡ all_elements g)
        (e : samples_at (rows_places a.width r.pitch a.rows) ys ≡ zs) where
      whole : ys ≡ zs
      whole =
          let l : length ys ≡ a.rows * a.width = ly ∙ long xs el ∙ area_is in
          let v : samples_at (rows_places a.width r.pitch a.rows) ys ≡ ys =
          ap (λ (q : ℕ). samples_at (rows_places a.width q a.rows) ys) pitch_is ∙ rw (rows_all a.width a.rows) (samples_all (a.rows * a.width) ys l) in
          sym v ∙ e

      pub stretch_put : put_mid r.at (r.at + r.rows * r.pitch - r.at) xs ys ≡ with_rows g a zs xs
      unfolding stp.with_rows
      stretch_put =
          let q : r.at + r.rows * r.pitch - r.at ≡ a.rows * a.width = omega (arith, area_is) in
          rw (q, start_is, whole)

-- ---- the lookup of its plane

module _ (limit : ℕ) (frame : List ℕ) (g : Geometry) (workspace : List ℕ) (c : Codes) (rd : Ready limit frame g workspace c)
    (s : ℕ) (a : SliceAt) (is : a ≡ slice_at frame g s) (pl : Placed frame g s a.plane a.place) where
  -- the slice passed its checks
  pub slice_ready : s < slice_count g → SliceIn g.depth frame a
  slice_ready l = rw is (rd.slices s l)

  module _ (x y m : ℕ) (ex : x ≡ get_or c.from a.plane 0) (ey : y ≡ get_or c.to a.plane 0) (em : m ≡ get_or c.longest a.plane 0) where
    look_is : (payload : List ℕ) → lookup_in (take (y - x) (drop x workspace)) m payload ≡ table_look workspace c a.plane payload
    unfolding stp.table_look
    look_is payload = rw (ex, ey, em)

    -- and its words can be read
    pub words_ready : s < slice_count g → Readable (lookup_in (take (y - x) (drop x workspace)) m (payload_in frame a)) limit 0 (a.rows * a.width)
    words_ready l = rw (look_is (payload_in frame a)) (rd.readable a.plane (payload_in frame a) (a.rows * a.width) pl.plane_below (slice_ready l).most)

    payload_at : payload_in frame a ≡ payload_of frame g s
    unfolding lay.slice_at lay.payload_of
    payload_at = rw is

    own_look : lookup_in (take (y - x) (drop x workspace)) m (payload_in frame a) ≡ table_look workspace c (plane_index frame g s) (payload_of frame g s)
    own_look = look_is (payload_in frame a) ∙ ap (table_look workspace c a.plane) payload_at ∙ ap (λ (q : ℕ). table_look workspace c q (payload_of frame g s)) (at_plane frame g s a is)

    -- what it answers
    pub answer_at : (r : Answer) → r ≡ read_by (lookup_in (take (y - x) (drop x workspace)) m (payload_in frame a)) g.depth frame a → r ≡ read_at (table_look workspace c) frame g s
    unfolding stp.read_at
    answer_at r e = e ∙ ap (λ (k : ℕ → _). read_by k g.depth frame a) own_look ∙ ap (read_by (table_look workspace c (plane_index frame g s) (payload_of frame g s)) g.depth frame) is

    -- its samples
    pub samples_at_lem : samples_by (lookup_in (take (y - x) (drop x workspace)) m (payload_in frame a)) g.depth (fields g) frame a ≡ samples_for (table_look workspace c) frame g s
    unfolding stp.samples_for
    samples_at_lem = ap (λ (k : ℕ → _). samples_by k g.depth (fields g) frame a) own_look ∙ ap (samples_by (table_look workspace c (plane_index frame g s) (payload_of frame g s)) g.depth (fields g) frame) is

  -- the rows' elements are numbers of 64 bits
  module _ (r : Stretch) (er : r ≡ stretch_of g a.plane a.first a.rows) (l : s < slice_count g) where
    elements_most : r.rows * r.pitch ≤ 268435456
    elements_most = omega (arith, area_is frame g s a is pl rd.sound r er, (slice_ready l).most)

    pub elements_fit : Fits w64 (r.rows * r.pitch)
    elements_fit = record { fits = omega (arith, elements_most) }

    pub end_fits : r.at ≤ 1073741824 → Fits w64 (r.at + r.rows * r.pitch)
    end_fits h = record { fits = omega (arith, elements_most, h) }

    few_rows : r.rows ≤ 16384
    few_rows = omega (arith, count_is frame g s a is pl rd.sound r er, rows_in frame g s a is pl rd.sound, (height_fits g rd.sound a.plane).1)

    -- the part that is lent
    pub part_in : {S : Type 0} (planes : List S) → length planes ≡ all_elements g → r.at + r.rows * r.pitch ≤ length planes
    part_in planes el = stretch_in frame g s a is pl rd.sound r er (length planes) el

    pub part_rowed : {S : Type 0} (planes : List S) → length planes ≡ all_elements g → Rowed (length (take (r.at + r.rows * r.pitch - r.at) (drop r.at planes))) a.width r.pitch a.rows
    part_rowed planes el = stretch_rowed frame g s a is pl rd.sound r er planes el few_rows

    given_back : (x y m : ℕ) → x ≡ get_or c.from a.plane 0 → y ≡ get_or c.to a.plane 0 → m ≡ get_or c.longest a.plane 0
        → (o : Answer) (xs ys : List ℕ) → length xs ≡ all_elements g → length ys ≡ length (take (r.at + r.rows * r.pitch - r.at) (drop r.at xs))
        → (o ≡ done → samples_at (rows_places a.width r.pitch a.rows) ys ≡ samples_by (lookup_in (take (y - x) (drop x workspace)) m (payload_in frame a)) g.depth (fields g) frame a)
        → o ≡ done → put_mid r.at (r.at + r.rows * r.pitch - r.at) xs ys ≡ with_rows g a (samples_for (table_look workspace c) frame g s) xs
    given_back x y m ex ey em o xs ys el ly e d =
        stretch_put frame g s a is pl rd.sound r er xs ys (samples_for (table_look workspace c) frame g s) ly el (e d ∙ samples_at_lem x y m ex ey em)

-- the slice a was read into its stretch r of the planes xs, which then held ys, with the answer o
pub record StretchRead (limit : ℕ) (frame : List ℕ) (g : Geometry) (workspace : List ℕ) (c : Codes) (a : SliceAt) (r : Stretch) (o : Answer) (xs ys : List ℕ) : Type 0 where
  pub ready : Ready limit frame g workspace c
  pub record_is : a ≡ slice_at frame g a.number
  pub below : a.number < slice_count g
  pub placed : Placed frame g a.number a.plane a.place
  pub stretch_is : r ≡ stretch_of g a.plane a.first a.rows
  pub long : length xs ≡ all_elements g
  pub kept : length ys ≡ length (take (r.at + r.rows * r.pitch - r.at) (drop r.at xs))
  pub samples_are : o ≡ done → samples_at (rows_places a.width r.pitch a.rows) ys ≡ samples_by (lookup_in (take (get_or c.to a.plane 0 - get_or c.from a.plane 0) (drop (get_or c.from a.plane 0) workspace)) (get_or c.longest a.plane 0) (payload_in frame a)) g.depth (fields g) frame a
  pub passed : o ≡ done

-- what the stretch is given back as
pub part_put : {limit : ℕ} {frame : List ℕ} {g : Geometry} {workspace : List ℕ} {c : Codes} {a : SliceAt} {r : Stretch} {o : Answer} {xs ys : List ℕ}
    → StretchRead limit frame g workspace c a r o xs ys
    → put_mid r.at (r.at + r.rows * r.pitch - r.at) xs ys ≡ with_rows g a (samples_for (table_look workspace c) frame g a.number) xs
part_put {limit} {frame} {g} {workspace} {c} {a} {r} {o} {xs} {ys} d =
    given_back limit frame g workspace c d.ready a.number a d.record_is d.placed r d.stretch_is d.below (get_or c.from a.plane 0)
    (get_or c.to a.plane 0) (get_or c.longest a.plane 0) refl refl refl o xs ys d.long d.kept d.samples_are d.passed
