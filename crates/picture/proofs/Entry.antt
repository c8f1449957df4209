-- The parts of a decode's answer put together, over either entry. Only here, and once, is the lookup over the tables the word of the
-- code lengths. Assumes nothing.
use mathlib.Core.Path.{◌≡◌, refl, sym, ap, ◌∙◌}
use mathlib.Core.Bool.{Bool, true}
use mathlib.Core.List.{List}
use Prim.Native.Nat.{ℕ, zero, suc, ◌-◌, ◌*◌, ◌^◌, ◌≤◌, ◌<◌}
use native.Mathlib.Omega.{arith}
use lib.Dec.{ltb}
use lib.ListN.{length, get_or, drop, length-take}
use Rattle.scope.specs.Refusals.{refuse_if}
use Rattle.scope.specs.Geometry as geo
use Rattle.scope.specs.Geometry.{correlated, plane_count, slice_count, lengths_of, swapped, depth_fits}
use Rattle.scope.specs.Layout as lay
use Rattle.scope.specs.Layout.{plane_index, place_in_plane, payload_of, samples_in}
use Rattle.scope.specs.Words.{longest, word_at}
use Rattle.scope.specs.Lookup.{table_of, lookup_in}
use Rattle.scope.specs.Frame as frm
use Rattle.scope.specs.Pieces as pcs
use Rattle.scope.specs.Frame.{need_of_all, slice_lengths, plane_up_to, wire_plane, buffer_plane, picture_of}
use Rattle.scope.specs.declared.Geometry.{Geometry}
use Rattle.scope.specs.declared.Place.TheVariants.{Nothing}
use Rattle.scope.specs.declared.Refusal.{Refusal}
use Rattle.std.specs.Prelude.{Err}
use Rattle.scope.specs.Answers.{Answer, done}
use Rattle.geometry.specs.Sound.{Sound}
use Rattle.refusals.proofs.InOrder.{each_passed, order_same}
use Rattle.refusals.proofs.Rows.{index_below}
use Rattle.incoming.proofs.Refused as lent
use Rattle.codes.proofs.Lookup.{looks_table}
use Rattle.geometry.proofs.Figures.{place_most}
use Rattle.codes.specs.Reading.{Readable}
use Rattle.reader.proofs.Chains.{code_readable}
use Rattle.slice.proofs.Entry.{read_is, samples_is}
use Rattle.slice.proofs.Passed.{passed_in}
use Rattle.checks.specs.Slices.{framed_by, Shortests}
use Rattle.checks.proofs.Sliced.{slice_none, slice_in, prefix_in}
use Rattle.within.proofs.Within.{slice_whole}
use Rattle.tables.specs.declared.Codes.{Codes}
use Rattle.tables.specs.Codes.{codes_of}
use Rattle.tables.specs.Tables.{plane_need, Tables}
use Rattle.tables.proofs.Told.{answer_is, need_is, plane_short, plane_full, plane_passed, from_is, longest_is, shortest_is, shortest_byte, stretch_long, stretch_room}
use Rattle.planes.specs.Standing.{Planes, coloured}
use Rattle.planes.proofs.Colours.{planes_same, picture_is}
use Rattle.scope.specs.Found.{Found}
use Rattle.scope.specs.Pieces.{in_order, lent_checks, index_check, room_check, slice_check, frame_checks, read_checks, rest_of}
use Rattle.scope.specs.declared.Entry.{Entry}
use Rattle.stretches.specs.Stretch.{all_elements}
use Rattle.lists.specs.Parts.{part}
use Rattle.checks.proofs.Framed.{framed_is, frame_order, frame_lengths, frame_room, frame_slices, room_in}
use Rattle.picture.specs.Steps as stp
use Rattle.picture.specs.Steps.{read_at, samples_for, gathered, plane_of, table_look, Ready, picture_by}

-- ---- what refusals 1 to 4 leave, as the run asks for it

module _ (which : Entry) (g : Geometry) (l p : ℕ) (a : Answer) (ea : a ≡ lent_checks which g l p) (da : a ≡ done) where
  lent_passed : done ≡ lent_checks which g l p
  lent_passed = sym da ∙ ea

  pub lent_sound : Sound g
  lent_sound = lent.lent_sound which g l p lent_passed

  pub lent_lengths : l ≡ plane_count g * 2 ^ g.depth
  lent_lengths = lent.lent_lengths which g l p lent_passed

  pub lent_planes : p ≡ all_elements g
  lent_planes = lent.lent_planes which g l p lent_passed

  -- the entry serves the depth
  pub lent_served : depth_fits which g.depth ≡ true
  lent_served = lent.lent_depth which g l p lent_passed

-- ---- the tables' lookup is the word of the lengths

module _ (g : Geometry) (lengths workspace : List ℕ) (c : Codes) (is : c ≡ codes_of g lengths) (ok : c.answer ≡ done) (tb : Tables g lengths workspace) (p : ℕ) (l : p < plane_count g) where
  table_is : part workspace (get_or c.from p 0) (get_or c.to p 0 - get_or c.from p 0) ≡ table_of (lengths_of g lengths p)
  table_is =
      let n : get_or c.to p 0 - get_or c.from p 0 ≡ plane_need g lengths p = omega (arith, stretch_long g lengths c is ok p l) in
      rw (n, from_is g lengths c is ok p l) (tb.each p l)

  looks : (payload : List ℕ) (at : ℕ) → lookup_in (table_of (lengths_of g lengths p)) (longest (lengths_of g lengths p)) payload at ≡ word_at (lengths_of g lengths p) payload at
  looks payload at =
      looks_table (lengths_of g lengths p) payload at (plane_short g lengths p (plane_passed g lengths c is ok p l)) (plane_full g lengths p (plane_passed g lengths c is ok p l))

  look_table : (payload : List ℕ) → table_look workspace c p payload ≡ lookup_in (table_of (lengths_of g lengths p)) (longest (lengths_of g lengths p)) payload
  unfolding stp.table_look
  look_table payload = rw (table_is, longest_is g lengths c is ok p l)

  pub look_own : (payload : List ℕ) (at : ℕ) → table_look workspace c p payload at ≡ word_at (lengths_of g lengths p) payload at
  look_own payload at = ap (λ (k : ℕ → Found). k at) (look_table payload) ∙ looks payload at

  -- and so its symbols are below `limit`, and its words short
  readable_own : (limit : ℕ) (payload : List ℕ) (n : ℕ) → length (lengths_of g lengths p) ≤ limit → n ≤ 268435456 → Readable (table_look workspace c p payload) limit 0 n
  readable_own limit payload n few most =
      rw (look_table payload)
      (code_readable (lengths_of g lengths p) (table_of (lengths_of g lengths p)) payload (looks payload) limit 0 n (plane_short g lengths p (plane_passed g lengths c is ok p l)) few (omega arith))

-- a plane has 2^depth lengths at most
lengths_most : (g : Geometry) (lengths : List ℕ) (p : ℕ) → length (lengths_of g lengths p) ≤ 2 ^ g.depth
unfolding geo.lengths_of
lengths_most g lengths p = omega (arith, length-take (2 ^ g.depth) (drop (p * 2 ^ g.depth) lengths))

-- ---- the picture

buffer_same : (t : Bool) (d : ℕ) (f h : ℕ → List ℕ) → ((p : ℕ) → f p ≡ h p) → (b : ℕ) → buffer_plane t d f b ≡ buffer_plane t d h b
unfolding frm.colour_plane
buffer_same t d f h e b = rw (e (swapped t b), e 1)

-- planes that stand in their stretches, coloured, are their picture
pub read_picture : (g : Geometry) (wire : ℕ → List ℕ) (a : Answer) (buf buf' : List ℕ) → a ≡ done → (a ≡ done → Planes g wire buf) → buf' ≡ coloured g buf → buf' ≡ picture_by g wire
unfolding stp.picture_by
read_picture g wire a buf buf' d pl e = picture_is g wire buf buf' (pl d) e

-- a refusal is no success
pub no_planes : (why : Refusal) (g : Geometry) (wire : ℕ → List ℕ) (buf : List ℕ) → Err why ≡ done → Planes g wire buf
no_planes why g wire buf e = record { each = λ p l. cc; whole = cc }

-- ---- what the checks leave

-- a slice's samples are no more than the largest plane's
samples_most_in : (frame : List ℕ) (g : Geometry) (s : ℕ) → Sound g → samples_in frame g s ≤ 268435456
unfolding lay.samples_in
samples_most_in frame g s = place_most g (plane_index frame g s) (place_in_plane frame g s)

module _ (frame : List ℕ) (g : Geometry) (lengths : List ℕ) (c : Codes) (is : c ≡ codes_of g lengths) (w need : ℕ) (room : Answer) (en : need ≡ c.need) (er : room ≡ refuse_if (ltb w need) 11 Nothing)
    (a : Answer) (ea : a ≡ framed_by frame g c.answer room c.shortest) where
  room_is : c.answer ≡ done → room ≡ room_check g lengths w
  unfolding pcs.room_check
  room_is ok = er ∙ ap (λ (n : ℕ). refuse_if (ltb w n) 11 Nothing) (en ∙ need_is g lengths c is ok)

  -- they are the table's
  checks_are : a ≡ frame_checks frame g lengths (room_check g lengths w)
  checks_are =
      ea ∙ framed_is frame g lengths c.answer room (room_check g lengths w) c.shortest (answer_is g lengths c is) room_is
      (λ ok p l. shortest_is g lengths c is ok p l)

  -- a refusal is the answer
  pub run_refused : (why : Refusal) → a ≡ Err why → Err why ≡ rest_of frame g lengths (room_check g lengths w)
  unfolding pcs.rest_of
  run_refused why h = rw (← checks_are, h)

  module _ (da : a ≡ done) where
    passed : done ≡ frame_checks frame g lengths (room_check g lengths w)
    passed = sym da ∙ checks_are

    pub run_codes : c.answer ≡ done
    run_codes = answer_is g lengths c is ∙ sym (frame_lengths frame g lengths (room_check g lengths w) passed)

    pub run_room : need_of_all g lengths ≤ w
    run_room = room_in g lengths w (frame_room frame g lengths (room_check g lengths w) passed)

    slice_passed : (s : ℕ) → s < slice_count g → done ≡ slice_check frame g lengths s
    slice_passed s l = each_passed (slice_check frame g lengths) (slice_count g) s (frame_slices frame g lengths (room_check g lengths w) passed) l

    ready : (limit : ℕ) (workspace : List ℕ) → Sound g → 2 ^ g.depth ≤ limit → Tables g lengths workspace → Ready limit frame g workspace c
    ready limit workspace ok few tb = record {
      sound = ok;
      indices = frame_order frame g lengths (room_check g lengths w) passed;
      slices = λ s l. passed_in frame g s (prefix_in frame g lengths s (slice_passed s l)) (slice_in frame g lengths s (slice_passed s l)) (slice_whole frame g lengths s (slice_none frame g lengths s (slice_passed s l))) (samples_most_in frame g s ok);
      starts = λ p l. omega (arith, stretch_long g lengths c is run_codes p l);
      ends = λ p l. stretch_room g lengths c is run_codes p l (length workspace) tb.room;
      readable = λ p payload n l most. readable_own g lengths workspace c is run_codes tb p l limit payload n (omega (arith, lengths_most g lengths p, few)) most;
    }

    -- ---- the reading by the tables is the reading by the lengths
    module _ (workspace : List ℕ) (tb : Tables g lengths workspace) where
      same : (s : ℕ) → s < slice_count g → (at : ℕ) → table_look workspace c (plane_index frame g s) (payload_of frame g s) at ≡ word_at (slice_lengths frame g lengths s) (payload_of frame g s) at
      same s l at =
          look_own g lengths workspace c is run_codes tb (plane_index frame g s)
          (index_below frame g s (each_passed (index_check frame g) (slice_count g) s (frame_order frame g lengths (room_check g lengths w) passed) l)) (payload_of frame g s) at

      reads_are : in_order (slice_count g) (read_at (table_look workspace c) frame g) ≡ read_checks frame g lengths
      unfolding pcs.read_checks stp.read_at
      reads_are = order_same (slice_count g) _ _ (λ s l. read_is frame g lengths s (table_look workspace c (plane_index frame g s) (payload_of frame g s)) (same s l))

      gathered_are : (p s : ℕ) → s ≤ slice_count g → gathered (samples_for (table_look workspace c) frame g) frame g p s ≡ plane_up_to frame g lengths p s
      unfolding stp.gathered frm.plane_up_to stp.samples_for
      gathered_are p zero l = refl
      gathered_are p (suc s) l =
          rw (gathered_are p s (omega arith), samples_is frame g lengths s (table_look workspace c (plane_index frame g s) (payload_of frame g s)) (same s (omega arith)))

      planes_are : (p : ℕ) → plane_of (samples_for (table_look workspace c) frame g) frame g p ≡ wire_plane frame g lengths p
      unfolding stp.plane_of frm.wire_plane
      planes_are p = gathered_are p (slice_count g) (omega arith)

      module _ (b : Answer) (eb : b ≡ in_order (slice_count g) (read_at (table_look workspace c) frame g)) where
        -- the reading's answer is the rest of the table
        pub run_read : b ≡ rest_of frame g lengths (room_check g lengths w)
        unfolding pcs.rest_of
        run_read = rw (← passed) (eb ∙ reads_are)

        -- and its planes, coloured, are the picture
        pub run_picture : (buf : List ℕ) → b ≡ done → (b ≡ done → buf ≡ picture_by g (plane_of (samples_for (table_look workspace c) frame g) frame g)) → buf ≡ picture_of frame g lengths
        unfolding frm.picture_of stp.picture_by
        run_picture buf db pl = pl db ∙ planes_same _ _ (plane_count g) (λ q l. buffer_same (correlated g.family) g.depth _ _ planes_are q)

-- ---- the steps of an entry

-- no check refused: a is their answer, by the codes c, with w words lent and what 11 says of them
pub record Checked (frame : List ℕ) (g : Geometry) (lengths : List ℕ) (c : Codes) (w : ℕ) (room a : Answer) : Type 0 where
  pub codes_are : c ≡ codes_of g lengths
  pub room_says : room ≡ refuse_if (ltb w c.need) 11 Nothing
  pub checks_say : a ≡ framed_by frame g c.answer room c.shortest
  pub passed : a ≡ done

-- then all is as the reading asks, with the tables built
pub run_ready : {frame : List ℕ} {g : Geometry} {lengths : List ℕ} {c : Codes} {w : ℕ} {room a : Answer} {limit : ℕ} {workspace : List ℕ}
    → Checked frame g lengths c w room a → Sound g → 2 ^ g.depth ≤ limit → Tables g lengths workspace → Ready limit frame g workspace c
run_ready {frame} {g} {lengths} {c} {w} {room} {a} {limit} {workspace} d =
    ready frame g lengths c d.codes_are w c.need room refl d.room_says a d.checks_say d.passed limit workspace

-- the shortest words that the codes have
pub run_shorts : (g : Geometry) (lengths : List ℕ) (c : Codes) → c ≡ codes_of g lengths → c.answer ≡ done → Shortests g c.shortest
run_shorts g lengths c is ok = record { small = λ p l. shortest_byte g lengths c is ok p l }
