-- Every slice in wire order into its rows of the planes: what has been read before slice s, and that every plane is then whole. Assumes
-- nothing.
use mathlib.Core.Path.{◌≡◌, sym, ap, ◌∙◌}
use mathlib.Core.List.{List, [], ◌∷◌}
use Prim.Native.Nat.{ℕ, suc, ◌+◌, ◌*◌, ◌≤◌, ◌<◌}
use native.Mathlib.Numerals.{add-one}
use native.Mathlib.Omega.{arith}
use borrow.Author.Rules.{rules}
use lib.ListN.{length, get_or, set}
use Rattle.scope.specs.Geometry as geo
use Rattle.scope.specs.Geometry.{plane_count, slice_count, plane_width, first_row, rows_at, plane_samples, all_samples, order_of, plane_start, row_start}
use Rattle.scope.specs.Layout as lay
use Rattle.scope.specs.Layout.{plane_index, named_before, place_in_plane, slice_at}
use Rattle.scope.specs.declared.Geometry.{Geometry}
use Rattle.scope.specs.declared.SliceAt.{SliceAt}
use Rattle.scope.specs.declared.Refusal.{Refusal}
use Rattle.std.specs.Prelude.{Err}
use Rattle.scope.specs.Answers.{Answer, done}
use Rattle.scope.specs.Pieces.{in_order, index_check}
use Rattle.lists.specs.Parts.{replaced}
use Rattle.geometry.specs.Sound.{Sound}
use Rattle.geometry.specs.Places.{filled}
use Rattle.geometry.proofs.Places.{order, place_room, place_starts, filled_none, filled_next, filled_most, filled_all}
use Rattle.layout.specs.Placed.{Placed}
use Rattle.layout.proofs.Slices.{named_here, named_other, named_all}
use Rattle.layout.proofs.Going.{Going, going_start, going_last, going_done, going_placed, going_four, going_scaled, going_fits, going_step, going_refused}
use mir.Syntax.{w64}
use mir.Val.{Fits}
use Rattle.lists.proofs.Parts.{put_length}
use Rattle.planes.specs.Standing.{Planes}
use Rattle.planes.proofs.Holds.{Holds, holds_more}
use Rattle.picture.specs.Steps as stp
use Rattle.picture.specs.Steps.{Look, read_at, samples_for, gathered, plane_of, with_rows}
use Rattle.picture.proofs.Placing.{at_number, at_plane, at_place, at_first, at_rows, at_width}

-- what has been read before slice s: each plane's stretch begins with the samples of the slices so far that name it
pub record Filled (samples : ℕ → List ℕ) (frame : List ℕ) (g : Geometry) (s : ℕ) (buf : List ℕ) : Type 0 where
  pub holds : Holds (plane_count g) (order_of g) (plane_samples g) (λ p. filled g p (named_before frame g p s)) (λ p. gathered samples frame g p s) buf
  pub long : length buf ≡ all_samples g

module _ (samples : ℕ → List ℕ) (frame : List ℕ) (g : Geometry) where
  pub filled_start : (buf : List ℕ) → length buf ≡ all_samples g → Filled samples frame g 0 buf
  unfolding geo.all_samples lay.named_before stp.gathered
  filled_start buf el = record { holds = record { each = λ p l. rw (filled_none g p); room = omega (arith, el) }; long = el }

  module _ (s : ℕ) (buf : List ℕ) (w : Filled samples frame g s buf) where
    -- every plane has its K slices, so every sample is defined
    pub filled_planes : (f : ℕ → Answer) (t : ℕ) (seen : List ℕ) → Going f frame g t seen s → Sound g → t ≤ s → Planes g (plane_of samples frame g) buf
    unfolding stp.plane_of geo.all_samples geo.plane_start
    filled_planes f t seen d ok h =
        record {
          each = λ p l. rw (going_last f frame g t seen s d h) at (rw (full p l) at (w.holds.each p l));
          whole = w.long;
        }
      where
        full : (p : ℕ) → p < plane_count g → filled g p (named_before frame g p s) ≡ plane_samples g p
        full p l = rw (going_last f frame g t seen s d h, named_all frame g d.checked p l) (filled_all g ok p)

    module _ (ok : Sound g) (p k : ℕ) (pl : Placed frame g s p k) (buf' : List ℕ)
        (eb : buf' ≡ replaced buf (row_start g p (first_row g p k)) (rows_at g p k * plane_width g p) (samples s)) (el : length buf' ≡ length buf) where
      -- the slice stands where its plane is filled to
      there : row_start g p (first_row g p k) ≡ plane_start g p + filled g p k
      there = place_starts g ok p k pl.place_below

      as_long : length (samples s) ≡ rows_at g p k * plane_width g p
      as_long =
          put_length buf (row_start g p (first_row g p k)) (rows_at g p k * plane_width g p) (samples s)
          (omega (arith, w.long, place_room g ok p k pl.plane_below pl.place_below)) (rw eb at el)

      put : buf' ≡ replaced buf (plane_start g p + filled g p k) (rows_at g p k * plane_width g p) (samples s)
      put = rw there at eb

      more : Holds (plane_count g) (order_of g) (plane_samples g) (λ p. filled g p (named_before frame g p (suc s))) (λ p. gathered samples frame g p (suc s)) buf'
      unfolding stp.gathered geo.plane_start
      more =
          let e : k ≡ named_before frame g p s = pl.place in
          holds_more (plane_count g) (order_of g) (plane_samples g) (order g) (λ p. filled g p (named_before frame g p s)) (λ p. gathered samples frame g p s) buf w.holds
          (λ p. filled g p (named_before frame g p (suc s))) (λ p. gathered samples frame g p (suc s)) buf' p (rows_at g p (named_before frame g p s) * plane_width g p) (samples s) pl.plane_below (rw e at as_long)
          (λ q l. filled_most g q (named_before frame g q s))
          (rw (← filled_next g p (named_before frame g p s)) (filled_most g p (suc (named_before frame g p s))))
          (λ q l ne. rw (named_other frame g q s (rw pl.plane at ne)))
          (rw (pl.plane, named_here frame g s) (filled_next g (plane_index frame g s) (named_before frame g (plane_index frame g s) s)))
          (λ q l. rw pl.plane) (rw e at put) el

      filled_more : Filled samples frame g (s + 1) buf'
      filled_more = record { holds = rw add-one more; long = el ∙ w.long }

-- a slice's rows, by its record and by its plane and place
rows_same : (g : Geometry) (a : SliceAt) (p k : ℕ) (xs buf : List ℕ) → a.plane ≡ p → a.first ≡ first_row g p k → a.rows ≡ rows_at g p k → a.width ≡ plane_width g p
    → with_rows g a xs buf ≡ replaced buf (row_start g p (first_row g p k)) (rows_at g p k * plane_width g p) xs
unfolding stp.with_rows
rows_same g a p k xs buf ep ef er ew = rw (ep, ef, er, ew)

-- ---- the loop over the slices

-- what the loop knows before slice s
pub record Reading (look : Look) (frame : List ℕ) (g : Geometry) (t : ℕ) (seen : List ℕ) (s : ℕ) (buf : List ℕ) : Type 0 where
  pub going : Going (read_at look frame g) frame g t seen s
  pub filled : Filled (samples_for look frame g) frame g s buf

module _ (look : Look) (frame : List ℕ) (g : Geometry) (t : ℕ) where
  pub reading_start : (buf : List ℕ) → t ≡ slice_count g → done ≡ in_order (slice_count g) (index_check frame g) → length buf ≡ all_samples g → Reading look frame g t (0 ∷ 0 ∷ 0 ∷ 0 ∷ []) 0 buf
  reading_start buf et ck el = record { going = going_start (read_at look frame g) frame g t et ck; filled = filled_start (samples_for look frame g) frame g buf el }

  module _ (seen : List ℕ) (s : ℕ) (buf : List ℕ) (w : Reading look frame g t seen s buf) where
    -- all slices are read
    pub reading_done : t ≤ s → done ≡ in_order (slice_count g) (read_at look frame g)
    reading_done h = going_done (read_at look frame g) frame g t seen s w.going h

    pub reading_planes : Sound g → t ≤ s → Planes g (plane_of (samples_for look frame g) frame g) buf
    reading_planes ok h = filled_planes (samples_for look frame g) frame g s buf w.filled (read_at look frame g) t seen w.going ok h

    -- slice s names a plane, and its place there was counted
    module _ (p : ℕ) (ls : s < t) (ei : p ≡ plane_index frame g s) where
      pub reading_at : Placed frame g s p (get_or seen p 0)
      reading_at = going_placed (read_at look frame g) frame g t seen s w.going p ls ei

      pub reading_four : p < 4
      reading_four = going_four (read_at look frame g) frame g t seen s w.going p ls ei

      pub reading_scaled : Fits w64 (p * 8)
      reading_scaled = going_scaled (read_at look frame g) frame g t seen s w.going p ls ei

      pub reading_fits : Sound g → Fits w64 (get_or seen p 0 + 1)
      reading_fits ok = going_fits (read_at look frame g) frame g t seen s w.going p ls ei ok

      module _ (a : SliceAt) (is : a ≡ slice_at frame g s) where
        -- its record is that of the slice whose number it has
        pub reading_own : a ≡ slice_at frame g a.number
        reading_own = is ∙ ap (slice_at frame g) (sym (at_number frame g s a is))

        pub reading_below : a.number < slice_count g
        reading_below = omega (arith, at_number frame g s a is, ls, w.going.slices_are)

        pub reading_placed : Placed frame g a.number a.plane a.place
        unfolding lay.place_in_plane
        reading_placed =
            rw (at_number frame g s a is, at_plane frame g s a is ∙ sym ei, at_place frame g s a is ∙ sym (ap (λ (q : ℕ). named_before frame g q s) ei) ∙ sym reading_at.place) reading_at

    -- one of them: slice s, whose record is a
    module _ (p : ℕ) (ls : s < t) (ei : p ≡ plane_index frame g s) (a : SliceAt) (is : a ≡ slice_at frame g s) (r : Answer) (er : r ≡ read_at look frame g a.number) where
      own : r ≡ read_at look frame g s
      own = er ∙ ap (read_at look frame g) (at_number frame g s a is)

      -- it is refused
      pub reading_refused : (why : Refusal) → r ≡ Err why → Err why ≡ in_order (slice_count g) (read_at look frame g)
      reading_refused = going_refused (read_at look frame g) frame g t seen s w.going p ls ei r own

      goes_on : Sound g → (buf' : List ℕ) → r ≡ done → (r ≡ done → buf' ≡ with_rows g a (samples_for look frame g a.number) buf) → length buf' ≡ length buf
          → Reading look frame g t (set seen p (get_or seen p 0 + 1)) (s + 1) buf'
      unfolding lay.place_in_plane
      goes_on ok buf' ed eb el =
          record {
            going = going_step (read_at look frame g) frame g t seen s w.going p ls ei r own ed;
            filled = filled_more (samples_for look frame g) frame g s buf w.filled ok p (get_or seen p 0) pl buf' there el;
          }
        where
          pl : Placed frame g s p (get_or seen p 0)
          pl = going_placed (read_at look frame g) frame g t seen s w.going p ls ei

          place_is : get_or seen p 0 ≡ place_in_plane frame g s
          place_is = pl.place ∙ ap (λ (q : ℕ). named_before frame g q s) ei

          there : buf' ≡ replaced buf (row_start g p (first_row g p (get_or seen p 0))) (rows_at g p (get_or seen p 0) * plane_width g p) (samples_for look frame g s)
          there =
              eb ed ∙ ap (λ (n : ℕ). with_rows g a (samples_for look frame g n) buf) (at_number frame g s a is)
              ∙ rows_same g a p (get_or seen p 0) (samples_for look frame g s) buf (at_plane frame g s a is ∙ sym ei)
              (at_first frame g s a is ∙ sym (ap (first_row g p) place_is ∙ ap (λ (q : ℕ). first_row g q (place_in_plane frame g s)) ei))
              (at_rows frame g s a is ∙ sym (ap (rows_at g p) place_is ∙ ap (λ (q : ℕ). rows_at g q (place_in_plane frame g s)) ei))
              (at_width frame g s a is ∙ sym (ap (plane_width g) ei))

-- slice s was read: what the loop knew before it, its plane and record, what was answered, and the rows that it filled
pub record SliceDone (look : Look) (frame : List ℕ) (g : Geometry) (t : ℕ) (seen : List ℕ) (s : ℕ) (buf : List ℕ) (p : ℕ) (a : SliceAt) (r : Answer) (buf' : List ℕ) : Type 0 where
  pub sound : Sound g
  pub known : Reading look frame g t seen s buf
  pub within : s < t
  pub plane_is : p ≡ plane_index frame g s
  pub record_is : a ≡ slice_at frame g s
  pub answer_is : r ≡ read_at look frame g a.number
  pub passed : r ≡ done
  pub rows_are : r ≡ done → buf' ≡ with_rows g a (samples_for look frame g a.number) buf
  pub kept : length buf' ≡ length buf

-- so the loop knows the same of one slice more
pub reading_step : {look : Look} {frame : List ℕ} {g : Geometry} {t : ℕ} {seen : List ℕ} {s : ℕ} {buf : List ℕ} {p : ℕ} {a : SliceAt} {r : Answer} {buf' : List ℕ}
    → SliceDone look frame g t seen s buf p a r buf' → Reading look frame g t (set seen p (get_or seen p 0 + 1)) (s + 1) buf'
reading_step {look} {frame} {g} {t} {seen} {s} {buf} {p} {a} {r} {buf'} d =
    goes_on look frame g t seen s buf d.known p d.within d.plane_is a d.record_is r d.answer_is d.sound buf' d.passed d.rows_are d.kept

pub ruleset readings = (reading_start, reading_four, reading_scaled, reading_fits, rules)
