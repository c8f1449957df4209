-- Document 01, "Refusal numbers": what no row of the table leaves, for the theorems of this crate: where a decode is answered with planes,
-- the geometry is sound, every index is in order, every slice lies in its plane, a raw one has all its bytes, and each could be read. Assumes nothing.
use mathlib.Core.Path.{◌≡◌, sym, ◌∙◌}
use mathlib.Core.Bool.{true, false, not, ◌&&◌}
use mathlib.Core.List.{◌++◌}
use Prim.Native.Nat.{ℕ, ◌<◌}
use lib.Dec.{leb}
use lib.ListN.{length}
use Rattle.scope.specs.Base.{Bytes, Lengths}
use Rattle.scope.specs.Refusals.{rows_of_each, NoneApplies}
use Rattle.scope.specs.Geometry.{plane_count, slice_count, plane_height, first_row, rows_at}
use Rattle.scope.specs.Layout.{plane_index, place_in_plane, is_raw, predictor_of, payload_of, samples_in}
use Rattle.scope.specs.Words.{is_stuck}
use Rattle.scope.specs.Frame as frm
use Rattle.scope.specs.Frame.{length_rows, room_rows, slice_rows, read_rows, table, residues_of, answer_of}
use Rattle.scope.specs.Pieces as pcs
use Rattle.scope.specs.Pieces.{in_order, lent_checks, index_check, room_check, read_check, frame_checks, read_checks, rest_of}
use Rattle.scope.specs.declared.Entry.{Entry}
use Rattle.scope.specs.declared.Geometry.{Geometry}
use Rattle.scope.specs.declared.Place.TheVariants.{Slice, Plane}
use Rattle.scope.specs.Answers.{done}
use Rattle.scope.proofs.Table.{planes_when, in_pieces}
use Rattle.refusals.proofs.None.{none_append}
use Rattle.refusals.proofs.InOrder.{first_passed, then_passed, both_passed, each_passed}
use Rattle.geometry.specs.Sound.{Sound}
use Rattle.incoming.proofs.Refused.{lent_sound}
use Rattle.checks.proofs.Framed.{frame_order}
use Rattle.within.specs.Within.{InPlane, rows_to8, AllBytes}
use Rattle.within.proofs.Within.{table_begins, every_slice_begins_in_its_plane, raw_slice_has_all_its_bytes}

-- what is known once no row applies
pub record Passed (frame : Bytes) (g : Geometry) (lengths : Lengths) : Type 0 where
  pub sound : Sound g
  pub indices : done ≡ in_order (slice_count g) (index_check frame g)
  pub in_plane : (s : ℕ) → s < slice_count g
      → InPlane (plane_height g (plane_index frame g s)) (first_row g (plane_index frame g s) (place_in_plane frame g s)) (rows_at g (plane_index frame g s) (place_in_plane frame g s))
  pub whole : (s : ℕ) → s < slice_count g → is_raw frame g s ≡ true → AllBytes g.depth (samples_in frame g s) (payload_of frame g s)
  pub read : (s : ℕ) → s < slice_count g → is_stuck (residues_of frame g lengths s) ≡ false

-- a slice that passed 15 and 14 as it was read has its residues
unstuck : (frame : Bytes) (g : Geometry) (lengths : Lengths) (s : ℕ) → done ≡ read_check frame g lengths s → is_stuck (residues_of frame g lengths s) ≡ false
unfolding pcs.read_check
unstuck frame g lengths s e =
    (both_passed (not (leb 1 (predictor_of frame g s) && leb (predictor_of frame g s) 3)) (is_stuck (residues_of frame g lengths s)) 15 14 (Slice s) (Plane (plane_index frame g s)) e).1

module _ (which : Entry) (frame : Bytes) (g : Geometry) (lengths : Lengths) (planes_len workspace_len : ℕ)
    (well : answer_of which frame g lengths planes_len workspace_len ≡ done) where
  lent : done ≡ lent_checks which g (length lengths) planes_len
  lent =
      first_passed (lent_checks which g (length lengths) planes_len) (rest_of frame g lengths (room_check g lengths workspace_len))
      (sym well ∙ in_pieces which frame g lengths planes_len workspace_len)

  rest : done ≡ rest_of frame g lengths (room_check g lengths workspace_len)
  rest =
      then_passed (lent_checks which g (length lengths) planes_len) (rest_of frame g lengths (room_check g lengths workspace_len))
      (sym well ∙ in_pieces which frame g lengths planes_len workspace_len)

  framed : done ≡ frame_checks frame g lengths (room_check g lengths workspace_len)
  unfolding pcs.rest_of
  framed = first_passed (frame_checks frame g lengths (room_check g lengths workspace_len)) (read_checks frame g lengths) rest

  reading : done ≡ in_order (slice_count g) (read_check frame g lengths)
  unfolding pcs.rest_of pcs.read_checks
  reading = then_passed (frame_checks frame g lengths (room_check g lengths workspace_len)) (read_checks frame g lengths) rest

  -- no row applies: neither 1 to 8 nor those behind them
  none : NoneApplies (rows_to8 which frame g lengths planes_len)
      × NoneApplies (rows_of_each (plane_count g) (length_rows g lengths) ++ (room_rows g lengths workspace_len ++ (rows_of_each (slice_count g) (slice_rows frame g lengths) ++ rows_of_each (slice_count g) (read_rows frame g lengths))))
  unfolding frm.answer_of
  none =
      none_append (rows_to8 which frame g lengths planes_len) _
      (rw (table_begins which frame g lengths planes_len workspace_len) at ((planes_when (table which frame g lengths planes_len workspace_len)).0 well))

  slices : NoneApplies (rows_of_each (slice_count g) (slice_rows frame g lengths))
  slices = (none_append _ _ (none_append (room_rows g lengths workspace_len) _ (none_append (rows_of_each (plane_count g) (length_rows g lengths)) _ none.1).1).1).0

  -- an answer of planes says all of it
  pub passed : Passed frame g lengths
  passed =
      record {
        sound = lent_sound which g (length lengths) planes_len lent;
        indices = frame_order frame g lengths (room_check g lengths workspace_len) framed;
        in_plane = every_slice_begins_in_its_plane which frame g lengths planes_len none.0;
        whole = raw_slice_has_all_its_bytes frame g lengths slices;
        read = λ s l. unstuck frame g lengths s (each_passed (read_check frame g lengths) (slice_count g) s reading l);
      }
