-- Document 01, "Each carries its place: a slice, a plane, or nothing": the places of a decode's answers are small, so that they
-- cross the host's boundary as 32-bit numbers. Assumes nothing.
use mathlib.Core.Path.{◌≡◌, sym, ◌∙◌}
use Prim.Native.Nat.{ℕ, ◌≤◌, ◌<◌}
use mathlib.Core.List.{List}
use native.Mathlib.Omega.{arith}
use lib.ListN.{length}
use Rattle.scope.specs.Refusals.{place_number, ◌and_then◌}
use Rattle.scope.specs.Geometry.{planes_of, slice_count}
use Rattle.scope.specs.Frame.{answer_of}
use Rattle.scope.specs.declared.Family.{Family}
use Rattle.scope.specs.declared.Family.TheVariants.{Gray, Rgb, Yuv, Rgba, Yuva}
use Rattle.scope.specs.declared.Geometry.{Geometry}
use Rattle.scope.specs.declared.Place.{Place}
use Rattle.scope.specs.Answers.{Answer, done, refused}
use Rattle.scope.specs.Pieces.{room_check, lent_checks, rest_of}
use Rattle.scope.specs.declared.Entry.{Entry}
use Rattle.scope.proofs.Table.{in_pieces}
use Rattle.refusals.specs.Rows.{FrameRows}
use Rattle.refusals.proofs.Rows.{every_next, every_lent, every_rest, every_refused}

abbrev Small : ℕ → Place → Type 0
Small n p = place_number p < 65536

four_planes : (f : Family) → planes_of f ≤ 4
four_planes Gray = omega arith
four_planes Rgb = omega arith
four_planes Yuv = omega arith
four_planes Rgba = omega arith
four_planes Yuva = omega arith

-- a refusal's slice is below T, which is at most 65,536 once refusals 1 to 3 have passed, and its plane is below P
pub place_small : (which : Entry) (frame : List ℕ) (g : Geometry) (lengths : List ℕ) (planes w : ℕ) → (done ≡ lent_checks which g (length lengths) planes → slice_count g ≤ 65536) → (a : Answer) (n : ℕ) (p : Place) → a ≡ answer_of which frame g lengths planes w → a ≡ refused n p → place_number p < 65536
place_small which frame g lengths planes w few a n p ea h =
    every_refused Small (lent_checks which g (length lengths) planes and_then rest_of frame g lengths (room_check g lengths w)) n p
    (every_next Small (lent_checks which g (length lengths) planes) (rest_of frame g lengths (room_check g lengths w))
    (every_lent Small which g (length lengths) planes (record { row1 = omega arith; row2 = omega arith; row3 = omega arith; row4 = omega arith }))
    (λ e. every_rest Small frame g lengths (rows (few e)) w))
    (sym (in_pieces which frame g lengths planes w) ∙ sym ea ∙ h)
  where
    rows : slice_count g ≤ 65536 → FrameRows Small frame g
    rows t =
        record {
          row5 = omega arith;
          row6 = omega arith;
          row7 = omega arith;
          row8 = λ s l. omega (arith, l, t);
          row9 = λ q l. omega (arith, l, four_planes g.family);
          row10 = λ q l. omega (arith, l, four_planes g.family);
          row11 = omega arith;
          row12 = λ s l. omega (arith, l, t);
          row13 = λ s l. omega (arith, l, t);
          row14 = λ s l i. omega (arith, i, four_planes g.family);
          row15 = λ s l. omega (arith, l, t);
        }
