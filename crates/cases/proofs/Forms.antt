-- A case's numbers, and the run that a place is in, as src/lib.rt finds them. Assumes nothing.
use mathlib.Core.Path.{◌≡◌, refl}
use Prim.Native.Nat.{ℕ, ◌+◌, ◌*◌, ◌/◌, ◌%◌, ◌≤◌, ◌<◌}
use native.Mathlib.Numerals.{add-one}
use mathlib.Core.List.{List}
use borrow.Author.Rules.{rules}
use borrow.Author.Tests.{lt-ltb, le-ltb}
use lib.Dec.{leb}
use lib.ListN.{length}
use Rattle.scope.specs.Base.{one}
use Rattle.scope.specs.Layout.{le32}
use Rattle.cases.specs.Form as form
use Rattle.cases.specs.declared.Shape.{Shape}
use Rattle.cases.specs.declared.Told.{Told}
use Rattle.cases.specs.declared.Case.{Case}
use Rattle.cases.specs.Form.{shape_of, stored_of, case_of, run_of, run_at, length_at}
use Rattle.cases.proofs.Placing.{placing}

-- ---- a case's numbers

abbrev told : ℕ → ℕ → ℕ → Told
told n k p = record { number = n; kind = k; place = p }

abbrev shape : ℕ → ℕ → ℕ → ℕ → ℕ → ℕ → ℕ → ℕ → Shape
shape w h sh f sx sy d i =
    record { width = w; height = h; slice_height = sh; family = f; sx = sx; sy = sy; depth = d; interlaced = i }

abbrev numbers : ℕ → Shape → ℕ → ℕ → ℕ → Told → ℕ → ℕ → ℕ → Case
numbers e g w n l t a f z =
    record { entry = e; shape = g; words = w; samples = n; lengths = l; stored = t; after = a; frame = f; end = z }

module _ (case : List ℕ) where
  pub stored_is : (n k p : ℕ) → n ≡ le32 case 48 → k ≡ le32 case 52 → p ≡ le32 case 56 → told n k p ≡ stored_of case
  unfolding form.stored_of
  stored_is n k p en ek ep = rw (en, ek, ep)

  pub shape_is : (w h sh f sx sy d i : ℕ) → w ≡ le32 case 4 → h ≡ le32 case 8 → sh ≡ le32 case 12 → f ≡ le32 case 16
      → sx ≡ le32 case 20 → sy ≡ le32 case 24 → d ≡ le32 case 28 → i ≡ le32 case 32 → shape w h sh f sx sy d i ≡ shape_of case
  unfolding form.shape_of
  shape_is w h sh f sx sy d i ew eh esh ef ex ey ed ei = rw (ew, eh, esh, ef, ex, ey, ed, ei)

  pub case_is : (t : Told) (g : Shape) (e w n l a f z : ℕ) → t ≡ stored_of case → g ≡ shape_of case → e ≡ le32 case 0 → w ≡ le32 case 36
      → n ≡ le32 case 40 → l ≡ le32 case 44 → a ≡ le32 case 60 → f ≡ le32 case 64 → z ≡ le32 case 68
      → numbers e g w n l t (76 + a) (76 + a + f) (76 + a + f + z) ≡ case_of case
  unfolding form.case_of
  case_is t g e w n l a f z et eg ee ew en el ea ef ez = rw (et, eg, ee, ew, en, el, ea, ef, ez)

-- ---- a run

module _ (runs : List ℕ) (k : ℕ) where
  pub run_in : (w : ℕ) → k < length runs / 4 → w ≡ le32 runs (4 * k) → w ≡ run_of runs k
  unfolding form.run_of
  run_in w h e = rw (lt-ltb k (length runs / 4) h) e

  pub run_past : length runs / 4 ≤ k → 0 ≡ run_of runs k
  unfolding form.run_of
  run_past h = rw (le-ltb k (length runs / 4) h)

-- ---- the run that a place is in

pub run_start : (runs : List ℕ) → 0 ≡ run_at runs 0
unfolding form.run_at
run_start runs = refl

module _ (runs : List ℕ) (i k w : ℕ) (e : k ≡ run_at runs i) (d : w ≡ run_of runs k) where
  pub run_next : (o : ℕ) → o ≡ one (leb (w / 256) (i + 1)) → k + o ≡ run_at runs (i + 1)
  unfolding form.run_at
  run_next o h = rw (add-one, ← e, ← d, ← add-one i, ← h)

  pub length_is : w % 256 ≡ length_at runs i
  unfolding form.length_at
  length_is = rw (← e, ← d)

pub ruleset runs = (run_in, run_past, rules)

pub ruleset spreading = (run_start, run_next, length_is, placing)
