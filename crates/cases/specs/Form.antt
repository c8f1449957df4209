-- The form of a stored case (host/README.md, "The stored list"): where its numbers and parts stand, and the lengths that its runs
-- spell. Assumes nothing.
use Rattle.std.specs.Prelude.{ℕ, zero, suc, ◌+◌, ◌*◌, ◌/◌, ◌%◌, cond, List, length, ltb, leb}
use Rattle.scope.specs.Base.{one}
use Rattle.scope.specs.Layout.{le32}
use Rattle.cases.specs.declared.Shape.{Shape}
use Rattle.cases.specs.declared.Told.{Told}
use Rattle.cases.specs.declared.Case.{Case}

unfoldable pub shape_of : List ℕ → Shape
shape_of case =
    record {
      width = le32 case 4;
      height = le32 case 8;
      slice_height = le32 case 12;
      family = le32 case 16;
      sx = le32 case 20;
      sy = le32 case 24;
      depth = le32 case 28;
      interlaced = le32 case 32;
    }

unfoldable pub stored_of : List ℕ → Told
stored_of case = record { number = le32 case 48; kind = le32 case 52; place = le32 case 56 }

-- nineteen numbers, the last of which is not read; then the runs, what the planes must hold afterwards, and the frame, of so many bytes each
unfoldable pub case_of : List ℕ → Case
case_of case =
    record {
      entry = le32 case 0;
      shape = shape_of case;
      words = le32 case 36;
      samples = le32 case 40;
      lengths = le32 case 44;
      stored = stored_of case;
      after = 76 + le32 case 60;
      frame = 76 + le32 case 60 + le32 case 64;
      end = 76 + le32 case 60 + le32 case 64 + le32 case 68;
    }

-- run k: 256 times the place after its last, and its length; past the last run 0
unfoldable pub run_of : List ℕ → ℕ → ℕ
run_of runs k = cond (ltb k (length runs / 4)) (le32 runs (4 * k)) 0

-- the run that place i is in
unfoldable pub run_at : List ℕ → ℕ → ℕ
run_at runs zero = 0
run_at runs (suc i) = run_at runs i + one (leb (run_of runs (run_at runs i) / 256) (suc i))

-- and its length
unfoldable pub length_at : List ℕ → ℕ → ℕ
length_at runs i = run_of runs (run_at runs i) % 256
