-- Document 01, "Prediction, slice by slice", one row at a time. A row is the places from `start` to before `end` of a list s, and
-- the row f up stands `back` places before it; nothing else of the layout is known here. Assumes nothing.
use Rattle.std.specs.Prelude.{cond, List, ℕ, ◌+◌, ◌-◌, ◌%◌, ◌^◌, ◌≤◌, ◌<◌, ltb, get_or, set}
use Rattle.scope.specs.Base.{Step}
use Rattle.scope.specs.Prediction.{predictor}
use Rattle.memory.specs.Loop.{swept}

-- "add the left sample across"
abbrev pub leftward : ℕ → Step
leftward depth i before residue = (residue + get_or before (i - 1) 0) % 2 ^ depth

-- "the predictor of left, top (f rows up) and top-left", past column 0
abbrev pub across : ℕ → (ℕ → ℕ → ℕ → ℕ) → ℕ → Step
across depth predict back i before residue =
    (residue + predict (get_or before (i - 1) 0) (get_or before (i - back) 0) (get_or before (i - back - 1) 0)) % 2 ^ depth

-- a row whose column 0 adds `above`, and whose other columns go by a step
unfoldable pub row_from : ℕ → ℕ → Step → List ℕ → ℕ → ℕ → List ℕ
row_from depth above step s start end =
    swept step (set s start ((get_or s start 0 + above) % 2 ^ depth)) (start + 1) (end - (start + 1))

-- "the first min(f, rows) rows start from their own first residue and add the left sample across"
abbrev pub top_row : ℕ → List ℕ → ℕ → ℕ → List ℕ
top_row depth s start end = row_from depth 0 (leftward depth) s start end

-- "Later rows add, in column 0, the sample f rows up; then the predictor"
abbrev pub later_row : ℕ → ℕ → ℕ → List ℕ → ℕ → ℕ → List ℕ
later_row depth kind back s start end =
    row_from depth (get_or s (start - back) 0) (across depth (predictor depth kind) back) s start end

-- a row of either sort
unfoldable pub row : ℕ → ℕ → ℕ → List ℕ → ℕ → ℕ → List ℕ
row depth kind back s start end =
    let first : List ℕ = top_row depth s start end in
    let later : List ℕ = later_row depth kind back s start end in
    cond (ltb start back) first later

-- the samples `back` places before start - 1 and on to end - 1 are below 2^depth: those of the row f up, from the top-left of
-- `start` on
pub record Above (depth back : ℕ) (s : List ℕ) (start end : ℕ) : Type 0 where
  pub below : (j : ℕ) → start ≤ j + back + 1 → j + back < end → get_or s j 0 < 2 ^ depth
