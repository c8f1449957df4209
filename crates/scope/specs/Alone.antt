-- Document 01, "Words and lookup": a table built by itself, and a reading by itself. ls is the one plane's lengths, "called
-- plane 0". Assumes nothing.
use Rattle.std.specs.Prelude.{◌≡◌, ℕ, List, [], ◌∷◌, ◌++◌, length, drop, ltb}
use Rattle.scope.specs.Base.{Bytes, Lengths, Samples, Words, zeros}
use Rattle.scope.specs.Refusals.{Row, row, first_of, left_alone}
use Rattle.scope.specs.Words.{too_long, overfull, need, chain, is_stuck, symbols_of}
use Rattle.scope.specs.Lookup.{table_of}
use Rattle.scope.specs.declared.Place.TheVariants.{Plane, Nothing}
use Rattle.scope.specs.Answers.{Answer}

-- "A table built by itself is refused for more than 16,384 lengths by 4, then by 9, 10 and 11 as above for that one plane"
abbrev pub build_rows : (ls : Lengths) (workspace_len : ℕ) → List Row
build_rows ls workspace_len =
    row 4 Nothing (ltb 16384 (length ls))
    ∷ row 9 (Plane 0) (too_long ls)
    ∷ row 10 (Plane 0) (overfull ls)
    ∷ row 11 Nothing (ltb workspace_len (need ls))
    ∷ []

unfoldable pub build_answer : (ls : Lengths) (workspace_len : ℕ) → Answer
build_answer ls workspace_len = first_of (build_rows ls workspace_len)

-- "and each leaves the workspace as found. Success leaves the words past the need as found; the statement fixes the words
-- within it."
unfoldable pub workspace_built : (ls : Lengths) (workspace : Words) → Words
workspace_built ls workspace =
    left_alone (build_answer ls (length workspace)) workspace (zeros workspace) (table_of ls ++ drop (need ls) workspace)

-- the statement of a table built by itself
pub record BuiltAlone (ls : Lengths) (workspace₀ : Words) (r : Answer) (workspace₁ : Words) : Type 0 where
  pub answer : r ≡ build_answer ls (length workspace₀)
  pub workspace : workspace₁ ≡ workspace_built ls workspace₀

-- "A reading by itself .. builds first, with those refusals, and 4 also for more than 268,435,456 samples .. then it reads, with
-- no slice checks. A failed word gives 14 (plane 0 ..)": of n samples; "For n = 0 it succeeds once the table is built." Both 4's are one row of document 01's table, "Checked in this
-- order", so a buffer that is too large is refused before the lengths are looked at, whatever they are.
abbrev pub read_rows_alone : (ls : Lengths) (payload : Bytes) (n workspace_len : ℕ) → List Row
read_rows_alone ls payload n workspace_len =
    row 4 Nothing (ltb 268435456 n)
    ∷ build_rows ls workspace_len
    ++ row 14 (Plane 0) (is_stuck (chain ls payload 0 n))
    ∷ []

unfoldable pub read_answer : (ls : Lengths) (payload : Bytes) (n workspace_len : ℕ) → Answer
read_answer ls payload n workspace_len = first_of (read_rows_alone ls payload n workspace_len)

-- The refusals before the reading "leave buffer and workspace as found"; 14 "leaves both wholly zero; success leaves the
-- workspace zero", and the samples are the symbols of the chain.
unfoldable pub samples_read : (ls : Lengths) (payload : Bytes) (samples : Samples) (workspace_len : ℕ) → Samples
samples_read ls payload samples workspace_len =
    left_alone (read_answer ls payload (length samples) workspace_len) samples (zeros samples) (symbols_of (chain ls payload 0 (length samples)))

unfoldable pub workspace_read : (ls : Lengths) (payload : Bytes) (n : ℕ) (workspace : Words) → Words
workspace_read ls payload n workspace =
    left_alone (read_answer ls payload n (length workspace)) workspace (zeros workspace) (zeros workspace)

-- the statement of a reading by itself
pub record ReadAlone (ls : Lengths) (payload : Bytes) (workspace₀ : Words) (samples₀ : Samples) (r : Answer) (workspace₁ : Words) (samples₁ : Samples) : Type 0 where
  pub answer : r ≡ read_answer ls payload (length samples₀) (length workspace₀)
  pub samples : samples₁ ≡ samples_read ls payload samples₀ (length workspace₀)
  pub workspace : workspace₁ ≡ workspace_read ls payload (length samples₀) workspace₀
