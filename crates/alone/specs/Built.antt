-- What building a table by itself gives a reading, and what a reading by a table answers and leaves (document 01, "Words and
-- lookup"). Assumes nothing.
use Rattle.std.specs.Prelude.{◌≡◌, ℕ, List, length, Result, Ok, Err}
use Rattle.scope.specs.Base.{zeros}
use Rattle.scope.specs.Refusals.{left_alone}
use Rattle.scope.specs.Words.{longest, chain_by, symbols_of}
use Rattle.scope.specs.Alone.{build_answer, workspace_built}
use Rattle.scope.specs.Found.{Found}
use Rattle.scope.specs.Answers.{Answer}
use Rattle.scope.specs.declared.Refusal.{Refusal}
use Rattle.scope.specs.Pieces.{readable}

-- an answer, with the longest length m beside success
unfoldable pub built_by : Answer → ℕ → Result ℕ Refusal
built_by (Ok _) m = Ok m
built_by (Err why) m = Err why

-- the answer of a table built by itself, with the longest length, and the workspace
pub record BuiltTable (ls workspace₀ : List ℕ) (r : Result ℕ Refusal) (workspace₁ : List ℕ) : Type 0 where
  pub answer : r ≡ built_by (build_answer ls (length workspace₀)) (longest ls)
  pub workspace : workspace₁ ≡ workspace_built ls workspace₀

-- A reading by any way to look a word up: the answer is that of the chain, the workspace is wholly zero, and the samples are the
-- chain's symbols, or wholly zero.
pub record TableRead (look : ℕ → Found) (workspace₀ samples₀ : List ℕ) (r : Answer) (workspace₁ samples₁ : List ℕ) : Type 0 where
  pub answer : r ≡ readable 0 (chain_by look 0 (length samples₀))
  pub samples : samples₁ ≡ left_alone (readable 0 (chain_by look 0 (length samples₀))) samples₀ (zeros samples₀) (symbols_of (chain_by look 0 (length samples₀)))
  pub workspace : workspace₁ ≡ zeros workspace₀
