-- Where the tables of a frame's planes stand in the workspace: one after another, in wire order. Assumes nothing.
use Rattle.std.specs.Prelude.{◌≡◌, List, [], ◌++◌, ℕ, zero, suc, ◌≤◌, ◌<◌, length, drop}
use Rattle.scope.specs.Base.{sum_below}
use Rattle.scope.specs.Geometry.{plane_count, lengths_of}
use Rattle.scope.specs.Words.{need}
use Rattle.scope.specs.Lookup.{table_of}
use Rattle.scope.specs.Frame.{need_of_all}
use Rattle.scope.specs.declared.Geometry.{Geometry}
use Rattle.lists.specs.Parts.{part}

module _ (g : Geometry) (lengths : List ℕ) where
  -- plane p's need
  abbrev pub plane_need : ℕ → ℕ
  plane_need p = need (lengths_of g lengths p)

  -- where plane p's table starts: after those of the planes before it
  unfoldable pub table_start : ℕ → ℕ
  table_start p = sum_below p plane_need

  -- the tables of the planes below n, one after another
  unfoldable pub tables_up_to : ℕ → List ℕ
  tables_up_to zero = []
  tables_up_to (suc p) = tables_up_to p ++ table_of (lengths_of g lengths p)

  -- what building them all leaves in the workspace: the tables from its front on, and behind them the words as found
  unfoldable pub with_tables : List ℕ → List ℕ
  with_tables workspace = tables_up_to (plane_count g) ++ drop (need_of_all g lengths) workspace

  -- each plane's table stands in its stretch of the workspace
  pub record Tables (workspace : List ℕ) : Type 0 where
    pub each : (p : ℕ) → p < plane_count g → part workspace (table_start p) (plane_need p) ≡ table_of (lengths_of g lengths p)
    pub room : need_of_all g lengths ≤ length workspace
