-- Rows added to later rows, one after another: the loop as a function. What it does to the samples stands in proofs/Adding.antt. Document 01,
-- "B and R are B'+G and R'+G modulo 2^depth". Assumes nothing.
use Rattle.std.specs.Prelude.{◌≡◌, List, ℕ, zero, suc, ◌+◌, ◌*◌, ◌≤◌}
use Rattle.scope.specs.Prediction.{plus}
use Rattle.lists.specs.Parts.{part, replaced}
use Rattle.views.specs.declared.Stretch.{Stretch}

-- the w samples from `from` on are added to the w from `to` on
abbrev pub added_row : ℕ → ℕ → ℕ → ℕ → List ℕ → List ℕ
added_row depth from to w s = replaced s to w (plus depth (part s to w) (part s from w))

-- so many rows of a width w: row r stands r * fp past `from`, and the one that it is added to r * tp past `to`
unfoldable pub added_rows : ℕ → ℕ → ℕ → ℕ → ℕ → ℕ → ℕ → List ℕ → List ℕ
added_rows depth from fp to tp w zero s = s
added_rows depth from fp to tp w (suc r) s = added_row depth (from + r * fp) (to + r * tp) w (added_rows depth from fp to tp w r s)

-- two stretches of as many rows of one width: the first ends before the second begins, and both lie within the buffer
pub record Apart (len : ℕ) (from to : Stretch) : Type 0 where
  pub as_wide : from.width ≡ to.width
  pub as_many : from.rows ≡ to.rows
  pub wide : to.width ≤ from.pitch
  pub wide_to : to.width ≤ to.pitch
  pub before : from.at + to.rows * from.pitch ≤ to.at
  pub inside : to.at + to.rows * to.pitch ≤ len
