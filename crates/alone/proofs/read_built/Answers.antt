-- `read_built` reads by a table that is built, and clears (document 01, "Words and lookup").
use mathlib.Core.Path.{sym, ◌∙◌}
use Rattle.alone.proofs.Reading.{read_all, read_stuck}
use borrow.Author.Rules.{rules}
use Rattle.alone.proofs.read_built.Goals as goal

pub returns-then-is_err : goal.returns-then-is_err
returns-then-is_err c = let stuck = sym c.is_err.ensures.value ∙ c.if-is_err.true in search (stuck, read_stuck, rules)

pub returns : goal.returns
returns c = let all = sym c.is_err.ensures.value ∙ c.if-is_err.false in search (all, read_all, rules)
