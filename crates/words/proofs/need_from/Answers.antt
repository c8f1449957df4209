-- `need_from` gives the need from the longest length and S (document 01, "Words and lookup").
use Rattle.std.proofs.Common.{ℕ, ◌+◌, ap, arith, eq-eqb, ne_eqb, le-leb}
use borrow.Author.Tests.{lt-leb}
use Rattle.scope.specs.Words.{need_from}
use Rattle.lists.proofs.Powers.{shl_one}
use Rattle.words.proofs.Weighing.{second_exact}
use Rattle.words.proofs.need_from.Goals as goal

pub returns-then-m-eq0 : goal.returns-then-m-eq0
unfolding need_from
returns-then-m-eq0 c = simp (eq-eqb _ _ c.if-m-eq0.true)

pub returns-then-m-le12 : goal.returns-then-m-le12
unfolding need_from
returns-then-m-le12 c = simp (ne_eqb _ _ c.if-m-eq0.false, le-leb _ _ c.if-m-le12.true) (shl_one 64 c.args.m (omega arith))

pub returns : goal.returns
unfolding need_from
returns c =
    simp (ne_eqb _ _ c.if-m-eq0.false, lt-leb _ _ c.if-m-le12.false)
    (ap (λ (x : ℕ). 4096 + x) (second_exact c.args.m c.args.s c.requires.0 c.requires.1))
