-- Document 01, "What every public statement settles": any two outcomes that a public function's statement allows are equal. `Post`
-- is the plain reading that Rattle itself makes of the `ensures` clauses of src/, so these are about the contracts and about
-- nothing that restates them. Assumes nothing.
use mathlib.Core.Path.{sym, ◌∙◌}
use contract.Lifetimes.{Lfts}
use Rattle.lists.specs.Settled.{Settles}
use borrow.Fn.World.{ArgsD}
use Rattle.incoming.specs.contracts.lent_checks as lent_checks
use Rattle.incoming.proofs.lent_checks.Reads as lent_checks_reads

pub lent_checks_once : (κs : Lfts 0) (a : ArgsD lent_checks.signature κs) → Settles (lent_checks_reads.Post κs a)
lent_checks_once κs a r₁ r₂ s₁ s₂ p q = p ∙ sym q
