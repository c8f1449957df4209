-- Document 01, "What every public statement settles": any two outcomes that a public function's statement allows are equal. `Post`
-- is the plain reading that Rattle itself makes of the `ensures` clauses of src/, so these are about the contracts and about
-- nothing that restates them. Assumes nothing.
use mathlib.Core.Path.{sym, ◌∙◌}
use contract.Lifetimes.{Lfts}
use Rattle.lists.specs.Settled.{Settles}
use borrow.Fn.World.{ArgsD}
use Rattle.preamble.specs.contracts.check_layout as check_layout
use Rattle.preamble.proofs.check_layout.Reads as check_layout_reads

pub check_layout_once : (κs : Lfts 1) (a : ArgsD check_layout.signature κs) → Settles (check_layout_reads.Post κs a)
check_layout_once κs a r₁ r₂ s₁ s₂ p q = p ∙ sym q
