-- Document 01, "What every public statement settles": any two outcomes that a public function's statement allows are equal. `Post`
-- is the plain reading that Rattle itself makes of the `ensures` clauses of src/, so these are about the contracts and about
-- nothing that restates them. Assumes nothing.
use mathlib.Core.Path.{sym, ◌∙◌}
use contract.Lifetimes.{Lfts}
use Rattle.lists.specs.Settled.{Settles}
use borrow.Fn.World.{ArgsD}
use Rattle.stretches.specs.contracts.all_elements as all_elements
use Rattle.stretches.proofs.all_elements.Reads as all_elements_reads
use Rattle.stretches.specs.contracts.stretch_of as stretch_of
use Rattle.stretches.proofs.stretch_of.Reads as stretch_of_reads

pub all_elements_once : (κs : Lfts 0) (a : ArgsD all_elements.signature κs) → Settles (all_elements_reads.Post κs a)
all_elements_once κs a r₁ r₂ s₁ s₂ p q = p.0 ∙ sym q.0

pub stretch_of_once : (κs : Lfts 0) (a : ArgsD stretch_of.signature κs) → Settles (stretch_of_reads.Post κs a)
stretch_of_once κs a r₁ r₂ s₁ s₂ p q = p.0 ∙ sym q.0
