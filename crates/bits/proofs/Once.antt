-- Document 01, "What every public statement settles": any two outcomes that a public function's statement allows are equal. `Post`
-- is the plain reading that Rattle itself makes of the `ensures` clauses of src/, so these are about the contracts and about
-- nothing that restates them. Assumes nothing.
use mathlib.Core.Path.{◌≡◌, sym, ◌∙◌}
use contract.Lifetimes.{Lfts}
use borrow.Fn.World.{ArgsD, ResD}
use denote.Triple.Clauses.{AtExit}
use Rattle.bits.specs.contracts.eight as eight
use Rattle.bits.proofs.eight.Reads as eight_reads
use Rattle.bits.specs.contracts.peek as peek
use Rattle.bits.proofs.peek.Reads as peek_reads
use Rattle.bits.specs.contracts.power as power
use Rattle.bits.proofs.power.Reads as power_reads

pub eight_once : (κs : Lfts 1) (a : ArgsD eight.signature κs) (r₁ r₂ : ResD eight.signature κs) (s₁ s₂ : AtExit eight.ended κs)
    → eight_reads.Post κs a r₁ s₁ → eight_reads.Post κs a r₂ s₂ → r₁ ≡ r₂
eight_once κs a r₁ r₂ s₁ s₂ p q = p ∙ sym q

pub peek_once : (κs : Lfts 1) (a : ArgsD peek.signature κs) (r₁ r₂ : ResD peek.signature κs) (s₁ s₂ : AtExit peek.ended κs)
    → peek_reads.Post κs a r₁ s₁ → peek_reads.Post κs a r₂ s₂ → r₁ ≡ r₂
peek_once κs a r₁ r₂ s₁ s₂ p q = p ∙ sym q

pub power_once : (κs : Lfts 0) (a : ArgsD power.signature κs) (r₁ r₂ : ResD power.signature κs) (s₁ s₂ : AtExit power.ended κs)
    → power_reads.Post κs a r₁ s₁ → power_reads.Post κs a r₂ s₂ → r₁ ≡ r₂
power_once κs a r₁ r₂ s₁ s₂ p q = p ∙ sym q
