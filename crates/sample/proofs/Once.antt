-- Any two outcomes that a public function's statement allows are equal: here the methods of each width. `Post` is the plain reading that
-- Rattle itself makes of the `ensures` clauses of src/, so these theorems are about the contracts. Document 01, "What every public statement
-- settles". Assumes nothing.
use Rattle.std.proofs.Common.{◌≡◌, sym, ◌∙◌}
use contract.Lifetimes.{Lfts}
use borrow.Fn.World.{ArgsD, ResD}
use denote.Triple.Clauses.{AtExit}
use Rattle.sample.specs.contracts.U8Sample.of as of8
use Rattle.sample.proofs.U8Sample.of.Reads as of8_reads
use Rattle.sample.specs.contracts.U8Sample.sum as sum8
use Rattle.sample.proofs.U8Sample.sum.Reads as sum8_reads
use Rattle.sample.specs.contracts.U16Sample.of as of16
use Rattle.sample.proofs.U16Sample.of.Reads as of16_reads
use Rattle.sample.specs.contracts.U16Sample.sum as sum16
use Rattle.sample.proofs.U16Sample.sum.Reads as sum16_reads

pub of8_once : (κs : Lfts 0) (a : ArgsD of8.signature κs) (r₁ r₂ : ResD of8.signature κs) (s₁ s₂ : AtExit of8.ended κs)
    → of8_reads.Post κs a r₁ s₁ → of8_reads.Post κs a r₂ s₂ → r₁ ≡ r₂
of8_once κs a r₁ r₂ s₁ s₂ p q = p ∙ sym q

pub of16_once : (κs : Lfts 0) (a : ArgsD of16.signature κs) (r₁ r₂ : ResD of16.signature κs) (s₁ s₂ : AtExit of16.ended κs)
    → of16_reads.Post κs a r₁ s₁ → of16_reads.Post κs a r₂ s₂ → r₁ ≡ r₂
of16_once κs a r₁ r₂ s₁ s₂ p q = p ∙ sym q

pub sum8_once : (κs : Lfts 0) (a : ArgsD sum8.signature κs) (r₁ r₂ : ResD sum8.signature κs) (s₁ s₂ : AtExit sum8.ended κs)
    → sum8_reads.Post κs a r₁ s₁ → sum8_reads.Post κs a r₂ s₂ → r₁ ≡ r₂
sum8_once κs a r₁ r₂ s₁ s₂ p q = p ∙ sym q

pub sum16_once : (κs : Lfts 0) (a : ArgsD sum16.signature κs) (r₁ r₂ : ResD sum16.signature κs) (s₁ s₂ : AtExit sum16.ended κs)
    → sum16_reads.Post κs a r₁ s₁ → sum16_reads.Post κs a r₂ s₂ → r₁ ≡ r₂
sum16_once κs a r₁ r₂ s₁ s₂ p q = p ∙ sym q
