-- Document 01, "What every public statement settles": any two outcomes that a public function's statement allows are equal. `Post`
-- is the plain reading that Rattle itself makes of the `ensures` clauses of src/, so these are about the contracts and about
-- nothing that restates them. Assumes nothing.
use Rattle.std.proofs.Common.{◌≡◌, sym, ◌∙◌}
use contract.Lifetimes.{Lfts}
use borrow.Fn.World.{ArgsD, ResD}
use denote.Triple.Clauses.{AtExit}
use Rattle.words.specs.contracts.firsts as firsts
use Rattle.words.proofs.firsts.Reads as firsts_reads
use Rattle.words.specs.contracts.weigh as weigh
use Rattle.words.proofs.weigh.Reads as weigh_reads

pub firsts_once : (κs : Lfts 1) (a : ArgsD firsts.signature κs) (r₁ r₂ : ResD firsts.signature κs) (s₁ s₂ : AtExit firsts.ended κs)
    → firsts_reads.Post κs a r₁ s₁ → firsts_reads.Post κs a r₂ s₂ → r₁ ≡ r₂
firsts_once κs a r₁ r₂ s₁ s₂ p q = p ∙ sym q

pub weigh_once : (κs : Lfts 1) (a : ArgsD weigh.signature κs) (r₁ r₂ : ResD weigh.signature κs) (s₁ s₂ : AtExit weigh.ended κs)
    → weigh_reads.Post κs a r₁ s₁ → weigh_reads.Post κs a r₂ s₂ → r₁ ≡ r₂
weigh_once κs a r₁ r₂ s₁ s₂ p q = p ∙ sym q
