-- Any two outcomes that a public function's statement allows are equal. `Post` is the plain reading that Rattle itself makes of
-- the `ensures` clauses of src/, so these theorems are about the contracts. Document 01, "What every public statement settles".
-- Assumes nothing.
use Rattle.std.proofs.Common.{◌≡◌, sym, ◌∙◌}
use contract.Lifetimes.{Lfts}
use borrow.Fn.World.{ArgsD, ResD}
use denote.Triple.Clauses.{AtExit}
use Rattle.memory.specs.contracts.clear_u32 as clear_u32
use Rattle.memory.proofs.clear_u32.Reads as clear_u32_reads
use Rattle.memory.specs.contracts.sum_u8 as sum_u8
use Rattle.memory.proofs.sum_u8.Reads as sum_u8_reads
use Rattle.memory.specs.contracts.sum_u16 as sum_u16
use Rattle.memory.proofs.sum_u16.Reads as sum_u16_reads

pub clear_u32_once : (κs : Lfts 1) (a : ArgsD clear_u32.signature κs) (r₁ r₂ : ResD clear_u32.signature κs) (s₁ s₂ : AtExit clear_u32.ended κs)
    → clear_u32_reads.Post κs a r₁ s₁ → clear_u32_reads.Post κs a r₂ s₂ → s₁.0.now ≡ s₂.0.now
clear_u32_once κs a r₁ r₂ s₁ s₂ p q = p ∙ sym q

pub sum_u8_once : (κs : Lfts 0) (a : ArgsD sum_u8.signature κs) (r₁ r₂ : ResD sum_u8.signature κs) (s₁ s₂ : AtExit sum_u8.ended κs)
    → sum_u8_reads.Post κs a r₁ s₁ → sum_u8_reads.Post κs a r₂ s₂ → r₁ ≡ r₂
sum_u8_once κs a r₁ r₂ s₁ s₂ p q = p ∙ sym q

pub sum_u16_once : (κs : Lfts 0) (a : ArgsD sum_u16.signature κs) (r₁ r₂ : ResD sum_u16.signature κs) (s₁ s₂ : AtExit sum_u16.ended κs)
    → sum_u16_reads.Post κs a r₁ s₁ → sum_u16_reads.Post κs a r₂ s₂ → r₁ ≡ r₂
sum_u16_once κs a r₁ r₂ s₁ s₂ p q = p ∙ sym q
