-- Any two outcomes that a public function's statement allows are equal. `Post` is the plain reading that Rattle itself makes of
-- the `ensures` clauses of src/, so these theorems are about the contracts. Document 01, "What every public statement settles".
-- Assumes nothing.
use Rattle.std.proofs.Common.{◌≡◌, sym, ◌∙◌}
use contract.Lifetimes.{Lfts}
use borrow.Fn.World.{ArgsD, ResD}
use denote.Triple.Clauses.{AtExit}
use Rattle.rows8.specs.contracts.left_row_u8 as left_row_u8
use Rattle.rows8.proofs.left_row_u8.Reads as left_row_u8_reads
use Rattle.rows8.specs.contracts.gradient_row_u8 as gradient_row_u8
use Rattle.rows8.proofs.gradient_row_u8.Reads as gradient_row_u8_reads
use Rattle.rows8.specs.contracts.median_row_u8 as median_row_u8
use Rattle.rows8.proofs.median_row_u8.Reads as median_row_u8_reads

pub left_row_u8_once : (κs : Lfts 1) (a : ArgsD left_row_u8.signature κs) (r₁ r₂ : ResD left_row_u8.signature κs) (s₁ s₂ : AtExit left_row_u8.ended κs)
    → left_row_u8_reads.Post κs a r₁ s₁ → left_row_u8_reads.Post κs a r₂ s₂ → s₁.0.now ≡ s₂.0.now
left_row_u8_once κs a r₁ r₂ s₁ s₂ p q = p ∙ sym q

pub gradient_row_u8_once : (κs : Lfts 1) (a : ArgsD gradient_row_u8.signature κs) (r₁ r₂ : ResD gradient_row_u8.signature κs) (s₁ s₂ : AtExit gradient_row_u8.ended κs)
    → gradient_row_u8_reads.Post κs a r₁ s₁ → gradient_row_u8_reads.Post κs a r₂ s₂ → s₁.0.now ≡ s₂.0.now
gradient_row_u8_once κs a r₁ r₂ s₁ s₂ p q = p ∙ sym q

pub median_row_u8_once : (κs : Lfts 1) (a : ArgsD median_row_u8.signature κs) (r₁ r₂ : ResD median_row_u8.signature κs) (s₁ s₂ : AtExit median_row_u8.ended κs)
    → median_row_u8_reads.Post κs a r₁ s₁ → median_row_u8_reads.Post κs a r₂ s₂ → s₁.0.now ≡ s₂.0.now
median_row_u8_once κs a r₁ r₂ s₁ s₂ p q = p ∙ sym q
