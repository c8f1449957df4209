-- Document 01, "What every public statement settles": any two outcomes that a public function's statement allows are equal. `Post`
-- is the plain reading that Rattle itself makes of the `ensures` clauses of src/, so these are about the contracts and about
-- nothing that restates them. Assumes nothing.
use mathlib.Core.Path.{◌≡◌, sym, ◌∙◌}
use contract.Lifetimes.{Lfts}
use borrow.Fn.World.{ArgsD, ResD}
use denote.Triple.Clauses.{AtExit}
use Rattle.raw.specs.contracts.raw_u8 as raw_u8
use Rattle.raw.proofs.raw_u8.Reads as raw_u8_reads
use Rattle.raw.specs.contracts.raw_u16 as raw_u16
use Rattle.raw.proofs.raw_u16.Reads as raw_u16_reads
use Rattle.raw.specs.contracts.U8ReadRaw.read_raw as raw8
use Rattle.raw.proofs.U8ReadRaw.read_raw.Reads as raw8_reads
use Rattle.raw.specs.contracts.U16ReadRaw.read_raw as raw16
use Rattle.raw.proofs.U16ReadRaw.read_raw.Reads as raw16_reads

-- the outcome is what the lent buffer then holds
pub raw_u8_once : (κs : Lfts 2) (a : ArgsD raw_u8.signature κs) (r₁ r₂ : ResD raw_u8.signature κs) (s₁ s₂ : AtExit raw_u8.ended κs)
    → raw_u8_reads.Post κs a r₁ s₁ → raw_u8_reads.Post κs a r₂ s₂ → s₁.1.1.1.0.now ≡ s₂.1.1.1.0.now
raw_u8_once κs a r₁ r₂ s₁ s₂ p q = p ∙ sym q

pub raw_u16_once : (κs : Lfts 2) (a : ArgsD raw_u16.signature κs) (r₁ r₂ : ResD raw_u16.signature κs) (s₁ s₂ : AtExit raw_u16.ended κs)
    → raw_u16_reads.Post κs a r₁ s₁ → raw_u16_reads.Post κs a r₂ s₂ → s₁.1.1.1.0.now ≡ s₂.1.1.1.0.now
raw_u16_once κs a r₁ r₂ s₁ s₂ p q = p ∙ sym q

-- the reading of each width
pub raw8_once : (κs : Lfts 2) (a : ArgsD raw8.signature κs) (r₁ r₂ : ResD raw8.signature κs) (s₁ s₂ : AtExit raw8.ended κs)
    → raw8_reads.Post κs a r₁ s₁ → raw8_reads.Post κs a r₂ s₂ → s₁.1.1.1.0.now ≡ s₂.1.1.1.0.now
raw8_once κs a r₁ r₂ s₁ s₂ p q = p ∙ sym q

pub raw16_once : (κs : Lfts 2) (a : ArgsD raw16.signature κs) (r₁ r₂ : ResD raw16.signature κs) (s₁ s₂ : AtExit raw16.ended κs)
    → raw16_reads.Post κs a r₁ s₁ → raw16_reads.Post κs a r₂ s₂ → s₁.1.1.1.0.now ≡ s₂.1.1.1.0.now
raw16_once κs a r₁ r₂ s₁ s₂ p q = p ∙ sym q
