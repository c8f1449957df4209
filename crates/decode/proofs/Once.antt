-- Any two outcomes that the statement of an entry allows are equal: answer, planes and workspace. `Post` is the plain reading that Rattle
-- itself makes of the `ensures` clauses of src/, so these theorems are about the contracts. Document 01, "What every public statement
-- settles". Assumes nothing.
use mathlib.Core.Path.{◌≡◌, sym, ◌∙◌}
use contract.Lifetimes.{Lfts}
use borrow.Fn.World.{ArgsD, ResD}
use denote.Triple.Clauses.{AtExit}
use Rattle.decode.specs.contracts.decode8 as decode8
use Rattle.decode.proofs.decode8.Reads as decode8_reads
use Rattle.decode.specs.contracts.decode16 as decode16
use Rattle.decode.proofs.decode16.Reads as decode16_reads

pub decode8_once : (κs : Lfts 4) (a : ArgsD decode8.signature κs) (r₁ r₂ : ResD decode8.signature κs) (s₁ s₂ : AtExit decode8.ended κs)
    → decode8_reads.Post κs a r₁ s₁ → decode8_reads.Post κs a r₂ s₂
    → (r₁ ≡ r₂) × (s₁.1.1.1.0.now ≡ s₂.1.1.1.0.now) × (s₁.1.1.1.1.0.now ≡ s₂.1.1.1.1.0.now)
decode8_once κs a r₁ r₂ s₁ s₂ p q = (p.answer ∙ sym q.answer, p.planes ∙ sym q.planes, p.workspace ∙ sym q.workspace)

pub decode16_once : (κs : Lfts 4) (a : ArgsD decode16.signature κs) (r₁ r₂ : ResD decode16.signature κs) (s₁ s₂ : AtExit decode16.ended κs)
    → decode16_reads.Post κs a r₁ s₁ → decode16_reads.Post κs a r₂ s₂
    → (r₁ ≡ r₂) × (s₁.1.1.1.0.now ≡ s₂.1.1.1.0.now) × (s₁.1.1.1.1.0.now ≡ s₂.1.1.1.1.0.now)
decode16_once κs a r₁ r₂ s₁ s₂ p q = (p.answer ∙ sym q.answer, p.planes ∙ sym q.planes, p.workspace ∙ sym q.workspace)
