-- Any two outcomes that a public function's statement allows are equal. `Post` is the plain
-- reading that Rattle itself makes of the `ensures` clauses of src/, so these theorems are about the contracts and about nothing that
-- restates them. Assumes nothing.
use mathlib.Core.Path.{◌≡◌, sym, ◌∙◌}
use contract.Lifetimes.{Lfts}
use borrow.Fn.World.{ArgsD, ResD}
use denote.Triple.Clauses.{AtExit}
use Rattle.alone.specs.contracts.build as build
use Rattle.alone.proofs.build.Reads as build_reads
use Rattle.alone.specs.contracts.read as read
use Rattle.alone.proofs.read.Reads as read_reads

pub build_once : (κs : Lfts 2) (a : ArgsD build.signature κs) (r₁ r₂ : ResD build.signature κs) (s₁ s₂ : AtExit build.ended κs)
    → build_reads.Post κs a r₁ s₁ → build_reads.Post κs a r₂ s₂ → (r₁ ≡ r₂) × (s₁.1.0.now ≡ s₂.1.0.now)
build_once κs a r₁ r₂ s₁ s₂ p q = (p.answer ∙ sym q.answer, p.workspace ∙ sym q.workspace)

pub read_once : (κs : Lfts 4) (a : ArgsD read.signature κs) (r₁ r₂ : ResD read.signature κs) (s₁ s₂ : AtExit read.ended κs)
    → read_reads.Post κs a r₁ s₁ → read_reads.Post κs a r₂ s₂
    → (r₁ ≡ r₂) × ((s₁.1.1.1.0.now ≡ s₂.1.1.1.0.now) × (s₁.1.1.0.now ≡ s₂.1.1.0.now))
read_once κs a r₁ r₂ s₁ s₂ p q = (p.answer ∙ sym q.answer, (p.samples ∙ sym q.samples, p.workspace ∙ sym q.workspace))
