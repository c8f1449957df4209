-- Document 01, "What every public statement settles": any two outcomes that a public function's statement allows are equal. `Post`
-- is the plain reading that Rattle itself makes of the `ensures` clauses of src/, so these are about the contracts and about
-- nothing that restates them. Assumes nothing.
use mathlib.Core.Path.{◌≡◌, sym, ◌∙◌}
use contract.Lifetimes.{Lfts}
use borrow.Fn.World.{ArgsD, ResD}
use denote.Triple.Clauses.{AtExit}
use Rattle.builder.specs.contracts.build_part as build_part
use Rattle.builder.proofs.build_part.Reads as build_part_reads

pub build_part_once : (κs : Lfts 2) (a : ArgsD build_part.signature κs) (r₁ r₂ : ResD build_part.signature κs) (s₁ s₂ : AtExit build_part.ended κs)
    → build_part_reads.Post κs a r₁ s₁ → build_part_reads.Post κs a r₂ s₂ → s₁.1.1.0.now ≡ s₂.1.1.0.now
build_part_once κs a r₁ r₂ s₁ s₂ p q = p ∙ sym q
