-- Any two outcomes that the statement of a public function allows are equal. `Post` is the plain reading that Rattle itself makes of
-- the `ensures` clauses of src/. Document 01, "What every public statement settles". Assumes nothing.
use mathlib.Core.Path.{◌≡◌, sym, ◌∙◌}
use contract.Lifetimes.{Lfts}
use borrow.Fn.World.{ArgsD, ResD}
use denote.Triple.Clauses.{AtExit}
use Rattle.tables.specs.contracts.codes_of as codes_of
use Rattle.tables.proofs.codes_of.Reads as codes_of_reads
use Rattle.tables.specs.contracts.build_all as build_all
use Rattle.tables.proofs.build_all.Reads as build_all_reads

-- the codes
pub codes_of_once : (κs : Lfts 1) (a : ArgsD codes_of.signature κs) (r₁ r₂ : ResD codes_of.signature κs) (s₁ s₂ : AtExit codes_of.ended κs)
    → codes_of_reads.Post κs a r₁ s₁ → codes_of_reads.Post κs a r₂ s₂ → r₁ ≡ r₂
codes_of_once κs a r₁ r₂ s₁ s₂ p q = p ∙ sym q

-- the whole workspace
pub build_all_once : (κs : Lfts 2) (a : ArgsD build_all.signature κs) (r₁ r₂ : ResD build_all.signature κs) (s₁ s₂ : AtExit build_all.ended κs)
    → build_all_reads.Post κs a r₁ s₁ → build_all_reads.Post κs a r₂ s₂ → s₁.1.1.1.0.now ≡ s₂.1.1.1.0.now
build_all_once κs a r₁ r₂ s₁ s₂ p q = p.1 ∙ sym q.1
