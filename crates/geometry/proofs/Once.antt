-- Document 01, "What every public statement settles": any two outcomes that a public function's statement allows are equal. `Post`
-- is the plain reading that Rattle itself makes of the `ensures` clauses of src/, so these are about the contracts and about
-- nothing that restates them. Assumes nothing.
use mathlib.Core.Path.{sym, ◌∙◌}
use contract.Lifetimes.{Lfts}
use Rattle.lists.specs.Settled.{Settles}
use borrow.Fn.World.{ArgsD}
use Rattle.geometry.specs.contracts.plane_count as plane_count
use Rattle.geometry.proofs.plane_count.Reads as plane_count_reads
use Rattle.geometry.specs.contracts.is_subsampled as is_subsampled
use Rattle.geometry.proofs.is_subsampled.Reads as is_subsampled_reads
use Rattle.geometry.specs.contracts.is_correlated as is_correlated
use Rattle.geometry.proofs.is_correlated.Reads as is_correlated_reads
use Rattle.geometry.specs.contracts.fields_of as fields_of
use Rattle.geometry.proofs.fields_of.Reads as fields_of_reads
use Rattle.geometry.specs.contracts.symbol_count as symbol_count
use Rattle.geometry.proofs.symbol_count.Reads as symbol_count_reads

pub plane_count_once : (κs : Lfts 0) (a : ArgsD plane_count.signature κs) → Settles (plane_count_reads.Post κs a)
plane_count_once κs a r₁ r₂ s₁ s₂ p q = p ∙ sym q

pub is_subsampled_once : (κs : Lfts 0) (a : ArgsD is_subsampled.signature κs) → Settles (is_subsampled_reads.Post κs a)
is_subsampled_once κs a r₁ r₂ s₁ s₂ p q = p ∙ sym q

pub is_correlated_once : (κs : Lfts 0) (a : ArgsD is_correlated.signature κs) → Settles (is_correlated_reads.Post κs a)
is_correlated_once κs a r₁ r₂ s₁ s₂ p q = p ∙ sym q

pub fields_of_once : (κs : Lfts 0) (a : ArgsD fields_of.signature κs) → Settles (fields_of_reads.Post κs a)
fields_of_once κs a r₁ r₂ s₁ s₂ p q = p.0 ∙ sym q.0

pub symbol_count_once : (κs : Lfts 0) (a : ArgsD symbol_count.signature κs) → Settles (symbol_count_reads.Post κs a)
symbol_count_once κs a r₁ r₂ s₁ s₂ p q = p.0 ∙ sym q.0
