-- Document 01, "What every public statement settles": any two outcomes that a public function's statement allows are equal. `Post`
-- is the plain reading that Rattle itself makes of the `ensures` clauses of src/, so these are about the contracts and about
-- nothing that restates them. Assumes nothing.
use mathlib.Core.Path.{sym, ◌∙◌}
use contract.Lifetimes.{Lfts}
use Rattle.lists.specs.Settled.{Settles}
use borrow.Fn.World.{ArgsD}
use Rattle.layout.specs.contracts.le32_at as le32_at
use Rattle.layout.proofs.le32_at.Reads as le32_at_reads
use Rattle.layout.specs.contracts.preamble_end as preamble_end
use Rattle.layout.proofs.preamble_end.Reads as preamble_end_reads
use Rattle.layout.specs.contracts.count_byte as count_byte
use Rattle.layout.proofs.count_byte.Reads as count_byte_reads
use Rattle.layout.specs.contracts.plane_index as plane_index
use Rattle.layout.proofs.plane_index.Reads as plane_index_reads
use Rattle.layout.specs.contracts.slice_at as Slice-at
use Rattle.layout.proofs.slice_at.Reads as slice_at_reads

pub le32_at_once : (κs : Lfts 1) (a : ArgsD le32_at.signature κs) → Settles (le32_at_reads.Post κs a)
le32_at_once κs a r₁ r₂ s₁ s₂ p q = p.0 ∙ sym q.0

pub preamble_end_once : (κs : Lfts 1) (a : ArgsD preamble_end.signature κs) → Settles (preamble_end_reads.Post κs a)
preamble_end_once κs a r₁ r₂ s₁ s₂ p q = p.0 ∙ sym q.0

pub count_byte_once : (κs : Lfts 1) (a : ArgsD count_byte.signature κs) → Settles (count_byte_reads.Post κs a)
count_byte_once κs a r₁ r₂ s₁ s₂ p q = p ∙ sym q

pub plane_index_once : (κs : Lfts 1) (a : ArgsD plane_index.signature κs) → Settles (plane_index_reads.Post κs a)
plane_index_once κs a r₁ r₂ s₁ s₂ p q = p ∙ sym q

pub slice_at_once : (κs : Lfts 1) (a : ArgsD Slice-at.signature κs) → Settles (slice_at_reads.Post κs a)
slice_at_once κs a r₁ r₂ s₁ s₂ p q = p.0 ∙ sym q.0
