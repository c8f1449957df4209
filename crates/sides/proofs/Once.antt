-- Document 01, "What every public statement settles": any two outcomes that a public function's statement allows are equal. `Post`
-- is the plain reading that Rattle itself makes of the `ensures` clauses of src/, so these are about the contracts and about
-- nothing that restates them. Assumes nothing.
use mathlib.Core.Path.{sym, ◌∙◌}
use contract.Lifetimes.{Lfts}
use Rattle.lists.specs.Settled.{Settles}
use borrow.Fn.World.{ArgsD}
use Rattle.sides.specs.contracts.plane_width as plane_width
use Rattle.sides.proofs.plane_width.Reads as plane_width_reads
use Rattle.sides.specs.contracts.plane_height as plane_height
use Rattle.sides.proofs.plane_height.Reads as plane_height_reads
use Rattle.sides.specs.contracts.plane_slice_height as plane_slice_height
use Rattle.sides.proofs.plane_slice_height.Reads as plane_slice_height_reads
use Rattle.sides.specs.contracts.slices_per_plane as slices_per_plane
use Rattle.sides.proofs.slices_per_plane.Reads as slices_per_plane_reads
use Rattle.sides.specs.contracts.slice_count as slice_count
use Rattle.sides.proofs.slice_count.Reads as slice_count_reads
use Rattle.sides.specs.contracts.place_rows as place_rows
use Rattle.sides.proofs.place_rows.Reads as place_rows_reads

pub plane_width_once : (κs : Lfts 0) (a : ArgsD plane_width.signature κs) → Settles (plane_width_reads.Post κs a)
plane_width_once κs a r₁ r₂ s₁ s₂ p q = p.0 ∙ sym q.0

pub plane_height_once : (κs : Lfts 0) (a : ArgsD plane_height.signature κs) → Settles (plane_height_reads.Post κs a)
plane_height_once κs a r₁ r₂ s₁ s₂ p q = p.0 ∙ sym q.0

pub plane_slice_height_once : (κs : Lfts 0) (a : ArgsD plane_slice_height.signature κs) → Settles (plane_slice_height_reads.Post κs a)
plane_slice_height_once κs a r₁ r₂ s₁ s₂ p q = p.0 ∙ sym q.0

pub slices_per_plane_once : (κs : Lfts 0) (a : ArgsD slices_per_plane.signature κs) → Settles (slices_per_plane_reads.Post κs a)
slices_per_plane_once κs a r₁ r₂ s₁ s₂ p q = p.0 ∙ sym q.0

pub slice_count_once : (κs : Lfts 0) (a : ArgsD slice_count.signature κs) → Settles (slice_count_reads.Post κs a)
slice_count_once κs a r₁ r₂ s₁ s₂ p q = p.0 ∙ sym q.0

pub place_rows_once : (κs : Lfts 0) (a : ArgsD place_rows.signature κs) → Settles (place_rows_reads.Post κs a)
place_rows_once κs a r₁ r₂ s₁ s₂ p q = p.0 ∙ sym q.0
