-- Document 01, "What every public statement settles": any two outcomes that a public function's statement allows are equal. `Post`
-- is the plain reading that Rattle itself makes of the `ensures` clauses of src/, so these are about the contracts and about
-- nothing that restates them. Assumes nothing.
use mathlib.Core.Path.{sym, ◌∙◌}
use contract.Lifetimes.{Lfts}
use Rattle.lists.specs.Settled.{Settles}
use borrow.Fn.World.{ArgsD}
use Rattle.checks.specs.contracts.check_room as check_room
use Rattle.checks.proofs.check_room.Reads as check_room_reads
use Rattle.checks.specs.contracts.check_frame as check_frame
use Rattle.checks.proofs.check_frame.Reads as check_frame_reads

pub check_room_once : (κs : Lfts 0) (a : ArgsD check_room.signature κs) → Settles (check_room_reads.Post κs a)
check_room_once κs a r₁ r₂ s₁ s₂ p q = p ∙ sym q

pub check_frame_once : (κs : Lfts 1) (a : ArgsD check_frame.signature κs) → Settles (check_frame_reads.Post κs a)
check_frame_once κs a r₁ r₂ s₁ s₂ p q = p ∙ sym q
