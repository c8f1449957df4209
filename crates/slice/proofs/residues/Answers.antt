-- `slice::residues` meets its contract: a raw slice's samples or a coded one's words (document 01, "Layout" and "Words and lookup").
-- Assumes nothing.
use Rattle.slice.specs.Slice as slc
use Rattle.slice.proofs.Payloads.{residues}
use Rattle.slice.proofs.residues.Goals as goal

pub returns-then-a-clause-residues : goal.returns-then-a-clause-residues
returns-then-a-clause-residues g c = search residues

pub returns-clause-residues : goal.returns-clause-residues
unfolding slc.residues_by slc.end_by
returns-clause-residues g c = search residues
