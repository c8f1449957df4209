-- The loop of `raw::raw_u8`: each place so far has its byte (document 01, "Layout"). Assumes nothing.
use mathlib.Core.Path.{◌≡◌}
use Prim.Native.Nat.{◌+◌, ◌≤◌}
use lib.ListN.{length}
use Rattle.raw.specs.Raw.{raw_from}
use Rattle.raw.proofs.Fills.{Fills}
use Rattle.raw.proofs.raw_u8.Given as goal

abbrev pub invariant-loop-i : goal.invariant-loop-i
invariant-loop-i l = Fills (raw_from l.depth l.payload l.first (length l.initial.out)) l.out l.i × (length l.out ≡ length l.initial.out) × (l.first + length l.initial.out ≤ length l.payload) × (l.depth ≡ 8)
