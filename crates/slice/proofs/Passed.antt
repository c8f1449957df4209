-- A slice that passed its checks (document 01, "Refusal numbers", 12 to 14) has what its reading asks. What the checks leave is taken as
-- given here, fact by fact, so that this file depends on no crate of checks. Assumes nothing else.
use mathlib.Core.Path.{◌≡◌}
use mathlib.Core.Bool.{true}
use mathlib.Core.List.{List}
use Prim.Native.Nat.{ℕ, ◌+◌, ◌-◌, ◌≤◌}
use native.Mathlib.Omega.{arith}
use lib.ListN.{length, drop, length-take}
use Rattle.scope.specs.Layout as lay
use Rattle.scope.specs.Layout.{slice_start, slice_end, is_raw, payload_of, samples_in, slice_at}
use Rattle.scope.specs.declared.Geometry.{Geometry}
use Rattle.within.specs.Within.{AllBytes}
use Rattle.slice.specs.Slice.{SliceIn}

module _ (frame : List ℕ) (g : Geometry) (s : ℕ) where
  pub passed_in : slice_start frame g s + 2 ≤ slice_end frame g s → slice_end frame g s ≤ length frame
      → (is_raw frame g s ≡ true → AllBytes g.depth (samples_in frame g s) (payload_of frame g s))
      → samples_in frame g s ≤ 268435456
      → SliceIn g.depth frame (slice_at frame g s)
  unfolding lay.slice_at lay.samples_in lay.payload_of
  passed_in prefix inside whole most =
      record {
        prefix = prefix;
        inside = inside;
        room = λ h. omega (arith, (whole h).bytes, length-take (slice_end frame g s - (slice_start frame g s + 2)) (drop (slice_start frame g s + 2) frame));
        most = most;
      }
