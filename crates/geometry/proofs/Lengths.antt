-- Plane p's lengths as a part of those lent, n for each plane (document 01, "Lengths: 2^depth bytes a plane, planes in wire
-- order"): which part it is, that it lies within them, and that it is of at most 16,384. Assumes nothing.
use mathlib.Core.Path.{◌≡◌}
use Prim.Native.Nat.{ℕ, ◌+◌, ◌-◌, ◌*◌, ◌^◌, ◌≤◌, ◌<◌}
use native.Mathlib.Nat.{mul-le-mul_right, suc-mul}
use native.Mathlib.Omega.{arith}
use mathlib.Core.List.{List}
use lib.ListN.{length, take, drop, length-take}
use Rattle.scope.specs.Geometry as geo
use Rattle.scope.specs.Geometry.{plane_count, lengths_of}
use Rattle.scope.specs.declared.Geometry.{Geometry}

module _ (g : Geometry) (lengths : List ℕ) (p n : ℕ) where
  -- the part is plane p's lengths
  pub part_is : n ≡ 2 ^ g.depth → take (p * n + n - p * n) (drop (p * n) lengths) ≡ lengths_of g lengths p
  unfolding geo.lengths_of
  part_is en =
      let e : p * n + n - p * n ≡ n = omega arith in
      rw (e, en)

  -- it lies within them
  pub part_room : length lengths ≡ plane_count g * 2 ^ g.depth → p < plane_count g → n ≡ 2 ^ g.depth → p * n + n ≤ length lengths
  part_room el l en =
      let together : length lengths ≡ plane_count g * n = rw en el in
      omega (arith, together, suc-mul p n, mul-le-mul_right n l)

-- it has at most 16,384 lengths
pub part_few : (lengths : List ℕ) (p n : ℕ) → n ≤ 16384 → length (take (p * n + n - p * n) (drop (p * n) lengths)) ≤ 16384
part_few lengths p n h = omega (arith, length-take (p * n + n - p * n) (drop (p * n) lengths))
