-- Rows of a plane in the plane buffer: what `stretch_of` returns, and that nothing runs over. Assumes nothing.
use mathlib.Core.Path.{◌≡◌}
use Prim.Native.Nat.{ℕ, ◌+◌, ◌*◌, ◌≤◌}
use native.Mathlib.Omega.{arith}
use mir.Syntax.{w64}
use mir.Val.{Fits}
use Rattle.scope.specs.Geometry as geo
use Rattle.scope.specs.Geometry.{plane_width, plane_height, plane_start}
use Rattle.scope.specs.declared.Geometry.{Geometry}
use Rattle.geometry.specs.Sound.{Sound}
use Rattle.geometry.proofs.Figures.{row_fits, row_adds, row_most}
use Rattle.stretches.specs.Stretch as str
use Rattle.stretches.specs.Stretch.{stretch_of}

module _ (g : Geometry) (p row rows at w : ℕ) (ok : Sound g) (lh : row + rows ≤ plane_height g p) (lw : w ≤ 16384) where
  row_in : row ≤ plane_height g p
  row_in = omega (arith, lh)

  pub stretch_fits : Fits w64 (row * w)
  stretch_fits = row_fits g p row at w ok row_in lw

  pub stretch_adds : at ≤ 805306368 → Fits w64 (at + row * w)
  stretch_adds = row_adds g p row at w ok row_in lw

  pub stretch_most : at ≤ 805306368 → at + row * w ≤ 1073741824
  stretch_most = row_most g p row at w ok row_in lw

pub stretch_is : (g : Geometry) (p row rows at w : ℕ) → at ≡ plane_start g p → w ≡ plane_width g p → record { at = at + row * w; width = w; pitch = w; rows = rows } ≡ stretch_of g p row rows
unfolding str.stretch_of geo.row_start
stretch_is g p row rows at w ea ew = rw (ea, ew)
