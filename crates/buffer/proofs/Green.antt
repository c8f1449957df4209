-- G is the buffer's first plane; B' and R' are later ones of its size, each apart from it. Document 01, "B and R are B'+G and R'+G modulo
-- 2^depth". Assumes nothing.
use Rattle.std.proofs.Common.{◌≡◌, ℕ, ◌+◌, ◌*◌, ◌≤◌, List, refl, arith}
use Rattle.views.specs.declared.Stretch.{Stretch}
use Rattle.planes.specs.Adding.{Apart, added_rows}

-- a plane of h rows of w samples from `at` on, with no gaps
abbrev pub plane : ℕ → ℕ → ℕ → Stretch
plane at w h = record { at = at; width = w; pitch = w; rows = h }

module _ (at w h : ℕ) (green other : Stretch) (first : green ≡ plane 0 w h) (later : other ≡ plane at w h) where
  pub green_apart : (len : ℕ) → h * w ≤ at → at + h * w ≤ len → Apart len green other
  green_apart len l k = rw (first, later) (record { as_wide = refl; as_many = refl; wide = omega arith; wide_to = omega arith; before = omega arith; inside = k })

  pub green_added : (depth : ℕ) (xs ys : List ℕ) → ys ≡ added_rows depth green.at green.pitch other.at other.pitch other.width other.rows xs
      → ys ≡ added_rows depth 0 w at w w h xs
  green_added depth xs ys e = rw (first, later) at e
