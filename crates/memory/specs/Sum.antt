-- The steps of the loops that clear, and that add one stretch of a buffer to a later one (document 01, "All others leave both
-- wholly zero", and "B and R are B'+G and R'+G modulo 2^depth"). Assumes nothing.
use Rattle.std.specs.Prelude.{ℕ, ◌+◌, ◌-◌, ◌%◌, ◌^◌, cond, nat_lt, slice_index}
use Rattle.scope.specs.Base.{Step}

-- every element becomes 0
abbrev pub cleared : Step
cleared i before x = 0

-- from place `to` on the element as far past `from` is added, modulo 2^depth; what stands before `to` stays
unfoldable pub added : ℕ → ℕ → ℕ → Step
added depth from to i before x = cond (nat_lt i to) x ((x + slice_index before (from + (i - to))) % 2 ^ depth)
