-- A part of a list, and a list with another part in its place: how the laws of lent parts are put. Assumes nothing.
use Rattle.std.specs.Prelude.{ℕ, List, ◌++◌, take, drop}

-- the n elements of a list from `at` on
abbrev pub part : (l : List ℕ) (at n : ℕ) → List ℕ
part l at n = take n (drop at l)

-- the list with xs in their place
abbrev pub replaced : (l : List ℕ) (at n : ℕ) (xs : List ℕ) → List ℕ
replaced l at n xs = take at l ++ (xs ++ drop n (drop at l))
