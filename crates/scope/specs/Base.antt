-- Names for the lists that document 01 speaks of, and small words on numbers and lists that the other files share and that it takes for
-- granted. Assumes nothing.
use Rattle.std.specs.Prelude.{ℕ, zero, suc, ◌+◌, ◌-◌, ◌/◌, Bool, true, false, List, [], ◌∷◌, ◌++◌, length, get_or, replicate, eqb}

-- ---- what is lent and what is made

-- bytes, each below 256: a frame, or the payload of one slice
abbrev pub Bytes : Type 0
Bytes = List ℕ

-- code lengths: of all planes, or one plane's, a length for each symbol
abbrev pub Lengths : Type 0
Lengths = List ℕ

-- samples, or the residues that they are made of: of a slice, of a plane, or the whole plane buffer
abbrev pub Samples : Type 0
Samples = List ℕ

-- 32-bit words of the workspace
abbrev pub Words : Type 0
Words = List ℕ

-- ---- numbers and lists

-- half of u, rounded up
abbrev pub half_up : (u : ℕ) → ℕ
half_up u = (u + 1) / 2

-- a over b, rounded up (b is not 0)
abbrev pub over_up : (a b : ℕ) → ℕ
over_up a b = (a + (b - 1)) / b

-- 1 for true, 0 for false
abbrev pub one : (test : Bool) → ℕ
one true = 1
one false = 0

-- how often x stands in a list
unfoldable pub count : (x : ℕ) (list : List ℕ) → ℕ
count x [] = 0
count x (y ∷ ys) = one (eqb y x) + count x ys

-- f 0 + f 1 + .. + f (n - 1)
unfoldable pub sum_below : (n : ℕ) (f : ℕ → ℕ) → ℕ
sum_below zero f = 0
sum_below (suc n) f = sum_below n f + f n

-- f i, f (i + 1), .. : n of them
unfoldable pub list_from : (f : ℕ → ℕ) (i n : ℕ) → List ℕ
list_from f i zero = []
list_from f i (suc n) = f i ∷ list_from f (suc i) n

-- f 0, f 1, .. f (n - 1)
abbrev pub list_below : (n : ℕ) (f : ℕ → ℕ) → List ℕ
list_below n f = list_from f 0 n

-- as many zeros as a list has elements
abbrev pub zeros : (found : List ℕ) → List ℕ
zeros found = replicate (length found) 0

-- A list made out of another, front to back: element i is made from its place i, the elements made before it, and the other
-- list's element i.
abbrev pub Step : Type 0
Step = (i : ℕ) (before : List ℕ) (old : ℕ) → ℕ

-- its first n elements
unfoldable pub grown : (step : Step) (xs : List ℕ) (n : ℕ) → List ℕ
grown step xs zero = []
grown step xs (suc n) = grown step xs n ++ (step n (grown step xs n) (get_or xs n 0) ∷ [])

-- all of them
abbrev pub rebuilt : (step : Step) (xs : List ℕ) → List ℕ
rebuilt step xs = grown step xs (length xs)
