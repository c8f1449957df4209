-- Document 01, "Prediction, slice by slice": a slice's samples from its residues, and the colours from their differences.
-- Assumes nothing.
use Rattle.std.specs.Prelude.{ℕ, ◌+◌, ◌-◌, ◌*◌, ◌%◌, ◌^◌, min, max, cond, [], ◌∷◌, get_or, eqb, ltb, leb}
use Rattle.scope.specs.Base.{Samples, Step, rebuilt}

-- ---- the predictors, of left, top and top-left

-- "left + top − top-left modulo 2^depth"
unfoldable pub gradient : (depth left top topleft : ℕ) → ℕ
gradient depth left top topleft = (left + top + (2 ^ depth - topleft)) % 2 ^ depth

-- depth 8: "that modular gradient clamped between the smaller and larger of left and top"
unfoldable pub clamp_median : (depth left top topleft : ℕ) → ℕ
clamp_median depth left top topleft = max (min left top) (min (gradient depth left top topleft) (max left top))

-- "Median at 10 to 14: T.87, with lo and hi of left and top: top-left at least hi gives lo, else at most lo gives hi, else the exact left + top −
-- top-left.": in ITU-T T.87's own letters, If Rc ≥ max(Ra, Rb), Px = min(Ra, Rb); else if Rc ≤ min(Ra, Rb),
-- Px = max(Ra, Rb); else Px = Ra + Rb − Rc. Ra is the sample to the left, Rb the one above, Rc the one above to the left.
unfoldable pub t87_median : (Ra Rb Rc : ℕ) → ℕ
t87_median Ra Rb Rc =
    cond (leb (max Ra Rb) Rc) (min Ra Rb)
    (cond (leb Rc (min Ra Rb)) (max Ra Rb)
    (Ra + Rb - Rc))

unfoldable pub median : (depth left top topleft : ℕ) → ℕ
median depth left top topleft = cond (eqb depth 8) (clamp_median depth left top topleft) (t87_median left top topleft)

-- "Predictors: 1 Left, 2 Gradient, 3 Median"; "Left: left."
unfoldable pub predictor : (depth kind left top topleft : ℕ) → ℕ
predictor depth kind left top topleft =
    cond (eqb kind 1) left
    (cond (eqb kind 2) (gradient depth left top topleft)
    (median depth left top topleft))

-- ---- a slice of rows of one width, row after row: place i is column i % width. f rows up is f·width places back, so the first
-- f rows, or all where there are fewer, are the places below f·width.

-- What is added to the residue at place i, of the samples before it: "the first min(f, rows) rows start from their own first
-- residue and add the left sample across. Later rows add, in column 0, the sample f rows up; then the predictor of left, top
-- (f rows up) and top-left."
unfoldable pub prediction : (predict : ℕ → ℕ → ℕ → ℕ) (width f i : ℕ) (before : Samples) → ℕ
prediction predict width f i before =
    cond (ltb i (f * width))
    (cond (eqb (i % width) 0) 0 (get_or before (i - 1) 0))
    (cond (eqb (i % width) 0) (get_or before (i - f * width) 0)
    (predict (get_or before (i - 1) 0) (get_or before (i - f * width) 0) (get_or before (i - f * width - 1) 0)))

-- "All sums are modulo 2^depth."
unfoldable pub sample : (depth : ℕ) (predict : ℕ → ℕ → ℕ → ℕ) (width f : ℕ) → Step
sample depth predict width f i before residue = (residue + prediction predict width f i before) % 2 ^ depth

-- a slice's samples from its residues
unfoldable pub samples_of : (depth kind width f : ℕ) (residues : Samples) → Samples
samples_of depth kind width f residues = rebuilt (sample depth (predictor depth kind) width f) residues

-- ---- "B and R are B'+G and R'+G modulo 2^depth": one plane added to another

unfoldable pub plus : (depth : ℕ) (xs ys : Samples) → Samples
plus depth [] ys = []
plus depth (x ∷ xs) [] = []
plus depth (x ∷ xs) (y ∷ ys) = (x + y) % 2 ^ depth ∷ plus depth xs ys
