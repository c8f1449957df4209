-- Document 01, "B and R are B'+G and R'+G modulo 2^depth": a coloured plane, sample by sample. Assumes nothing.
use mathlib.Core.Path.{◌≡◌, refl}
use mathlib.Core.Bool.{Bool, true, false, cond, ◌&&◌, ◌||◌}
use mathlib.Core.List.{List, [], ◌∷◌}
use Prim.Native.Nat.{ℕ, zero, suc, ◌+◌, ◌%◌, ◌^◌, ◌<◌}
use native.Mathlib.Nat.{mod-lt}
use native.Mathlib.Omega.{arith}
use lib.Dec.{eqb}
use lib.ListN.{length, get_or}
use lib.Pow.{pow_pos}
use Rattle.scope.specs.Base.{Samples}
use Rattle.scope.specs.Prediction.{plus}
use Rattle.scope.specs.Frame as frm
use Rattle.scope.specs.Frame.{colour_plane}
use Rattle.memory.proofs.Sums.{plus-length}
use Rattle.places.proofs.Samples.{Below, below_none}

-- ---- one plane added to another

-- sample i of the sum
plus_at : (depth : ℕ) (xs ys : List ℕ) (i : ℕ) → i < length xs → i < length ys → get_or (plus depth xs ys) i 0 ≡ (get_or xs i 0 + get_or ys i 0) % 2 ^ depth
unfolding plus
plus_at depth [] ys i h k = absurd (omega (arith, h))
plus_at depth (x ∷ xs) [] i h k = absurd (omega (arith, k))
plus_at depth (x ∷ xs) (y ∷ ys) zero h k = refl
plus_at depth (x ∷ xs) (y ∷ ys) (suc i) h k = plus_at depth xs ys i (omega arith) (omega arith)

-- is below 2^depth
plus_below : (depth : ℕ) (xs ys : List ℕ) → Below (2 ^ depth) (plus depth xs ys)
unfolding plus
plus_below depth [] ys i = below_none (2 ^ depth) (pow_pos depth) i
plus_below depth (x ∷ xs) [] i = below_none (2 ^ depth) (pow_pos depth) i
plus_below depth (x ∷ xs) (y ∷ ys) zero = mod-lt (x + y) (pow_pos depth)
plus_below depth (x ∷ xs) (y ∷ ys) (suc i) = plus_below depth xs ys i

-- a sum of the same terms, where there is one
pub sum_same : (t : Bool) (m a b c d : ℕ) → a ≡ b → (t ≡ true → c ≡ d) → cond t ((a + c) % m) a ≡ cond t ((b + d) % m) b
sum_same false m a b c d e h = e
sum_same true m a b c d e h = rw (e, h refl)

-- ---- a coloured plane

-- Its sample i: G's is added in planes 0 and 2 of Rgb and Rgba. Only there has the wire to have a plane 1, of that size.
pub colour_at : (rgb : Bool) (depth : ℕ) (wire : ℕ → Samples) (p i : ℕ) → i < length (wire p) → (rgb ≡ true → i < length (wire 1))
    → get_or (colour_plane rgb depth wire p) i 0 ≡ cond (rgb && (eqb p 0 || eqb p 2)) ((get_or (wire p) i 0 + get_or (wire 1) i 0) % 2 ^ depth) (get_or (wire p) i 0)
unfolding frm.colour_plane
colour_at false depth wire p i h k = refl
colour_at true depth wire p i h k = go (eqb p 0 || eqb p 2)
  where
    go : (t : Bool) → get_or (cond t (plus depth (wire p) (wire 1)) (wire p)) i 0 ≡ cond t ((get_or (wire p) i 0 + get_or (wire 1) i 0) % 2 ^ depth) (get_or (wire p) i 0)
    go true = plus_at depth (wire p) (wire 1) i h (k refl)
    go false = refl

-- as long as the wire's
pub colour_long : (rgb : Bool) (depth : ℕ) (wire : ℕ → Samples) (p : ℕ) → (rgb ≡ true → length (wire p) ≡ length (wire 1)) → length (colour_plane rgb depth wire p) ≡ length (wire p)
unfolding frm.colour_plane
colour_long false depth wire p h = refl
colour_long true depth wire p h = go (eqb p 0 || eqb p 2)
  where
    go : (t : Bool) → length (cond t (plus depth (wire p) (wire 1)) (wire p)) ≡ length (wire p)
    go true = plus-length depth (wire p) (wire 1) (h refl)
    go false = refl

-- and of no larger samples
pub colour_below : (rgb : Bool) (depth : ℕ) (wire : ℕ → Samples) (p : ℕ) → Below (2 ^ depth) (wire p) → Below (2 ^ depth) (colour_plane rgb depth wire p)
unfolding frm.colour_plane
colour_below rgb depth wire p h = go (rgb && (eqb p 0 || eqb p 2))
  where
    go : (t : Bool) → Below (2 ^ depth) (cond t (plus depth (wire p) (wire 1)) (wire p))
    go true = plus_below depth (wire p) (wire 1)
    go false = h
