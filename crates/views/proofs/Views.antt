-- The views of a buffer determine it; with no gaps its samples are all of it. Assumes nothing.
use mathlib.Core.Path.{◌≡◌, refl, sym, ap, ◌∙◌}
use mathlib.Core.Bool.{Bool, true, false}
use mathlib.Core.List.{List, [], ◌∷◌, ◌++◌}
use Prim.Native.Nat.{ℕ, zero, suc, ◌+◌, ◌≤◌}
use native.Mathlib.Nat.{suc_inj}
use native.Mathlib.Omega.{arith}
use lib.ListN.{length, replicate}
use Rattle.views.specs.Places.{samples_at, gaps_at, how_many}

head_same : {x y : ℕ} {xs ys : List ℕ} → x ∷ xs ≡ y ∷ ys → x ≡ y
head_same e = cc

tail_same : {x y : ℕ} {xs ys : List ℕ} → x ∷ xs ≡ y ∷ ys → xs ≡ ys
tail_same e = cc

-- two buffers of one length with the same samples and the same gaps are one
pub determined : (places : List Bool) (a b : List ℕ) → length a ≡ length b → samples_at places a ≡ samples_at places b → gaps_at places a ≡ gaps_at places b → a ≡ b
unfolding samples_at gaps_at
determined [] a b l e h = h
determined (t ∷ places) [] [] l e h = refl
determined (t ∷ places) [] (y ∷ b) l e h = absurd (omega arith)
determined (t ∷ places) (x ∷ a) [] l e h = absurd (omega arith)
determined (true ∷ places) (x ∷ a) (y ∷ b) l e h =
    let p : x ≡ y = head_same e in
    rw p (ap (λ (z : List ℕ). y ∷ z) (determined places a b (suc_inj l) (tail_same e) h))
determined (false ∷ places) (x ∷ a) (y ∷ b) l e h =
    let p : x ≡ y = head_same h in
    rw p (ap (λ (z : List ℕ). y ∷ z) (determined places a b (suc_inj l) e (tail_same h)))

-- every element is a sample or of a gap
views_long : (places : List Bool) (buf : List ℕ) → length (samples_at places buf) + length (gaps_at places buf) ≡ length buf
unfolding samples_at gaps_at
views_long [] buf = omega arith
views_long (t ∷ places) [] = omega arith
views_long (true ∷ places) (x ∷ buf) = omega (arith, views_long places buf)
views_long (false ∷ places) (x ∷ buf) = omega (arith, views_long places buf)

-- so two buffers with the same samples and the same gaps are one
pub only_one : (places : List Bool) {a b : List ℕ} → samples_at places a ≡ samples_at places b → gaps_at places a ≡ gaps_at places b → a ≡ b
only_one places {a} {b} e h =
    determined places a b (sym (views_long places a) ∙ rw (e, h) (views_long places b)) e h

-- as many samples as places
pub samples_many : (places : List Bool) (buf : List ℕ) → length places ≤ length buf → length (samples_at places buf) ≡ how_many places
unfolding samples_at how_many
samples_many [] buf h = refl
samples_many (t ∷ places) [] h = absurd (omega arith)
samples_many (true ∷ places) (x ∷ buf) h = omega (arith, samples_many places buf (omega arith))
samples_many (false ∷ places) (x ∷ buf) h = omega (arith, samples_many places buf (omega arith))

-- ---- no gaps: today's statement

pub many_all : (n : ℕ) → how_many (replicate n true) ≡ n
unfolding how_many
many_all zero = refl
many_all (suc n) = omega (arith, many_all n)

pub samples_all : (n : ℕ) (buf : List ℕ) → length buf ≡ n → samples_at (replicate n true) buf ≡ buf
unfolding samples_at
samples_all zero [] e = refl
samples_all zero (x ∷ buf) e = absurd (omega arith)
samples_all (suc n) [] e = refl
samples_all (suc n) (x ∷ buf) e = ap (λ (z : List ℕ). x ∷ z) (samples_all n buf (suc_inj e))

pub gaps_all : (n : ℕ) (buf : List ℕ) → length buf ≡ n → gaps_at (replicate n true) buf ≡ []
unfolding gaps_at
gaps_all zero [] e = refl
gaps_all zero (x ∷ buf) e = absurd (omega arith)
gaps_all (suc n) [] e = refl
gaps_all (suc n) (x ∷ buf) e = gaps_all n buf (suc_inj e)

-- ---- one after another

pub samples_append : (a b : List Bool) (xs ys : List ℕ) → length xs ≡ length a → samples_at (a ++ b) (xs ++ ys) ≡ samples_at a xs ++ samples_at b ys
unfolding samples_at
samples_append [] b [] ys e = refl
samples_append [] b (x ∷ xs) ys e = absurd (omega arith)
samples_append (t ∷ a) b [] ys e = absurd (omega arith)
samples_append (true ∷ a) b (x ∷ xs) ys e = ap (λ (z : List ℕ). x ∷ z) (samples_append a b xs ys (suc_inj e))
samples_append (false ∷ a) b (x ∷ xs) ys e = samples_append a b xs ys (suc_inj e)

pub gaps_append : (a b : List Bool) (xs ys : List ℕ) → length xs ≡ length a → gaps_at (a ++ b) (xs ++ ys) ≡ gaps_at a xs ++ gaps_at b ys
unfolding gaps_at
gaps_append [] b [] ys e = refl
gaps_append [] b (x ∷ xs) ys e = absurd (omega arith)
gaps_append (t ∷ a) b [] ys e = absurd (omega arith)
gaps_append (true ∷ a) b (x ∷ xs) ys e = gaps_append a b xs ys (suc_inj e)
gaps_append (false ∷ a) b (x ∷ xs) ys e = ap (λ (z : List ℕ). x ∷ z) (gaps_append a b xs ys (suc_inj e))

pub many_append : (a b : List Bool) → how_many (a ++ b) ≡ how_many a + how_many b
unfolding how_many
many_append [] b = omega arith
many_append (t ∷ a) b = omega (arith, many_append a b)
