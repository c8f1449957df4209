-- Lists that are made element by element, f 0, f 1, .. , or of one element, and what stands past a list's end. Assumes nothing.
use mathlib.Core.Path.{◌≡◌, refl, sym, ap, ◌∙◌}
use Prim.Native.Nat.{ℕ, zero, suc, ◌+◌, ◌≤◌, ◌<◌}
use native.Mathlib.Nat.{add-suc, suc-add, add-zero, zero-add, not-suc-le-zero, le_of_suc-le-suc}
use native.Mathlib.Omega.{arith}
use mathlib.Core.List.{List}
use lib.ListN.{length, get_or, replicate, get_or-eq_default}
use lib.Seq.{ext_get_or}
use Rattle.scope.specs.Base.{list_from, list_below}

-- as many as are asked for
pub length-list_from : (f : ℕ → ℕ) (i n : ℕ) → length (list_from f i n) ≡ n
unfolding list_from
length-list_from f i zero = refl
length-list_from f i (suc n) = ap suc (length-list_from f (suc i) n)

-- element k is f (i + k)
pub get_or_from : (f : ℕ → ℕ) (i n k : ℕ) → k < n → get_or (list_from f i n) k 0 ≡ f (i + k)
unfolding list_from
get_or_from f i zero k h = absurd (not-suc-le-zero h)
get_or_from f i (suc n) zero h = ap f (sym (add-zero i))
get_or_from f i (suc n) (suc k) h = get_or_from f (suc i) n k (le_of_suc-le-suc h) ∙ ap f (suc-add i k ∙ sym (add-suc i k))

-- element k is f k
pub get_or-below : (f : ℕ → ℕ) (n k : ℕ) → k < n → get_or (list_below n f) k 0 ≡ f k
get_or-below f n k h = get_or_from f 0 n k h ∙ ap f (zero-add k)

-- the one list of n elements with f k at each place k
pub list_below_only : (f : ℕ → ℕ) (n : ℕ) (xs : List ℕ) → length xs ≡ n → ((k : ℕ) → k < n → get_or xs k 0 ≡ f k) → xs ≡ list_below n f
list_below_only f n xs l h =
    ext_get_or 0 xs (list_below n f) (l ∙ sym (length-list_from f 0 n))
    (λ k b. let c : k < n = omega (arith, l) in h k c ∙ sym (get_or-below f n k c))

-- one element n times, and itself past the end
pub zero_at : (z n j : ℕ) → get_or (replicate n z) j z ≡ z
zero_at z zero j = refl
zero_at z (suc n) zero = refl
zero_at z (suc n) (suc j) = zero_at z n j

-- past the end there is 0
pub past_end : (xs : List ℕ) (i : ℕ) → length xs ≤ i → 0 ≡ get_or xs i 0
past_end xs i h = sym (get_or-eq_default xs 0 h)
