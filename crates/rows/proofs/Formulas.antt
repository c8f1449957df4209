-- The predictors as the code goes through them. Document 01: "Left: left. Gradient: left + top − top-left modulo 2^depth.
-- Median at depth 8 .. Median at 10 to 14: T.87". Assumes nothing.
use mathlib.Core.Path.{◌≡◌, refl, sym, ap, ◌∙◌}
use Prim.Native.Nat.{ℕ, ◌+◌, ◌-◌, ◌%◌, ◌^◌, ◌≤◌, ◌<◌, min, max}
use mathlib.Core.Bool.{cond}
use native.Mathlib.Nat.{add-mod-mod, mod-add-mod, add-mod_right}
use native.Mathlib.Decide.{dec_le}
use lib.Dec.{leb}
use native.Mathlib.Omega.{arith}
use borrow.Author.Rules.{rules}
use borrow.Author.Tests.{le-leb, lt-leb, eq-eqb, ne_eqb}
use Rattle.scope.specs.Prediction.{gradient, clamp_median, t87_median, median, predictor}
use Rattle.lists.proofs.Powers.{mod_of_wrapped}

-- ---- the gradient

-- Two numbers with the same remainder still have it with the same added. So what is left of a sum after top-left is taken off
-- is the sum with what top-left lacks to 2^depth.
take_off : (m d c n : ℕ) → c ≤ m → (d + c) % m ≡ n % m → d % m ≡ (n + (m - c)) % m
take_off m d c n h e =
    let p : d + c + (m - c) ≡ d + m = omega arith in
    sym (add-mod_right d m)
    ∙ ap (λ (x : ℕ). x % m) (sym p)
    ∙ sym (mod-add-mod (d + c) m (m - c))
    ∙ ap (λ (x : ℕ). (x + (m - c)) % m) e
    ∙ mod-add-mod n m (m - c)

-- a residue and the gradient, all of it wrapped at 16 bits but for one remainder at the end
pub gradient-sum : (depth r l t c a d v : ℕ) → a ≡ (r + t) % 2 ^ 16 → (d + c) % 2 ^ 16 ≡ a → v ≡ (d + l) % 2 ^ depth
    → c < 2 ^ depth → depth ≤ 16 → v ≡ (r + gradient depth l t c) % 2 ^ depth
unfolding gradient
gradient-sum depth r l t c a d v ea ed ev h k =
    let same : (d + c) % 2 ^ depth ≡ (r + t) % 2 ^ depth =
    sym (mod_of_wrapped (d + c) depth k) ∙ ap (λ (x : ℕ). x % 2 ^ depth) (ed ∙ ea) ∙ mod_of_wrapped (r + t) depth k in
    let off : d % 2 ^ depth ≡ (r + t + (2 ^ depth - c)) % 2 ^ depth = take_off (2 ^ depth) d c (r + t) (omega arith) same in
    let p : r + t + (2 ^ depth - c) + l ≡ r + (l + t + (2 ^ depth - c)) = omega arith in
    ev
    ∙ sym (mod-add-mod d (2 ^ depth) l)
    ∙ ap (λ (x : ℕ). (x + l) % 2 ^ depth) off
    ∙ mod-add-mod (r + t + (2 ^ depth - c)) (2 ^ depth) l
    ∙ ap (λ (x : ℕ). x % 2 ^ depth) p
    ∙ sym (add-mod-mod r (l + t + (2 ^ depth - c)) (2 ^ depth))

-- ---- the clamped median, of its parts as the code has them
pub clamped : (l t c g lo hi x r : ℕ) → g ≡ gradient 8 l t c → lo ≡ min l t → hi ≡ max l t → x ≡ min g hi → r ≡ max lo x
    → r ≡ clamp_median 8 l t c
unfolding clamp_median
clamped l t c g lo hi x r eg el eh ex er = cc

-- ---- T.87: its three cases are one formula in top-left brought between the smaller and the larger of left and top

module _ (lo hi c x y r : ℕ) (o : lo ≤ hi) (ex : x ≡ min c hi) (ey : y ≡ max lo x) (er : r ≡ hi - (y - lo)) where
  at_least : hi ≤ c → r ≡ lo
  at_least h = omega arith

  at_most : c ≤ lo → r ≡ hi
  at_most h = omega arith

  exact : lo < c → c < hi → r ≡ lo + hi - c
  exact h k =
      let e : y ≡ c = omega arith in
      omega arith

-- the formula, of its parts as the code has them
pub t87_clamped : (l t c lo hi x y r : ℕ) → lo ≡ min l t → hi ≡ max l t → x ≡ min c hi → y ≡ max lo x → r ≡ hi - (y - lo)
    → r ≡ t87_median l t c
unfolding t87_median
t87_clamped l t c lo hi x y r el eh ex ey er = go (dec_le (max l t) c) (dec_le c (min l t))
  where
    o : lo ≤ hi
    o = omega arith

    both : lo + hi ≡ l + t
    both = omega arith

    go : Dec (max l t ≤ c) → Dec (c ≤ min l t)
        → r ≡ cond (leb (max l t) c) (min l t) (cond (leb c (min l t)) (max l t) (l + t - c))
    go (yes h) k = simp (le-leb (max l t) c h) (at_least lo hi c x y r o ex ey er (rw eh h) ∙ el)
    go (no h) (yes k) =
        let h' : c < max l t = omega arith in
        simp (lt-leb (max l t) c h', le-leb c (min l t) k) (at_most lo hi c x y r o ex ey er (rw el k) ∙ eh)
    go (no h) (no k) =
        let h' : c < max l t = omega arith in
        let k' : min l t < c = omega arith in
        simp (lt-leb (max l t) c h', lt-leb c (min l t) k')
        (exact lo hi c x y r o ex ey er (rw el k') (rw eh h') ∙ ap (λ (n : ℕ). n - c) both)

-- ---- which predictor a number names, at a place: 1, 2, and any other
pub by_left : (depth kind l t c : ℕ) → kind ≡ 1 → predictor depth kind l t c ≡ l
unfolding predictor
by_left depth kind l t c e = simp (eq-eqb kind 1 e)

pub by_gradient : (depth kind l t c : ℕ) → kind ≡ 2 → predictor depth kind l t c ≡ gradient depth l t c
unfolding predictor
by_gradient depth kind l t c e = rw e

pub by_median : (depth kind l t c : ℕ) → (kind ≡ 1 → ⊥) → (kind ≡ 2 → ⊥) → predictor depth kind l t c ≡ median depth l t c
unfolding predictor
by_median depth kind l t c h k = simp (ne_eqb kind 1 h, ne_eqb kind 2 k)

-- ---- which median a depth names
pub by_clamp : (l t c : ℕ) → clamp_median 8 l t c ≡ median 8 l t c
unfolding median
by_clamp l t c = refl

pub by_t87 : (depth l t c : ℕ) → 8 < depth → t87_median l t c ≡ median depth l t c
unfolding median
by_t87 depth l t c d =
    let n : depth ≡ 8 → ⊥ = λ e. omega arith in
    simp (ne_eqb depth 8 n)

-- what the answers of the predictors search with
pub ruleset formulas = (gradient-sum, clamped, t87_clamped, rules)
