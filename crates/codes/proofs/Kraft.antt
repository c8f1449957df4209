-- Where a plane's shares total at most one, the words of each length end within that length's range, and the other way round
-- (document 01, "Words and lookup", refusal 10). Over the length, and over any number of lengths. Assumes nothing.
use mathlib.Core.Path.{◌≡◌, refl, sym, ap, ◌∙◌}
use mathlib.Core.Logic.{◌↔◌}
use Prim.Native.Nat.{ℕ, zero, suc, ◌+◌, ◌-◌, ◌*◌, ◌^◌, ◌≤◌, ◌<◌}
use native.Mathlib.Nat.{add-mul, mul_assoc, pow-succ', mul-le-mul_right, not-suc-le-zero, le_of_eq, lt_of_mul-lt-mul_right, le_of_suc-le-suc, not-le_of_lt, lt_of_lt_of_le}
use native.Mathlib.Numerals.{add-one}
use native.Mathlib.Omega.{arith}
use native.Mathlib.Decide.{dec_le}
use mathlib.Core.List.{List, [], ◌∷◌}
use mathlib.Core.Bool.{true, false, cond}
use lib.ListN.{length}
use lib.Dec.{ltb}
use lib.Pow.{pow_pos, pow-add}
use borrow.Author.Tests.{eq-eqb, ne_eqb, lt-ltb, le-ltb, ltb-false}
use Rattle.scope.specs.Base.{half_up, count}
use Rattle.scope.specs.Words.{longest, length_of, word_of, share, shares, start_down, first, overfull}
use Rattle.codes.specs.Tiers.{end}
use Rattle.codes.proofs.Longest.{at_most_longest}
use Rattle.codes.proofs.Words.{word_lt_end}

-- the shares of the words longer than l
unfoldable longer : ℕ → List ℕ → ℕ
longer l [] = 0
longer l (x ∷ xs) = cond (ltb l x) (share x) 0 + longer l xs

longer_le : (l : ℕ) (xs : List ℕ) → longer l xs ≤ shares xs
unfolding longer shares
longer_le l [] = omega arith
longer_le l (x ∷ xs) = elim (dec_le (suc l) x) [
  | yes h ↦ simp (lt-ltb _ _ h) (omega (arith, longer_le l xs))
  | no h ↦ (let q : x ≤ l = omega (arith, h) in simp (le-ltb l x q) (omega (arith, longer_le l xs)))
]

longer_none : (l : ℕ) (xs : List ℕ) → longest xs ≤ l → longer l xs ≡ 0
unfolding longer longest
longer_none l [] h = refl
longer_none l (x ∷ xs) h =
    let q : x ≤ l = omega arith in
    simp (le-ltb _ _ q) (omega (arith, longer_none l xs (omega arith)))

longer_all : (ls : List ℕ) → longer 0 ls ≡ shares ls
unfolding longer shares share
longer_all [] = refl
longer_all (zero ∷ xs) = omega (arith, longer_all xs)
longer_all (suc x ∷ xs) =
    let h : 0 < suc x = omega arith in
    rw (lt-ltb 0 (suc x) h) (omega (arith, longer_all xs))

longer_step : (l : ℕ) (xs : List ℕ) → longer l xs ≡ longer (suc l) xs + count (suc l) xs * share (suc l)
unfolding longer count
longer_step l [] = omega arith
longer_step l (x ∷ xs) =
    let ih : longer l xs ≡ longer (suc l) xs + count (suc l) xs * share (suc l) = longer_step l xs in
    elim (dec_le x l) [
      | yes a ↦ (
          let b : x ≤ suc l = omega arith in
          let c : x ≡ suc l → ⊥ = λ e. not-le_of_lt (le_of_eq (sym e)) a in
          simp (add-mul, le-ltb l x a, le-ltb (suc l) x b, ne_eqb x (suc l) c) (omega arith))
      | no a ↦ elim (dec_le x (suc l)) [
        | yes b ↦ (
            let c : l < x = omega (arith, a) in
            let e : x ≡ suc l = omega arith in
            simp (add-mul, lt-ltb l x c, le-ltb (suc l) x b, eq-eqb x (suc l) e, ap share e) (omega arith))
        | no b ↦ (
            let c : l < x = omega (arith, a) in
            let d : suc l < x = omega (arith, b) in
            let e : x ≡ suc l → ⊥ = λ e. b (le_of_eq e) in
            simp (add-mul, lt-ltb l x c, lt-ltb (suc l) x d, ne_eqb x (suc l) e) (omega arith))
      ]
    ]

-- ---- the words of length m - d start where the shares of the longer words end, rounded up

-- not more than one word later
starts : (ls : List ℕ) (d : ℕ) → d ≤ longest ls → longest ls ≤ 18
    → start_down ls d * 2 ^ (18 - (longest ls - d)) < longer (longest ls - d) ls + 2 ^ (18 - (longest ls - d))
unfolding start_down share
starts ls zero h k = omega (arith, pow_pos (18 - (longest ls - 0)))
starts ls (suc d) h k =
    let m : ℕ = longest ls in
    let l : ℕ = m - suc d in
    let e : m - d ≡ suc l = omega arith in
    let f : 18 - l ≡ suc (18 - suc l) = omega arith in
    let u : ℕ = 2 ^ (18 - suc l) in
    let a : ℕ = start_down ls d in
    let c : ℕ = count (suc l) ls in
    let ih : a * u < longer (suc l) ls + u = rw e at (starts ls d (omega arith) k) in
    let g : share (suc l) ≡ u = refl in
    let st : longer l ls ≡ longer (suc l) ls + c * u = longer_step l ls in
    let hh : half_up (a + c) * 2 ≤ a + c + 1 = omega arith in
    let p : half_up (a + c) * 2 * u ≤ (a + c + 1) * u = mul-le-mul_right u hh in
    let q : half_up (a + c) * 2 * u ≤ a * u + c * u + 1 * u = simp add-mul at p in
    rw (e, f, pow-succ', ← mul_assoc) (omega arith)

-- and not before
takes : (ls : List ℕ) (d : ℕ) → d ≤ longest ls → longest ls ≤ 18
    → longer (longest ls - d) ls ≤ start_down ls d * 2 ^ (18 - (longest ls - d))
unfolding start_down share
takes ls zero h k = omega (arith, longer_none (longest ls - 0) ls (omega arith))
takes ls (suc d) h k =
    let m : ℕ = longest ls in
    let l : ℕ = m - suc d in
    let e : m - d ≡ suc l = omega arith in
    let f : 18 - l ≡ suc (18 - suc l) = omega arith in
    let u : ℕ = 2 ^ (18 - suc l) in
    let a : ℕ = start_down ls d in
    let c : ℕ = count (suc l) ls in
    let ih : longer (suc l) ls ≤ a * u = rw e at (takes ls d (omega arith) k) in
    let g : share (suc l) ≡ u = refl in
    let st : longer l ls ≡ longer (suc l) ls + c * u = longer_step l ls in
    let hh : a + c ≤ half_up (a + c) * 2 = omega arith in
    let p : (a + c) * u ≤ half_up (a + c) * 2 * u = mul-le-mul_right u hh in
    let q : a * u + c * u ≤ half_up (a + c) * 2 * u = simp add-mul at p in
    rw (e, f, pow-succ', ← mul_assoc) (omega arith)

-- ---- both ways

-- where the shares total at most one, the words of each length end within its range
pub end_fits : (ls : List ℕ) (l : ℕ) → 0 < l → l ≤ longest ls → longest ls ≤ 18 → shares ls ≤ 262144 → end ls l ≤ 2 ^ l
unfolding end first share
end_fits ls zero n h k s = absurd (not-suc-le-zero n)
end_fits ls (suc l) n h k s =
    let m : ℕ = longest ls in
    let e : m - (m - suc l) ≡ suc l = omega arith in
    let u : ℕ = 2 ^ (18 - suc l) in
    let a : ℕ = start_down ls (m - suc l) in
    let c : ℕ = count (suc l) ls in
    let b : a * u < longer (suc l) ls + u = rw e at (starts ls (m - suc l) (omega arith) k) in
    let st : longer l ls ≡ longer (suc l) ls + c * u = longer_step l ls in
    let t : longer l ls ≤ shares ls = longer_le l ls in
    let z : suc l + (18 - suc l) ≡ 18 = omega arith in
    let w : 2 ^ suc l * u ≡ 262144 = sym (pow-add 2 (suc l) (18 - suc l)) ∙ ap (λ (j : ℕ). 2 ^ j) z in
    let r : (a + c) * u < (2 ^ suc l + 1) * u = simp add-mul (omega arith) in
    le_of_suc-le-suc (rw add-one at (lt_of_mul-lt-mul_right u r))

-- where those of length 1 do, the shares total at most one
pub shares_fit : (ls : List ℕ) → 0 < longest ls → longest ls ≤ 18 → end ls 1 ≤ 2 → shares ls ≤ 262144
unfolding end first share
shares_fit ls p k b =
    let m : ℕ = longest ls in
    let e : m - (m - 1) ≡ 1 = omega arith in
    let a : ℕ = start_down ls (m - 1) in
    let t : longer 1 ls ≤ a * 131072 = rw e at (takes ls (m - 1) (omega arith) k) in
    let st : longer 0 ls ≡ longer 1 ls + count 1 ls * 131072 = longer_step 0 ls in
    omega (arith, longer_all ls)

-- no words have no shares
pub shares_none : (ls : List ℕ) → longest ls ≡ 0 → shares ls ≡ 0
shares_none ls e = sym (longer_all ls) ∙ longer_none 0 ls (le_of_eq e)

-- the shares total at most one exactly where the words of every length end within its range
pub tiers_fit : (ls : List ℕ) → longest ls ≤ 18
    → (shares ls ≤ 262144) ↔ ((l : ℕ) → 0 < l → l ≤ longest ls → end ls l ≤ 2 ^ l)
tiers_fit ls k = (λ s l z h. end_fits ls l z h k s, back)
  where
    back : ((l : ℕ) → 0 < l → l ≤ longest ls → end ls l ≤ 2 ^ l) → shares ls ≤ 262144
    back h = elim (dec_le (longest ls) 0) [
      | yes z ↦ omega (arith, shares_none ls (omega arith))
      | no z ↦ (
          let p : 0 < longest ls = omega (arith, z) in
          shares_fit ls p k (h 1 (omega arith) p))
    ]

-- and then each word is a number of as many bits as it has
pub word_fits : (ls : List ℕ) → longest ls ≤ 18 → shares ls ≤ 262144 → (s : ℕ) → s < length ls → 0 < length_of ls s
    → word_of ls s < 2 ^ length_of ls s
word_fits ls k f s i z = lt_of_lt_of_le (word_lt_end ls s i) (end_fits ls (length_of ls s) z (at_most_longest ls s) k f)

-- ---- refusal 10's test

-- shares of at most one pass
pub over_none : (ls : List ℕ) → shares ls ≤ 262144 → overfull ls ≡ false
unfolding overfull
over_none ls h = le-ltb 262144 (shares ls) h

-- greater ones do not
pub over_some : (ls : List ℕ) → 262144 < shares ls → overfull ls ≡ true
unfolding overfull
over_some ls h = lt-ltb 262144 (shares ls) h

-- and what passes is at most one
pub none_over : (ls : List ℕ) → overfull ls ≡ false → shares ls ≤ 262144
unfolding overfull
none_over ls h = ltb-false 262144 (shares ls) h
