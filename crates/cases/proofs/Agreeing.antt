-- What it says that samples agree with what is due; and the comparisons of src/lib.rt, each of all at once. Assumes nothing.
use mathlib.Core.Path.{◌≡◌, refl, sym, ap, ◌∙◌}
use mathlib.Core.Bool.{Bool, true, false}
use mathlib.Core.Logic.{inl, inr}
use mathlib.Core.List.{List, []}
use Prim.Native.Nat.{ℕ, zero, suc, ◌+◌, ◌*◌, ◌/◌, ◌≤◌, ◌<◌}
use native.Mathlib.Nat.{not-suc-le-zero}
use native.Mathlib.Omega.{arith}
use native.Mathlib.Decide.{dec_lt}
use borrow.Author.Tests.{eq-eqb, eqb-true}
use lib.Dec.{eqb}
use lib.ListN.{length, get_or, drop}
use Rattle.scope.specs.Base.{list_below}
use Rattle.lists.proofs.Made.{list_below_only}
use Rattle.lists.proofs.Tests.{and_both, which}
use Rattle.std.specs.Bool.{MatchBool}
use Rattle.std.specs.Int.{from_le_bytes}
use Rattle.std.specs.Simd.{first_chunks}
use Rattle.std.proofs.Common.{w16}
use Rattle.std.proofs.lemmas.List.{get_or-drop, get_or-take}
use Rattle.std.specs.List.{AllWithin, HoldsAt, zip}
use Rattle.std.proofs.lemmas.Slice.Zip.{length-zip, get_or-zip}
use Rattle.cases.specs.Held as spec
use Rattle.cases.specs.Held.{held8, held16, agrees}

module _ (due : ℕ → ℕ) (xs : List ℕ) where
  both : (i : ℕ) → agrees due xs (suc i) ≡ true → (agrees due xs i ≡ true) × (eqb (get_or xs i 0) (due i) ≡ true)
  unfolding spec.agrees
  both i h = and_both (agrees due xs i) (eqb (get_or xs i 0) (due i)) h

  agrees_upto : (n : ℕ) → agrees due xs (suc n) ≡ true → (k : ℕ) → k < suc n → Dec (k < n) → (k < n → get_or xs k 0 ≡ due k) → get_or xs k 0 ≡ due k
  agrees_upto n h k l (yes m) go = go m
  agrees_upto n h k l (no m) go =
      let q : k ≡ n = omega arith in
      rw q (eqb-true (get_or xs n 0) (due n) (both n h).1)

  agrees_at : (n : ℕ) → agrees due xs n ≡ true → (k : ℕ) → k < n → get_or xs k 0 ≡ due k
  agrees_at zero h k l = absurd (not-suc-le-zero l)
  agrees_at (suc n) h k l = agrees_upto n h k l (dec_lt k n) (λ m. agrees_at n (both n h).0 k m)

  -- `agrees` says it: the samples are just what is due
  pub agrees_only : agrees due xs (length xs) ≡ true → xs ≡ list_below (length xs) due
  agrees_only h = list_below_only due (length xs) xs refl (λ k l. agrees_at (length xs) h k l)

  agrees_all : (n : ℕ) → ((k : ℕ) → k < n → get_or xs k 0 ≡ due k) → true ≡ agrees due xs n
  unfolding spec.agrees
  agrees_all zero h = refl
  agrees_all (suc n) h =
      rw (← agrees_all n (λ k l. h k (omega arith)), eq-eqb (get_or xs n 0) (due n) (h n (omega arith))) refl

  -- one sample is another
  agrees_not : (k : ℕ) → k < length xs → (get_or xs k 0 ≡ due k → ⊥) → false ≡ agrees due xs (length xs)
  agrees_not k l n = elim (which (agrees due xs (length xs))) [
    | inl e ↦ absurd (n (agrees_at (length xs) e k l))
    | inr e ↦ sym e
  ]

-- ---- the comparisons

-- every word with the one that is due
pub words_agree : (v w : ℕ) (xs : List ℕ) → w ≡ v → (r : Bool)
    → MatchBool r (AllWithin (λ x. x ≡ w) xs 0 (length xs)) ((k : ℕ) × (k < length xs) × HoldsAt (λ x. x ≡ w → ⊥) xs k)
    → r ≡ agrees (λ j. v) xs (length xs)
words_agree v w xs e true h = agrees_all (λ j. v) xs (length xs) (λ k l. h k 0 (omega arith) l ∙ e)
words_agree v w xs e false h = agrees_not (λ j. v) xs h.0 h.1 (λ q. h.2 0 (q ∙ sym e))

-- every sample with the byte that is due
pub bytes_agree : (xs after : List ℕ) → length xs ≤ length after → (r : Bool)
    → MatchBool r (AllWithin (λ (p : ℕ × ℕ). p.0 ≡ p.1) (zip xs after) 0 (length (zip xs after)))
    ((k : ℕ) × (k < length (zip xs after)) × HoldsAt (λ (p : ℕ × ℕ). p.0 ≡ p.1 → ⊥) (zip xs after) k)
    → r ≡ agrees (held8 after) xs (length xs)
unfolding spec.held8
bytes_agree xs after m true h =
    agrees_all (held8 after) xs (length xs)
    (λ k l.
    let b : k < length after = omega arith in
    let c : k < length (zip xs after) = omega (arith, length-zip xs after) in
    rw (get_or-zip xs after k (0, 0) l b) at (h k (0, 0) (omega arith) c))
bytes_agree xs after m false h =
    let l : h.0 < length xs = omega (arith, h.1, length-zip xs after) in
    let b : h.0 < length after = omega arith in
    agrees_not (held8 after) xs h.0 l (rw (get_or-zip xs after h.0 (0, 0) l b) at (h.2 (0, 0)))

-- the two bytes of a pair make the sample that is due
due_after_two : (xs : List ℕ) (i : ℕ) → held16 (drop 2 xs) i ≡ held16 xs (suc i)
unfolding spec.held16
due_after_two xs i =
    let a : get_or (drop 2 xs) (2 * i) 0 ≡ get_or xs (2 * suc i) 0 = get_or-drop 2 xs (2 * i) 0 ∙ ap (λ k. get_or xs k 0) (omega arith) in
    let b : get_or (drop 2 xs) (2 * i + 1) 0 ≡ get_or xs (2 * suc i + 1) 0 = get_or-drop 2 xs (2 * i + 1) 0 ∙ ap (λ k. get_or xs k 0) (omega arith) in
    ap (λ k. k + 256 * get_or (drop 2 xs) (2 * i + 1) 0) a ∙ ap (λ k. get_or xs (2 * suc i) 0 + 256 * k) b

pair_due : (n : ℕ) (xs : List ℕ) (i : ℕ) (d : List ℕ) → i < n → from_le_bytes w16 (get_or (first_chunks 2 n xs) i d) ≡ held16 xs i
unfolding spec.held16
pair_due zero xs i d l = absurd (not-suc-le-zero l)
pair_due (suc n) xs zero d l = omega (arith, get_or-take 2 xs 0 0 (omega arith), get_or-take 2 xs 1 0 (omega arith))
pair_due (suc n) xs (suc i) d l = pair_due n (drop 2 xs) i d (omega arith) ∙ due_after_two xs i

pair_in : (after : List ℕ) (pairs : List (List ℕ)) (k : ℕ) → pairs ≡ first_chunks 2 (length after / 2) after → k < length after / 2
    → from_le_bytes w16 (get_or pairs k []) ≡ held16 after k
pair_in after pairs k e l = rw e (pair_due (length after / 2) after k [] l)

-- every sample with the pair of bytes that is due
pub pairs_agree : (xs after : List ℕ) (pairs : List (List ℕ)) → 2 * length xs ≤ length after → pairs ≡ first_chunks 2 (length after / 2) after
    → length pairs ≡ length after / 2 → (r : Bool)
    → MatchBool r (AllWithin (λ (p : ℕ × List ℕ). p.0 ≡ from_le_bytes w16 p.1) (zip xs pairs) 0 (length (zip xs pairs)))
    ((k : ℕ) × (k < length (zip xs pairs)) × HoldsAt (λ (p : ℕ × List ℕ). p.0 ≡ from_le_bytes w16 p.1 → ⊥) (zip xs pairs) k)
    → r ≡ agrees (held16 after) xs (length xs)
pairs_agree xs after pairs m e n true h =
    agrees_all (held16 after) xs (length xs)
    (λ k l.
    let b : k < length pairs = omega (arith, n) in
    let c : k < length (zip xs pairs) = omega (arith, length-zip xs pairs) in
    rw (get_or-zip xs pairs k (0, []) l b) at (h k (0, []) (omega arith) c) ∙ pair_in after pairs k e (omega (arith, n)))
pairs_agree xs after pairs m e n false h =
    let l : h.0 < length xs = omega (arith, h.1, length-zip xs pairs) in
    let b : h.0 < length pairs = omega (arith, n) in
    agrees_not (held16 after) xs h.0 l (λ q. rw (get_or-zip xs pairs h.0 (0, []) l b) at (h.2 (0, [])) (q ∙ sym (pair_in after pairs h.0 e (omega (arith, n)))))
