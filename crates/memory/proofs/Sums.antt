-- The loop that adds one stretch of a buffer to a later one, at any depth: a turn, and that what it leaves is scope's `plus` in
-- the place of the later stretch. Document 01, "B and R are B'+G and R'+G modulo 2^depth". Assumes nothing.
use Rattle.std.proofs.Common.{◌≡◌, ℕ, zero, suc, ◌+◌, ◌-◌, ◌%◌, ◌^◌, ◌<◌, ◌≤◌, List, [], ◌∷◌, ◌++◌, length, get_or, take, drop, set, sym, refl, ap, ◌∙◌, append_assoc, append-nil, add-zero, add-suc, arith, get_or-take, drop-drop, le-ltb, lt-ltb}
use native.Mathlib.Nat.{suc_inj}
use Rattle.scope.specs.Base.{grown}
use Rattle.scope.specs.Prediction.{plus}
use Rattle.lists.specs.Parts.{part, replaced}
use Rattle.memory.specs.Sum.{added}
use Rattle.lists.proofs.Parts.{length_part, part_next}
use Rattle.memory.proofs.InPlace.{At, at_from, at_step, grown-take, at_take}

-- before the first turn
pub add_start : (depth from to n : ℕ) (xs : List ℕ) → to + n ≤ length xs → At (added depth from to) xs xs (to + 0)
unfolding added
add_start depth from to n xs h =
    rw add-zero (at_from (added depth from to) xs to (omega arith) (λ i p x l. simp (lt-ltb i to l)))

-- a turn
pub add_step : (depth from to n : ℕ) (xs s : List ℕ) (i v : ℕ) → At (added depth from to) xs s (to + i) → i < n
    → from + n ≤ to → to + n ≤ length s → v ≡ (get_or s (to + i) 0 + get_or s (from + i) 0) % 2 ^ depth
    → At (added depth from to) xs (set s (to + i) v) (to + (i + 1))
unfolding added
add_step depth from to n xs s i v a h l k e =
    let p : to + (i + 1) ≡ to + i + 1 = omega arith in
    let q : to + i - to ≡ i = omega arith in
    let b : from + i < to + i = omega arith in
    let t : to ≤ to + i = omega arith in
    rw p
    (at_step (added depth from to) xs s (to + i) a v (omega arith)
    (rw (le-ltb (to + i) to t, q, get_or-take (to + i) s (from + i) 0 b) e))

-- as many sums as pairs
pub plus-length : (depth : ℕ) (xs ys : List ℕ) → length xs ≡ length ys → length (plus depth xs ys) ≡ length xs
unfolding plus
plus-length depth [] ys e = refl
plus-length depth (x ∷ xs) [] e = absurd (omega arith)
plus-length depth (x ∷ xs) (y ∷ ys) e = ap suc (plus-length depth xs ys (suc_inj e))

-- pairs after pairs
pub plus-append : (depth : ℕ) (xs ys xs' ys' : List ℕ) → length xs ≡ length ys
    → plus depth (xs ++ xs') (ys ++ ys') ≡ plus depth xs ys ++ plus depth xs' ys'
unfolding plus
plus-append depth [] [] xs' ys' e = refl
plus-append depth [] (b ∷ ys) xs' ys' e = absurd (omega arith)
plus-append depth (a ∷ xs) [] xs' ys' e = absurd (omega arith)
plus-append depth (a ∷ xs) (b ∷ ys) xs' ys' e =
    ap (λ (l : List ℕ). (a + b) % 2 ^ depth ∷ l) (plus-append depth xs ys xs' ys' (suc_inj e))

module _ (depth from to : ℕ) (xs : List ℕ) where
  -- what stands before `to` stays
  kept : to ≤ length xs → grown (added depth from to) xs to ≡ take to xs
  unfolding added
  kept h = sym (at_take (added depth from to) xs xs to (at_from (added depth from to) xs to h (λ i p x l. simp (lt-ltb i to l))))

  -- the samples of the earlier stretch stand in what was made as they were
  same_before : (n j : ℕ) → to ≤ length xs → j < to → get_or (grown (added depth from to) xs (to + n)) j 0 ≡ get_or xs j 0
  same_before n j h l =
      let g : to ≤ to + n = omega arith in
      cc (
        get_or-take to (grown (added depth from to) xs (to + n)) j 0 l,
        grown-take (added depth from to) xs to (to + n) g,
        kept h,
        get_or-take to xs j 0 l,
      )

  next : (n : ℕ) → to ≤ length xs → from + n < to
      → grown (added depth from to) xs (to + suc n)
      ≡ grown (added depth from to) xs (to + n) ++ ((get_or xs (to + n) 0 + get_or xs (from + n) 0) % 2 ^ depth ∷ [])
  unfolding grown added
  next n h l =
      let q : to + n - to ≡ n = omega arith in
      let t : to ≤ to + n = omega arith in
      rw (add-suc, le-ltb (to + n) to t, q, same_before n (from + n) h l)

  -- what was made after n turns
  sums_grown : (n : ℕ) → from + n ≤ to → to + n ≤ length xs
      → grown (added depth from to) xs (to + n) ≡ take to xs ++ plus depth (part xs to n) (part xs from n)
  unfolding plus
  sums_grown zero l k = rw (add-zero, append-nil) (kept (omega arith))
  sums_grown (suc n) l k =
      next n (omega arith) (omega arith)
      ∙ rw (
        part_next xs to n (omega arith),
        part_next xs from n (omega arith),
        plus-append depth (part xs to n) (part xs from n) (get_or xs (to + n) 0 ∷ []) (get_or xs (from + n) 0 ∷ [])
            (length_part xs to n (omega arith) ∙ sym (length_part xs from n (omega arith))),
        sums_grown n (omega arith) (omega arith),
      )
      (append_assoc (take to xs) (plus depth (part xs to n) (part xs from n)) _)

-- after the last turn
pub add_end : (depth from to n : ℕ) (xs s : List ℕ) (i : ℕ) → At (added depth from to) xs s (to + i) → i ≤ n → n ≤ i
    → from + n ≤ to → to + n ≤ length s → s ≡ replaced xs to n (plus depth (part xs to n) (part xs from n))
add_end depth from to n xs s i a h k l m =
    let e : i ≡ n = omega arith in
    let o : to + n ≤ length xs = omega (arith, a.same) in
    a.holds
    ∙ rw (e, sums_grown depth from to xs n l o, drop-drop n to xs)
    (append_assoc (take to xs) (plus depth (part xs to n) (part xs from n)) (drop (to + n) xs))
