-- The loop that rebuilds a list in place, front to back, one store a turn, over an arbitrary step; scope's `grown` and `rebuilt`
-- say what it makes. Document 01 has no word for it: clearing, adding and predicting are all of this form. Assumes nothing.
--     At step xs s i             it began with xs, has made i elements, and now holds s
--     Sweep step s₀ s a i end    it began with s₀ at place a, stands at place i, goes to `end`, and now holds s
use Rattle.std.proofs.Common.{◌≡◌, ℕ, zero, suc, ◌+◌, ◌-◌, ◌<◌, ◌≤◌, List, [], ◌∷◌, ◌++◌, length, get_or, take, drop, set, sym, refl, ap, ◌∙◌, append-nil, add-zero, add-suc, add-one, arith, length-append, length-set, take-append-drop, take_all, drop-cons, get_or-take, take-suc, take-take, take_at, rules}
use lib.Seq.{set_at, get_or_at, append_snoc, drop-length, take-append-le}
use Rattle.scope.specs.Base.{Step, grown, rebuilt}
use Rattle.memory.specs.Loop.{swept}

pub record At (step : Step) (xs s : List ℕ) (i : ℕ) : Type 0 where
  pub holds : s ≡ grown step xs i ++ drop i xs
  pub within : i ≤ length xs
  pub same : length s ≡ length xs

-- n elements made are n
pub grown-length : (step : Step) (xs : List ℕ) (n : ℕ) → length (grown step xs n) ≡ n
unfolding grown
grown-length step xs zero = refl
grown-length step xs (suc n) = simp (length-append, grown-length step xs n) (omega arith)

-- ---- the loop over a whole list

module _ (step : Step) (xs : List ℕ) where
  -- before the first turn
  pub at_start : At step xs xs 0
  unfolding grown
  at_start = record { holds = refl; within = omega arith; same = refl }

  module _ (s : List ℕ) (i : ℕ) (a : At step xs s i) where
    -- what stands before place i is what was made
    pub at_take : take i s ≡ grown step xs i
    at_take = rw a.holds (take_at (grown step xs i) (drop i xs) i (grown-length step xs i))

    -- what stands at place i is as it was
    pub at_here : i < length s → get_or s i 0 ≡ get_or xs i 0
    at_here h =
        let l : i < length xs = omega arith in
        rw (a.holds, drop-cons xs i 0 l)
        (get_or_at (grown step xs i) (get_or xs i 0) (drop (suc i) xs) 0 i (grown-length step xs i))

    -- after the last turn
    pub at_end : length s ≤ i → s ≡ rebuilt step xs
    at_end h =
        let e : i ≡ length xs = omega arith in
        a.holds ∙ rw (e, drop-length xs) (append-nil (grown step xs (length xs)))

    -- a turn: the value stored is to be the step of the present list, as the code reads it
    pub at_step : (v : ℕ) → i < length s → v ≡ step i (take i s) (get_or s i 0) → At step xs (set s i v) (i + 1)
    unfolding grown
    at_step v h e =
        let l : i < length xs = omega arith in
        record {
          holds =
              rw (e, at_take, at_here h, a.holds, drop-cons xs i 0 l, add-one)
              (set_at (grown step xs i) (get_or xs i 0) (drop (suc i) xs) _ i (grown-length step xs i)
              ∙ sym (append_snoc (grown step xs i) _ _));
          within = omega arith;
          same = simp length-set a.same;
        }

-- ---- what stands where in the list that was made, and that nothing else stands so

module _ (step : Step) (xs : List ℕ) where
  grown_more : (i k : ℕ) → take i (grown step xs (i + k)) ≡ grown step xs i
  unfolding grown
  grown_more i zero = rw add-zero (take_all i (grown step xs i) (omega (arith, grown-length step xs i)))
  grown_more i (suc k) =
      rw add-suc
      (take-append-le i (grown step xs (i + k)) _ (omega (arith, grown-length step xs (i + k))) ∙ grown_more i k)

  -- the first i of n made
  pub grown-take : (i n : ℕ) → i ≤ n → take i (grown step xs n) ≡ grown step xs i
  grown-take i n h =
      let e : n ≡ i + (n - i) = omega arith in
      rw e (grown_more i (n - i))

  -- element i of n made
  pub grown_at : (i n : ℕ) → i < n → get_or (grown step xs n) i 0 ≡ step i (take i (grown step xs n)) (get_or xs i 0)
  unfolding grown
  grown_at i n h =
      sym (get_or-take (suc i) (grown step xs n) i 0 (omega arith))
      ∙ rw (grown-take (suc i) n h, grown-take i n (omega arith))
      (get_or_at (grown step xs i) _ [] 0 i (grown-length step xs i))

  grows : (ys : List ℕ) → length ys ≡ length xs
      → ((i : ℕ) → i < length xs → get_or ys i 0 ≡ step i (take i ys) (get_or xs i 0))
      → (n : ℕ) → n ≤ length xs → take n ys ≡ grown step xs n
  unfolding grown
  grows ys e h zero l = refl
  grows ys e h (suc n) l = rw (take-suc ys n 0 (omega arith), h n l, grows ys e h n (omega arith))

  -- the one list of that length whose element i is the step of the elements before it and of the old element i
  pub rebuilt_only : (ys : List ℕ) → length ys ≡ length xs
      → ((i : ℕ) → i < length xs → get_or ys i 0 ≡ step i (take i ys) (get_or xs i 0)) → ys ≡ rebuilt step xs
  rebuilt_only ys e h = sym (take_all (length xs) ys (omega arith)) ∙ grows ys e h (length xs) (omega arith)

-- ---- the loop over a stretch of the list

same_from : (step : Step) (xs : List ℕ) (k : ℕ) → k ≤ length xs
    → ((i : ℕ) (p : List ℕ) (x : ℕ) → i < k → step i p x ≡ x) → take k xs ≡ grown step xs k
unfolding grown
same_from step xs zero h same = refl
same_from step xs (suc k) h same =
    take-suc xs k 0 h
    ∙ ap (λ (l : List ℕ). l ++ (get_or xs k 0 ∷ [])) (same_from step xs k (omega arith) (λ i p x l. same i p x (omega arith)))
    ∙ ap (λ (y : ℕ). grown step xs k ++ (y ∷ [])) (sym (same k (grown step xs k) (get_or xs k 0) (omega arith)))

-- it begins at k, where a step below k keeps what is there
pub at_from : (step : Step) (xs : List ℕ) (k : ℕ) → k ≤ length xs
    → ((i : ℕ) (p : List ℕ) (x : ℕ) → i < k → step i p x ≡ x) → At step xs xs k
at_from step xs k h same =
    record {
      holds = sym (take-append-drop k xs) ∙ ap (λ (l : List ℕ). l ++ drop k xs) (same_from step xs k h same);
      within = h;
      same = refl;
    }

-- an element that was made
pub at_made : (step : Step) (xs s : List ℕ) (i : ℕ) → At step xs s i
    → (j : ℕ) → j < i → get_or s j 0 ≡ step j (take j s) (get_or xs j 0)
at_made step xs s i a j l =
    let t : take i s ≡ grown step xs i = at_take step xs s i a in
    let h : j ≤ i = omega arith in
    cc (get_or-take i s j 0 l, grown_at step xs j i l, take-take j i s h)

-- what bounds each step bounds each element made
pub at_below : (step : Step) (m : ℕ) → ((i : ℕ) (p : List ℕ) (x : ℕ) → step i p x < m)
    → (xs s : List ℕ) (i : ℕ) → At step xs s i → (j : ℕ) → j < i → get_or s j 0 < m
at_below step m h xs s i a j l = rw (at_made step xs s i a j l) (h _ _ _)

-- ---- `swept`: the loop over the places from i on as a function, so that a function that makes one stretch of a longer loop
-- (a row of a slice) has an equation for its contract

-- two steps that are the same everywhere sweep the same
pub swept_same : (step other : Step) → ((j : ℕ) (p : List ℕ) (x : ℕ) → other j p x ≡ step j p x) → (s : List ℕ) (i n : ℕ)
    → swept other s i n ≡ swept step s i n
unfolding swept
swept_same step other same s i zero = refl
swept_same step other same s i (suc n) =
    rw (same i (take i s) (get_or s i 0)) (swept_same step other same (set s i (step i (take i s) (get_or s i 0))) (suc i) n)

-- A sweep takes the loop from i to i + n, where the two steps agree at those places: the sweep's own step need not know what
-- the loop's step decides by the place.
pub swept_at : (step other : Step) (xs s : List ℕ) (i n : ℕ) → At step xs s i → i + n ≤ length xs
    → ((j : ℕ) (p : List ℕ) (x : ℕ) → i ≤ j → j < i + n → other j p x ≡ step j p x)
    → At step xs (swept other s i n) (i + n)
unfolding swept
swept_at step other xs s i zero a l same = rw add-zero a
swept_at step other xs s i (suc n) a l same =
    let e : i + suc n ≡ suc i + n = omega arith in
    rw e
    (swept_at step other xs _ (suc i) n
    (rw (← add-one i) (at_step step xs s i a _ (omega (arith, a.same)) (same i (take i s) (get_or s i 0) (omega arith) (omega arith))))
    (omega arith)
    (λ j p x h k. same j p x (omega arith) (omega arith)))

-- what the turns that are left will make of the present list is what all of them make of the first
pub record Sweep (step : Step) (s₀ s : List ℕ) (a i end : ℕ) : Type 0 where
  pub due : swept step s i (end - i) ≡ swept step s₀ a (end - a)
  pub within : i ≤ end
  pub same : length s ≡ length s₀

module _ (step : Step) (s₀ : List ℕ) (a end : ℕ) where
  -- before the first turn
  pub sweep_start : a ≤ end → Sweep step s₀ s₀ a a end
  sweep_start h = record { due = refl; within = h; same = refl }

  module _ (s : List ℕ) (i : ℕ) (w : Sweep step s₀ s a i end) where
    -- a turn
    pub sweep_step : (v : ℕ) → i < end → v ≡ step i (take i s) (get_or s i 0) → Sweep step s₀ (set s i v) a (i + 1) end
    unfolding swept
    sweep_step v h e =
        let n : end - i ≡ suc (end - suc i) = omega arith in
        let d : swept step s i (suc (end - suc i)) ≡ swept step s₀ a (end - a) = rw (← n) w.due in
        record { due = rw (add-one, e) d; within = omega arith; same = simp length-set w.same }

    -- after the last turn
    pub sweep_end : end ≤ i → s ≡ swept step s₀ a (end - a)
    unfolding swept
    sweep_end h =
        let n : end - i ≡ 0 = omega arith in
        rw n at w.due

-- what the answers of a loop over a whole list search with
pub ruleset sweeps = (at_start, at_step, at_end, rules)
