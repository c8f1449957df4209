-- Two sweeps, the second from where the first stopped, are one; so a loop may keep what it has swept so far, where it does not know
-- yet how far it will go. Document 01 speaks of no loop. Assumes nothing.
use Rattle.std.proofs.Common.{◌≡◌, ℕ, zero, suc, ◌+◌, ◌-◌, ◌≤◌, List, get_or, take, set, refl, ◌∙◌, add-zero, zero-add, arith}
use Rattle.scope.specs.Base.{Step}
use Rattle.memory.specs.Loop.{swept}

module _ (step : Step) where
  -- before the first place
  pub swept_none : (s : List ℕ) (a : ℕ) → s ≡ swept step s a (a - a)
  unfolding swept
  swept_none s a =
      let n : a - a ≡ 0 = omega arith in
      rw n refl

  -- n places, then m
  swept-add : (s : List ℕ) (a n m : ℕ) → swept step (swept step s a n) (a + n) m ≡ swept step s a (n + m)
  unfolding swept
  swept-add s a zero m = rw (add-zero, zero-add) refl
  swept-add s a (suc n) m =
      let e : a + suc n ≡ suc a + n = omega arith in
      let k : suc n + m ≡ suc (n + m) = omega arith in
      rw (e, k) (swept-add (set s a (step a (take a s) (get_or s a 0))) (suc a) n m)

  module _ (xs s : List ℕ) (a i : ℕ) (h : a ≤ i) (w : s ≡ swept step xs a (i - a)) where
    -- from a to i, then from i to end
    pub swept_on : (ys : List ℕ) (end : ℕ) → i ≤ end → ys ≡ swept step s i (end - i) → ys ≡ swept step xs a (end - a)
    swept_on ys end k e =
        let p : a + (i - a) ≡ i = omega arith in
        let q : i - a + (end - i) ≡ end - a = omega arith in
        let d : swept step (swept step xs a (i - a)) (a + (i - a)) (end - i) ≡ swept step xs a (i - a + (end - i)) =
        swept-add xs a (i - a) (end - i) in
        e ∙ rw w (rw (p, q) at d)

    -- one place more
    pub swept_next : (v : ℕ) → v ≡ step i (take i s) (get_or s i 0) → set s i v ≡ swept step xs a (i + 1 - a)
    unfolding swept
    swept_next v e =
        let n : i + 1 - i ≡ suc zero = omega arith in
        swept_on (set s i v) (i + 1) (omega arith) (rw (n, e) refl)
