-- The turn that adds left to four samples by the sums among them. Document 01, "add the left sample across". Assumes nothing.
use Rattle.std.proofs.Common.{◌≡◌, ℕ, ◌+◌, ◌-◌, ◌%◌, ◌^◌, ◌<◌, ◌≤◌, List, length, get_or, set, sym, refl, arith, length-set, get_or-set_other, get_or-take, get_or-set_same, rules}
use Rattle.memory.specs.Loop.{swept}
use Rattle.memory.proofs.Swept.{swept_none, swept_next}
use Rattle.rows.specs.Rows.{leftward}

-- a sample more
left_more : (xs s : List ℕ) (a i left v : ℕ) → a ≤ i → 0 < i → s ≡ swept (leftward 8) xs a (i - a) → left ≡ get_or s (i - 1) 0
    → v ≡ (get_or s i 0 + left) % 2 ^ 8 → set s i v ≡ swept (leftward 8) xs a (i + 1 - a)
left_more xs s a i left v h p w el ev =
    let l : i - 1 < i = omega arith in
    swept_next (leftward 8) xs s a i h w v (rw (get_or-take i s (i - 1) 0 l, ← el) ev)

-- the sample after one just stored
left_after : (xs t : List ℕ) (a j k n v w : ℕ) → k ≡ j + 1 → n ≡ k + 1 → a ≤ j → j < length t
    → set t j v ≡ swept (leftward 8) xs a (k - a) → w ≡ (get_or t k 0 + v) % 2 ^ 8
    → set (set t j v) k w ≡ swept (leftward 8) xs a (n - a)
left_after xs t a j k n v w ek en h l e ew =
    let b : k - 1 ≡ j = omega arith in
    let o : k ≡ j → ⊥ = λ q. omega arith in
    let here : v ≡ get_or (set t j v) (k - 1) 0 = rw b (sym (get_or-set_same t j v 0 l)) in
    let residue : w ≡ (get_or (set t j v) k 0 + v) % 2 ^ 8 = rw (get_or-set_other t j k v 0 o) ew in
    rw en (left_more xs (set t j v) a k v w (omega arith) (omega arith) e here residue)

-- v is left and a sum of residues; left and the sum that has the next residue too is that residue and v
sum_after : (left sum y both v w : ℕ) → v ≡ (left + sum) % 2 ^ 8 → both ≡ (sum + y) % 2 ^ 8 → w ≡ (left + both) % 2 ^ 8
    → w ≡ (y + v) % 2 ^ 8
sum_after left sum y both v w ev eb ew = omega arith

module _ (xs s : List ℕ) (a i end left₀ sum left ab abc abcd v₀ v₁ v₂ v₃ : ℕ) (k : 4 ≤ end - i) (l : end ≤ length s) where
  -- a turn
  pub four_step : s ≡ swept (leftward 8) xs a (i - a) → a ≤ i → 0 < i → (left₀ + sum) % 2 ^ 8 ≡ get_or s (i - 1) 0 % 2 ^ 8
      → left ≡ (left₀ + sum) % 2 ^ 8 → ab ≡ (get_or s i 0 + get_or s (i + 1) 0) % 2 ^ 8 → abc ≡ (ab + get_or s (i + 2) 0) % 2 ^ 8
      → abcd ≡ (abc + get_or s (i + 3) 0) % 2 ^ 8 → v₀ ≡ (left + get_or s i 0) % 2 ^ 8 → v₁ ≡ (left + ab) % 2 ^ 8
      → v₂ ≡ (left + abc) % 2 ^ 8 → v₃ ≡ (left + abcd) % 2 ^ 8
      → set (set (set (set s i v₀) (i + 1) v₁) (i + 2) v₂) (i + 3) v₃ ≡ swept (leftward 8) xs a (i + 4 - a)
  four_step w h p es el e₁ e₂ e₃ d₀ d₁ d₂ d₃ =
      let q₀ : v₀ ≡ (get_or s i 0 + get_or s (i - 1) 0) % 2 ^ 8 = omega arith in
      let q₁ : v₁ ≡ (get_or s (i + 1) 0 + v₀) % 2 ^ 8 = sum_after left (get_or s i 0) (get_or s (i + 1) 0) ab v₀ v₁ d₀ e₁ d₁ in
      let q₂ : v₂ ≡ (get_or s (i + 2) 0 + v₁) % 2 ^ 8 = sum_after left ab (get_or s (i + 2) 0) abc v₁ v₂ d₁ e₂ d₂ in
      let q₃ : v₃ ≡ (get_or s (i + 3) 0 + v₂) % 2 ^ 8 = sum_after left abc (get_or s (i + 3) 0) abcd v₂ v₃ d₂ e₃ d₃ in
      let n₂ : i + 2 ≡ i → ⊥ = λ x. omega arith in
      let n₃ : i + 3 ≡ i → ⊥ = λ x. omega arith in
      let m₃ : i + 3 ≡ i + 1 → ⊥ = λ x. omega arith in
      let r₂ : v₂ ≡ (get_or (set s i v₀) (i + 2) 0 + v₁) % 2 ^ 8 = rw (get_or-set_other s i (i + 2) v₀ 0 n₂) q₂ in
      let r₃ : v₃ ≡ (get_or (set (set s i v₀) (i + 1) v₁) (i + 3) 0 + v₂) % 2 ^ 8 =
      rw (get_or-set_other (set s i v₀) (i + 1) (i + 3) v₁ 0 m₃, get_or-set_other s i (i + 3) v₀ 0 n₃) q₃ in
      left_after xs (set (set s i v₀) (i + 1) v₁) a (i + 2) (i + 3) (i + 4) v₂ v₃ (omega arith) (omega arith) (omega arith)
      (simp length-set (omega arith))
      (left_after xs (set s i v₀) a (i + 1) (i + 2) (i + 3) v₁ v₂ (omega arith) (omega arith) (omega arith)
      (simp length-set (omega arith))
      (left_after xs s a i (i + 1) (i + 2) v₀ v₁ (omega arith) (omega arith) h (omega arith)
      (left_more xs s a i (get_or s (i - 1) 0) v₀ h p w refl q₀)
      q₁)
      r₂)
      r₃

-- left and the sum of the four are the fourth sample, the next one's left
pub four_left : (s : List ℕ) (i end left sum v₀ v₁ v₂ v₃ : ℕ) → 4 ≤ end - i → end ≤ length s → v₃ ≡ (left + sum) % 2 ^ 8
    → (left + sum) % 2 ^ 8 ≡ get_or (set (set (set (set s i v₀) (i + 1) v₁) (i + 2) v₂) (i + 3) v₃) (i + 4 - 1) 0 % 2 ^ 8
four_left s i end left sum v₀ v₁ v₂ v₃ k l e =
    let p : i + 4 - 1 ≡ i + 3 = omega arith in
    let q : i + 3 < length (set (set (set s i v₀) (i + 1) v₁) (i + 2) v₂) = simp length-set (omega arith) in
    let twice : (left + sum) % 2 ^ 8 ≡ v₃ % 2 ^ 8 = omega arith in
    rw (p, get_or-set_same (set (set (set s i v₀) (i + 1) v₁) (i + 2) v₂) (i + 3) v₃ 0 q) twice

-- a turn keeps the length
pub four_kept : (s : List ℕ) (n i v₀ v₁ v₂ v₃ : ℕ) → length s ≡ n
    → length (set (set (set (set s i v₀) (i + 1) v₁) (i + 2) v₂) (i + 3) v₃) ≡ n
four_kept s n i v₀ v₁ v₂ v₃ e = simp length-set e

-- before the first turn nothing is summed
pub no_sum : (x : ℕ) → (x + 0) % 2 ^ 8 ≡ x % 2 ^ 8
no_sum x = omega arith

-- what the answers of the loop by fours search with
pub ruleset fours = (swept_none, no_sum, four_left, rules)
