-- Stretches one after another in a buffer, each filled from its front: what each holds so far, one more part, and the whole.
-- Planes are filled so, slice by slice (document 01, "Layout"), and tables in the workspace. No geometry here.
use mathlib.Core.Path.{◌≡◌, refl, sym, ap, ◌∙◌}
use mathlib.Core.Bool.{Bool, true, false, cond}
use mathlib.Core.List.{List, [], ◌++◌, append-nil}
use Prim.Native.Nat.{ℕ, zero, suc, ◌+◌, ◌≤◌, ◌<◌}
use native.Mathlib.Decide.{ℕ_discrete, dec_le}
use native.Mathlib.Nat.{add-zero}
use native.Mathlib.Omega.{arith}
use borrow.Author.Tests.{eq-eqb, ne_eqb}
use lib.Dec.{eqb}
use lib.ListN.{length, take}
use lib.Seq.{take_all, take-add}
use Rattle.scope.specs.Base.{sum_below}
use Rattle.scope.specs.Base as base
use Rattle.scope.specs.Frame as frm
use Rattle.scope.specs.Frame.{planes_up_to}
use Rattle.lists.specs.Parts.{part, replaced}
use Rattle.geometry.proofs.Order.{Order, stretch_in}
use Rattle.lists.proofs.Sums.{sum_next}
use Rattle.lists.proofs.Parts.{part_before, part_after, part_more, put_keeps}

-- plane p holds xs p so far, so p samples long
pub record Holds (P : ℕ) (σ size : ℕ → ℕ) (so : ℕ → ℕ) (xs : ℕ → List ℕ) (buf : List ℕ) : Type 0 where
  pub each : (p : ℕ) → p < P → part buf (sum_below (σ p) size) (so p) ≡ xs p
  pub room : sum_below P size ≤ length buf

module _ (P : ℕ) (σ size : ℕ → ℕ) (o : Order P σ size) where
  module _ (so : ℕ → ℕ) (xs : ℕ → List ℕ) (buf : List ℕ) (h : Holds P σ size so xs buf) where
    -- n samples more in plane q
    other : (p q n : ℕ) (ys : List ℕ) → p < P → q < P → (p ≡ q → ⊥) → so p ≤ size p → so q + n ≤ size q → length ys ≡ n → part (replaced buf (sum_below (σ q) size + so q) n ys) (sum_below (σ p) size) (so p) ≡ xs p
    other p q n ys hp hq ne fp fq e = go (dec_le (suc (σ p)) (σ q)) ∙ h.each p hp
      where
        differ : σ p ≡ σ q → ⊥
        differ e = ne (sym (o.back p hp) ∙ ap σ e ∙ o.back q hq)

        go : Dec (suc (σ p) ≤ σ q) → part (replaced buf (sum_below (σ q) size + so q) n ys) (sum_below (σ p) size) (so p) ≡ part buf (sum_below (σ p) size) (so p)
        go (yes l) =
            part_before buf (sum_below (σ p) size) (so p) (sum_below (σ q) size + so q) n ys
            (omega (arith, sum_next size (σ p) (σ q) l, o.alike p hp)) (omega (arith, stretch_in P σ size o q hq, h.room))
        go (no l) =
            part_after buf (sum_below (σ p) size) (so p) (sum_below (σ q) size + so q) n ys e
            (omega (arith, sum_next size (σ q) (σ p) (omega (arith, differ)), o.alike q hq)) (omega (arith, stretch_in P σ size o q hq, h.room))

    pub holds_more : (so' : ℕ → ℕ) (xs' : ℕ → List ℕ) (buf' : List ℕ) (q n : ℕ) (ys : List ℕ) → q < P → length ys ≡ n → ((p : ℕ) → p < P → so p ≤ size p) → so q + n ≤ size q → ((p : ℕ) → p < P → (p ≡ q → ⊥) → so' p ≡ so p) → so' q ≡ so q + n → ((p : ℕ) → p < P → xs' p ≡ xs p ++ cond (eqb q p) ys []) → buf' ≡ replaced buf (sum_below (σ q) size + so q) n ys → length buf' ≡ length buf → Holds P σ size so' xs' buf'
    holds_more so' xs' buf' q n ys hq e fits fq same here grows eb el =
        record { each = λ p hp. go p hp (ℕ_discrete p q); room = omega (arith, el, h.room) }
      where
        go : (p : ℕ) → p < P → Dec (p ≡ q) → part buf' (sum_below (σ p) size) (so' p) ≡ xs' p
        go p hp (yes k) =
            let room : sum_below (σ q) size + so q + n ≤ length buf = omega (arith, stretch_in P σ size o q hq, h.room) in
            rw (eb, k, here, grows q hq, eq-eqb q q refl) (part_more buf (sum_below (σ q) size) (so q) n ys e room ∙ ap (λ (l : List ℕ). l ++ ys) (h.each q hq))
        go p hp (no k) =
            let d : eqb q p ≡ false = ne_eqb q p (λ z. k (sym z)) in
            rw (eb, same p hp k, grows p hp, d) (other p q n ys hp hq k (fits p hp) fq e ∙ sym (append-nil (xs p)))

  -- planes that are full are the buffer, in its order
  upto : (xs : ℕ → List ℕ) (buf : List ℕ) → Holds P σ size size xs buf → (b : ℕ) → b ≤ P → take (sum_below b size) buf ≡ planes_up_to (λ b. xs (σ b)) b
  unfolding base.sum_below frm.planes_up_to
  upto xs buf h zero l = refl
  upto xs buf h (suc b) l =
      let e : part buf (sum_below (σ (σ b)) size) (size (σ b)) ≡ xs (σ b) = h.each (σ b) (o.among b l) in
      take-add (sum_below b size) (size b) buf
      ∙ rw (upto xs buf h b (omega arith))
      (ap (λ (y : List ℕ). planes_up_to (λ b. xs (σ b)) b ++ y) (rw (o.back b l, o.alike b l) at e))

  pub holds_all : (so : ℕ → ℕ) (xs : ℕ → List ℕ) (buf : List ℕ) → Holds P σ size so xs buf → length buf ≡ sum_below P size → ((p : ℕ) → p < P → so p ≡ size p) → buf ≡ planes_up_to (λ b. xs (σ b)) P
  holds_all so xs buf h e full =
      sym (take_all (sum_below P size) buf (omega (arith, e)))
      ∙ upto xs buf (record { each = λ p hp. rw (sym (full p hp)) (h.each p hp); room = h.room }) P (omega arith)

  -- a full plane is replaced
  pub holds_put : (xs : ℕ → List ℕ) (buf : List ℕ) → Holds P σ size size xs buf → (q : ℕ) (ys : List ℕ) → q < P → length ys ≡ size q → Holds P σ size size (λ p. cond (eqb q p) ys (xs p)) (replaced buf (sum_below (σ q) size) (size q) ys)
  holds_put xs buf h q ys lq e =
      holds_more less rests buf emptied size (λ p. cond (eqb q p) ys (xs p)) (replaced buf (sum_below (σ q) size) (size q) ys) q (size q) ys lq e
      (λ p l. most (eqb q p) (size p)) (rw (eq-eqb q q refl) (omega arith))
      (λ p l ne. rw (ne_eqb q p (λ z. ne (sym z)))) (rw (eq-eqb q q refl) (omega arith))
      (λ p l. grows (eqb q p) (xs p)) (rw (eq-eqb q q refl, add-zero (sum_below (σ q) size)))
      (put_keeps buf (sum_below (σ q) size) (size q) ys e (omega (arith, stretch_in P σ size o q lq, h.room)))
    where
      less : ℕ → ℕ
      less p = cond (eqb q p) 0 (size p)

      rests : ℕ → List ℕ
      rests p = cond (eqb q p) [] (xs p)

      most : (t : Bool) (n : ℕ) → cond t 0 n ≤ n
      most true n = omega arith
      most false n = omega arith

      grows : (t : Bool) (l : List ℕ) → cond t ys l ≡ cond t [] l ++ cond t ys []
      grows true l = refl
      grows false l = sym (append-nil l)

      emptied : Holds P σ size (λ p. cond (eqb q p) 0 (size p)) (λ p. cond (eqb q p) [] (xs p)) buf
      emptied = record { each = λ p l. go (eqb q p) p (h.each p l); room = h.room }
        where
          go : (t : Bool) (p : ℕ) → part buf (sum_below (σ p) size) (size p) ≡ xs p → part buf (sum_below (σ p) size) (cond t 0 (size p)) ≡ cond t [] (xs p)
          go true p k = refl
          go false p k = k
