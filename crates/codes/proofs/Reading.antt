-- Laws of a reading by any way to look a word up (document 01, "Words and lookup"): n words and then k more, and a reading that has
-- begun. Assumes nothing.
use mathlib.Core.Path.{◌≡◌, refl, sym, ap, ◌∙◌}
use Prim.Native.Nat.{ℕ, zero, suc, ◌+◌, ◌-◌, ◌*◌, ◌≤◌, ◌<◌}
use native.Mathlib.Nat.{zero-add, suc-add}
use native.Mathlib.Numerals.{add-one}
use native.Mathlib.Omega.{arith}
use mathlib.Core.List.{List, [], ◌∷◌, ◌++◌}
use borrow.Rule.Slice.PartMut.{put_mid, same_len_mid, mid_len, post_of}
use lib.ListN.{length, take, drop, set, length-set}
use lib.Seq.{length-take-le, take-suc-set, take-append-add, take-append-le}
use Rattle.scope.specs.Words.{Chain, symbols, stuck_at, ◌before◌, on_word, chain_by}
use Rattle.scope.specs.Found.{Found, some_word}
use Rattle.std.specs.Prelude.{None, Some}
use Rattle.codes.specs.Reading.{onward, position_after, Began}

-- ---- n words, and then k more

-- symbols, and then the rest of a chain
unfoldable pub then : List ℕ → Chain → Chain
then done (symbols ss) = symbols (done ++ ss)
then done (stuck_at p) = stuck_at p

-- one chain, and then another
unfoldable pub joined : Chain → Chain → Chain
joined (symbols ss) c = then ss c
joined (stuck_at p) c = stuck_at p

joined_before : (s : ℕ) (c d : Chain) → joined (s before c) d ≡ s before joined c d
unfolding joined then ◌before◌
joined_before s (symbols ss) (symbols ts) = refl
joined_before s (symbols ss) (stuck_at p) = refl
joined_before s (stuck_at p) d = refl

joined_none : (c : Chain) → joined (symbols []) c ≡ c
unfolding joined then
joined_none (symbols ss) = refl
joined_none (stuck_at p) = refl

-- the words that follow are read from where the first n ended
pub chain_resumes : (look : ℕ → Found) (n at k : ℕ) → chain_by look at (n + k) ≡ joined (chain_by look at n) (chain_by look (position_after look at n) k)
unfolding chain_by position_after
chain_resumes look zero at k = ap (chain_by look at) (zero-add k) ∙ sym (joined_none (chain_by look at k))
chain_resumes look (suc n) at k = ap (chain_by look at) (suc-add n k) ∙ go (chain_resumes look n) (look at)
  where
    go : ((p j : ℕ) → chain_by look p (n + j) ≡ joined (chain_by look p n) (chain_by look (position_after look p n) j)) → (o : Found)
        → on_word o at (λ l s. s before chain_by look (at + l) (n + k))
        ≡ joined (on_word o at (λ l s. s before chain_by look (at + l) n)) (chain_by look (onward o at (λ p. position_after look p n)) k)
    go ih None = unfold on_word joined in refl
    go ih (Some w) = unfold on_word onward in
        (ap (λ (c : Chain). w.symbol before c) (ih (at + w.length) k) ∙ sym (joined_before w.symbol (chain_by look (at + w.length) n) (chain_by look (position_after look (at + w.length) n) k)))

-- no word fits at a position: it stays there
stuck_stays : (look : ℕ → Found) (at k : ℕ) → look at ≡ None → position_after look at k ≡ at
unfolding position_after onward
stuck_stays look at zero e = refl
stuck_stays look at (suc k) e = rw e

-- the position after n words and then k more
pub position_resumes : (look : ℕ → Found) (n at k : ℕ) → position_after look at (n + k) ≡ position_after look (position_after look at n) k
unfolding position_after
position_resumes look zero at k = ap (position_after look at) (zero-add k)
position_resumes look (suc n) at k = ap (position_after look at) (suc-add n k) ∙ go (position_resumes look n) (look at) refl
  where
    go : ((p j : ℕ) → position_after look p (n + j) ≡ position_after look (position_after look p n) j) → (o : Found) → look at ≡ o
        → onward o at (λ p. position_after look p (n + k)) ≡ position_after look (onward o at (λ p. position_after look p n)) k
    go ih None e = unfold onward in (sym (stuck_stays look at k e))
    go ih (Some w) e = unfold onward in (ih (at + w.length) k)

-- a word has at most 18 bits
pub position_near : (look : ℕ → Found) → ((p l s : ℕ) → look p ≡ some_word l s → l ≤ 18) → (n at : ℕ) → position_after look at n ≤ at + 18 * n
unfolding position_after
position_near look short zero at = omega arith
position_near look short (suc n) at = go (position_near look short n) (look at) refl
  where
    go : ((p : ℕ) → position_after look p n ≤ p + 18 * n) → (o : Found) → look at ≡ o → onward o at (λ p. position_after look p n) ≤ at + 18 * suc n
    go ih None e = unfold onward in (omega arith)
    go ih (Some w) e = unfold onward in (omega (arith, ih (at + w.length), short at w.length w.symbol e))

-- ---- a reading that has begun

-- before the first word
pub began_none : (look : ℕ → Found) (at : ℕ) (out : List ℕ) → Began look at out at 0
unfolding chain_by position_after
began_none look at out = record { within = omega arith; read = refl; stands = refl }

module _ (look : ℕ → Found) (at : ℕ) (out : List ℕ) (p k : ℕ) (b : Began look at out p k) where
  -- the words that follow are read from p on
  began_chain : (j : ℕ) → chain_by look at (k + j) ≡ then (take k out) (chain_by look p j)
  unfolding joined
  began_chain j = chain_resumes look k at j ∙ rw (b.read, ← b.stands)

  began_position : (j : ℕ) → position_after look at (k + j) ≡ position_after look p j
  began_position j = position_resumes look k at j ∙ rw (← b.stands)

  -- one word more
  pub began_word : (l s : ℕ) → k < length out → look p ≡ some_word l s → Began look at (set out k s) (p + l) (k + 1)
  unfolding chain_by on_word ◌before◌ then position_after onward
  began_word l s h f = record {
    within = rw length-set (omega arith);
    read =
        let one : chain_by look p 1 ≡ symbols (s ∷ []) = rw f in
        let put : take (k + 1) (set out k s) ≡ take k out ++ s ∷ [] = ap (λ (j : ℕ). take j (set out k s)) (add-one k) ∙ take-suc-set out k s h in
        began_chain 1 ∙ rw (one, put);
    stands =
        let one : position_after look p 1 ≡ p + l = rw f in
        sym (began_position 1 ∙ one);
  }

  -- no word: the chain of n words is stuck there
  pub began_stuck : (n : ℕ) → k < n → look p ≡ None → chain_by look at n ≡ stuck_at p
  unfolding chain_by on_word then
  began_stuck n h f =
      let e : n ≡ k + suc (n - suc k) = omega arith in
      ap (chain_by look at) e ∙ began_chain (suc (n - suc k)) ∙ rw f

  -- i words more, read into the places from k up to c
  module _ (c : ℕ) (ys : List ℕ) (q i : ℕ) (g : k ≤ c) (h : c ≤ length out) (l : length ys ≡ length (take (c - k) (drop k out))) (m : Began look p ys q i) where
    put_front : take (k + i) (put_mid k (c - k) out ys) ≡ take k out ++ take i ys
    put_front =
        let n : length (take k out) ≡ k = length-take-le k out (omega arith) in
        ap (λ (j : ℕ). take (j + i) (put_mid k (c - k) out ys)) (sym n) ∙ take-append-add (take k out) (ys ++ post_of k (c - k) out) i
        ∙ ap (λ (t : List ℕ). take k out ++ t) (take-append-le i ys (post_of k (c - k) out) m.within)

    pub began_more : Began look at (put_mid k (c - k) out ys) q (k + i)
    unfolding then
    began_more = record {
      within = rw (same_len_mid k (c - k) out ys l) (omega (arith, m.within, l, mid_len k c out h));
      read = began_chain i ∙ rw (m.read, put_front);
      stands = m.stands ∙ sym (began_position i);
    }

-- any two readings that have begun and read as many words stand at the same position, and have the same symbols
pub began_once : {look : ℕ → Found} {at p₁ p₂ k₁ k₂ : ℕ} {out₁ out₂ : List ℕ} → Began look at out₁ p₁ k₁ → Began look at out₂ p₂ k₂ → k₁ ≡ k₂
    → (p₁ ≡ p₂) × (take k₁ out₁ ≡ take k₂ out₂)
began_once {look} {at} {k₁ = k₁} {k₂} {out₁} {out₂} a b e = (
  a.stands ∙ ap (position_after look at) e ∙ sym b.stands,
  same (take k₁ out₁) (take k₂ out₂) (sym a.read ∙ ap (chain_by look at) e ∙ b.read),
)
  where
    same : (ss ts : List ℕ) → symbols ss ≡ symbols ts → ss ≡ ts
    same ss ts f = cc
