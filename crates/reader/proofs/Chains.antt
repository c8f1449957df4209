-- What a reading says of the chain, and of a code's own words where its table is read (document 01, "Words and lookup"). Assumes nothing.
use mathlib.Core.Path.{◌≡◌, refl, sym, ap, ◌∙◌, subst}
use Prim.Native.Nat.{ℕ, ◌+◌, ◌*◌, ◌^◌, ◌≤◌, ◌<◌}
use native.Mathlib.Omega.{arith}
use mathlib.Core.List.{List}
use lib.ListN.{length}
use Rattle.scope.specs.Words.{longest, word_at, Chain, symbols, stuck_at, chain_by, chain}
use Rattle.scope.specs.Lookup.{lookup_in}
use Rattle.scope.specs.Found.{Found}
use Rattle.codes.proofs.Words.{FoundIn, found_in}
use Rattle.codes.proofs.Chains.{chain_same}
use Rattle.codes.specs.Reading.{position_after, Readable}
use Rattle.reader.specs.Reading.{reached, WordsRead}
use Rattle.reader.specs.Reading.{Reached}
use Rattle.reader.specs.Reading.{reached_end, reached_stuck}
use Rattle.reader.specs.declared.Stuck.{Stuck}

-- ---- what the two answers say

no_end : (e q : ℕ) → reached_end e ≡ reached_stuck q → ⊥
no_end e q h =
    let z : ◌≡◌ {A = ℕ} 0 1 = cc in
    omega arith

module _ (look : ℕ → Found) (at n : ℕ) (out : List ℕ) where
  -- an end: the chain's symbols are handed out
  pub end_chain : (e : ℕ) → WordsRead look at n (reached_end e) out → chain_by look at n ≡ symbols out
  end_chain e r = go (chain_by look at n) refl r.answer
    where
      go : (c : Chain) → chain_by look at n ≡ c → reached_end e ≡ reached (chain_by look at n) (position_after look at n) → chain_by look at n ≡ symbols out
      go (symbols ss) f a = f ∙ ap symbols (sym (r.handed ss f))
      go (stuck_at q) f a = absurd (no_end e q (a ∙ unfold reached in (ap (λ (c : Chain). reached c (position_after look at n)) f)))

  -- and the reading goes on where it ended
  pub end_position : (e : ℕ) → WordsRead look at n (reached_end e) out → e ≡ position_after look at n
  unfolding reached
  end_position e r =
      let f : reached_end e ≡ reached_end (position_after look at n) = r.answer ∙ ap (λ (c : Chain). reached c (position_after look at n)) (end_chain e r) in
      cc

  -- no word: the chain is stuck there
  pub stuck_chain : (p : ℕ) → WordsRead look at n (reached_stuck p) out → chain_by look at n ≡ stuck_at p
  stuck_chain p r = go (chain_by look at n) refl r.answer
    where
      go : (c : Chain) → chain_by look at n ≡ c → reached_stuck p ≡ reached (chain_by look at n) (position_after look at n) → chain_by look at n ≡ stuck_at p
      go (symbols ss) f a =
          absurd (no_end (position_after look at n) p (sym (a ∙ unfold reached in (ap (λ (c : Chain). reached c (position_after look at n)) f))))
      go (stuck_at q) f a =
          let g : reached_stuck p ≡ reached_stuck q = a ∙ unfold reached in (ap (λ (c : Chain). reached c (position_after look at n)) f) in
          let d : ◌≡◌ {A = Stuck} (record { at = p }) (record { at = q }) = cc in
          f ∙ ap stuck_at (sym (ap (λ (x : Stuck). x.at) d))

-- any two readings answer the same, and where they end they hand out the same
pub reading_once : {look : ℕ → Found} {at n : ℕ} {r₁ r₂ : Reached} {out₁ out₂ : List ℕ}
    → WordsRead look at n r₁ out₁ → WordsRead look at n r₂ out₂ → (r₁ ≡ r₂) × ((e : ℕ) → r₁ ≡ reached_end e → out₁ ≡ out₂)
reading_once {look} {at} {n} {out₁ = out₁} p q = (
  p.answer ∙ sym q.answer,
  λ e f. sym (q.handed out₁ (end_chain look at n out₁ e (subst (λ (r : Reached). WordsRead look at n r out₁) f p))),
)

-- ---- a code's own words, read by its table

module _ (ls words payload : List ℕ) (looks : (p : ℕ) → lookup_in words (longest ls) payload p ≡ word_at ls payload p) where
  -- the table's lookup meets what a reading asks, at an element that holds every symbol
  pub code_readable : (limit at n : ℕ) → longest ls ≤ 18 → length ls ≤ limit → at + 18 * n < 2 ^ 64
      → Readable (lookup_in words (longest ls) payload) limit at n
  code_readable limit at n k b r = record {
    symbol = λ p l s e. (let f : FoundIn ls l s = found_in ls payload p l s (sym (looks p) ∙ e) in omega (arith, f.symbol));
    short = λ p l s e. (let f : FoundIn ls l s = found_in ls payload p l s (sym (looks p) ∙ e) in omega (arith, f.most));
    near = r;
  }

  -- and reads the code's own chain
  pub code_chain : (at n : ℕ) → chain_by (lookup_in words (longest ls) payload) at n ≡ chain ls payload at n
  code_chain at n = chain_same (lookup_in words (longest ls) payload) (word_at ls payload) looks n at
