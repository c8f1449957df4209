-- Laws of chains of words (document 01, demand 3): a chain of n words is the only one, and it is what reading word after word
-- gives; where the reading is stuck there is none. p is a bit position. Assumes nothing.
use mathlib.Core.Path.{fun_ext, ◌≡◌, refl, sym, ap, ◌∙◌, subst}
use mathlib.Core.Logic.{◌↔◌}
use Prim.Native.Nat.{ℕ, zero, suc, ◌+◌}
use native.Mathlib.Omega.{arith}
use mathlib.Core.List.{List, [], ◌∷◌}
use lib.ListN.{length}
use Rattle.scope.specs.Words.{length_of, word_at, Chain, symbols, stuck_at, ◌before◌, on_word, chain_by, chain, Spells}
use Rattle.scope.specs.Found.{Found}
use Rattle.std.specs.Prelude.{None, Some}
use Rattle.codes.proofs.Words.{word_found, found-begins}

-- ---- reading by any way to look a word up

-- two ways that agree everywhere read the same
pub chain_same : (look look' : ℕ → Found) → ((p : ℕ) → look p ≡ look' p) → (n p : ℕ) → chain_by look p n ≡ chain_by look' p n
unfolding chain_by
chain_same look look' h zero p = refl
chain_same look look' h (suc n) p =
    ap (λ (o : Found). on_word o p (λ l s. s before chain_by look (p + l) n)) (h p)
    ∙ ap (on_word (look' p) p)
    (fun_ext (λ l. fun_ext (λ s. ap (λ (c : Chain). s before c) (chain_same look look' h n (p + l)))))

-- a chain that is stuck has no symbols
pub no_symbols : (q : ℕ) (ss : List ℕ) → stuck_at q ≡ symbols ss → ⊥
no_symbols q ss e =
    let z : ◌≡◌ {A = ℕ} 0 1 = cc in
    omega arith

before_symbols : (s : ℕ) (c : Chain) (ss : List ℕ) → s before c ≡ symbols ss → (ts : List ℕ) × ((c ≡ symbols ts) × (s ∷ ts ≡ ss))
unfolding ◌before◌
before_symbols s (symbols ts) ss e = (ts, (refl, cc))
before_symbols s (stuck_at q) ss e = absurd (no_symbols q ss e)

-- as many symbols as are asked for
pub chain_length : (look : ℕ → Found) (n p : ℕ) (ss : List ℕ) → chain_by look p n ≡ symbols ss → length ss ≡ n
unfolding chain_by on_word
chain_length look zero p ss e =
    let q : [] ≡ ss = cc in
    ap length (sym q)
chain_length look (suc n) p ss e = go (chain_length look n) (look p) refl
  where
    go : ((q : ℕ) (ts : List ℕ) → chain_by look q n ≡ symbols ts → length ts ≡ n) → (o : Found) → look p ≡ o → length ss ≡ suc n
    go ih None w = absurd (no_symbols p ss (rw w at e))
    go ih (Some found) w =
        let b = before_symbols found.symbol (chain_by look (p + found.length) n) ss (rw w at e) in
        sym (ap length b.1.1) ∙ ap suc (ih (p + found.length) b.0 b.1.0)

-- ---- chains of a code's own words

module _ (ls payload : List ℕ) where
  -- a chain of words is what reading gives
  pub spells_chain : (p : ℕ) (ss : List ℕ) → Spells ls payload p ss → chain ls payload p (length ss) ≡ symbols ss
  unfolding Spells chain_by on_word ◌before◌
  spells_chain p [] t = refl
  spells_chain p (s ∷ ss) t = rw (word_found ls payload p s t.0, spells_chain (p + length_of ls s) ss t.1)

  -- and what reading gives is a chain of words
  pub chain_spells : (n p : ℕ) (ss : List ℕ) → chain ls payload p n ≡ symbols ss → Spells ls payload p ss
  unfolding chain_by on_word Spells
  chain_spells zero p ss e =
      let q : [] ≡ ss = cc in
      subst (λ (x : List ℕ). Spells ls payload p x) q tt
  chain_spells (suc n) p ss e = go (chain_spells n) (word_at ls payload p) refl
    where
      go : ((q : ℕ) (ts : List ℕ) → chain ls payload q n ≡ symbols ts → Spells ls payload q ts) → (o : Found) → word_at ls payload p ≡ o
          → Spells ls payload p ss
      go ih None w = absurd (no_symbols p ss (rw w at e))
      go ih (Some found) w =
          let b = before_symbols found.symbol (chain ls payload (p + found.length) n) ss (rw w at e) in
          let f = found-begins ls payload p found.length found.symbol w in
          subst (λ (x : List ℕ). Spells ls payload p x) b.1.1
          (f.0, subst (λ (x : ℕ). Spells ls payload (p + x) b.0) f.1 (ih (p + found.length) b.0 b.1.0))

  -- reading n words succeeds exactly where the bits begin with a chain of n words
  pub chain_exactly : (n p : ℕ) (ss : List ℕ) → (chain ls payload p n ≡ symbols ss) ↔ ((length ss ≡ n) × Spells ls payload p ss)
  chain_exactly n p ss = (
    λ e. (chain_length (word_at ls payload) n p ss e, chain_spells n p ss e),
    λ t. ap (chain ls payload p) (sym t.0) ∙ spells_chain p ss t.1,
  )

  -- the chain of n words is the only one
  pub one_chain : (p : ℕ) (ss ts : List ℕ) → length ss ≡ length ts → Spells ls payload p ss → Spells ls payload p ts → ss ≡ ts
  one_chain p ss ts e a b =
      let f : symbols ss ≡ symbols ts = sym (spells_chain p ss a) ∙ ap (chain ls payload p) e ∙ spells_chain p ts b in
      cc
