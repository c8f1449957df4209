-- Any two outcomes that a public function's statement allows are equal. `Post` is the plain reading that Rattle itself makes of the
-- `ensures` clauses of src/, so these theorems are about the contracts and about nothing that restates them. Assumes nothing.
-- Rattle makes no plain reading of a function over a struct that holds a slice; there the theorem is about the clauses themselves: from
-- what they ensure of two outcomes, side by side, the two are equal.
use mathlib.Core.Path.{◌≡◌, sym, ◌∙◌}
use seplogic.Ra.Ura.{Ura}
use base.Logic.{SProp, ent, sep, fst∗, snd∗}
use prog.Memory.{Memory}
use prog.Routine.{Routine}
use types.Logic.{Logic}
use contract.Lifetimes.{Lfts}
use contract.Monad.{Fun, fact, fact_i, fact_use}
use borrow.Fn.World.{ArgsD, ResD}
use denote.Triple.Clauses.{AtExit}
use denote.Triple.Entry.{Args, Res}
use Rattle.reader.specs.declared.Reader.{Reader}
use Rattle.reader.specs.contracts.Reader.over as over
use Rattle.reader.specs.contracts.Reader.position as position
use Rattle.reader.specs.contracts.Reader.word as word
use Rattle.reader.specs.contracts.Reader.past as past
use Rattle.reader.specs.contracts.next as next
use Rattle.reader.proofs.next.Reads as next_reads

-- ---- the functions over the struct

-- two facts, side by side, show what follows from both
both : {M : Type 1} (𝓤 : Ura M) (φ ψ χ : Type 0) → (φ → ψ → χ) → ent 𝓤 (sep 𝓤 (fact 𝓤 φ) (fact 𝓤 ψ)) (fact 𝓤 χ)
both 𝓤 φ ψ χ f =
    fact_use 𝓤 φ (fst∗ 𝓤 (fact 𝓤 φ) (fact 𝓤 ψ)) (λ x. fact_use 𝓤 ψ (snd∗ 𝓤 (fact 𝓤 φ) (fact 𝓤 ψ)) (λ y. fact_i 𝓤 χ (sep 𝓤 (fact 𝓤 φ) (fact 𝓤 ψ)) (f x y)))

-- a reader is its payload and its position
same_reader : (r₁ r₂ : Reader) → r₁.payload ≡ r₂.payload → r₁.at ≡ r₂.at → r₁ ≡ r₂
same_reader r₁ r₂ e f = λ i. record { payload = e i; at = f i }

module _ {M : Type 1} {𝓤 : Ura M} (𝓛 : Logic 𝓤) (mem : Memory → SProp 𝓤) (run : Routine → Fun 𝓤) where
  pub over_once : (κs : Lfts 1) (a : Args over.signature κs) (r₁ r₂ : Res over.signature κs) (s₁ s₂ : AtExit over.ended κs)
      → ent 𝓤 (sep 𝓤 ((over.clauses 𝓛 mem run κs a).ensures tt r₁ s₁) ((over.clauses 𝓛 mem run κs a).ensures tt r₂ s₂)) (fact 𝓤 (r₁ ≡ r₂))
  over_once κs a r₁ r₂ s₁ s₂ = both 𝓤 _ _ _ (λ p q. same_reader r₁ r₂ (p.0 ∙ sym q.0) (p.1 ∙ sym q.1))

  pub position_once : (κs : Lfts 1) (a : Args position.signature κs) (r₁ r₂ : Res position.signature κs) (s₁ s₂ : AtExit position.ended κs)
      → ent 𝓤 (sep 𝓤 ((position.clauses 𝓛 mem run κs a).ensures tt r₁ s₁) ((position.clauses 𝓛 mem run κs a).ensures tt r₂ s₂)) (fact 𝓤 (r₁ ≡ r₂))
  position_once κs a r₁ r₂ s₁ s₂ = both 𝓤 _ _ _ (λ p q. p ∙ sym q)

  pub word_once : (κs : Lfts 2) (a : Args word.signature κs) (r₁ r₂ : Res word.signature κs) (s₁ s₂ : AtExit word.ended κs)
      → ent 𝓤 (sep 𝓤 ((word.clauses 𝓛 mem run κs a).ensures tt r₁ s₁) ((word.clauses 𝓛 mem run κs a).ensures tt r₂ s₂)) (fact 𝓤 (r₁ ≡ r₂))
  word_once κs a r₁ r₂ s₁ s₂ = both 𝓤 _ _ _ (λ p q. p ∙ sym q)

  pub past_once : (κs : Lfts 1) (a : Args past.signature κs) (r₁ r₂ : Res past.signature κs) (s₁ s₂ : AtExit past.ended κs)
      → ent 𝓤 (sep 𝓤 ((past.clauses 𝓛 mem run κs a).ensures tt r₁ s₁) ((past.clauses 𝓛 mem run κs a).ensures tt r₂ s₂)) (fact 𝓤 (r₁ ≡ r₂))
  past_once κs a r₁ r₂ s₁ s₂ = both 𝓤 _ _ _ (λ p q. same_reader r₁ r₂ (p.0 ∙ sym q.0) (p.1 ∙ sym q.1))

-- ---- the function with plain parameters

pub next_once : (κs : Lfts 2) (a : ArgsD next.signature κs) (r₁ r₂ : ResD next.signature κs) (s₁ s₂ : AtExit next.ended κs)
    → next_reads.Post κs a r₁ s₁ → next_reads.Post κs a r₂ s₂ → r₁ ≡ r₂
next_once κs a r₁ r₂ s₁ s₂ p q = p ∙ sym q
