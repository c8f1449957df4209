-- Any two outcomes that a public function's statement allows are equal. `Post` is the plain reading that Rattle itself makes of the
-- `ensures` clause of src/, so these theorems are about the contracts and about nothing that restates them. Assumes nothing.
use mathlib.Core.Path.{◌≡◌, sym, ◌∙◌}
use contract.Lifetimes.{Lfts}
use borrow.Fn.World.{ArgsD, ResD}
use denote.Triple.Clauses.{AtExit}
use Rattle.lookup.specs.contracts.lookup as lookup
use Rattle.lookup.proofs.lookup.Reads as lookup_reads
use Rattle.lookup.specs.contracts.word as word
use Rattle.lookup.proofs.word.Reads as word_reads

pub lookup_once : (κs : Lfts 2) (a : ArgsD lookup.signature κs) (r₁ r₂ : ResD lookup.signature κs) (s₁ s₂ : AtExit lookup.ended κs)
    → lookup_reads.Post κs a r₁ s₁ → lookup_reads.Post κs a r₂ s₂ → r₁ ≡ r₂
lookup_once κs a r₁ r₂ s₁ s₂ p q = p ∙ sym q

pub word_once : (κs : Lfts 1) (a : ArgsD word.signature κs) (r₁ r₂ : ResD word.signature κs) (s₁ s₂ : AtExit word.ended κs)
    → word_reads.Post κs a r₁ s₁ → word_reads.Post κs a r₂ s₂ → r₁ ≡ r₂
word_once κs a r₁ r₂ s₁ s₂ p q = p ∙ sym q
