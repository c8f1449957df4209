-- Any two outcomes that a public function's statement allows are equal; of `words`, which reads into lent memory, any two that read as many
-- words end at the same position and hand out the same symbols, in samples of any type (sample::Sample; at u8 and u16 a sample is its
-- number). How many are read is not said: whoever calls goes on from there, one by one, and so is told nothing by it. `Post` is the plain
-- reading that Rattle itself makes of the `ensures` clauses of src/. Document 01, "What every public statement settles". Assumes nothing.
use mathlib.Core.Path.{◌≡◌, sym, ◌∙◌}
use contract.Lifetimes.{Lfts}
use borrow.Fn.World.{ArgsD, ResD}
use denote.Param.Laws.{Laws, IsCopy}
use denote.RattleType.{RattleType}
use denote.Triple.Clauses.{AtExit}
use lib.ListN.{take}
use mir.Syntax.{Dict}
use Rattle.lists.specs.Settled.{Settles}
use Rattle.codes.proofs.Reading.{began_once}
use Rattle.sample.specs.declared.Sample as sample
use Rattle.std.specs.declared.clone.Clone as clone
use Rattle.kept.specs.contracts.ahead as ahead
use Rattle.kept.proofs.ahead.Reads as ahead_reads
use Rattle.kept.specs.contracts.begun as begun
use Rattle.kept.proofs.begun.Reads as begun_reads
use Rattle.kept.specs.contracts.entry as entry
use Rattle.kept.proofs.entry.Reads as entry_reads
use Rattle.kept.specs.contracts.words as words
use Rattle.kept.proofs.words.Reads as words_reads

pub begun_once : (κs : Lfts 1) (a : ArgsD begun.signature κs) → Settles (begun_reads.Post κs a)
begun_once κs a r₁ r₂ s₁ s₂ p q = p ∙ sym q

pub ahead_once : (κs : Lfts 1) (a : ArgsD ahead.signature κs) → Settles (ahead_reads.Post κs a)
ahead_once κs a r₁ r₂ s₁ s₂ p q = p ∙ sym q

pub entry_once : (κs : Lfts 1) (a : ArgsD entry.signature κs) → Settles (entry_reads.Post κs a)
entry_once κs a r₁ r₂ s₁ s₂ p q = p ∙ sym q

-- a type T, that it is one that is copied, and what it gives for Sample and for Clone, which Copy asks for
module _ (T : RattleType) (laws : Laws T) (copy : IsCopy T) (S : sample.Ghosts T.Denot) (s-dict : Dict) (C : clone.Ghosts T.Denot) (c-dict : Dict) where
  pub words_once : (κs : Lfts 4) (a : ArgsD (words.signature T) κs) (r₁ r₂ : ResD (words.signature T) κs) (s₁ s₂ : AtExit (words.ended T S s-dict C c-dict) κs)
      → words_reads.Post T laws copy S s-dict C c-dict κs a r₁ s₁ → words_reads.Post T laws copy S s-dict C c-dict κs a r₂ s₂ → r₁.count ≡ r₂.count
      → (r₁.end ≡ r₂.end) × (take r₁.count (S.values s₁.1.1.1.1.0.now) ≡ take r₂.count (S.values s₂.1.1.1.1.0.now))
  words_once κs a r₁ r₂ s₁ s₂ p q e = began_once p q e
