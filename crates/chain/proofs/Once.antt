-- Any two outcomes that a public function's statement allows have the same answer and, where the reading ended, hand out the same symbols;
-- of rows the gaps are the same after either answer. What a reading that is stuck leaves in the samples' places is not said; whoever
-- answers a refusal clears them. The samples are of any type (sample::Sample), and what is the same are their numbers; at u8 and u16 a
-- sample is its number. `Post` is the plain reading that Rattle itself makes of the `ensures` clauses of src/. Document 01, "What every
-- public statement settles". Assumes nothing.
use mathlib.Core.Path.{◌≡◌}
use Prim.Native.Nat.{ℕ}
use mathlib.Core.Bool.{Bool}
use mathlib.Core.List.{List}
use contract.Lifetimes.{Lfts}
use borrow.Fn.World.{ArgsD, ResD}
use denote.Param.Laws.{Laws, IsCopy}
use denote.RattleType.{RattleType}
use denote.Triple.Clauses.{AtExit}
use mir.Syntax.{Dict}
use Rattle.sample.specs.declared.Sample as sample
use Rattle.std.specs.declared.clone.Clone as clone
use Rattle.reader.specs.Reading.{reached_end}
use Rattle.reader.proofs.Chains.{reading_once}
use Rattle.reader.proofs.Rows.{SameRows, rows_once}
use Rattle.views.specs.Places.{rows_places}
use Rattle.chain.specs.contracts.words as words
use Rattle.chain.proofs.words.Reads as words_reads
use Rattle.chain.specs.contracts.words_rows as words_rows
use Rattle.chain.proofs.words_rows.Reads as words_rows_reads

-- a type T, that it is one that is copied, and what it gives for Sample and for Clone, which Copy asks for
module _ (T : RattleType) (laws : Laws T) (copy : IsCopy T) (S : sample.Ghosts T.Denot) (s-dict : Dict) (C : clone.Ghosts T.Denot) (c-dict : Dict) where
  pub words_once : (κs : Lfts 4) (a : ArgsD (words.signature T) κs) (r₁ r₂ : ResD (words.signature T) κs) (s₁ s₂ : AtExit (words.ended T S s-dict C c-dict) κs)
      → words_reads.Post T laws copy S s-dict C c-dict κs a r₁ s₁ → words_reads.Post T laws copy S s-dict C c-dict κs a r₂ s₂
      → (r₁ ≡ r₂) × ((e : ℕ) → r₁ ≡ reached_end e → S.values s₁.1.1.1.1.0.now ≡ S.values s₂.1.1.1.1.0.now)
  words_once κs a r₁ r₂ s₁ s₂ p q = reading_once p q

  -- the places of the samples, by the width, the pitch and the rows of a call
  abbrev pub places : (κs : Lfts 4) → ArgsD (words_rows.signature T) κs → List Bool
  places κs a = rows_places a.1.1.1.1.0.width a.1.1.1.1.0.pitch a.1.1.1.1.0.count

  pub words_rows_once : (κs : Lfts 4) (a : ArgsD (words_rows.signature T) κs) (r₁ r₂ : ResD (words_rows.signature T) κs) (s₁ s₂ : AtExit (words_rows.ended T S s-dict C c-dict) κs)
      → words_rows_reads.Post T laws copy S s-dict C c-dict κs a r₁ s₁ → words_rows_reads.Post T laws copy S s-dict C c-dict κs a r₂ s₂
      → SameRows (places κs a) r₁ r₂ (S.values s₁.1.1.1.0.now) (S.values s₂.1.1.1.0.now)
  words_rows_once κs a r₁ r₂ s₁ s₂ p q = rows_once p.0 p.1 q.0 q.1
