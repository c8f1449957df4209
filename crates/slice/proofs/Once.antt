-- Document 01, "What every public statement settles": any two outcomes that the statement of a slice's reading allows have the same answer
-- and the same gaps and, where it is done, the same samples, at any type of samples that are read and predicted. What the samples' places
-- hold after a refusal is not said: the entries clear the whole buffer then. What is the same are the samples' numbers; at u8 and u16 a
-- sample is its number (sample::Sample). `Post` is the plain reading that Rattle itself makes of the `ensures` clauses of src/. Assumes
-- nothing.
use mathlib.Core.Path.{◌≡◌, sym, ◌∙◌}
use mathlib.Core.Bool.{Bool}
use mathlib.Core.List.{List}
use Prim.Native.Nat.{ℕ}
use contract.Lifetimes.{Lfts}
use borrow.Fn.World.{ArgsD, ResD}
use denote.Param.Laws.{Laws, IsCopy}
use denote.RattleType.{RattleType}
use denote.Triple.Clauses.{AtExit}
use mir.Syntax.{Dict}
use Rattle.raw.specs.declared.ReadRaw as read_raw
use Rattle.predict.specs.declared.Predicted as predicted
use Rattle.sample.specs.declared.Sample as sample
use Rattle.std.specs.declared.clone.Clone as clone
use Rattle.scope.specs.Answers.{Answer, done}
use Rattle.views.specs.Places.{samples_at, gaps_at, rows_places}
use Rattle.views.proofs.Views.{only_one}
use Rattle.slice.specs.contracts.read as read
use Rattle.slice.proofs.read.Reads as read_reads

-- ---- two readings of a slice: the same answer, the same gaps and, where it is done, the same buffer

pub record SameSlice (places : List Bool) (r₁ r₂ : Answer) (s₁ s₂ : List ℕ) : Type 0 where
  pub answer : r₁ ≡ r₂
  pub gaps : gaps_at places s₁ ≡ gaps_at places s₂
  pub done : r₁ ≡ done → s₁ ≡ s₂

module _ {places : List Bool} {answer r₁ r₂ : Answer} {samples found s₁ s₂ : List ℕ} where
  pub slices_once : r₁ ≡ answer → (r₁ ≡ done → samples_at places s₁ ≡ samples) → gaps_at places s₁ ≡ found
      → r₂ ≡ answer → (r₂ ≡ done → samples_at places s₂ ≡ samples) → gaps_at places s₂ ≡ found → SameSlice places r₁ r₂ s₁ s₂
  slices_once a₁ p₁ g₁ a₂ p₂ g₂ =
      let same : r₁ ≡ r₂ = a₁ ∙ sym a₂ in
      let gaps : gaps_at places s₁ ≡ gaps_at places s₂ = g₁ ∙ sym g₂ in
      record { answer = same; gaps = gaps; done = λ e. only_one places (p₁ e ∙ sym (p₂ (sym same ∙ e))) gaps }

-- a type T, that it is one that is copied, and what it gives for ReadRaw, for Sample, for Clone, which Copy asks for, and for Predicted
module _ (T : RattleType) (laws : Laws T) (copy : IsCopy T) (R : read_raw.Ghosts T.Denot) (r-dict : Dict) (S : sample.Ghosts T.Denot) (s-dict : Dict)
    (C : clone.Ghosts T.Denot) (c-dict : Dict) (P : predicted.Ghosts T.Denot) (p-dict : Dict) where
  -- the places of the slice's samples, by its record and the pitch of a call
  abbrev pub places : (κs : Lfts 4) → ArgsD (read.signature T) κs → List Bool
  places κs a = rows_places a.1.1.0.width a.1.1.1.0 a.1.1.0.rows

  pub slice_once : (κs : Lfts 4) (a : ArgsD (read.signature T) κs) (r₁ r₂ : ResD (read.signature T) κs) (s₁ s₂ : AtExit (read.ended T R r-dict S s-dict C c-dict P p-dict) κs)
      → read_reads.Post T laws copy R r-dict S s-dict C c-dict P p-dict κs a r₁ s₁ → read_reads.Post T laws copy R r-dict S s-dict C c-dict P p-dict κs a r₂ s₂
      → SameSlice (places κs a) r₁ r₂ (S.values s₁.1.1.1.1.1.1.0.now) (S.values s₂.1.1.1.1.1.1.0.now)
  slice_once κs a r₁ r₂ s₁ s₂ p q = slices_once p.0 p.1.0 p.1.1 q.0 q.1.0 q.1.1
