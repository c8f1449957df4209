-- Any two outcomes that a public function's statement allows have the same numbers, at any type of samples with the loops of a row; at u8 and
-- u16 a sample is its number (sample::Sample), so there they are equal. `Post` is the plain reading that Rattle itself makes of the `ensures`
-- clauses of src/, so these theorems are about the contracts: the samples and the gaps determine the list. Document 01, "What every public
-- statement settles". Assumes nothing.
use Rattle.std.proofs.Common.{◌≡◌, sym, ◌∙◌}
use contract.Lifetimes.{Lfts}
use borrow.Fn.World.{ArgsD, ResD}
use denote.Param.Laws.{Laws, IsCopy}
use denote.RattleType.{RattleType}
use denote.Triple.Clauses.{AtExit}
use mir.Syntax.{Dict}
use Rattle.predict.specs.declared.Predicted as predicted
use Rattle.sample.specs.declared.Sample as sample
use Rattle.std.specs.declared.clone.Clone as clone
use Rattle.views.proofs.Views.{only_one}
use Rattle.predict.specs.contracts.rebuild as rebuild
use Rattle.predict.proofs.rebuild.Reads as rebuild_reads
use Rattle.predict.specs.contracts.row as row
use Rattle.predict.proofs.row.Reads as row_reads
use Rattle.predict.specs.contracts.U8Predicted.left_row as left8
use Rattle.predict.proofs.U8Predicted.left_row.Reads as left8_reads
use Rattle.predict.specs.contracts.U8Predicted.gradient_row as gradient8
use Rattle.predict.proofs.U8Predicted.gradient_row.Reads as gradient8_reads
use Rattle.predict.specs.contracts.U8Predicted.median_row as median8
use Rattle.predict.proofs.U8Predicted.median_row.Reads as median8_reads
use Rattle.predict.specs.contracts.U16Predicted.left_row as left16
use Rattle.predict.proofs.U16Predicted.left_row.Reads as left16_reads
use Rattle.predict.specs.contracts.U16Predicted.gradient_row as gradient16
use Rattle.predict.proofs.U16Predicted.gradient_row.Reads as gradient16_reads
use Rattle.predict.specs.contracts.U16Predicted.median_row as median16
use Rattle.predict.proofs.U16Predicted.median_row.Reads as median16_reads

-- a type T, that it is one that is copied, and what it gives for Predicted, for Sample and for Clone, which Copy asks for
module _ (T : RattleType) (laws : Laws T) (copy : IsCopy T) (P : predicted.Ghosts T.Denot) (p-dict : Dict) (S : sample.Ghosts T.Denot) (s-dict : Dict) (C : clone.Ghosts T.Denot) (c-dict : Dict) where
  pub rebuild_once : (κs : Lfts 2) (a : ArgsD (rebuild.signature T) κs) (r₁ r₂ : ResD (rebuild.signature T) κs) (s₁ s₂ : AtExit (rebuild.ended T P p-dict S s-dict C c-dict) κs)
      → rebuild_reads.Post T laws copy P p-dict S s-dict C c-dict κs a r₁ s₁ → rebuild_reads.Post T laws copy P p-dict S s-dict C c-dict κs a r₂ s₂
      → S.values s₁.1.0.now ≡ S.values s₂.1.0.now
  rebuild_once κs a r₁ r₂ s₁ s₂ p q = only_one _ (p.0 ∙ sym q.0) (p.1 ∙ sym q.1)

  pub row_once : (κs : Lfts 2) (a : ArgsD (row.signature T) κs) (r₁ r₂ : ResD (row.signature T) κs) (s₁ s₂ : AtExit (row.ended T P p-dict S s-dict C c-dict) κs)
      → row_reads.Post T laws copy P p-dict S s-dict C c-dict κs a r₁ s₁ → row_reads.Post T laws copy P p-dict S s-dict C c-dict κs a r₂ s₂
      → S.values s₁.1.0.now ≡ S.values s₂.1.0.now
  row_once κs a r₁ r₂ s₁ s₂ p q = p ∙ sym q

-- the loops of each width
pub left8_once : (κs : Lfts 1) (a : ArgsD left8.signature κs) (r₁ r₂ : ResD left8.signature κs) (s₁ s₂ : AtExit left8.ended κs)
    → left8_reads.Post κs a r₁ s₁ → left8_reads.Post κs a r₂ s₂ → s₁.0.now ≡ s₂.0.now
left8_once κs a r₁ r₂ s₁ s₂ p q = p ∙ sym q

pub gradient8_once : (κs : Lfts 1) (a : ArgsD gradient8.signature κs) (r₁ r₂ : ResD gradient8.signature κs) (s₁ s₂ : AtExit gradient8.ended κs)
    → gradient8_reads.Post κs a r₁ s₁ → gradient8_reads.Post κs a r₂ s₂ → s₁.0.now ≡ s₂.0.now
gradient8_once κs a r₁ r₂ s₁ s₂ p q = p ∙ sym q

pub median8_once : (κs : Lfts 1) (a : ArgsD median8.signature κs) (r₁ r₂ : ResD median8.signature κs) (s₁ s₂ : AtExit median8.ended κs)
    → median8_reads.Post κs a r₁ s₁ → median8_reads.Post κs a r₂ s₂ → s₁.0.now ≡ s₂.0.now
median8_once κs a r₁ r₂ s₁ s₂ p q = p ∙ sym q

pub left16_once : (κs : Lfts 1) (a : ArgsD left16.signature κs) (r₁ r₂ : ResD left16.signature κs) (s₁ s₂ : AtExit left16.ended κs)
    → left16_reads.Post κs a r₁ s₁ → left16_reads.Post κs a r₂ s₂ → s₁.0.now ≡ s₂.0.now
left16_once κs a r₁ r₂ s₁ s₂ p q = p ∙ sym q

pub gradient16_once : (κs : Lfts 1) (a : ArgsD gradient16.signature κs) (r₁ r₂ : ResD gradient16.signature κs) (s₁ s₂ : AtExit gradient16.ended κs)
    → gradient16_reads.Post κs a r₁ s₁ → gradient16_reads.Post κs a r₂ s₂ → s₁.0.now ≡ s₂.0.now
gradient16_once κs a r₁ r₂ s₁ s₂ p q = p ∙ sym q

pub median16_once : (κs : Lfts 1) (a : ArgsD median16.signature κs) (r₁ r₂ : ResD median16.signature κs) (s₁ s₂ : AtExit median16.ended κs)
    → median16_reads.Post κs a r₁ s₁ → median16_reads.Post κs a r₂ s₂ → s₁.0.now ≡ s₂.0.now
median16_once κs a r₁ r₂ s₁ s₂ p q = p ∙ sym q
