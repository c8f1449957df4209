-- Any two outcomes that a public function's statement allows have the same numbers, at any type of samples; at u8 and u16 a sample is its
-- number (sample::Sample), so there they are equal. `Post` is the plain reading that Rattle itself makes of the `ensures` clauses of src/,
-- so these theorems are about the contracts. Document 01, "What every public statement settles". Assumes nothing.
use Rattle.std.proofs.Common.{◌≡◌, sym, ◌∙◌}
use contract.Lifetimes.{Lfts}
use borrow.Fn.World.{ArgsD, ResD}
use denote.Param.Laws.{Laws, IsCopy}
use denote.RattleType.{RattleType}
use denote.Triple.Clauses.{AtExit}
use mir.Syntax.{Dict}
use Rattle.sample.specs.declared.Sample as sample
use Rattle.std.specs.declared.clone.Clone as clone
use Rattle.buffer.specs.contracts.clear as clear
use Rattle.buffer.proofs.clear.Reads as clear_reads
use Rattle.buffer.specs.contracts.clear_planes as clear_planes
use Rattle.buffer.proofs.clear_planes.Reads as clear_planes_reads
use Rattle.buffer.specs.contracts.add_green as add_green
use Rattle.buffer.proofs.add_green.Reads as add_green_reads

-- a type T, that it is one that is copied, and what it gives for Sample and for Clone, which Copy asks for
module _ (T : RattleType) (laws : Laws T) (copy : IsCopy T) (S : sample.Ghosts T.Denot) (s-dict : Dict) (C : clone.Ghosts T.Denot) (c-dict : Dict) where
  pub clear_once : (κs : Lfts 2) (a : ArgsD (clear.signature T) κs) (r₁ r₂ : ResD (clear.signature T) κs) (s₁ s₂ : AtExit (clear.ended T S s-dict C c-dict) κs)
      → clear_reads.Post T laws copy S s-dict C c-dict κs a r₁ s₁ → clear_reads.Post T laws copy S s-dict C c-dict κs a r₂ s₂
      → S.values s₁.0.now ≡ S.values s₂.0.now
  clear_once κs a r₁ r₂ s₁ s₂ p q = p ∙ sym q

  pub clear_planes_once : (κs : Lfts 2) (a : ArgsD (clear_planes.signature T) κs) (r₁ r₂ : ResD (clear_planes.signature T) κs) (s₁ s₂ : AtExit (clear_planes.ended T S s-dict C c-dict) κs)
      → clear_planes_reads.Post T laws copy S s-dict C c-dict κs a r₁ s₁ → clear_planes_reads.Post T laws copy S s-dict C c-dict κs a r₂ s₂
      → S.values s₁.0.now ≡ S.values s₂.0.now
  clear_planes_once κs a r₁ r₂ s₁ s₂ p q = p ∙ sym q

  pub add_green_once : (κs : Lfts 2) (a : ArgsD (add_green.signature T) κs) (r₁ r₂ : ResD (add_green.signature T) κs) (s₁ s₂ : AtExit (add_green.ended T S s-dict C c-dict) κs)
      → add_green_reads.Post T laws copy S s-dict C c-dict κs a r₁ s₁ → add_green_reads.Post T laws copy S s-dict C c-dict κs a r₂ s₂
      → S.values s₁.1.0.now ≡ S.values s₂.1.0.now
  add_green_once κs a r₁ r₂ s₁ s₂ p q = p ∙ sym q
