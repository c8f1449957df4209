-- Any two outcomes that the statement of an exported function allows are equal: reply and lent memory. `Post` is the plain reading that
-- Rattle itself makes of the `ensures` clauses of src/. Document 01, "What every public statement settles".
use mathlib.Core.Path.{◌≡◌, sym, ap, ◌∙◌}
use Prim.Native.Nat.{ℕ}
use contract.Lifetimes.{Lfts}
use borrow.Fn.World.{ArgsD, ResD}
use denote.Triple.Clauses.{AtExit}
use Rattle.scope.specs.Answers.{Answer}
use Rattle.magicyuv.specs.Boundary.{Says}
use Rattle.magicyuv.specs.declared.Reply.{Reply}
use Rattle.magicyuv.specs.contracts.entry8.magicyuv_decode8 as decode8
use Rattle.magicyuv.proofs.entry8.magicyuv_decode8.Reads as decode8_reads
use Rattle.magicyuv.specs.contracts.entry16.magicyuv_decode16 as decode16
use Rattle.magicyuv.proofs.entry16.magicyuv_decode16.Reads as decode16_reads
use Rattle.magicyuv.specs.contracts.magicyuv_build as build
use Rattle.magicyuv.proofs.magicyuv_build.Reads as build_reads
use Rattle.magicyuv.specs.contracts.magicyuv_read as read
use Rattle.magicyuv.proofs.magicyuv_read.Reads as read_reads

same_reply : (r₁ r₂ : Reply) → r₁.number ≡ r₂.number → r₁.kind ≡ r₂.kind → r₁.place ≡ r₂.place → r₁ ≡ r₂
same_reply r₁ r₂ a b c =
    ap (λ (x : ℕ). record { number = x; kind = r₁.kind; place = r₁.place }) a
    ∙ ap (λ (x : ℕ). record { number = r₂.number; kind = x; place = r₁.place }) b
    ∙ ap (λ (x : ℕ). record { number = r₂.number; kind = r₂.kind; place = x }) c

-- an answer has one reply
pub says_once : (a : Answer) (r₁ r₂ : Reply) → Says a r₁ → Says a r₂ → r₁ ≡ r₂
says_once a r₁ r₂ p q = same_reply r₁ r₂ (p.number ∙ sym q.number) (p.kind ∙ sym q.kind) (p.place ∙ sym q.place)

pub decode8_once : (κs : Lfts 4) (a : ArgsD decode8.signature κs) (r₁ r₂ : ResD decode8.signature κs) (s₁ s₂ : AtExit decode8.ended κs)
    → decode8_reads.Post κs a r₁ s₁ → decode8_reads.Post κs a r₂ s₂
    → (r₁ ≡ r₂) × (s₁.1.1.0.now ≡ s₂.1.1.0.now) × (s₁.1.1.1.0.now ≡ s₂.1.1.1.0.now)
decode8_once κs a r₁ r₂ s₁ s₂ p q = (says_once _ r₁ r₂ p.answer q.answer, p.planes ∙ sym q.planes, p.workspace ∙ sym q.workspace)

pub decode16_once : (κs : Lfts 4) (a : ArgsD decode16.signature κs) (r₁ r₂ : ResD decode16.signature κs) (s₁ s₂ : AtExit decode16.ended κs)
    → decode16_reads.Post κs a r₁ s₁ → decode16_reads.Post κs a r₂ s₂
    → (r₁ ≡ r₂) × (s₁.1.1.0.now ≡ s₂.1.1.0.now) × (s₁.1.1.1.0.now ≡ s₂.1.1.1.0.now)
decode16_once κs a r₁ r₂ s₁ s₂ p q = (says_once _ r₁ r₂ p.answer q.answer, p.planes ∙ sym q.planes, p.workspace ∙ sym q.workspace)

pub build_once : (κs : Lfts 2) (a : ArgsD build.signature κs) (r₁ r₂ : ResD build.signature κs) (s₁ s₂ : AtExit build.ended κs)
    → build_reads.Post κs a r₁ s₁ → build_reads.Post κs a r₂ s₂ → (r₁ ≡ r₂) × (s₁.1.0.now ≡ s₂.1.0.now)
build_once κs a r₁ r₂ s₁ s₂ p q = (says_once _ r₁ r₂ p.answer q.answer, p.workspace ∙ sym q.workspace)

pub read_once : (κs : Lfts 4) (a : ArgsD read.signature κs) (r₁ r₂ : ResD read.signature κs) (s₁ s₂ : AtExit read.ended κs)
    → read_reads.Post κs a r₁ s₁ → read_reads.Post κs a r₂ s₂
    → (r₁ ≡ r₂) × (s₁.1.1.0.now ≡ s₂.1.1.0.now) × (s₁.1.1.1.0.now ≡ s₂.1.1.1.0.now)
read_once κs a r₁ r₂ s₁ s₂ p q = (says_once _ r₁ r₂ p.answer q.answer, p.workspace ∙ sym q.workspace, p.samples ∙ sym q.samples)
