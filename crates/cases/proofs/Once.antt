-- Any two outcomes that a public function's statement allows are equal: the answer where it gives one, else what is left in the
-- lent slice. `Post` is the plain reading that Rattle itself makes of the `ensures` clauses of src/, so these theorems are about the
-- contracts. Document 01, "What every public statement settles". Assumes nothing.
use mathlib.Core.Path.{◌≡◌, sym, ◌∙◌}
use contract.Lifetimes.{Lfts}
use borrow.Fn.World.{ArgsD, ResD}
use denote.Triple.Clauses.{AtExit}
use Rattle.lists.specs.Settled.{Settles}
use Rattle.cases.specs.contracts.case_of as case_of
use Rattle.cases.proofs.case_of.Reads as case_of_reads
use Rattle.cases.specs.contracts.spread as spread
use Rattle.cases.proofs.spread.Reads as spread_reads
use Rattle.cases.specs.contracts.U8Listed.lend as lend8
use Rattle.cases.proofs.U8Listed.lend.Reads as lend8_reads
use Rattle.cases.specs.contracts.U16Listed.lend as lend16
use Rattle.cases.proofs.U16Listed.lend.Reads as lend16_reads
use Rattle.cases.specs.contracts.lend_words as lend_words
use Rattle.cases.proofs.lend_words.Reads as lend_words_reads
use Rattle.cases.specs.contracts.U8Listed.holds as holds8
use Rattle.cases.proofs.U8Listed.holds.Reads as holds8_reads
use Rattle.cases.specs.contracts.U16Listed.holds as holds16
use Rattle.cases.proofs.U16Listed.holds.Reads as holds16_reads
use Rattle.cases.specs.contracts.holds_words as holds_words
use Rattle.cases.proofs.holds_words.Reads as holds_words_reads
use Rattle.cases.specs.contracts.judge as judge
use Rattle.cases.proofs.judge.Reads as judge_reads

pub case_of_once : (κs : Lfts 1) (a : ArgsD case_of.signature κs) → Settles (case_of_reads.Post κs a)
case_of_once κs a r₁ r₂ s₁ s₂ p q = p.0 ∙ sym q.0

pub spread_once : (κs : Lfts 2) (a : ArgsD spread.signature κs) (r₁ r₂ : ResD spread.signature κs) (s₁ s₂ : AtExit spread.ended κs)
    → spread_reads.Post κs a r₁ s₁ → spread_reads.Post κs a r₂ s₂ → s₁.1.0.now ≡ s₂.1.0.now
spread_once κs a r₁ r₂ s₁ s₂ p q = p ∙ sym q

pub lend8_once : (κs : Lfts 2) (a : ArgsD lend8.signature κs) (r₁ r₂ : ResD lend8.signature κs) (s₁ s₂ : AtExit lend8.ended κs)
    → lend8_reads.Post κs a r₁ s₁ → lend8_reads.Post κs a r₂ s₂ → s₁.1.1.0.now ≡ s₂.1.1.0.now
lend8_once κs a r₁ r₂ s₁ s₂ p q = p ∙ sym q

pub lend16_once : (κs : Lfts 2) (a : ArgsD lend16.signature κs) (r₁ r₂ : ResD lend16.signature κs) (s₁ s₂ : AtExit lend16.ended κs)
    → lend16_reads.Post κs a r₁ s₁ → lend16_reads.Post κs a r₂ s₂ → s₁.1.1.0.now ≡ s₂.1.1.0.now
lend16_once κs a r₁ r₂ s₁ s₂ p q = p ∙ sym q

pub lend_words_once : (κs : Lfts 1) (a : ArgsD lend_words.signature κs) (r₁ r₂ : ResD lend_words.signature κs) (s₁ s₂ : AtExit lend_words.ended κs)
    → lend_words_reads.Post κs a r₁ s₁ → lend_words_reads.Post κs a r₂ s₂ → s₁.0.now ≡ s₂.0.now
lend_words_once κs a r₁ r₂ s₁ s₂ p q = p ∙ sym q

pub holds8_once : (κs : Lfts 2) (a : ArgsD holds8.signature κs) → Settles (holds8_reads.Post κs a)
holds8_once κs a r₁ r₂ s₁ s₂ p q = p ∙ sym q

pub holds16_once : (κs : Lfts 2) (a : ArgsD holds16.signature κs) → Settles (holds16_reads.Post κs a)
holds16_once κs a r₁ r₂ s₁ s₂ p q = p ∙ sym q

pub holds_words_once : (κs : Lfts 1) (a : ArgsD holds_words.signature κs) → Settles (holds_words_reads.Post κs a)
holds_words_once κs a r₁ r₂ s₁ s₂ p q = p ∙ sym q

pub judge_once : (κs : Lfts 0) (a : ArgsD judge.signature κs) → Settles (judge_reads.Post κs a)
judge_once κs a r₁ r₂ s₁ s₂ p q = p ∙ sym q
