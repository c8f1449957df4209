-- The work of one step, case by case (document 01, "Words and lookup"). Assumes nothing.
use mathlib.Core.Path.{◌≡◌, refl, sym, ap, ◌∙◌}
use Prim.Native.Nat.{ℕ, ◌+◌, ◌^◌, ◌<◌}
use native.Mathlib.Omega.{arith}
use mir.Val.{Fits}
use mir.Syntax.{w64}
use borrow.Author.Rules.{rules}
use Rattle.scope.specs.declared.Word.{Word}
use Rattle.scope.specs.Found.{Found, some_word}
use Rattle.std.specs.Prelude.{None, Some}
use Rattle.reader.specs.Stepping.{Stepped, past, behind, step_to, step_from}
use Rattle.reader.specs.declared.Passed.{Passed}

module _ (found : Found) (at : ℕ) where
  -- no word: the position stays
  pub behind_none : found ≡ None → at ≡ behind found at
  unfolding behind
  behind_none e = rw e refl

  -- and there is no step
  pub step_none : found ≡ None → None ≡ step_to found at
  unfolding step_to
  step_none e = rw e refl

  module _ (w : Word) (e : found ≡ Some w) where
    -- a word: its length on
    pub behind_word : at + w.length ≡ behind found at
    unfolding behind
    behind_word = rw e refl

    -- which is a number of 64 bits
    pub behind_fits : behind found at < 2 ^ 64 → Fits w64 (at + w.length)
    behind_fits h = record { fits = rw behind_word h }

    -- and the step has its symbol
    pub step_word : past w.symbol at ≡ step_to found at
    unfolding step_to
    step_word = rw e refl

-- ---- what the calls of `next` say together

module _ (f g : Found) (p n : ℕ) (e : f ≡ g) (h : p ≡ n) where
  -- and the step is the one from its position
  pub steps_whole : (z : Stepped) (k : ℕ) → z ≡ step_to f k → k ≡ behind f p → z ≡ step_from g n
  unfolding step_from
  steps_whole z k a b = a ∙ ap (step_to f) b ∙ rw (e, h) refl

-- ---- what a step says of what was found

no_step : (s b : ℕ) → past s b ≡ None → ⊥
no_step s b h =
    let z : ◌≡◌ {A = ℕ} 0 1 = cc in
    omega arith

-- a step past a word: the word, and where it ends
pub record Taken (found : Found) (at s b : ℕ) : Type 0 where
  pub bits : ℕ
  pub word : found ≡ some_word bits s
  pub end : b ≡ at + bits

pub past_taken : (found : Found) (at s b : ℕ) → past s b ≡ step_from found at → Taken found at s b
unfolding step_from step_to behind
past_taken None at s b h = absurd (no_step s b h)
past_taken (Some w) at s b h = record { bits = w.length; word = ap (some_word w.length) (symbol h); end = ends h }
  where
    same : past s b ≡ past w.symbol (at + w.length) → ◌≡◌ {A = Passed} (record { symbol = s; end = b }) (record { symbol = w.symbol; end = at + w.length })
    same h = cc

    symbol : past s b ≡ past w.symbol (at + w.length) → w.symbol ≡ s
    symbol h = sym (ap (λ (x : Passed). x.symbol) (same h))

    ends : past s b ≡ past w.symbol (at + w.length) → b ≡ at + w.length
    ends h = ap (λ (x : Passed). x.end) (same h)

-- no step: no word
pub still_none : (found : Found) (at : ℕ) → None ≡ step_from found at → found ≡ None
unfolding step_from step_to
still_none None at h = refl
still_none (Some w) at h = absurd (no_step w.symbol (behind (some_word w.length w.symbol) at) (sym h))

pub ruleset stepping = (behind_none, behind_word, behind_fits, step_none, step_word, rules)
