-- Document 01, "What every public statement settles": a statement allows one answer and no other. It is for functions that write no lent
-- memory; those that do have lemmas of their own, which say what is left too. Assumes nothing.
use Rattle.std.specs.Prelude.{◌≡◌}

-- Post r s: the statement of a function on some input allows the answer r, with s left in lent memory
abbrev pub Settles : {R S : Type 0} → (R → S → Type 0) → Type 0
Settles {R} {S} Post = (r₁ r₂ : R) (s₁ s₂ : S) → Post r₁ s₁ → Post r₂ s₂ → r₁ ≡ r₂
