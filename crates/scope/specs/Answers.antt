-- Document 01, "Refusal numbers": what a function of the product answers, as Rust has it: `Ok` where nothing is refused, or the refusal. Assumes
-- nothing.
use Rattle.std.specs.Prelude.{ℕ, Result, Ok, Err}
use Rattle.scope.specs.declared.Place.{Place}
use Rattle.scope.specs.declared.Refusal.{Refusal}

abbrev pub Answer : Type 0
Answer = Result (Unit {0}) Refusal

-- nothing is refused
abbrev pub done : Answer
done = Ok tt

-- refusal n at a place
abbrev pub refusal : (n : ℕ) (p : Place) → Refusal
refusal n p = (n, p)

abbrev pub refused : (n : ℕ) (p : Place) → Answer
refused n p = Err (refusal n p)
