-- Document 01, "Words and lookup": what a plane's lengths alone get. Assumes nothing.
use Rattle.std.specs.Prelude.{◌≡◌, ℕ, cond, Option, Some, None, List, ◌∷◌, Result, Ok, Err}
use Rattle.scope.specs.Base.{list_from}
use Rattle.scope.specs.Words.{longest, shortest, first, need, too_long, overfull}
use Rattle.scope.specs.declared.Place.TheVariants.{Plane}
use Rattle.scope.specs.Answers.{Answer, done, refusal}
use Rattle.scope.specs.declared.Refusal.{Refusal}
use Rattle.words.specs.Tally.{Tallied}
use Rattle.words.specs.declared.Code.{Code}

-- the first word of each length from 1 to 18, behind a 0 for no length
unfoldable pub firsts_of : List ℕ → List ℕ
firsts_of ls = 0 ∷ list_from (first ls) 1 18

-- what the counts and the longest length m tell of whatever lengths have them: nothing exactly where the words do not fit, which is
-- refusal 10, and else the first words
pub record Begun (counts : List ℕ) (m : ℕ) (at : Option (List ℕ)) : Type 0 where
  pub starts : (ls : List ℕ) → Tallied ls counts m → at ≡ cond (overfull ls) None (Some (firsts_of ls))

abbrev pub code : (longest shortest need : ℕ) → Code
code m s n = record { longest = m; shortest = s; need = n }

-- refusal 9, then refusal 10, at the plane's number; else the longest and the shortest length, and the need
unfoldable pub weighed : List ℕ → ℕ → Result Code Refusal
weighed ls plane =
    cond (too_long ls) (Err (refusal 9 (Plane plane)))
    (cond (overfull ls) (Err (refusal 10 (Plane plane)))
    (Ok (code (longest ls) (shortest ls) (need ls))))

-- document 01's answer for each case
abbrev pub weighed_answer : Result Code Refusal → Answer
weighed_answer (Ok c) = done
weighed_answer (Err why) = Err why
