-- Refusal 10 at its boundary, on a code whose words have every length from 1 to 18: its shares total exactly one, and it passes; with
-- one word of 18 bits more, or fewer, it is refused, or passes (document 01: "exactly"). Assumes nothing.
use Rattle.std.proofs.Common.{◌≡◌, ℕ, List, [], ◌∷◌, refl, Ok, Err}
use Rattle.scope.specs.Words.{longest, shortest, shorter, shares, overfull, too_long, share, need}
use Rattle.scope.specs.declared.Place.TheVariants.{Plane}
use Rattle.scope.specs.Answers.{refusal}
use Rattle.words.specs.Weigh.{code, weighed}

-- one word of each length from 1 to 18
abbrev pub short : List ℕ
short = 1 ∷ 2 ∷ 3 ∷ 4 ∷ 5 ∷ 6 ∷ 7 ∷ 8 ∷ 9 ∷ 10 ∷ 11 ∷ 12 ∷ 13 ∷ 14 ∷ 15 ∷ 16 ∷ 17 ∷ 18 ∷ []

-- the smallest share is missing
pub one_less : weighed short 2 ≡ Ok (code 18 1 (need short))
unfolding weighed too_long overfull longest shortest shorter shares share
one_less = refl

-- exactly one
pub exactly_one : weighed (18 ∷ short) 2 ≡ Ok (code 18 1 (need (18 ∷ short)))
unfolding weighed too_long overfull longest shortest shorter shares share
exactly_one = refl

-- one and the smallest share
pub one_more : weighed (18 ∷ 18 ∷ short) 2 ≡ Err (refusal 10 (Plane 2))
unfolding weighed too_long overfull longest shares share
one_more = refl

-- 9 stands before 10
pub too_long_first : weighed (19 ∷ 1 ∷ 1 ∷ 1 ∷ []) 1 ≡ Err (refusal 9 (Plane 1))
unfolding weighed too_long longest
too_long_first = refl
