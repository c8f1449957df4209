-- How many symbols have each length, and what these counts alone tell (document 01, "Words and lookup"). Assumes nothing.
use Rattle.std.specs.Prelude.{◌≡◌, ℕ, zero, suc, ◌≤◌, cond, List, length, ◌==◌, slice_index}
use Rattle.scope.specs.Base.{count, list_below}
use Rattle.scope.specs.Words.{longest}

-- how many symbols have each length from 0 to 18
unfoldable pub counts_of : List ℕ → List ℕ
counts_of ls = list_below 19 (λ l. count l ls)

-- the highest of the first n places at which a list is not 0; 0 where there is none
unfoldable pub highest : List ℕ → ℕ → ℕ
highest xs zero = 0
highest xs (suc n) = cond (slice_index xs n == 0) (highest xs n) n

-- the lowest such place among n from `from` on; 0 where there is none
unfoldable pub lowest : List ℕ → ℕ → ℕ → ℕ
lowest xs from zero = 0
lowest xs from (suc n) = cond (slice_index xs from == 0) (lowest xs (suc from) n) from

-- lengths that pass refusals 4 and 9, with their counts and their longest length
pub record Tallied (ls counts : List ℕ) (m : ℕ) : Type 0 where
  pub few : length ls ≤ 16384
  pub small : longest ls ≤ 18
  pub counted : counts ≡ counts_of ls
  pub is : m ≡ longest ls
