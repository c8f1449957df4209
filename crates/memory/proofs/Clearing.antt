-- The loop that clears a list, at any width of element: what it leaves is zeros. Document 01, "leave both wholly zero".
-- Assumes nothing.
use Rattle.std.proofs.Common.{◌≡◌, ℕ, ◌≤◌, List, length, replicate, sym, ◌∙◌}
use lib.ListN.{length-replicate, get_or-replicate}
use Rattle.scope.specs.Base.{rebuilt}
use Rattle.memory.specs.Sum.{cleared}
use Rattle.memory.proofs.InPlace.{At, at_end, rebuilt_only}

rebuilt-cleared : (xs : List ℕ) → rebuilt cleared xs ≡ replicate (length xs) 0
rebuilt-cleared xs = sym (rebuilt_only cleared xs (replicate (length xs) 0) (length-replicate _ _) (λ i h. get_or-replicate (length xs) i 0 0 h))

-- the loop at its end
pub clear_end : (xs s : List ℕ) (i : ℕ) → At cleared xs s i → length s ≤ i → s ≡ replicate (length xs) 0
clear_end xs s i a h = at_end cleared xs s i a h ∙ rebuilt-cleared xs
