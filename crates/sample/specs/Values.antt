-- What trait Sample asks of `values`: the numbers of a list of samples, one after the other. Assumes nothing.
use Rattle.std.specs.Prelude.{◌≡◌, ℕ, List, [], ◌∷◌, refl}

pub record ValuesLaws {S : Type 0} (value : S → ℕ) (values : List S → List ℕ) : Type 0 where
  pub none : values [] ≡ []
  pub more : (x : S) (xs : List S) → values (x ∷ xs) ≡ value x ∷ values xs

-- where a sample is its number, `values` of a list is the list itself
pub own_values : ValuesLaws {S = ℕ} (λ x. x) (λ xs. xs)
own_values = record { none = refl; more = λ x xs. refl }
