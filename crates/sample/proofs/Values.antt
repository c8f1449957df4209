-- The numbers of a list of samples, through what loops and lent parts do to the list. Each law is of the library's `map`, since that is what
-- `values` is (`as_map`). Assumes nothing.
use Rattle.std.proofs.Common.{◌≡◌, ℕ, ◌<◌, List, [], ◌∷◌, ◌++◌, length, get_or, take, drop, set, map, ap, sym, ◌∙◌}
use Rattle.std.proofs.lemmas.List.{map-append, length-map, take-map, drop-map, map-set, get_or-map}
use Rattle.sample.specs.Values.{ValuesLaws}

module _ {S : Type 0} {value : S → ℕ} {values : List S → List ℕ} (laws : ValuesLaws value values) where
  pub as_map : (xs : List S) → values xs ≡ map value xs
  as_map [] = laws.none
  as_map (x ∷ xs) = laws.more x xs ∙ ap (λ ys. value x ∷ ys) (as_map xs)

  pub values-length : (xs : List S) → length (values xs) ≡ length xs
  values-length xs = ap length (as_map xs) ∙ length-map xs value

  pub values-append : (xs ys : List S) → values (xs ++ ys) ≡ values xs ++ values ys
  values-append xs ys = as_map (xs ++ ys) ∙ map-append value xs ys ∙ sym (ap (λ l. l ++ values ys) (as_map xs) ∙ ap (λ l. map value xs ++ l) (as_map ys))

  pub values-take : (n : ℕ) (xs : List S) → values (take n xs) ≡ take n (values xs)
  values-take n xs = as_map (take n xs) ∙ sym (ap (take n) (as_map xs) ∙ take-map value n xs)

  pub values-drop : (n : ℕ) (xs : List S) → values (drop n xs) ≡ drop n (values xs)
  values-drop n xs = as_map (drop n xs) ∙ sym (ap (drop n) (as_map xs) ∙ drop-map value n xs)

  pub values-set : (xs : List S) (i : ℕ) (x : S) → values (set xs i x) ≡ set (values xs) i (value x)
  values-set xs i x = as_map (set xs i x) ∙ map-set value xs i x ∙ sym (ap (λ l. set l i (value x)) (as_map xs))

  pub values-get : (xs : List S) (i : ℕ) (d : S) (e : ℕ) → i < length xs → get_or (values xs) i e ≡ value (get_or xs i d)
  values-get xs i d e h = ap (λ l. get_or l i e) (as_map xs) ∙ get_or-map value xs i d e h

  -- a sample read from a list is its number read from the numbers
  pub values-read : (s : List S) (i : ℕ) (x : S) → i < length s → x ≡ get_or s i x → value x ≡ get_or (values s) i 0
  values-read s i x l e = ap value e ∙ sym (values-get s i x 0 l)
