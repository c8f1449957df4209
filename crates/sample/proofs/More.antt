-- The numbers of a list of samples once a part of it, which was lent, is back. Assumes nothing.
use Rattle.std.proofs.Common.{◌≡◌, ℕ, List, length, take, drop}
use borrow.Rule.Slice.PartMut.{put_mid}
use Rattle.sample.specs.Values.{ValuesLaws}
use Rattle.sample.proofs.Values.{values-append, values-take, values-drop, values-length}

module _ {S : Type 0} {value : S → ℕ} {values : List S → List ℕ} (laws : ValuesLaws value values) where
  -- the list with ys in the place of the n elements from a on
  pub values-put_mid : (a n : ℕ) (xs ys : List S) → values (put_mid a n xs ys) ≡ put_mid a n (values xs) (values ys)
  values-put_mid a n xs ys = simp (values-append laws, values-take laws, values-drop laws)

  -- the part has as many numbers as it has elements
  pub values-mid : (a n : ℕ) (xs : List S) → length (take n (drop a (values xs))) ≡ length (take n (drop a xs))
  values-mid a n xs = simp (← values-drop laws, ← values-take laws, values-length laws)
