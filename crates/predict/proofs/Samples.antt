-- Rows that fill a list of samples fill the list of their numbers. Document 01, "Prediction, slice by slice". Assumes nothing.
use Rattle.std.proofs.Common.{ℕ, List, length}
use Rattle.sample.specs.Values.{ValuesLaws}
use Rattle.sample.proofs.Values.{values-length}
use Rattle.views.specs.Places.{Rowed}

pub values-rowed : {S : Type 0} {value : S → ℕ} {values : List S → List ℕ} (laws : ValuesLaws value values) (xs : List S) (w p h : ℕ)
    → Rowed (length xs) w p h → Rowed (length (values xs)) w p h
values-rowed laws xs w p h ok = rw (values-length laws xs) ok
