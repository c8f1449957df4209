-- At depth 8 what a row asks of the samples above it at the depths above (`Above`) holds of every list, since each byte is below 2^8. So there a
-- row asks nothing of them (`asked_of_eight`, specs/Asked.antt), and loses nothing by it. Document 01, "Prediction, slice by slice". Assumes nothing.
use Prim.Native.Nat.{ℕ}
use mathlib.Core.List.{List}
use lib.ListN.{get_or}
use mir.Syntax.{w8}
use mir.Val.{Fits}
use Rattle.rows.specs.Rows.{Above}

pub above_eight : (back : ℕ) (s : List ℕ) (start end : ℕ) → ((i : ℕ) → Fits w8 (get_or s i 0)) → Above 8 back s start end
above_eight back s start end h = record { below = λ j a b. (h j).fits }
