-- What trait Predicted asks of the row f up, at each width. Document 01, "Prediction, slice by slice": at depth 8 each sample is below 2^8 as it
-- is, so nothing is asked there; at the depths above, and where a width does not say, that each is below 2^depth. Assumes nothing.
use Rattle.std.specs.Prelude.{◌≡◌, ℕ, ◌%◌, ◌^◌, List, set}
use Rattle.rows.specs.Rows.{Above}
use Rattle.rows.proofs.Across.{above_set}

-- What a width asks, with what makes it one: samples below 2^depth are what is asked; and they still are where one below 2^depth is stored. One
-- value of the three, so that a width that says nothing asks for samples below 2^depth, and has no more to prove.
pub record Asking : Type 1 where
  pub Asked : (depth back : ℕ) (s : List ℕ) (start end : ℕ) → Type 0
  pub asked_above : (depth back : ℕ) (s : List ℕ) (start end : ℕ) → Above depth back s start end → Asked depth back s start end
  pub asked_set : (depth back : ℕ) (s : List ℕ) (start end i n v : ℕ) → Asked depth back s start end → v ≡ n % 2 ^ depth → Asked depth back (set s i v) start end

-- depth 8
abbrev pub asked_of_eight : (depth back : ℕ) (s : List ℕ) (start end : ℕ) → Type 0
asked_of_eight depth back s start end = Unit {0}

pub eight_above : (depth back : ℕ) (s : List ℕ) (start end : ℕ) → Above depth back s start end → asked_of_eight depth back s start end
eight_above depth back s start end h = tt

pub eight_set : (depth back : ℕ) (s : List ℕ) (start end i n v : ℕ) → asked_of_eight depth back s start end → v ≡ n % 2 ^ depth → asked_of_eight depth back (set s i v) start end
eight_set depth back s start end i n v h e = tt

abbrev pub asks_nothing : Asking
asks_nothing = record { Asked = asked_of_eight; asked_above = eight_above; asked_set = eight_set }

-- depths 10, 12 and 14, and any width that says nothing of it
pub deep_above : (depth back : ℕ) (s : List ℕ) (start end : ℕ) → Above depth back s start end → Above depth back s start end
deep_above depth back s start end h = h

abbrev pub asks_above : Asking
asks_above = record { Asked = Above; asked_above = deep_above; asked_set = above_set }
