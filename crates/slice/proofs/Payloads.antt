-- A slice's residues, raw or coded, over any lookup and depth: what each way of reading asks and what it gives (document 01, "Layout" and
-- "Words and lookup"). Assumes nothing.
use mathlib.Core.Path.{◌≡◌, refl, ◌∙◌}
use mathlib.Core.Bool.{true, false}
use mathlib.Core.List.{List}
use Prim.Native.Nat.{ℕ, ◌+◌, ◌-◌, ◌*◌}
use native.Mathlib.Nat.{zero-add}
use native.Mathlib.Omega.{arith}
use borrow.Author.Rules.{rules}
use lib.ListN.{length, drop, length-drop}
use lib.Seq.{length-take-le}
use Rattle.scope.specs.Bits.{raw_samples}
use Rattle.scope.specs.Words.{symbols}
use Rattle.scope.specs.declared.SliceAt.{SliceAt}
use Rattle.scope.specs.Found.{Found}
use Rattle.within.specs.Within.{AllBytes}
use Rattle.within.proofs.Within.{all_bytes}
use Rattle.raw.specs.Raw.{RawIn}
use Rattle.reader.specs.Reading as rdg
use Rattle.reader.specs.Reading.{Reached, reached, reached_end, WordsRead}
use Rattle.slice.specs.Slice.{payload_in, SliceIn, residues_by, end_by, ResiduesRead}

-- ---- what a slice that passed its checks has room for

module _ (depth : ℕ) (frame : List ℕ) (a : SliceAt) (w : SliceIn depth frame a) where
  -- its payload lies in the frame
  pub payload_long : length (payload_in frame a) ≡ a.end - (a.start + 2)
  payload_long = length-take-le (a.end - (a.start + 2)) (drop (a.start + 2) frame) (rw length-drop (omega (arith, w.prefix, w.inside)))

  -- a raw one has all its bytes: the bits of its last sample end within the payload
  payload_whole : a.raw ≡ true → AllBytes depth (a.rows * a.width) (payload_in frame a)
  payload_whole h = all_bytes depth (a.rows * a.width) (payload_in frame a) (omega (arith, payload_long, w.room h))

  -- which is what the reading of its raw samples asks
  pub payload_asked : a.raw ≡ true → RawIn depth (payload_in frame a) 0 (a.rows * a.width)
  payload_asked h = record { room = rw (zero-add (a.rows * a.width)) (omega (arith, (payload_whole h).bytes)); most = omega (arith, w.most) }

-- ---- what they give

module _ (look : ℕ → Found) (depth : ℕ) (frame : List ℕ) (a : SliceAt) where
  -- a raw slice: its samples, all of them
  pub residues_raw : (out : List ℕ) → a.raw ≡ true → out ≡ raw_samples depth (payload_in frame a) (a.rows * a.width)
      → ResiduesRead look depth frame a (reached_end (a.rows * a.width * depth)) out
  unfolding residues_by end_by rdg.reached
  residues_raw out h e = record { answer = rw h refl; handed = λ ss g. e ∙ same ss (rw h at g) }
    where
      same : (ss : List ℕ) → symbols (raw_samples depth (payload_in frame a) (a.rows * a.width)) ≡ symbols ss → raw_samples depth (payload_in frame a) (a.rows * a.width) ≡ ss
      same ss g = cc

  -- a coded slice: its words
  pub residues_coded : (r : Reached) (out : List ℕ) → a.raw ≡ false → WordsRead look 0 (a.rows * a.width) r out → ResiduesRead look depth frame a r out
  unfolding residues_by end_by
  residues_coded r out h w = record { answer = rw h w.answer; handed = λ ss g. w.handed ss (rw h at g) }

pub ruleset residues = (payload_asked, residues_raw, residues_coded, rules)
