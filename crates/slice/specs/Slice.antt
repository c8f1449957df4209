-- One slice, of its record a in the frame, read by any way `look` to find the word at a bit position of its payload: a table's lookup
-- or another that finds the same words (document 01, "Layout", "Refusal numbers", "Prediction, slice by slice"). Assumes nothing.
use Rattle.std.specs.Prelude.{◌≡◌, true, cond, not, ◌&&◌, List, ℕ, ◌+◌, ◌-◌, ◌*◌, ◌≤◌, leb, length, take, drop}
use Rattle.scope.specs.Refusals.{refuse_if, ◌and_then◌}
use Rattle.scope.specs.Bits.{raw_samples}
use Rattle.scope.specs.Words.{Chain, symbols, chain_by, symbols_of}
use Rattle.scope.specs.Prediction.{samples_of}
use Rattle.scope.specs.declared.SliceAt.{SliceAt}
use Rattle.scope.specs.Found.{Found}
use Rattle.scope.specs.declared.Place.TheVariants.{Slice, Plane}
use Rattle.std.specs.Prelude.{Ok, Err}
use Rattle.scope.specs.Answers.{Answer, done, refused}
use Rattle.scope.specs.Pieces.{readable}
use Rattle.codes.specs.Reading.{position_after}
use Rattle.reader.specs.Reading.{Reached, reached}

-- the bytes after the prefix
abbrev pub payload_in : List ℕ → SliceAt → List ℕ
payload_in frame a = take (a.end - (a.start + 2)) (drop (a.start + 2) frame)

-- what a slice that passed its checks has: its prefix, its place in the frame, if it is raw depth bits for each sample, and no more
-- samples than the largest plane
pub record SliceIn (depth : ℕ) (frame : List ℕ) (a : SliceAt) : Type 0 where
  pub prefix : a.start + 2 ≤ a.end
  pub inside : a.end ≤ length frame
  pub room : a.raw ≡ true → a.rows * a.width * depth ≤ 8 * (a.end - (a.start + 2))
  pub most : a.rows * a.width ≤ 268435456

module _ (look : ℕ → Found) (depth : ℕ) (frame : List ℕ) (a : SliceAt) where
  -- its residues, or the position at which no word fits
  unfoldable pub residues_by : Chain
  residues_by =
      let raw : Chain = symbols (raw_samples depth (payload_in frame a) (a.rows * a.width)) in
      let coded : Chain = chain_by look 0 (a.rows * a.width) in
      cond a.raw raw coded

  -- the bit position behind the last of them
  unfoldable pub end_by : ℕ
  end_by = cond a.raw (a.rows * a.width * depth) (position_after look 0 (a.rows * a.width))

  -- The statement of a reading of residues: it says where it ended, and hands them all out. What a reading that is stuck leaves is not
  -- said.
  pub record ResiduesRead (r : Reached) (out : List ℕ) : Type 0 where
    pub answer : r ≡ reached residues_by end_by
    pub handed : (ss : List ℕ) → residues_by ≡ symbols ss → out ≡ ss

  -- "each 15 before its 14": "predictor not 1, 2 or 3"
  unfoldable pub read_by : Answer
  read_by =
      refuse_if (not (leb 1 a.predictor && leb a.predictor 3)) 15 (Slice a.number)
      and_then readable a.plane residues_by

-- its samples; f is how many fields the rows belong to in turn
unfoldable pub samples_by : (ℕ → Found) → ℕ → ℕ → List ℕ → SliceAt → List ℕ
samples_by look depth f frame a = samples_of depth a.predictor a.width f (symbols_of (residues_by look depth frame a))

-- what is answered where a reading ended: "no word fits the next bits" is 14 at the plane
unfoldable pub answered : ℕ → Reached → Answer
answered plane (Ok at) = done
answered plane (Err at) = refused 14 (Plane plane)
