-- What a decoder is, whatever it does inside: an outcome for each thing that may be lent to it; and what it is for one to meet the statement
-- of the frame entries (`Decoded`), or of the exported ones (`Hosted`). The same of a table and a reading by itself. Document 01, "What every
-- public statement settles". Assumes nothing.
use Rattle.std.specs.Prelude.{ℕ, ◌^◌, Bool, true, ◌&&◌, List, [], ◌∷◌, length, T, ltb}
use Rattle.scope.specs.Base.{Bytes, Lengths, Samples, Words, one}
use Rattle.scope.specs.Frame.{answer_of, planes_after, workspace_after, Decoded}
use Rattle.scope.specs.Alone.{build_answer, workspace_built, BuiltAlone, read_answer, samples_read, workspace_read, ReadAlone}
use Rattle.scope.specs.declared.Entry.{Entry}
use Rattle.scope.specs.declared.Entry.TheVariants.{Eight, Deep}
use Rattle.scope.specs.declared.Family.{Family}
use Rattle.scope.specs.declared.Family.TheVariants.{Gray, Rgb, Yuv, Rgba, Yuva}
use Rattle.scope.specs.declared.Geometry.{Geometry}
use Rattle.scope.specs.Answers.{Answer}
use Rattle.magicyuv.specs.declared.numbers.Numbers.{Numbers}
use Rattle.magicyuv.specs.Boundary.{numbers, Hosted, BuiltFor, ReadFor, reply_to}

-- ---- a frame

-- "The caller lends a frame, a geometry record, code lengths, a plane buffer and a workspace of 32-bit words."; `which` is the entry
pub record Lent : Type 0 where
  pub which : Entry
  pub frame : Bytes
  pub geometry : Geometry
  pub lengths : Lengths
  pub planes : Samples
  pub workspace : Words

-- every element of a list is below n
unfoldable pub all_below : (n : ℕ) (list : List ℕ) → Bool
all_below n [] = true
all_below n (x ∷ xs) = ltb x n && all_below n xs

-- "byte samples" and "16-bit samples"
abbrev pub sample_bound : (which : Entry) → ℕ
sample_bound Eight = 2 ^ 8
sample_bound Deep = 2 ^ 16

-- What a caller can lend: bytes are bytes, samples are of the entry's width, words and the geometry's figures have 32 bits. No decoder is out
-- for what it would do with anything else.
unfoldable pub can_be_lent : (l : Lent) → Bool
can_be_lent l =
    let g : Geometry = l.geometry in
    all_below (2 ^ 8) l.frame && all_below (2 ^ 8) l.lengths
    && all_below (sample_bound l.which) l.planes && all_below (2 ^ 32) l.workspace
    && all_below (2 ^ 32) (g.width ∷ g.height ∷ g.slice_height ∷ g.sx ∷ g.sy ∷ g.depth ∷ [])

-- so it is for everything that can be lent
abbrev pub WhateverIsLent : (P : Lent → Type 0) → Type 0
WhateverIsLent P = (l : Lent) → T (can_be_lent l) → P l

-- what is answered, and what planes and workspace hold then
pub record Outcome : Type 0 where
  pub answer : Answer
  pub planes : Samples
  pub workspace : Words

abbrev pub Decoder : Type 0
Decoder = (l : Lent) → Outcome

-- the decoder of document 01, so that there is one that meets the statements
abbrev pub right : Decoder
right l =
    record {
      answer = answer_of l.which l.frame l.geometry l.lengths (length l.planes) (length l.workspace);
      planes = planes_after l.which l.frame l.geometry l.lengths l.planes (length l.workspace);
      workspace = workspace_after l.which l.frame l.geometry l.lengths (length l.planes) l.workspace;
    }

-- a decoder meets the statement of the frame entries, whatever is lent to it
abbrev pub Meets : (D : Decoder) → Type 0
Meets D =
    WhateverIsLent (λ l. Decoded l.which l.frame l.geometry l.lengths l.planes l.workspace (D l).answer (D l).planes (D l).workspace)

-- ---- the same at the host's boundary

-- the number of a family
abbrev pub family_number : (family : Family) → ℕ
family_number Gray = 0
family_number Rgb = 1
family_number Yuv = 2
family_number Rgba = 3
family_number Yuva = 4

-- the eight numbers that name a geometry. Numbers that name none never reach a decoder: they are refusal 1 at the boundary.
abbrev pub numbers_of : (g : Geometry) → Numbers
numbers_of g =
    numbers g.width g.height g.slice_height (family_number g.family) g.sx g.sy g.depth (one g.interlaced)

-- a decoder meets the statement of the exported frame entries
abbrev pub MeetsHosted : (D : Decoder) → Type 0
MeetsHosted D =
    WhateverIsLent (λ l. Hosted l.which l.frame (numbers_of l.geometry) l.lengths l.planes l.workspace (reply_to (D l).answer) (D l).planes (D l).workspace)

-- a decoder is out: it meets neither
pub record Out (D : Decoder) : Type 0 where
  pub entry : Meets D → ⊥
  pub exported : MeetsHosted D → ⊥

-- ---- a table by itself: the same, from one plane's lengths and a workspace

pub record Table : Type 0 where
  pub answer : Answer
  pub workspace : Words

abbrev pub Builder : Type 0
Builder = (ls : Lengths) (workspace : Words) → Table

abbrev pub right_builder : Builder
right_builder ls workspace = record { answer = build_answer ls (length workspace); workspace = workspace_built ls workspace }

unfoldable pub lent_to_build : (ls : Lengths) (workspace : Words) → Bool
lent_to_build ls workspace = all_below (2 ^ 8) ls && all_below (2 ^ 32) workspace

abbrev pub WhateverIsLentToBuild : (P : Lengths → Words → Type 0) → Type 0
WhateverIsLentToBuild P = (ls : Lengths) (workspace : Words) → T (lent_to_build ls workspace) → P ls workspace

abbrev pub Builds : (B : Builder) → Type 0
Builds B =
    WhateverIsLentToBuild (λ ls workspace. BuiltAlone ls workspace (B ls workspace).answer (B ls workspace).workspace)

abbrev pub BuildsHosted : (B : Builder) → Type 0
BuildsHosted B =
    WhateverIsLentToBuild (λ ls workspace. BuiltFor ls workspace (reply_to (B ls workspace).answer) (B ls workspace).workspace)

pub record OutBuilder (B : Builder) : Type 0 where
  pub alone : Builds B → ⊥
  pub exported : BuildsHosted B → ⊥

-- ---- a reading by itself: the same, from lengths, payload, workspace and a 16-bit buffer

pub record Reading : Type 0 where
  pub answer : Answer
  pub workspace : Words
  pub samples : Samples

abbrev pub Reader : Type 0
Reader = (ls : Lengths) (payload : Bytes) (workspace : Words) (samples : Samples) → Reading

abbrev pub right_reader : Reader
right_reader ls payload workspace samples =
    record {
      answer = read_answer ls payload (length samples) (length workspace);
      workspace = workspace_read ls payload (length samples) workspace;
      samples = samples_read ls payload samples (length workspace);
    }

unfoldable pub lent_to_read : (ls : Lengths) (payload : Bytes) (workspace : Words) (samples : Samples) → Bool
lent_to_read ls payload workspace samples =
    all_below (2 ^ 8) ls && all_below (2 ^ 8) payload && all_below (2 ^ 32) workspace && all_below (2 ^ 16) samples

abbrev pub Reads : (R : Reader) → Type 0
Reads R =
    (ls : Lengths) (payload : Bytes) (workspace : Words) (samples : Samples) → T (lent_to_read ls payload workspace samples)
    → ReadAlone ls payload workspace samples (R ls payload workspace samples).answer (R ls payload workspace samples).workspace (R ls payload workspace samples).samples

abbrev pub ReadsHosted : (R : Reader) → Type 0
ReadsHosted R =
    (ls : Lengths) (payload : Bytes) (workspace : Words) (samples : Samples) → T (lent_to_read ls payload workspace samples)
    → ReadFor ls payload workspace samples (reply_to (R ls payload workspace samples).answer) (R ls payload workspace samples).workspace (R ls payload workspace samples).samples

pub record OutReader (R : Reader) : Type 0 where
  pub alone : Reads R → ⊥
  pub exported : ReadsHosted R → ⊥
