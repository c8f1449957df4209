-- The wrong decoders of document 01, "What every public statement settles", each as what it does, whatever else it does: so a theorem about one
-- is about every decoder that does it. What is made up may even go by the geometry, so long as it does not come from where it should. Below each
-- stands the plainest decoder that does it. Assumes nothing.
use Rattle.std.specs.Prelude.{◌≡◌, ℕ, ◌+◌, ◌<◌, ◌≤◌, not, length, eqb, ltb, Ok, Err}
use Rattle.scope.specs.Base.{Lengths, Samples, zeros}
use Rattle.scope.specs.Refusals.{number_of, place_of, kind_number, place_number, refuse_if, left_by_frame}
use Rattle.scope.specs.Geometry.{lengths_of}
use Rattle.scope.specs.Words.{shares, need}
use Rattle.scope.specs.Frame.{need_of_all, picture_of}
use Rattle.scope.specs.declared.Geometry.{Geometry}
use Rattle.scope.specs.declared.Place.{Place}
use Rattle.scope.specs.declared.Place.TheVariants.{Slice, Plane, Nothing}
use Rattle.scope.specs.Answers.{Answer, done, refused}
use Rattle.wrong.specs.Calls.{Lent, WhateverIsLent, Decoder, right, Builder, right_builder, WhateverIsLentToBuild}

-- a decoder gives planes for what is lent
abbrev pub Accepts : (D : Decoder) (l : Lent) → Type 0
Accepts D l = number_of (D l).answer ≡ 0

-- the kind of a refusal's place (0 nothing, 1 a slice, 2 a plane), and which one
abbrev pub kind_of : (answer : Answer) → ℕ
kind_of a = kind_number (place_of a)

abbrev pub which_of : (answer : Answer) → ℕ
which_of a = place_number (place_of a)

-- ---- "a decoder that refuses always"

abbrev pub RefusesAlways : (D : Decoder) → Type 0
RefusesAlways D = WhateverIsLent (λ l. 0 < number_of (D l).answer)

abbrev pub refuser : Decoder
refuser l = record { answer = refused 5 Nothing; planes = zeros l.planes; workspace = zeros l.workspace }

-- ---- "or gives one fixed picture"

-- one for each geometry, whatever the frame
abbrev pub FixedPicture : (picture : Geometry → Samples) (D : Decoder) → Type 0
FixedPicture picture D = WhateverIsLent (λ l. Accepts D l → (D l).planes ≡ picture l.geometry)

abbrev pub painter : (picture : Geometry → Samples) → Decoder
painter picture l = record { answer = done; planes = picture l.geometry; workspace = zeros l.workspace }

-- ---- "one that writes nothing and trusts old memory"

-- of the planes; of the workspace; or only of the planes of a frame that it refuses
abbrev pub WritesNothing : (D : Decoder) → Type 0
WritesNothing D = WhateverIsLent (λ l. (D l).planes ≡ l.planes)

abbrev pub LeavesWorkspace : (D : Decoder) → Type 0
LeavesWorkspace D = WhateverIsLent (λ l. (D l).workspace ≡ l.workspace)

abbrev pub LeavesRefused : (D : Decoder) → Type 0
LeavesRefused D = WhateverIsLent (λ l. 0 < number_of (D l).answer → (D l).planes ≡ l.planes)

abbrev pub idler : Decoder
idler l = record { answer = (right l).answer; planes = l.planes; workspace = l.workspace }

-- ---- "or zero-fills"

abbrev pub ZeroFills : (D : Decoder) → Type 0
ZeroFills D = WhateverIsLent (λ l. Accepts D l → (D l).planes ≡ zeros l.planes)

abbrev pub zero_filler : Decoder
zero_filler l = record { answer = (right l).answer; planes = zeros l.planes; workspace = (right l).workspace }

-- ---- "one that makes up a refusal's slice, plane or workspace need"

abbrev pub MakesUpSlice : (slice : Geometry → ℕ) (D : Decoder) → Type 0
MakesUpSlice slice D = WhateverIsLent (λ l. kind_of (D l).answer ≡ 1 → which_of (D l).answer ≡ slice l.geometry)

abbrev pub MakesUpPlane : (plane : Geometry → ℕ) (D : Decoder) → Type 0
MakesUpPlane plane D = WhateverIsLent (λ l. kind_of (D l).answer ≡ 2 → which_of (D l).answer ≡ plane l.geometry)

-- slice s, or plane p, in place of the one that an answer names
abbrev pub place_elsewhere : (s p : ℕ) (place : Place) → Place
place_elsewhere s p Nothing = Nothing
place_elsewhere s p (Slice k) = Slice s
place_elsewhere s p (Plane k) = Plane p

abbrev pub elsewhere : (s p : ℕ) (answer : Answer) → Answer
elsewhere s p (Ok _) = done
elsewhere s p (Err why) = refused why.0 (place_elsewhere s p why.1)

abbrev pub guesser : (slice plane : Geometry → ℕ) → Decoder
guesser slice plane l =
    record {
      answer = elsewhere (slice l.geometry) (plane l.geometry) (right l).answer;
      planes = (right l).planes;
      workspace = (right l).workspace;
    }

-- it asks for so many workspace words: it accepts no shorter workspace, and only a shorter one is refusal 11
pub record Asks (asked : Geometry → Lengths → ℕ) (D : Decoder) : Type 0 where
  pub enough : WhateverIsLent (λ l. Accepts D l → asked l.geometry l.lengths ≤ length l.workspace)
  pub short : WhateverIsLent (λ l. number_of (D l).answer ≡ 11 → length l.workspace < asked l.geometry l.lengths)

-- one need for each geometry, whatever the lengths
abbrev pub MakesUpNeed : (asked : Geometry → ℕ) (D : Decoder) → Type 0
MakesUpNeed asked D = Asks (λ g lengths. asked g) D

-- never document 01's need: one word more, say
pub record AsksOther (asked : Geometry → Lengths → ℕ) (D : Decoder) : Type 0 where
  pub asks : Asks asked D
  pub other : (g : Geometry) (lengths : Lengths) → asked g lengths ≡ need_of_all g lengths → ⊥

abbrev pub asker : (asked : Geometry → Lengths → ℕ) → Decoder
asker asked l =
    let a : Answer = refuse_if (ltb (length l.workspace) (asked l.geometry l.lengths)) 11 Nothing in
    record {
      answer = a;
      planes = left_by_frame a l.planes (zeros l.planes) (picture_of l.frame l.geometry l.lengths);
      workspace = zeros l.workspace;
    }

abbrev pub one_more : (g : Geometry) (lengths : Lengths) → ℕ
one_more g lengths = need_of_all g lengths + 1

-- the same of a table by itself; what is made up goes by the count of its lengths
pub record AsksAlone (asked : Lengths → ℕ) (B : Builder) : Type 0 where
  pub enough : WhateverIsLentToBuild (λ ls workspace. number_of (B ls workspace).answer ≡ 0 → asked ls ≤ length workspace)
  pub short : WhateverIsLentToBuild (λ ls workspace. number_of (B ls workspace).answer ≡ 11 → length workspace < asked ls)

abbrev pub MakesUpNeedAlone : (asked : ℕ → ℕ) (B : Builder) → Type 0
MakesUpNeedAlone asked B = AsksAlone (λ ls. asked (length ls)) B

pub record AsksOtherAlone (asked : Lengths → ℕ) (B : Builder) : Type 0 where
  pub asks : AsksAlone asked B
  pub other : (ls : Lengths) → asked ls ≡ need ls → ⊥

abbrev pub asker_alone : (asked : Lengths → ℕ) → Builder
asker_alone asked ls workspace =
    record { answer = refuse_if (ltb (length workspace) (asked ls)) 11 Nothing; workspace = (right_builder ls workspace).workspace }

abbrev pub one_more_alone : (ls : Lengths) → ℕ
one_more_alone ls = need ls + 1

-- ---- "a table that accepts only complete codes"

-- the shares of all that is accepted are exactly one
abbrev pub CompleteOnly : (B : Builder) → Type 0
CompleteOnly B = WhateverIsLentToBuild (λ ls workspace. number_of (B ls workspace).answer ≡ 0 → shares ls ≡ 262144)

abbrev pub completist : Builder
completist ls workspace =
    record { answer = refuse_if (not (eqb (shares ls) 262144)) 10 (Plane 0); workspace = (right_builder ls workspace).workspace }

-- the same of a frame, by the code of its plane 0
abbrev pub code_of0 : (l : Lent) → Lengths
code_of0 l = lengths_of l.geometry l.lengths 0

abbrev pub CompleteOnlyFrames : (D : Decoder) → Type 0
CompleteOnlyFrames D = WhateverIsLent (λ l. Accepts D l → shares (code_of0 l) ≡ 262144)

abbrev pub completist_of_frames : Decoder
completist_of_frames l =
    let a : Answer = refuse_if (not (eqb (shares (code_of0 l)) 262144)) 10 (Plane 0) in
    record { answer = a; planes = (right l).planes; workspace = zeros l.workspace }
