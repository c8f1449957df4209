-- The host's boundary: numbers in for the geometry, and a reply of three numbers out for the answer. Document 01, "Port order
-- and shapes to change": "Both entries are callable from our Rust host on numbers and slices." Assumes nothing.
use Rattle.std.specs.Prelude.{◌≡◌, ℕ, zero, suc, Bool, cond, not, ◌&&◌, Result, Ok, Err, length, eqb, leb}
use Rattle.scope.specs.Base.{Bytes, Lengths, Samples, Words, zeros}
use Rattle.scope.specs.Refusals.{number_of, place_of, kind_number, place_number, refuse_if, ◌and_then◌, left_by_frame}
use Rattle.scope.specs.Frame.{answer_of, picture_of}
use Rattle.scope.specs.Alone.{build_answer, workspace_built, read_answer, samples_read, workspace_read}
use Rattle.scope.specs.declared.Entry.{Entry}
use Rattle.scope.specs.declared.Family.{Family}
use Rattle.scope.specs.declared.Family.TheVariants.{Gray, Rgb, Yuv, Rgba, Yuva}
use Rattle.scope.specs.declared.Geometry.{Geometry}
use Rattle.scope.specs.declared.Place.TheVariants.{Nothing}
use Rattle.scope.specs.declared.Refusal.{Refusal}
use Rattle.scope.specs.Answers.{Answer, refusal}
use Rattle.magicyuv.specs.declared.Reply.{Reply}
use Rattle.magicyuv.specs.declared.numbers.Numbers.{Numbers}

-- the eight numbers of a geometry as the host lends them
abbrev pub numbers : (w h sh f sx sy d i : ℕ) → Numbers
numbers w h sh f sx sy d i =
    record { width = w; height = h; slice_height = sh; family = f; sx = sx; sy = sy; depth = d; interlaced = i }

-- family 0 is Gray, 1 Rgb, 2 Yuv, 3 Rgba, 4 Yuva
abbrev pub family_of : (n : ℕ) → Family
family_of zero = Gray
family_of (suc zero) = Rgb
family_of (suc (suc zero)) = Yuv
family_of (suc (suc (suc zero))) = Rgba
family_of (suc (suc (suc (suc n)))) = Yuva

-- the numbers name a family, and 0 or 1 for interlaced
unfoldable pub numbers_fit : (n : Numbers) → Bool
numbers_fit n = leb n.family 4 && leb n.interlaced 1

unfoldable pub geometry_of : (n : Numbers) → Geometry
geometry_of n =
    record {
      width = n.width;
      height = n.height;
      slice_height = n.slice_height;
      family = family_of n.family;
      sx = n.sx;
      sy = n.sy;
      depth = n.depth;
      interlaced = eqb n.interlaced 1;
    }

-- what the numbers say one by one: any other for the family or for interlaced is refusal 1
unfoldable pub family_named : (n : ℕ) → Result Family Refusal
family_named n = cond (leb n 4) (Ok (family_of n)) (Err (refusal 1 Nothing))

unfoldable pub interlaced_named : (n : ℕ) → Result Bool Refusal
interlaced_named n = cond (leb n 1) (Ok (eqb n 1)) (Err (refusal 1 Nothing))

unfoldable pub geometry_said : (n : Numbers) → Result Geometry Refusal
geometry_said n = cond (numbers_fit n) (Ok (geometry_of n)) (Err (refusal 1 Nothing))

-- any other number for the family or for interlaced is refusal 1; then the answer is the entry's
unfoldable pub host_answer : (which : Entry) (frame : Bytes) (n : Numbers) (lengths : Lengths) (planes_len workspace_len : ℕ) → Answer
host_answer which frame n lengths planes_len workspace_len =
    let entry : Answer = answer_of which frame (geometry_of n) lengths planes_len workspace_len in
    refuse_if (not (numbers_fit n)) 1 Nothing and_then entry

-- the three numbers that an answer crosses as: its number, 0 where nothing is refused; the kind of its place, 0 nothing, 1 a slice, 2 a plane; and which
-- one
abbrev pub reply_to : (answer : Answer) → Reply
reply_to a = record { number = number_of a; kind = kind_number (place_of a); place = place_number (place_of a) }

-- the reply says the answer's number, the kind of its place (0 nothing, 1 a slice, 2 a plane), and which one
pub record Says (a : Answer) (r : Reply) : Type 0 where
  pub number : r.number ≡ number_of a
  pub kind : r.kind ≡ kind_number (place_of a)
  pub place : r.place ≡ place_number (place_of a)

-- the statement of an exported frame entry
pub record Hosted (which : Entry) (frame : Bytes) (n : Numbers) (lengths : Lengths) (planes₀ : Samples) (workspace₀ : Words) (r : Reply) (planes₁ : Samples) (workspace₁ : Words) : Type 0 where
  pub answer : Says (host_answer which frame n lengths (length planes₀) (length workspace₀)) r
  pub planes : planes₁ ≡ left_by_frame (host_answer which frame n lengths (length planes₀) (length workspace₀)) planes₀ (zeros planes₀) (picture_of frame (geometry_of n) lengths)
  pub workspace : workspace₁ ≡ left_by_frame (host_answer which frame n lengths (length planes₀) (length workspace₀)) workspace₀ (zeros workspace₀) (zeros workspace₀)

-- the statements of the exported table and reading
pub record BuiltFor (ls : Lengths) (workspace₀ : Words) (r : Reply) (workspace₁ : Words) : Type 0 where
  pub answer : Says (build_answer ls (length workspace₀)) r
  pub workspace : workspace₁ ≡ workspace_built ls workspace₀

pub record ReadFor (ls : Lengths) (payload : Bytes) (workspace₀ : Words) (samples₀ : Samples) (r : Reply) (workspace₁ : Words) (samples₁ : Samples) : Type 0 where
  pub answer : Says (read_answer ls payload (length samples₀) (length workspace₀)) r
  pub samples : samples₁ ≡ samples_read ls payload samples₀ (length workspace₀)
  pub workspace : workspace₁ ≡ workspace_read ls payload (length samples₀) workspace₀
