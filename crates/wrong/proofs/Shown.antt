-- What the statement of a frame entry and that of the exported one both say, in numbers and lists: a wrong decoder that contradicts this
-- contradicts both. The same of a table and a reading by itself. Document 01, "What every public statement settles". Assumes nothing.
use mathlib.Core.Path.{◌≡◌, refl, sym, ap, ◌∙◌}
use Prim.Native.Nat.{ℕ}
use mathlib.Core.Bool.{Bool, true, false, not}
use lib.ListN.{length}
use lib.Dec.{T, eqb}
use Rattle.scope.specs.Base.{Bytes, Lengths, Samples, Words, one, zeros}
use Rattle.scope.specs.Refusals.{number_of, refuse_if, ◌and_then◌, left_by_frame}
use Rattle.scope.specs.Frame.{answer_of, picture_of, planes_after, workspace_after}
use Rattle.scope.specs.declared.Entry.{Entry}
use Rattle.scope.specs.declared.Family.{Family}
use Rattle.scope.specs.declared.Family.TheVariants.{Gray, Rgb, Yuv, Rgba, Yuva}
use Rattle.scope.specs.declared.Geometry.{Geometry}
use Rattle.scope.specs.declared.Place.TheVariants.{Nothing}
use Rattle.scope.specs.Answers.{Answer}
use Rattle.magicyuv.specs.Boundary.{family_of, numbers_fit, geometry_of, host_answer}
use Rattle.wrong.specs.Calls.{Lent, can_be_lent, Outcome, Decoder, right, Meets, family_number, numbers_of, MeetsHosted, Out, Builder, right_builder, lent_to_build, Builds, BuildsHosted, OutBuilder, Reading, Reader, right_reader, lent_to_read, Reads, ReadsHosted, OutReader}
use Rattle.wrong.specs.Behaviours.{kind_of, which_of}

-- ---- a geometry is named by its numbers

family_back : (f : Family) → family_of (family_number f) ≡ f
family_back Gray = refl
family_back Rgb = refl
family_back Yuv = refl
family_back Rgba = refl
family_back Yuva = refl

flag_back : (b : Bool) → eqb (one b) 1 ≡ b
flag_back true = refl
flag_back false = refl

abbrev alike : (g : Geometry) (family : Family) (interlaced : Bool) → Geometry
alike g family interlaced =
    record { width = g.width; height = g.height; slice_height = g.slice_height; family = family; sx = g.sx; sy = g.sy; depth = g.depth; interlaced = interlaced }

geometry_back : (g : Geometry) → geometry_of (numbers_of g) ≡ g
unfolding geometry_of
geometry_back g =
    ap (λ (f : Family). alike g f (eqb (one g.interlaced) 1)) (family_back g.family)
    ∙ ap (λ (b : Bool). alike g g.family b) (flag_back g.interlaced)

fits_by : (f : Family) (b : Bool) (g : Geometry) → numbers_fit (numbers_of (alike g f b)) ≡ true
unfolding numbers_fit
fits_by Gray true g = refl
fits_by Gray false g = refl
fits_by Rgb true g = refl
fits_by Rgb false g = refl
fits_by Yuv true g = refl
fits_by Yuv false g = refl
fits_by Rgba true g = refl
fits_by Rgba false g = refl
fits_by Yuva true g = refl
fits_by Yuva false g = refl

-- so the exported answer is the entry's
host_answer_lem : (which : Entry) (frame : Bytes) (g : Geometry) (lengths : Lengths) (p w : ℕ)
    → host_answer which frame (numbers_of g) lengths p w ≡ answer_of which frame g lengths p w
unfolding host_answer
host_answer_lem which frame g lengths p w =
    ap (λ (t : Bool). refuse_if (not t) 1 Nothing and_then answer_of which frame (geometry_of (numbers_of g)) lengths p w) (fits_by g.family g.interlaced g)
    ∙ ap (λ (x : Geometry). answer_of which frame x lengths p w) (geometry_back g)

host_picture : (frame : Bytes) (g : Geometry) (lengths : Lengths) → picture_of frame (geometry_of (numbers_of g)) lengths ≡ picture_of frame g lengths
host_picture frame g lengths = ap (λ (x : Geometry). picture_of frame x lengths) (geometry_back g)

-- ---- a frame

module _ (l : Lent) where
  answered : host_answer l.which l.frame (numbers_of l.geometry) l.lengths (length l.planes) (length l.workspace) ≡ (right l).answer
  answered = host_answer_lem l.which l.frame l.geometry l.lengths (length l.planes) (length l.workspace)

  hosted_planes :
      left_by_frame (host_answer l.which l.frame (numbers_of l.geometry) l.lengths (length l.planes) (length l.workspace))
      l.planes (zeros l.planes) (picture_of l.frame (geometry_of (numbers_of l.geometry)) l.lengths)
      ≡ (right l).planes
  unfolding planes_after
  hosted_planes =
      ap (λ (a : Answer). left_by_frame a l.planes (zeros l.planes) (picture_of l.frame (geometry_of (numbers_of l.geometry)) l.lengths)) answered
      ∙ ap (λ (x : Samples). left_by_frame (right l).answer l.planes (zeros l.planes) x) (host_picture l.frame l.geometry l.lengths)

  hosted_workspace :
      left_by_frame (host_answer l.which l.frame (numbers_of l.geometry) l.lengths (length l.planes) (length l.workspace))
      l.workspace (zeros l.workspace) (zeros l.workspace)
      ≡ (right l).workspace
  unfolding workspace_after
  hosted_workspace = ap (λ (a : Answer). left_by_frame a l.workspace (zeros l.workspace) (zeros l.workspace)) answered

-- what the statements say of something that can be lent: computed, frame by frame (Wrong.antt)
pub record Due (l : Lent) (a : Answer) (p : Samples) (w : Words) : Type 0 where
  pub lent : T (can_be_lent l)
  pub answer : (right l).answer ≡ a
  pub planes : (right l).planes ≡ p
  pub workspace : (right l).workspace ≡ w

-- what an outcome must then show: the answer's number and place, and what is left in the planes and in the workspace
pub record Shown (o : Outcome) (a : Answer) (p : Samples) (w : Words) : Type 0 where
  pub number : number_of o.answer ≡ number_of a
  pub kind : kind_of o.answer ≡ kind_of a
  pub place : which_of o.answer ≡ which_of a
  pub planes : o.planes ≡ p
  pub workspace : o.workspace ≡ w

pub record Shows (D : Decoder) : Type 0 where
  pub at : {l : Lent} {a : Answer} {p : Samples} {w : Words} → Due l a p w → Shown (D l) a p w

by_entry : (D : Decoder) → Meets D → {l : Lent} {a : Answer} {p : Samples} {w : Words} → Due l a p w → Shown (D l) a p w
by_entry D m {l} d =
    record {
      number = ap number_of ((m l d.lent).answer ∙ d.answer);
      kind = ap kind_of ((m l d.lent).answer ∙ d.answer);
      place = ap which_of ((m l d.lent).answer ∙ d.answer);
      planes = (m l d.lent).planes ∙ d.planes;
      workspace = (m l d.lent).workspace ∙ d.workspace;
    }

by_export : (D : Decoder) → MeetsHosted D → {l : Lent} {a : Answer} {p : Samples} {w : Words} → Due l a p w → Shown (D l) a p w
by_export D m {l} d =
    record {
      number = (m l d.lent).answer.number ∙ ap number_of (answered l ∙ d.answer);
      kind = (m l d.lent).answer.kind ∙ ap kind_of (answered l ∙ d.answer);
      place = (m l d.lent).answer.place ∙ ap which_of (answered l ∙ d.answer);
      planes = (m l d.lent).planes ∙ hosted_planes l ∙ d.planes;
      workspace = (m l d.lent).workspace ∙ hosted_workspace l ∙ d.workspace;
    }

-- a decoder that contradicts what both statements show is out
pub out : (D : Decoder) → (Shows D → ⊥) → Out D
out D never = record { entry = λ m. never (record { at = λ d. by_entry D m d }); exported = λ m. never (record { at = λ d. by_export D m d }) }

pub right_entry : Meets right
right_entry l h = record { answer = refl; planes = refl; workspace = refl }

pub right_exported : MeetsHosted right
right_exported l h =
    record {
      answer = record {
        number = ap number_of (sym (answered l));
        kind = ap kind_of (sym (answered l));
        place = ap which_of (sym (answered l));
      };
      planes = sym (hosted_planes l);
      workspace = sym (hosted_workspace l);
    }

-- ---- a table by itself: its number is enough

pub record DueTable (ls : Lengths) (ws : Words) (n : ℕ) : Type 0 where
  pub lent : T (lent_to_build ls ws)
  pub number : number_of (right_builder ls ws).answer ≡ n

pub record ShowsTable (B : Builder) : Type 0 where
  pub at : {ls : Lengths} {ws : Words} {n : ℕ} → DueTable ls ws n → number_of (B ls ws).answer ≡ n

table_alone : (B : Builder) → Builds B → {ls : Lengths} {ws : Words} {n : ℕ} → DueTable ls ws n → number_of (B ls ws).answer ≡ n
table_alone B m {ls} {ws} d = ap number_of (m ls ws d.lent).answer ∙ d.number

table_export : (B : Builder) → BuildsHosted B → {ls : Lengths} {ws : Words} {n : ℕ} → DueTable ls ws n → number_of (B ls ws).answer ≡ n
table_export B m {ls} {ws} d = (m ls ws d.lent).answer.number ∙ d.number

pub out_builder : (B : Builder) → (ShowsTable B → ⊥) → OutBuilder B
out_builder B never = record { alone = λ m. never (record { at = λ d. table_alone B m d }); exported = λ m. never (record { at = λ d. table_export B m d }) }

pub right_table : Builds right_builder
right_table ls ws h = record { answer = refl; workspace = refl }

pub right_table_exported : BuildsHosted right_builder
right_table_exported ls ws h = record { answer = record { number = refl; kind = refl; place = refl }; workspace = refl }

-- ---- a reading by itself: its number and its samples are enough

pub record DueReading (ls : Lengths) (payload : Bytes) (ws : Words) (found : Samples) (n : ℕ) (ss : Samples) : Type 0 where
  pub lent : T (lent_to_read ls payload ws found)
  pub number : number_of (right_reader ls payload ws found).answer ≡ n
  pub samples : (right_reader ls payload ws found).samples ≡ ss

pub record ShownReading (o : Reading) (n : ℕ) (ss : Samples) : Type 0 where
  pub number : number_of o.answer ≡ n
  pub samples : o.samples ≡ ss

pub record ShowsReading (R : Reader) : Type 0 where
  pub at : {ls : Lengths} {payload : Bytes} {ws : Words} {found : Samples} {n : ℕ} {ss : Samples}
      → DueReading ls payload ws found n ss → ShownReading (R ls payload ws found) n ss

read_alone : (R : Reader) → Reads R → {ls : Lengths} {payload : Bytes} {ws : Words} {found : Samples} {n : ℕ} {ss : Samples}
    → DueReading ls payload ws found n ss → ShownReading (R ls payload ws found) n ss
read_alone R m {ls} {payload} {ws} {found} d =
    record {
      number = ap number_of (m ls payload ws found d.lent).answer ∙ d.number;
      samples = (m ls payload ws found d.lent).samples ∙ d.samples;
    }

read_export : (R : Reader) → ReadsHosted R → {ls : Lengths} {payload : Bytes} {ws : Words} {found : Samples} {n : ℕ} {ss : Samples}
    → DueReading ls payload ws found n ss → ShownReading (R ls payload ws found) n ss
read_export R m {ls} {payload} {ws} {found} d =
    record {
      number = (m ls payload ws found d.lent).answer.number ∙ d.number;
      samples = (m ls payload ws found d.lent).samples ∙ d.samples;
    }

pub out_reader : (R : Reader) → (ShowsReading R → ⊥) → OutReader R
out_reader R never = record { alone = λ m. never (record { at = λ d. read_alone R m d }); exported = λ m. never (record { at = λ d. read_export R m d }) }

pub right_reading : Reads right_reader
right_reading ls payload ws samples h = record { answer = refl; samples = refl; workspace = refl }

pub right_reading_exported : ReadsHosted right_reader
right_reading_exported ls payload ws samples h =
    record { answer = record { number = refl; kind = refl; place = refl }; samples = refl; workspace = refl }
