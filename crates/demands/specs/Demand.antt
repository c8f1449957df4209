-- The customer's three demands, in one file, of every function that a host can call: the frame entries `decode8` and `decode16`, a table by itself
-- (`build`), the lookup in it (`lookup`), a reading by itself (`read`), and the four of magicyuv that are exported. First what a call is, by name; then what is
-- demanded of a call; then the calls that each function's contract allows; last, `Demands`: all of them meet the demands, which
-- proofs/Demand.antt proves (`demands`). A demand's own words stand between “ and ”, document 01's between quotation marks. What is named and
-- not defined here is document 01, as crates/scope/specs has it. Assumes nothing.
use Rattle.std.specs.Prelude.{◌≡◌, ◌↔◌, ℕ, ◌-◌, ◌/◌, ◌^◌, ◌≤◌, ◌<◌, Bool, true, not, List, ◌∷◌, length, take, drop, get_or, None}
use contract.Lifetimes.{Lfts}
use borrow.Fn.World.{ArgsD, ResD}
use denote.Triple.Clauses.{Ended, AtExit}
use Rattle.scope.specs.Base.{Bytes, Lengths, Samples, Words, zeros}
use Rattle.scope.specs.Refusals.{Row, row, first_of, NoneApplies, FirstApplies}
use Rattle.scope.specs.Geometry.{all_samples}
use Rattle.scope.specs.Words.{shares, need, longest, length_of, word_of, Begins, Spells}
use Rattle.scope.specs.Frame.{table, picture_of}
use Rattle.scope.specs.Alone.{build_rows, read_rows_alone}
use Rattle.scope.specs.declared.Entry.{Entry}
use Rattle.scope.specs.declared.Entry.TheVariants.{Eight, Deep}
use Rattle.scope.specs.declared.Geometry.{Geometry}
use Rattle.scope.specs.declared.Place.{Place}
use Rattle.scope.specs.declared.Place.TheVariants.{Plane, Nothing}
use Rattle.scope.specs.Found.{Found, some_word}
use Rattle.scope.specs.Answers.{Answer, done, refused}
use Rattle.places.specs.Picture.{AllStand, Pictured}
use Rattle.magicyuv.specs.declared.Reply.{Reply}
use Rattle.magicyuv.specs.declared.numbers.Numbers.{Numbers}
use Rattle.magicyuv.specs.Boundary.{numbers, numbers_fit, geometry_of, reply_to, Says}
use Rattle.decode.specs.contracts.decode8 as entry8
use Rattle.decode.proofs.decode8.Reads as entry8_reads
use Rattle.decode.specs.contracts.decode16 as entry16
use Rattle.decode.proofs.decode16.Reads as entry16_reads
use Rattle.alone.specs.contracts.build as building
use Rattle.alone.proofs.build.Reads as building_reads
use Rattle.alone.specs.contracts.read as reading
use Rattle.alone.proofs.read.Reads as reading_reads
use Rattle.lookup.specs.contracts.lookup as looking
use Rattle.lookup.proofs.lookup.Reads as looking_reads
use Rattle.magicyuv.specs.contracts.magicyuv_decode8 as host8
use Rattle.magicyuv.proofs.magicyuv_decode8.Reads as host8_reads
use Rattle.magicyuv.specs.contracts.magicyuv_decode16 as host16
use Rattle.magicyuv.proofs.magicyuv_decode16.Reads as host16_reads
use Rattle.magicyuv.specs.contracts.magicyuv_build as host_build
use Rattle.magicyuv.proofs.magicyuv_build.Reads as host_build_reads
use Rattle.magicyuv.specs.contracts.magicyuv_read as host_read
use Rattle.magicyuv.proofs.magicyuv_read.Reads as host_read_reads

-- ---- what a call is

-- An answer is put as the host gets it, a `Reply` of three numbers: document 01's number, 0 where nothing is refused; the kind of its place, 0
-- nothing, 1 a slice, 2 a plane; and which one. The exported functions reply this; of the others it is what their answer says (`reply_to`).

-- a call of a frame entry: what was lent to it, as it was found; what it replied; what it left
pub record FrameCall : Type 0 where
  pub which : Entry
  -- the numbers of the geometry name a family, and 0 or 1 for interlaced; a geometry record always does
  pub named : Bool
  pub frame : Bytes
  pub geometry : Geometry
  pub lengths : Lengths
  pub planes₀ : Samples
  pub workspace₀ : Words
  pub reply : Reply
  pub planes₁ : Samples
  pub workspace₁ : Words

-- of a table by itself
pub record TableCall : Type 0 where
  pub lengths : Lengths
  pub workspace₀ : Words
  pub reply : Reply
  pub workspace₁ : Words

-- of the lookup in one
pub record LookupCall : Type 0 where
  pub words : Words
  pub longest : ℕ
  pub payload : Bytes
  pub at : ℕ
  pub found : Found

-- of a reading by itself
pub record ReadCall : Type 0 where
  pub lengths : Lengths
  pub payload : Bytes
  pub workspace₀ : Words
  pub samples₀ : Samples
  pub reply : Reply
  pub workspace₁ : Words
  pub samples₁ : Samples

-- ---- exactly when

-- A reply goes by a table of rows: 0 exactly when no row applies; a refusal's number and place exactly when a row with that number and place applies and
-- no row before it does. A refusal's number is at least 1 and at most 15, so that 0 means success and nothing else does.
pub record ByTable (rows : List Row) (reply : Reply) : Type 0 where
  pub success : (reply.number ≡ 0) ↔ NoneApplies rows
  pub refused : (n : ℕ) (p : Place) → 1 ≤ n → Says (refused n p) reply ↔ FirstApplies rows n p
  pub numbers : (n : ℕ) (p : Place) → FirstApplies rows n p → (1 ≤ n) × (n ≤ 15)
  pub most : reply.number ≤ 15

-- ---- demand 1

-- document 01's table for what was lent; to "geometry outside the rules above" belong numbers that name none
abbrev pub table_for : (c : FrameCall) → List Row
table_for c =
    row 1 Nothing (not c.named)
    ∷ table c.which c.frame c.geometry c.lengths (length c.planes₀) (length c.workspace₀)

-- the picture that document 01 defines for it
abbrev pub picture_for : (c : FrameCall) → Samples
picture_for c = picture_of c.frame c.geometry c.lengths

pub record Demand1 (c : FrameCall) : Type 0 where
  -- “Planes, or one of the numbered refusals exactly when document 01 says.”
  pub exactly : ByTable (table_for c) c.reply
  -- "Success leaves the workspace zero and defines every sample."
  pub success : c.reply.number ≡ 0 → (c.planes₁ ≡ picture_for c) × (c.workspace₁ ≡ zeros c.workspace₀)
  -- “Refusals 1 to 4 leave planes and workspace as found,”
  pub found : 1 ≤ c.reply.number → c.reply.number ≤ 4 → (c.planes₁ ≡ c.planes₀) × (c.workspace₁ ≡ c.workspace₀)
  -- “any other leaves both all zero;”
  pub cleared : 4 < c.reply.number → (c.planes₁ ≡ zeros c.planes₀) × (c.workspace₁ ≡ zeros c.workspace₀)

-- two calls that were lent the same frame, geometry and lengths, and memory of the same size, whatever it held
pub record LentAlike (c d : FrameCall) : Type 0 where
  pub which : c.which ≡ d.which
  pub named : c.named ≡ d.named
  pub frame : c.frame ≡ d.frame
  pub geometry : c.geometry ≡ d.geometry
  pub lengths : c.lengths ≡ d.lengths
  pub planes : length c.planes₀ ≡ length d.planes₀
  pub workspace : length c.workspace₀ ≡ length d.workspace₀

-- they end alike
pub record SameEnd (c d : FrameCall) : Type 0 where
  pub reply : c.reply ≡ d.reply
  pub planes : c.planes₁ ≡ d.planes₁
  pub workspace : c.workspace₁ ≡ d.workspace₁

pub record Forgotten (c d : FrameCall) : Type 0 where
  -- “what they held before changes no answer”
  pub reply : c.reply ≡ d.reply
  -- “and, except after 1 to 4, nothing left in them.”
  pub success : c.reply.number ≡ 0 → SameEnd c d
  pub cleared : 4 < c.reply.number → SameEnd c d
  -- and after these too where they held the same: no other outcome is allowed
  pub only : c.planes₀ ≡ d.planes₀ → c.workspace₀ ≡ d.workspace₀ → SameEnd c d

-- ---- demand 2

pub record Demand2 (c : FrameCall) : Type 0 where
  -- “Planes and refusals .. are proved equal to definitions written from that document”: number and place of the answer
  pub reply : c.reply ≡ reply_to (first_of (table_for c))
  -- the planes, wherever they are handed out
  pub planes : c.reply.number ≡ 0 → c.planes₁ ≡ picture_for c
  -- and they are handed out wherever document 01 refuses nothing
  pub handed : first_of (table_for c) ≡ done → (c.reply.number ≡ 0) × (c.planes₁ ≡ picture_for c)
  -- "Success .. defines every sample.": there are as many as all planes have, each below 2^depth;
  pub size : c.reply.number ≡ 0 → length c.planes₁ ≡ all_samples c.geometry
  pub below : c.reply.number ≡ 0 → (i : ℕ) → i < all_samples c.geometry → get_or c.planes₁ i 0 < 2 ^ c.geometry.depth
  -- by row and column, sample (r, x) of slice s stands in its plane's row k times the plane's slice height + r, where k is its place;
  pub rows : c.reply.number ≡ 0 → AllStand c.frame c.geometry c.lengths c.planes₁
  -- every row of every plane is in just one slice's rows, and no other buffer has them so (crates/places/specs/Picture.antt)
  pub pictured : c.reply.number ≡ 0 → Pictured c.frame c.geometry c.lengths

-- ---- demand 3

-- the lengths of a code that can be built: refusals 4 and 9 do not apply
pub record InCaps (ls : Lengths) : Type 0 where
  pub few : length ls ≤ 16384
  pub small : (s : ℕ) → s < length ls → length_of ls s ≤ 18

pub record Demand3Table (c : TableCall) : Type 0 where
  -- "A table built by itself is refused for more than 16,384 lengths by 4, then by 9, 10 and 11"
  pub exactly : ByTable (build_rows c.lengths (length c.workspace₀)) c.reply
  -- “A table is built exactly when the shares total at most one;”
  pub built : InCaps c.lengths → need c.lengths ≤ length c.workspace₀ → (c.reply.number ≡ 0) ↔ (shares c.lengths ≤ 262144)
  -- of whatever lengths and workspace: built, hence within the caps, and shares at most one
  pub caps : c.reply.number ≡ 0 → InCaps c.lengths
  pub full : c.reply.number ≡ 0 → shares c.lengths ≤ 262144
  -- “the longest-first words are then prefix-free;” each word is a number of as many bits as it has, and begins no other symbol's word
  pub fits : InCaps c.lengths → shares c.lengths ≤ 262144 → (s : ℕ) → s < length c.lengths → 0 < length_of c.lengths s → word_of c.lengths s < 2 ^ length_of c.lengths s
  pub free : (s t : ℕ) → s < length c.lengths → t < length c.lengths → 0 < length_of c.lengths s
      → length_of c.lengths s ≤ length_of c.lengths t
      → word_of c.lengths t / 2 ^ (length_of c.lengths t - length_of c.lengths s) ≡ word_of c.lengths s → s ≡ t
  -- "and each leaves the workspace as found. Success leaves the words past the need as found"
  pub found : 1 ≤ c.reply.number → c.workspace₁ ≡ c.workspace₀
  pub past : c.reply.number ≡ 0 → drop (need c.lengths) c.workspace₁ ≡ drop (need c.lengths) c.workspace₀

-- "From these and m alone, without the lengths, the lookup finds at a payload's bit position the word that the bits there begin with, its length and
-- symbol, or none": a lookup in what a table by itself left
pub record Usable (c : TableCall) (l : LookupCall) : Type 0 where
  pub word : (n s : ℕ) → (l.found ≡ some_word n s) ↔ (Begins c.lengths l.payload l.at s × (n ≡ length_of c.lengths s))
  pub none : (l.found ≡ None) ↔ ((s : ℕ) → Begins c.lengths l.payload l.at s → ⊥)

-- two tables of the same lengths, built in memory of the same size, whatever it held: the same reply, and where they are built the same words within the need
pub record TablesAlike (c d : TableCall) : Type 0 where
  pub lengths : c.lengths ≡ d.lengths
  pub workspace : length c.workspace₀ ≡ length d.workspace₀

pub record TableForgotten (c d : TableCall) : Type 0 where
  pub reply : c.reply ≡ d.reply
  pub words : c.reply.number ≡ 0 → take (need c.lengths) c.workspace₁ ≡ take (need c.lengths) d.workspace₁
  pub only : c.workspace₀ ≡ d.workspace₀ → c.workspace₁ ≡ d.workspace₁

-- the payload's bits, continued with zeros, begin with a chain of n words: their symbols are ss
pub record ChainOf (ls : Lengths) (payload : Bytes) (n : ℕ) (ss : Samples) : Type 0 where
  pub long : length ss ≡ n
  pub spelt : Spells ls payload 0 ss

pub record Demand3Reading (c : ReadCall) : Type 0 where
  -- "builds first, with those refusals, and 4 also for more than 268,435,456 samples"; "A failed word gives 14"
  pub exactly : ByTable (read_rows_alone c.lengths c.payload (length c.samples₀) (length c.workspace₀)) c.reply
  -- “reading n samples succeeds exactly when the zero-continued bits begin with a chain of n words;”
  pub succeeds : InCaps c.lengths → shares c.lengths ≤ 262144 → need c.lengths ≤ length c.workspace₀ → length c.samples₀ ≤ 268435456
      → (c.reply.number ≡ 0) ↔ ((ss : Samples) × ChainOf c.lengths c.payload (length c.samples₀) ss)
  -- “that chain is the only one,”
  pub only : (ss ts : Samples) → ChainOf c.lengths c.payload (length c.samples₀) ss → ChainOf c.lengths c.payload (length c.samples₀) ts → ss ≡ ts
  -- “and its symbols are the samples.”
  pub hands : c.reply.number ≡ 0 → ChainOf c.lengths c.payload (length c.samples₀) c.samples₁
  -- where there is no such chain it is 14 at plane 0, and both are wholly zero
  pub fails : InCaps c.lengths → shares c.lengths ≤ 262144 → need c.lengths ≤ length c.workspace₀ → length c.samples₀ ≤ 268435456
      → ((ss : Samples) → ChainOf c.lengths c.payload (length c.samples₀) ss → ⊥)
      → Says (refused 14 (Plane 0)) c.reply × ((c.samples₁ ≡ zeros c.samples₀) × (c.workspace₁ ≡ zeros c.workspace₀))
  -- of whatever lengths and workspace: read, hence shares at most one
  pub full : c.reply.number ≡ 0 → shares c.lengths ≤ 262144
  -- the refusals before the reading "leave buffer and workspace as found"; 14 "leaves both wholly zero; success leaves the workspace zero"
  pub found : 1 ≤ c.reply.number → c.reply.number ≤ 11 → (c.samples₁ ≡ c.samples₀) × (c.workspace₁ ≡ c.workspace₀)
  pub cleared : 11 < c.reply.number → (c.samples₁ ≡ zeros c.samples₀) × (c.workspace₁ ≡ zeros c.workspace₀)
  pub clears : c.reply.number ≡ 0 → c.workspace₁ ≡ zeros c.workspace₀

-- two readings of the same lengths and payload, into memory of the same size, whatever it held
pub record ReadingsAlike (c d : ReadCall) : Type 0 where
  pub lengths : c.lengths ≡ d.lengths
  pub payload : c.payload ≡ d.payload
  pub workspace : length c.workspace₀ ≡ length d.workspace₀
  pub samples : length c.samples₀ ≡ length d.samples₀

pub record ReadingForgotten (c d : ReadCall) : Type 0 where
  pub reply : c.reply ≡ d.reply
  pub success : c.reply.number ≡ 0 → (c.samples₁ ≡ d.samples₁) × (c.workspace₁ ≡ d.workspace₁)
  pub cleared : 11 < c.reply.number → (c.samples₁ ≡ d.samples₁) × (c.workspace₁ ≡ d.workspace₁)
  pub only : c.samples₀ ≡ d.samples₀ → c.workspace₀ ≡ d.workspace₀ → (c.samples₁ ≡ d.samples₁) × (c.workspace₁ ≡ d.workspace₁)

-- ---- the calls that the contracts allow: `Post` is the plain reading that Rattle itself makes of the `ensures` clauses of src/, so nothing here goes
-- by another copy of a contract

-- A call of a function, with what its contract allows it to answer and to leave. T is the function's signature, with its parameters as they are at
-- its exit.
pub record Allowed (T : Ended) (Post : (κs : Lfts T.signature.lifetimes) → ArgsD T.signature κs → ResD T.signature κs → AtExit T κs → Type 0) : Type 1 where
  pub lifetimes : Lfts T.signature.lifetimes
  pub lent : ArgsD T.signature lifetimes
  pub answer : ResD T.signature lifetimes
  pub left : AtExit T lifetimes
  pub allowed : Post lifetimes lent answer left

-- ---- frames

pub data FrameEntry : Type 0 where
  decode8 : FrameEntry
  decode16 : FrameEntry
  magicyuv_decode8 : FrameEntry
  magicyuv_decode16 : FrameEntry

-- the calls that their contracts allow
abbrev pub Decode8 : Type 1
Decode8 = Allowed entry8.ended entry8_reads.Post

abbrev pub Decode16 : Type 1
Decode16 = Allowed entry16.ended entry16_reads.Post

abbrev pub Host8 : Type 1
Host8 = Allowed host8.ended host8_reads.Post

abbrev pub Host16 : Type 1
Host16 = Allowed host16.ended host16_reads.Post

abbrev pub FrameAllowed : (f : FrameEntry) → Type 1
FrameAllowed decode8 = Decode8
FrameAllowed decode16 = Decode16
FrameAllowed magicyuv_decode8 = Host8
FrameAllowed magicyuv_decode16 = Host16

-- a call of an entry, from its geometry
abbrev pub decoded : (which : Entry) (frame : Bytes) (g : Geometry) (lengths : Lengths) (planes₀ : Samples) (workspace₀ : Words) (answer : Answer) (planes₁ : Samples) (workspace₁ : Words) → FrameCall
decoded which frame g lengths planes₀ workspace₀ answer planes₁ workspace₁ =
    record {
      which = which;
      named = true;
      frame = frame;
      geometry = g;
      lengths = lengths;
      planes₀ = planes₀;
      workspace₀ = workspace₀;
      reply = reply_to answer;
      planes₁ = planes₁;
      workspace₁ = workspace₁;
    }

-- a call of an exported entry, from the numbers of its geometry
abbrev pub hosted : (which : Entry) (frame : Bytes) (n : Numbers) (lengths : Lengths) (planes₀ : Samples) (workspace₀ : Words) (reply : Reply) (planes₁ : Samples) (workspace₁ : Words) → FrameCall
hosted which frame n lengths planes₀ workspace₀ reply planes₁ workspace₁ =
    record {
      which = which;
      named = numbers_fit n;
      frame = frame;
      geometry = geometry_of n;
      lengths = lengths;
      planes₀ = planes₀;
      workspace₀ = workspace₀;
      reply = reply;
      planes₁ = planes₁;
      workspace₁ = workspace₁;
    }

-- the parameters of each in order, by name
module _ (κs : Lfts 4) where
  abbrev pub call8 : (a : ArgsD entry8.signature κs) (r : ResD entry8.signature κs) (s : AtExit entry8.ended κs) → FrameCall
  call8 (frame, (g, (lengths, (planes, (workspace, end))))) r (frame', (g', (lengths', (planes', (workspace', end'))))) =
      decoded Eight frame.now g lengths.now planes.now workspace.now r planes'.now workspace'.now

  abbrev pub call16 : (a : ArgsD entry16.signature κs) (r : ResD entry16.signature κs) (s : AtExit entry16.ended κs) → FrameCall
  call16 (frame, (g, (lengths, (planes, (workspace, end))))) r (frame', (g', (lengths', (planes', (workspace', end'))))) =
      decoded Deep frame.now g lengths.now planes.now workspace.now r planes'.now workspace'.now

  abbrev pub call_host8 : (a : ArgsD host8.signature κs) (r : ResD host8.signature κs) (s : AtExit host8.ended κs) → FrameCall
  call_host8 (frame, (lengths, (planes, (workspace, (w, (h, (sh, (f, (sx, (sy, (d, (i, end)))))))))))) r (frame', (lengths', (planes', (workspace', end')))) =
      hosted Eight frame.now (numbers w h sh f sx sy d i) lengths.now planes.now workspace.now r planes'.now workspace'.now

  abbrev pub call_host16 : (a : ArgsD host16.signature κs) (r : ResD host16.signature κs) (s : AtExit host16.ended κs) → FrameCall
  call_host16 (frame, (lengths, (planes, (workspace, (w, (h, (sh, (f, (sx, (sy, (d, (i, end)))))))))))) r (frame', (lengths', (planes', (workspace', end')))) =
      hosted Deep frame.now (numbers w h sh f sx sy d i) lengths.now planes.now workspace.now r planes'.now workspace'.now

abbrev pub frame_call : (f : FrameEntry) (c : FrameAllowed f) → FrameCall
frame_call decode8 c = call8 c.lifetimes c.lent c.answer c.left
frame_call decode16 c = call16 c.lifetimes c.lent c.answer c.left
frame_call magicyuv_decode8 c = call_host8 c.lifetimes c.lent c.answer c.left
frame_call magicyuv_decode16 c = call_host16 c.lifetimes c.lent c.answer c.left

pub data TableEntry : Type 0 where
  build : TableEntry
  magicyuv_build : TableEntry

abbrev pub Build : Type 1
Build = Allowed building.ended building_reads.Post

abbrev pub HostBuild : Type 1
HostBuild = Allowed host_build.ended host_build_reads.Post

abbrev pub TableAllowed : (f : TableEntry) → Type 1
TableAllowed build = Build
TableAllowed magicyuv_build = HostBuild

module _ (κs : Lfts 2) where
  abbrev pub call_build : (a : ArgsD building.signature κs) (r : ResD building.signature κs) (s : AtExit building.ended κs) → TableCall
  call_build (lengths, (workspace, end)) r (lengths', (workspace', end')) =
      record { lengths = lengths.now; workspace₀ = workspace.now; reply = reply_to r; workspace₁ = workspace'.now }

  abbrev pub call_host_build : (a : ArgsD host_build.signature κs) (r : ResD host_build.signature κs) (s : AtExit host_build.ended κs) → TableCall
  call_host_build (lengths, (workspace, end)) r (lengths', (workspace', end')) =
      record { lengths = lengths.now; workspace₀ = workspace.now; reply = r; workspace₁ = workspace'.now }

abbrev pub table_call : (f : TableEntry) (c : TableAllowed f) → TableCall
table_call build c = call_build c.lifetimes c.lent c.answer c.left
table_call magicyuv_build c = call_host_build c.lifetimes c.lent c.answer c.left

abbrev pub Lookup : Type 1
Lookup = Allowed looking.ended looking_reads.Post

abbrev pub call_lookup : (κs : Lfts 2) (a : ArgsD looking.signature κs) (r : ResD looking.signature κs) → LookupCall
call_lookup κs (words, (m, (payload, (at, end)))) r = record { words = words.now; longest = m; payload = payload.now; at = at; found = r }

abbrev pub lookup_call : (c : Lookup) → LookupCall
lookup_call c = call_lookup c.lifetimes c.lent c.answer

pub data ReadEntry : Type 0 where
  read : ReadEntry
  magicyuv_read : ReadEntry

abbrev pub Read : Type 1
Read = Allowed reading.ended reading_reads.Post

abbrev pub HostRead : Type 1
HostRead = Allowed host_read.ended host_read_reads.Post

abbrev pub ReadAllowed : (f : ReadEntry) → Type 1
ReadAllowed read = Read
ReadAllowed magicyuv_read = HostRead

module _ (κs : Lfts 4) where
  abbrev pub call_read : (a : ArgsD reading.signature κs) (r : ResD reading.signature κs) (s : AtExit reading.ended κs) → ReadCall
  call_read (lengths, (payload, (workspace, (samples, end)))) r (lengths', (payload', (workspace', (samples', end')))) =
      record { lengths = lengths.now; payload = payload.now; workspace₀ = workspace.now; samples₀ = samples.now; reply = reply_to r; workspace₁ = workspace'.now; samples₁ = samples'.now }

  abbrev pub call_host_read : (a : ArgsD host_read.signature κs) (r : ResD host_read.signature κs) (s : AtExit host_read.ended κs) → ReadCall
  call_host_read (lengths, (payload, (workspace, (samples, end)))) r (lengths', (payload', (workspace', (samples', end')))) =
      record { lengths = lengths.now; payload = payload.now; workspace₀ = workspace.now; samples₀ = samples.now; reply = r; workspace₁ = workspace'.now; samples₁ = samples'.now }

abbrev pub read_call : (f : ReadEntry) (c : ReadAllowed f) → ReadCall
read_call read c = call_read c.lifetimes c.lent c.answer c.left
read_call magicyuv_read c = call_host_read c.lifetimes c.lent c.answer c.left

-- ---- the demands, of every call that a contract allows

pub record Demands : Type 1 where
  pub demand_1 : (f : FrameEntry) (c : FrameAllowed f) → Demand1 (frame_call f c)
  pub forgotten : (f h : FrameEntry) (c : FrameAllowed f) (d : FrameAllowed h) → LentAlike (frame_call f c) (frame_call h d) → Forgotten (frame_call f c) (frame_call h d)
  pub demand_2 : (f : FrameEntry) (c : FrameAllowed f) → Demand2 (frame_call f c)
  -- of a function whose answer is not three numbers, the answer itself
  pub answer_8 : (c : Decode8) → c.answer ≡ first_of (table_for (frame_call decode8 c))
  pub answer_16 : (c : Decode16) → c.answer ≡ first_of (table_for (frame_call decode16 c))
  pub demand_3_table : (f : TableEntry) (c : TableAllowed f) → Demand3Table (table_call f c)
  pub table_forgotten : (f h : TableEntry) (c : TableAllowed f) (d : TableAllowed h) → TablesAlike (table_call f c) (table_call h d) → TableForgotten (table_call f c) (table_call h d)
  pub answer_table : (c : Build) → c.answer ≡ first_of (build_rows (table_call build c).lengths (length (table_call build c).workspace₀))
  pub demand_3_lookup : (f : TableEntry) (c : TableAllowed f) (l : Lookup) → (table_call f c).reply.number ≡ 0
      → (lookup_call l).words ≡ (table_call f c).workspace₁ → (lookup_call l).longest ≡ longest (table_call f c).lengths → Usable (table_call f c) (lookup_call l)
  pub demand_3_reading : (f : ReadEntry) (c : ReadAllowed f) → Demand3Reading (read_call f c)
  pub reading_forgotten : (f h : ReadEntry) (c : ReadAllowed f) (d : ReadAllowed h) → ReadingsAlike (read_call f c) (read_call h d) → ReadingForgotten (read_call f c) (read_call h d)
  pub answer_reading : (c : Read) → c.answer
      ≡ first_of (read_rows_alone (read_call read c).lengths (read_call read c).payload (length (read_call read c).samples₀) (length (read_call read c).workspace₀))
