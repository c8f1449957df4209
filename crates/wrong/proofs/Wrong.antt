-- Document 01, "What every public statement settles" and "Slips to shut out": none of its wrong decoders meets the statements. Each is asked about
-- one or two small frames (specs/Frames.antt), and what it says of them and what the statements say is computed. Assumes nothing.
use mathlib.Core.Path.{◌≡◌, refl, sym, ap, ◌∙◌}
use Prim.Native.Nat.{ℕ, ◌<◌, ◌≤◌}
use native.Mathlib.Omega.{arith}
use mathlib.Core.List.{[], ◌∷◌}
use lib.ListN.{replicate}
use Rattle.scope.specs.Base.{Lengths, Samples, Words, count, sum_below, list_from, grown}
use Rattle.scope.specs.Refusals.{number_of, rows_of_each, left_by}
use Rattle.scope.specs.Geometry.{size_fits, factor_fits, geometry_fits, factors_divide, slice_height_divides, small, plane_width, plane_height, plane_slice_height, rows_at, plane_samples, all_samples, lengths_of, fields, swapped}
use Rattle.scope.specs.Layout.{le32, entry, preamble_end, count_byte, plane_index, named_before, place_in_plane, slice_start, slice_end, is_raw, predictor_of, payload_of, samples_in}
use Rattle.scope.specs.Bits.{bit_at, window, packed_from, raw_samples}
use Rattle.scope.specs.Words.{longest, shorter, shortest, too_long, share, shares, overfull, start_down, first, word_of, is_head, head_below, heads, need_from, need, begins_with, word_below, word_at, ◌before◌, on_word, chain_by, symbols_of}
use Rattle.scope.specs.Prediction.{gradient, clamp_median, t87_median, median, predictor, prediction, sample, samples_of, plus}
use Rattle.scope.specs.Frame.{need_of_all, fewest_bytes, residues_of, slice_samples, plane_up_to, wire_plane, colour_plane, planes_up_to, picture_of, table, answer_of, planes_after, workspace_after}
use Rattle.scope.specs.Alone.{build_answer, read_answer, samples_read}
use Rattle.scope.specs.declared.Geometry.{Geometry}
use Rattle.scope.specs.declared.Place.TheVariants.{Slice, Plane, Nothing}
use Rattle.scope.specs.Answers.{Answer, done, refused}
use Rattle.wrong.specs.Calls.{Lent, all_below, can_be_lent, Decoder, Out, Builder, lent_to_build, OutBuilder, lent_to_read, OutReader}
use Rattle.wrong.specs.Rules.{residues_by, samples_by, plane_by, wire_by, buffer_by, picture_by, answer_by, decodes_by, reads_by, slice0, copies_slice0, predictor_by, by_median, t87_always, clamp_always, first_up, word_up, by_words_below, by_words, shortest_first, filled, filled_at, unfilled_is0, by_rows_up, adds_row_above, ignores_fields, b_first, plane_major, assumes_plane_major}
use Rattle.wrong.specs.Behaviours.{RefusesAlways, FixedPicture, WritesNothing, LeavesWorkspace, LeavesRefused, ZeroFills, MakesUpSlice, MakesUpPlane, MakesUpNeed, AsksOther, MakesUpNeedAlone, AsksOtherAlone, CompleteOnly, code_of0, CompleteOnlyFrames}
use Rattle.wrong.specs.Frames.{dot, pair, colours, column, square, deep_square}
use Rattle.wrong.specs.Wrong.{AllRefused}
use Rattle.wrong.proofs.Shown.{Due, out, DueTable, out_builder, DueReading, out_reader}

-- names whose clauses the checker computes with, below
open01 : Unit {0}
unfolding count sum_below list_from grown rows_of_each left_by
    size_fits factor_fits geometry_fits factors_divide slice_height_divides small plane_width plane_height plane_slice_height rows_at plane_samples all_samples lengths_of fields swapped
    le32 entry preamble_end count_byte plane_index named_before place_in_plane slice_start slice_end is_raw predictor_of payload_of samples_in
    bit_at window packed_from raw_samples
    longest shorter shortest too_long share shares overfull start_down first word_of is_head head_below heads need_from need begins_with word_below word_at ◌before◌ on_word chain_by symbols_of
    gradient clamp_median t87_median median predictor prediction sample samples_of plus
    need_of_all fewest_bytes residues_of slice_samples plane_up_to wire_plane colour_plane planes_up_to picture_of table answer_of planes_after workspace_after
    build_answer read_answer samples_read
    residues_by samples_by plane_by wire_by buffer_by picture_by answer_by decodes_by reads_by
    slice0 predictor_by by_median first_up word_up by_words_below by_words filled filled_at by_rows_up plane_major
    all_below can_be_lent lent_to_build lent_to_read dot pair colours column square deep_square
open01 = tt

-- ---- how a theorem goes: a frame, what is due for it, and what the decoder gives

-- it gives other planes
other_planes : (D : Decoder) {l : Lent} {a : Answer} {its p : Samples} {w : Words} → Due l a p w → (D l).planes ≡ its → (its ≡ p → ⊥) → Out D
other_planes D d e differ = out D (λ shown. differ (sym e ∙ (shown.at d).planes))

-- ---- decoders that go by the geometry, or by memory

abbrev dot_of : (byte : ℕ) → Lent
dot_of byte = dot 1 byte [] 1

seven : Due (dot_of 7) done (7 ∷ []) (0 ∷ [])
unfolding open01
seven = record { lent = tt; answer = refl; planes = refl; workspace = refl }

eight : Due (dot_of 8) done (8 ∷ []) (0 ∷ [])
unfolding open01
eight = record { lent = tt; answer = refl; planes = refl; workspace = refl }

refuses_always : (D : Decoder) → RefusesAlways D → Out D
refuses_always D does = out D (λ shown. omega (arith, (shown.at seven).number, does (dot_of 7) seven.lent))

-- 7 and 8 are due for one geometry
fixed_picture : (picture : Geometry → Samples) (D : Decoder) → FixedPicture picture D → Out D
unfolding dot
fixed_picture picture D does =
    out D (λ shown.
    let g : Geometry = (dot_of 7).geometry in
    let a : picture g ≡ 7 ∷ [] = sym (does (dot_of 7) seven.lent (shown.at seven).number) ∙ (shown.at seven).planes in
    let b : picture g ≡ 8 ∷ [] = sym (does (dot_of 8) eight.lent (shown.at eight).number) ∙ (shown.at eight).planes in
    let z : ◌≡◌ {A = ℕ} 7 8 = cc in
    omega (arith, z))

-- 9 is in the planes before, and 7 is due
writes_nothing : (D : Decoder) → WritesNothing D → Out D
unfolding dot
writes_nothing D does =
    out D (λ shown.
    let e : 9 ∷ [] ≡ 7 ∷ [] = sym (does (dot_of 7) seven.lent) ∙ (shown.at seven).planes in
    let z : ◌≡◌ {A = ℕ} 9 7 = cc in
    omega (arith, z))

-- 9 is in the workspace before, and 0 is due
leaves_workspace : (D : Decoder) → LeavesWorkspace D → Out D
unfolding dot
leaves_workspace D does =
    out D (λ shown.
    let e : 9 ∷ [] ≡ 0 ∷ [] = sym (does (dot_of 7) seven.lent) ∙ (shown.at seven).workspace in
    let z : ◌≡◌ {A = ℕ} 9 0 = cc in
    omega (arith, z))

zero_fills : (D : Decoder) → ZeroFills D → Out D
unfolding dot
zero_fills D does =
    out D (λ shown.
    let e : 0 ∷ [] ≡ 7 ∷ [] = sym (does (dot_of 7) seven.lent (shown.at seven).number) ∙ (shown.at seven).planes in
    let z : ◌≡◌ {A = ℕ} 0 7 = cc in
    omega (arith, z))

-- ---- decoders that make something up

-- predictor byte 0 in slice 0, and in slice 1
at_slice_0 : Due (pair 0 1) (refused 15 (Slice 0)) (0 ∷ 0 ∷ []) (replicate 4 0)
unfolding open01
at_slice_0 = record { lent = tt; answer = refl; planes = refl; workspace = refl }

at_slice_1 : Due (pair 1 0) (refused 15 (Slice 1)) (0 ∷ 0 ∷ []) (replicate 4 0)
unfolding open01
at_slice_1 = record { lent = tt; answer = refl; planes = refl; workspace = refl }

leaves_refused : (D : Decoder) → LeavesRefused D → Out D
unfolding pair
leaves_refused D does =
    out D (λ shown.
    let m : 0 < number_of (D (pair 0 1)).answer = omega (arith, (shown.at at_slice_0).number) in
    let e : 9 ∷ 9 ∷ [] ≡ 0 ∷ 0 ∷ [] = sym (does (pair 0 1) at_slice_0.lent m) ∙ (shown.at at_slice_0).planes in
    let z : ◌≡◌ {A = ℕ} 9 0 = cc in
    omega (arith, z))

makes_up_slice : (slice : Geometry → ℕ) (D : Decoder) → MakesUpSlice slice D → Out D
unfolding pair
makes_up_slice slice D does =
    out D (λ shown.
    let g : Geometry = (pair 0 1).geometry in
    let a : slice g ≡ 0 = sym (does (pair 0 1) at_slice_0.lent (shown.at at_slice_0).kind) ∙ (shown.at at_slice_0).place in
    let b : slice g ≡ 1 = sym (does (pair 1 0) at_slice_1.lent (shown.at at_slice_1).kind) ∙ (shown.at at_slice_1).place in
    omega (arith, a, b))

-- a length of 19 in plane 0, and in plane 1
at_plane_0 : Due (colours (19 ∷ []) []) (refused 9 (Plane 0)) (replicate 3 0) (replicate 4 0)
unfolding open01
at_plane_0 = record { lent = tt; answer = refl; planes = refl; workspace = refl }

at_plane_1 : Due (colours [] (19 ∷ [])) (refused 9 (Plane 1)) (replicate 3 0) (replicate 4 0)
unfolding open01
at_plane_1 = record { lent = tt; answer = refl; planes = refl; workspace = refl }

makes_up_plane : (plane : Geometry → ℕ) (D : Decoder) → MakesUpPlane plane D → Out D
unfolding colours
makes_up_plane plane D does =
    out D (λ shown.
    let g : Geometry = (colours [] []).geometry in
    let a : plane g ≡ 0 = sym (does (colours (19 ∷ []) []) at_plane_0.lent (shown.at at_plane_0).kind) ∙ (shown.at at_plane_0).place in
    let b : plane g ≡ 1 = sym (does (colours [] (19 ∷ [])) at_plane_1.lent (shown.at at_plane_1).kind) ∙ (shown.at at_plane_1).place in
    omega (arith, a, b))

-- one workspace word, which is enough where no symbol has a word (`seven`), is too little for two words of one bit
one_is_short : Due (dot 1 7 (1 ∷ 1 ∷ []) 1) (refused 11 Nothing) (0 ∷ []) (0 ∷ [])
unfolding open01
one_is_short = record { lent = tt; answer = refl; planes = refl; workspace = refl }

makes_up_need : (asked : Geometry → ℕ) (D : Decoder) → MakesUpNeed asked D → Out D
unfolding dot
makes_up_need asked D does =
    out D (λ shown.
    let g : Geometry = (dot_of 7).geometry in
    let a : asked g ≤ 1 = does.enough (dot_of 7) seven.lent (shown.at seven).number in
    let b : 1 < asked g = does.short (dot 1 7 (1 ∷ 1 ∷ []) 1) one_is_short.lent (shown.at one_is_short).number in
    omega (arith, a, b))

-- and no workspace word is always too little
none_is_short : Due (dot 1 7 [] 0) (refused 11 Nothing) (0 ∷ []) []
unfolding open01
none_is_short = record { lent = tt; answer = refl; planes = refl; workspace = refl }

seven_needs_one : need_of_all (dot_of 7).geometry (dot_of 7).lengths ≡ 1
unfolding open01
seven_needs_one = refl

asks_other : (asked : Geometry → Lengths → ℕ) (D : Decoder) → AsksOther asked D → Out D
unfolding dot
asks_other asked D does =
    out D (λ shown.
    let l : Lent = dot_of 7 in
    let a : asked l.geometry l.lengths ≤ 1 = does.asks.enough l seven.lent (shown.at seven).number in
    let b : 0 < asked l.geometry l.lengths = does.asks.short (dot 1 7 [] 0) none_is_short.lent (shown.at none_is_short).number in
    does.other l.geometry l.lengths (omega (arith, a, b, seven_needs_one)))

-- the same of a table by itself
wordless_in_one : DueTable (0 ∷ 0 ∷ []) (9 ∷ []) 0
unfolding open01
wordless_in_one = record { lent = tt; number = refl }

wordless_in_none : DueTable (0 ∷ 0 ∷ []) [] 11
unfolding open01
wordless_in_none = record { lent = tt; number = refl }

two_words_in_one : DueTable (1 ∷ 1 ∷ []) (9 ∷ []) 11
unfolding open01
two_words_in_one = record { lent = tt; number = refl }

makes_up_need_alone : (asked : ℕ → ℕ) (B : Builder) → MakesUpNeedAlone asked B → OutBuilder B
makes_up_need_alone asked B does =
    out_builder B (λ shown.
    let a : asked 2 ≤ 1 = does.enough (0 ∷ 0 ∷ []) (9 ∷ []) wordless_in_one.lent (shown.at wordless_in_one) in
    let b : 1 < asked 2 = does.short (1 ∷ 1 ∷ []) (9 ∷ []) two_words_in_one.lent (shown.at two_words_in_one) in
    omega (arith, a, b))

wordless-need : need (0 ∷ 0 ∷ []) ≡ 1
unfolding open01
wordless-need = refl

asks_other_alone : (asked : Lengths → ℕ) (B : Builder) → AsksOtherAlone asked B → OutBuilder B
asks_other_alone asked B does =
    out_builder B (λ shown.
    let a : asked (0 ∷ 0 ∷ []) ≤ 1 = does.asks.enough (0 ∷ 0 ∷ []) (9 ∷ []) wordless_in_one.lent (shown.at wordless_in_one) in
    let b : 0 < asked (0 ∷ 0 ∷ []) = does.asks.short (0 ∷ 0 ∷ []) [] wordless_in_none.lent (shown.at wordless_in_none) in
    does.other (0 ∷ 0 ∷ []) (omega (arith, a, b, wordless-need)))

-- ---- complete codes only: one word of one bit takes half the room, and is built and read

half_builds : DueTable (1 ∷ []) (9 ∷ 9 ∷ []) 0
unfolding open01
half_builds = record { lent = tt; number = refl }

half : shares (1 ∷ []) ≡ 131072
unfolding open01
half = refl

complete_only : (B : Builder) → CompleteOnly B → OutBuilder B
complete_only B does =
    out_builder B (λ shown.
    let e : shares (1 ∷ []) ≡ 262144 = does (1 ∷ []) (9 ∷ 9 ∷ []) half_builds.lent (shown.at half_builds) in
    omega (arith, e, half))

abbrev half_dot : Lent
half_dot = dot 0 0 (1 ∷ []) 2

half_decodes : Due half_dot done (0 ∷ []) (0 ∷ 0 ∷ [])
unfolding open01
half_decodes = record { lent = tt; answer = refl; planes = refl; workspace = refl }

half_of_dot : shares (code_of0 half_dot) ≡ 131072
unfolding open01
half_of_dot = refl

complete_only_frames : (D : Decoder) → CompleteOnlyFrames D → Out D
complete_only_frames D does =
    out D (λ shown.
    let e : shares (code_of0 half_dot) ≡ 262144 = does half_dot half_decodes.lent (shown.at half_decodes).number in
    omega (arith, e, half_of_dot))

-- ---- decoders that are right but for one rule: what is due, and what each gives

pair_due : Due (pair 1 1) done (7 ∷ 8 ∷ []) (replicate 4 0)
unfolding open01
pair_due = record { lent = tt; answer = refl; planes = refl; workspace = refl }

slice_0_twice : (decodes_by copies_slice0 (pair 1 1)).planes ≡ 7 ∷ 7 ∷ []
unfolding open01
slice_0_twice = refl

copies_slice_0 : Out (decodes_by copies_slice0)
copies_slice_0 = other_planes (decodes_by copies_slice0) pair_due slice_0_twice (λ e. let z : ◌≡◌ {A = ℕ} 7 8 = cc in omega (arith, z))

square_due : Due square done (10 ∷ 100 ∷ 200 ∷ 100 ∷ []) (replicate 4 0)
unfolding open01
square_due = record { lent = tt; answer = refl; planes = refl; workspace = refl }

square_t87 : (decodes_by t87_always square).planes ≡ 10 ∷ 100 ∷ 200 ∷ 200 ∷ []
unfolding open01
square_t87 = refl

t87_at_8 : Out (decodes_by t87_always)
t87_at_8 = other_planes (decodes_by t87_always) square_due square_t87 (λ e. let z : ◌≡◌ {A = ℕ} 200 100 = cc in omega (arith, z))

deep_due : Due deep_square done (10 ∷ 900 ∷ 1000 ∷ 1000 ∷ []) (replicate 4 0)
unfolding open01
deep_due = record { lent = tt; answer = refl; planes = refl; workspace = refl }

deep_clamp : (decodes_by clamp_always deep_square).planes ≡ 10 ∷ 900 ∷ 1000 ∷ 900 ∷ []
unfolding open01
deep_clamp = refl

clamp_at_10 : Out (decodes_by clamp_always)
clamp_at_10 = other_planes (decodes_by clamp_always) deep_due deep_clamp (λ e. let z : ◌≡◌ {A = ℕ} 900 1000 = cc in omega (arith, z))

-- Under lengths 1,2,2 the bits 10 begin with the word 1, which is symbol 0's. Shortest first 10 is symbol 1's.
coded_due : Due (dot 0 0b1000_0000 (1 ∷ 2 ∷ 2 ∷ []) 4) done (0 ∷ []) (replicate 4 0)
unfolding open01
coded_due = record { lent = tt; answer = refl; planes = refl; workspace = refl }

coded_up : (decodes_by shortest_first (dot 0 0b1000_0000 (1 ∷ 2 ∷ 2 ∷ []) 4)).planes ≡ 1 ∷ []
unfolding open01
coded_up = refl

shortest_first_out : Out (decodes_by shortest_first)
shortest_first_out = other_planes (decodes_by shortest_first) coded_due coded_up (λ e. let z : ◌≡◌ {A = ℕ} 1 0 = cc in omega (arith, z))

read_due : DueReading (1 ∷ 2 ∷ 2 ∷ []) (0b1000_0000 ∷ []) (replicate 4 9) (9 ∷ []) 0 (0 ∷ [])
unfolding open01
read_due = record { lent = tt; number = refl; samples = refl }

read_up : (reads_by (by_words word_up) (1 ∷ 2 ∷ 2 ∷ []) (0b1000_0000 ∷ []) (replicate 4 9) (9 ∷ [])).samples ≡ 1 ∷ []
unfolding open01
read_up = refl

shortest_first_alone : OutReader (reads_by (by_words word_up))
shortest_first_alone =
    out_reader (reads_by (by_words word_up)) (λ shown.
    let e : 1 ∷ [] ≡ 0 ∷ [] = sym read_up ∙ (shown.at read_due).samples in
    let z : ◌≡◌ {A = ℕ} 1 0 = cc in
    omega (arith, z))

-- slices of G, R' and B': in the buffer G 10, B 5 + 10, R 250 + 10 modulo 256
colours_due : Due (colours [] []) done (10 ∷ 15 ∷ 4 ∷ []) (replicate 4 0)
unfolding open01
colours_due = record { lent = tt; answer = refl; planes = refl; workspace = refl }

colours_major : (assumes_plane_major (colours [] [])).planes ≡ 250 ∷ 4 ∷ 255 ∷ []
unfolding open01
colours_major = refl

plane_major_out : Out assumes_plane_major
plane_major_out = other_planes assumes_plane_major colours_due colours_major (λ e. let z : ◌≡◌ {A = ℕ} 250 10 = cc in omega (arith, z))

colours_b_first : (decodes_by b_first (colours [] [])).planes ≡ 15 ∷ 10 ∷ 4 ∷ []
unfolding open01
colours_b_first = refl

b_first_out : Out (decodes_by b_first)
b_first_out = other_planes (decodes_by b_first) colours_due colours_b_first (λ e. let z : ◌≡◌ {A = ℕ} 15 10 = cc in omega (arith, z))

-- rows 0 and 1 are of different fields, and row 2 adds row 0
column_due : Due column done (1 ∷ 2 ∷ 4 ∷ []) (replicate 4 0)
unfolding open01
column_due = record { lent = tt; answer = refl; planes = refl; workspace = refl }

column_above : (decodes_by adds_row_above column).planes ≡ 1 ∷ 2 ∷ 5 ∷ []
unfolding open01
column_above = refl

row_above : Out (decodes_by adds_row_above)
row_above = other_planes (decodes_by adds_row_above) column_due column_above (λ e. let z : ◌≡◌ {A = ℕ} 5 4 = cc in omega (arith, z))

column_ignored : (decodes_by ignores_fields column).planes ≡ 1 ∷ 3 ∷ 6 ∷ []
unfolding open01
column_ignored = refl

fields_ignored : Out (decodes_by ignores_fields)
fields_ignored = other_planes (decodes_by ignores_fields) column_due column_ignored (λ e. let z : ◌≡◌ {A = ℕ} 3 2 = cc in omega (arith, z))

-- under lengths 2,2,2 the bits 11 begin with no word
unfilled_due : Due (dot 0 0b1100_0000 (2 ∷ 2 ∷ 2 ∷ []) 4) (refused 14 (Plane 0)) (0 ∷ []) (replicate 4 0)
unfolding open01
unfilled_due = record { lent = tt; answer = refl; planes = refl; workspace = refl }

unfilled_taken : (decodes_by unfilled_is0 (dot 0 0b1100_0000 (2 ∷ 2 ∷ 2 ∷ []) 4)).answer ≡ done
unfolding open01
unfilled_taken = refl

unfilled_slot : Out (decodes_by unfilled_is0)
unfilled_slot =
    out (decodes_by unfilled_is0) (λ shown.
    let z : ◌≡◌ {A = ℕ} 0 14 = sym (ap number_of unfilled_taken) ∙ (shown.at unfilled_due).number in
    omega (arith, z))

unfilled_read_due : DueReading (2 ∷ 2 ∷ 2 ∷ []) (0b1100_0000 ∷ []) (replicate 4 9) (9 ∷ []) 14 (0 ∷ [])
unfolding open01
unfilled_read_due = record { lent = tt; number = refl; samples = refl }

unfilled_read_taken : (reads_by filled_at (2 ∷ 2 ∷ 2 ∷ []) (0b1100_0000 ∷ []) (replicate 4 9) (9 ∷ [])).answer ≡ done
unfolding open01
unfilled_read_taken = refl

unfilled_slot_alone : OutReader (reads_by filled_at)
unfilled_slot_alone =
    out_reader (reads_by filled_at) (λ shown.
    let z : ◌≡◌ {A = ℕ} 0 14 = sym (ap number_of unfilled_read_taken) ∙ (shown.at unfilled_read_due).number in
    omega (arith, z))

-- ---- the whole

pub all_refused : AllRefused
all_refused =
    record {
      refuses_always = refuses_always;
      fixed_picture = fixed_picture;
      writes_nothing = writes_nothing;
      leaves_workspace = leaves_workspace;
      leaves_refused = leaves_refused;
      copies_slice_0 = copies_slice_0;
      zero_fills = zero_fills;
      makes_up_slice = makes_up_slice;
      makes_up_plane = makes_up_plane;
      makes_up_need = makes_up_need;
      asks_other = asks_other;
      makes_up_need_alone = makes_up_need_alone;
      asks_other_alone = asks_other_alone;
      complete_only = complete_only;
      complete_only_frames = complete_only_frames;
      t87_at_8 = t87_at_8;
      clamp_at_10 = clamp_at_10;
      shortest_first_out = shortest_first_out;
      shortest_first_alone = shortest_first_alone;
      plane_major_out = plane_major_out;
      row_above = row_above;
      fields_ignored = fields_ignored;
      b_first_out = b_first_out;
      unfilled_slot = unfilled_slot;
      unfilled_slot_alone = unfilled_slot_alone;
    }
