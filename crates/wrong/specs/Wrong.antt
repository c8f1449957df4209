-- Document 01, "What every public statement settles" and "Slips to shut out": none of its wrong decoders meets the statements of the entries, nor
-- those of the exported functions (`Out`). This speaks of the statements, not of the functions that are proved to meet them. Assumes nothing.
use Rattle.std.specs.Prelude.{◌≡◌, ℕ, length}
use Rattle.scope.specs.Base.{Bytes, Lengths, Samples, Words}
use Rattle.scope.specs.Words.{word_of, word_at}
use Rattle.scope.specs.Prediction.{median, samples_of}
use Rattle.scope.specs.declared.Geometry.{Geometry}
use Rattle.wrong.specs.Calls.{Lent, Decoder, right, Meets, MeetsHosted, Out, Builder, right_builder, Builds, BuildsHosted, OutBuilder, right_reader, Reads, ReadsHosted, OutReader}
use Rattle.wrong.specs.Rules.{the_rules, decodes_by, reads_by, copies_slice0, t87_always, by_median, clamp_always, by_words, word_up, shortest_first, filled_at, unfilled_is0, by_rows_up, adds_row_above, ignores_fields, b_first, assumes_plane_major}
use Rattle.wrong.specs.Behaviours.{RefusesAlways, refuser, FixedPicture, painter, WritesNothing, LeavesWorkspace, LeavesRefused, idler, ZeroFills, zero_filler, MakesUpSlice, MakesUpPlane, guesser, MakesUpNeed, AsksOther, asker, one_more, MakesUpNeedAlone, AsksOtherAlone, asker_alone, one_more_alone, CompleteOnly, completist, CompleteOnlyFrames, completist_of_frames}

pub record AllRefused : Type 0 where
  -- "a decoder that refuses always, or gives one fixed picture"
  pub refuses_always : (D : Decoder) → RefusesAlways D → Out D
  pub fixed_picture : (picture : Geometry → Samples) (D : Decoder) → FixedPicture picture D → Out D
  -- "one that writes nothing and trusts old memory"
  pub writes_nothing : (D : Decoder) → WritesNothing D → Out D
  pub leaves_workspace : (D : Decoder) → LeavesWorkspace D → Out D
  pub leaves_refused : (D : Decoder) → LeavesRefused D → Out D
  -- "one that reads slice 0 and copies it onward, or zero-fills"
  pub copies_slice_0 : Out (decodes_by copies_slice0)
  pub zero_fills : (D : Decoder) → ZeroFills D → Out D
  -- "one that makes up a refusal's slice, plane or workspace need"
  pub makes_up_slice : (slice : Geometry → ℕ) (D : Decoder) → MakesUpSlice slice D → Out D
  pub makes_up_plane : (plane : Geometry → ℕ) (D : Decoder) → MakesUpPlane plane D → Out D
  pub makes_up_need : (asked : Geometry → ℕ) (D : Decoder) → MakesUpNeed asked D → Out D
  pub asks_other : (asked : Geometry → Lengths → ℕ) (D : Decoder) → AsksOther asked D → Out D
  pub makes_up_need_alone : (asked : ℕ → ℕ) (B : Builder) → MakesUpNeedAlone asked B → OutBuilder B
  pub asks_other_alone : (asked : Lengths → ℕ) (B : Builder) → AsksOtherAlone asked B → OutBuilder B
  -- "a table that accepts only complete codes"
  pub complete_only : (B : Builder) → CompleteOnly B → OutBuilder B
  pub complete_only_frames : (D : Decoder) → CompleteOnlyFrames D → Out D
  -- "Using T.87's median at depth 8, or the clamp at 10."
  pub t87_at_8 : Out (decodes_by t87_always)
  pub clamp_at_10 : Out (decodes_by clamp_always)
  -- "Words assigned shortest first."
  pub shortest_first_out : Out (decodes_by shortest_first)
  pub shortest_first_alone : OutReader (reads_by (by_words word_up))
  -- "Assuming plane-major slices instead of the indices."
  pub plane_major_out : Out assumes_plane_major
  -- "With two fields, adding the row directly above."
  pub row_above : Out (decodes_by adds_row_above)
  pub fields_ignored : Out (decodes_by ignores_fields)
  -- "Giving B first in the output."
  pub b_first_out : Out (decodes_by b_first)
  -- "Taking an unfilled slot for symbol 0."
  pub unfilled_slot : Out (decodes_by unfilled_is0)
  pub unfilled_slot_alone : OutReader (reads_by filled_at)

-- each of the behaviours above is that of some decoder, so that none of these theorems speaks of nothing
pub record SomeBehaveSo : Type 0 where
  pub refuses_always : RefusesAlways refuser
  pub fixed_picture : (picture : Geometry → Samples) → FixedPicture picture (painter picture)
  pub writes_nothing : WritesNothing idler
  pub leaves_workspace : LeavesWorkspace idler
  pub leaves_refused : LeavesRefused idler
  pub zero_fills : ZeroFills zero_filler
  pub makes_up_slice : (slice plane : Geometry → ℕ) → MakesUpSlice slice (guesser slice plane)
  pub makes_up_plane : (slice plane : Geometry → ℕ) → MakesUpPlane plane (guesser slice plane)
  pub makes_up_need : (asked : Geometry → ℕ) → MakesUpNeed asked (asker (λ g lengths. asked g))
  pub asks_other : AsksOther one_more (asker one_more)
  pub makes_up_need_alone : (asked : ℕ → ℕ) → MakesUpNeedAlone asked (asker_alone (λ ls. asked (length ls)))
  pub asks_other_alone : AsksOtherAlone one_more_alone (asker_alone one_more_alone)
  pub complete_only : CompleteOnly completist
  pub complete_only_frames : CompleteOnlyFrames completist_of_frames

-- and the statements are not so strict that nothing meets them: the decoder, the table and the reading of document 01 do
pub record RightAllowed : Type 0 where
  pub entry : Meets right
  pub exported : MeetsHosted right
  pub table : Builds right_builder
  pub table_exported : BuildsHosted right_builder
  pub reading : Reads right_reader
  pub reading_exported : ReadsHosted right_reader
  -- with no rule changed, the decoder and the reading whose rules are left open (specs/Rules.antt) are these; nor does what is open in a rule
  -- change it
  pub unchanged : (l : Lent) → decodes_by the_rules l ≡ right l
  pub unchanged_reading : (ls : Lengths) (payload : Bytes) (workspace : Words) (samples : Samples)
      → reads_by word_at ls payload workspace samples ≡ right_reader ls payload workspace samples
  pub unchanged_words : (ls : Lengths) (payload : Bytes) (at : ℕ) → by_words word_of ls payload at ≡ word_at ls payload at
  pub unchanged_median : (depth kind width f : ℕ) (residues : Samples) → by_median median depth kind width f residues ≡ samples_of depth kind width f residues
  pub unchanged_rows : (depth kind width f : ℕ) (residues : Samples) → by_rows_up (λ up. up) depth kind width f residues ≡ samples_of depth kind width f residues
