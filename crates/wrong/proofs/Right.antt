-- What stands against emptiness: the decoder, the table and the reading of document 01 meet the statements; the decoder whose rules are left open
-- is that one when none is changed; and each behaviour of a wrong decoder is that of some decoder. Document 01, "What every public statement
-- settles". Assumes nothing.
use mathlib.Core.Path.{◌≡◌, refl, ap}
use Prim.Native.Nat.{ℕ, zero, suc, ◌+◌, ◌*◌, ◌%◌, ◌^◌, ◌<◌}
use native.Mathlib.Omega.{arith}
use mathlib.Core.Bool.{Bool, true, false, cond, not}
use mathlib.Core.List.{[], ◌++◌}
use lib.ListN.{length}
use lib.Dec.{eqb, ltb}
use borrow.Author.Tests.{ltb-true, ltb-false, eqb-true, not-false}
use Rattle.scope.specs.Base.{Bytes, Lengths, Samples, Words, rebuilt, zeros}
use Rattle.scope.specs.Refusals.{number_of, kind_number, place_number, refuse_if, left_by_frame}
use Rattle.scope.specs.Geometry.{correlated, plane_count, slice_count}
use Rattle.scope.specs.Layout.{plane_index}
use Rattle.scope.specs.Words.{length_of, shares, word_of, begins_with, word_below, word_at}
use Rattle.scope.specs.Prediction.{median, predictor, prediction, sample, samples_of}
use Rattle.scope.specs.Frame.{residues_of, slice_samples, plane_up_to, wire_plane, buffer_plane, planes_up_to, picture_of, table, answer_of, planes_after, workspace_after}
use Rattle.scope.specs.Alone.{read_answer, samples_read, workspace_read}
use Rattle.scope.specs.declared.Geometry.{Geometry}
use Rattle.scope.specs.Found.{Found, some_word}
use Rattle.scope.specs.declared.Place.{Place}
use Rattle.scope.specs.declared.Place.TheVariants.{Slice, Plane, Nothing}
use Rattle.scope.specs.Answers.{Answer}
use Rattle.std.specs.Prelude.{Ok, Err}
use Rattle.wrong.specs.Calls.{Lent, right, right_reader}
use Rattle.wrong.specs.Rules.{the_rules, residues_by, samples_by, plane_by, wire_by, buffer_by, picture_by, answer_by, decodes_by, reads_by, predictor_by, by_median, by_words_below, by_words, by_rows_up}
use Rattle.wrong.specs.Behaviours.{kind_of, which_of, place_elsewhere, elsewhere, Asks, asker, AsksAlone, asker_alone, code_of0}
use Rattle.wrong.specs.Wrong.{SomeBehaveSo, RightAllowed}
use Rattle.wrong.proofs.Shown.{right_entry, right_exported, right_table, right_table_exported, right_reading, right_reading_exported}

-- ---- no rule changed

module _ (frame : Bytes) (g : Geometry) (lengths : Lengths) where
  same_plane : (p s : ℕ) → plane_by the_rules frame g lengths p s ≡ plane_up_to frame g lengths p s
  unfolding plane_by plane_up_to samples_by slice_samples residues_by residues_of
  same_plane p zero = refl
  same_plane p (suc s) = ap (λ (x : Samples). x ++ cond (eqb (plane_index frame g s) p) (slice_samples frame g lengths s) []) (same_plane p s)

  -- all wire planes at once
  same_wire : wire_by the_rules frame g lengths ≡ wire_plane frame g lengths
  unfolding wire_by wire_plane
  same_wire = λ i p. same_plane p (slice_count g) i

  same_picture : picture_by the_rules frame g lengths ≡ picture_of frame g lengths
  unfolding picture_by picture_of buffer_by
  same_picture = ap (λ (w : ℕ → Samples). planes_up_to (buffer_plane (correlated g.family) g.depth w) (plane_count g)) same_wire

unchanged : (l : Lent) → decodes_by the_rules l ≡ right l
unfolding decodes_by planes_after workspace_after answer_by answer_of table residues_by residues_of
unchanged l =
    ap (λ (x : Samples). record {
      answer = (right l).answer;
      planes = left_by_frame (right l).answer l.planes (zeros l.planes) x;
      workspace = (right l).workspace;
    }) (same_picture l.frame l.geometry l.lengths)

unchanged_reading : (ls : Lengths) (payload : Bytes) (workspace : Words) (samples : Samples)
    → reads_by word_at ls payload workspace samples ≡ right_reader ls payload workspace samples
unfolding reads_by read_answer samples_read workspace_read
unchanged_reading ls payload workspace samples = refl

-- ---- nothing changed in a rule

same_word : (ls : Lengths) (payload : Bytes) (at n : ℕ) → by_words_below word_of ls payload at n ≡ word_below ls payload at n
unfolding by_words_below word_below begins_with
same_word ls payload at zero = refl
same_word ls payload at (suc s) = ap (λ (x : Found). cond (begins_with ls payload at s) (some_word (length_of ls s) s) x) (same_word ls payload at s)

unchanged_words : (ls : Lengths) (payload : Bytes) (at : ℕ) → by_words word_of ls payload at ≡ word_at ls payload at
unfolding by_words word_at
unchanged_words ls payload at = same_word ls payload at (length ls)

unchanged_median : (depth kind width f : ℕ) (residues : Samples) → by_median median depth kind width f residues ≡ samples_of depth kind width f residues
unfolding by_median predictor_by samples_of predictor
unchanged_median depth kind width f residues = refl

either_way : (t : Bool) (x : ℕ) → cond t x x ≡ x
either_way true x = refl
either_way false x = refl

unchanged_rows : (depth kind width f : ℕ) (residues : Samples) → by_rows_up (λ up. up) depth kind width f residues ≡ samples_of depth kind width f residues
unfolding by_rows_up samples_of sample
unchanged_rows depth kind width f residues =
    let same : (i : ℕ) → cond (ltb i (f * width)) f f ≡ f = λ i. either_way (ltb i (f * width)) f in
    ap (λ (rows : ℕ → ℕ). rebuilt (λ i before residue. (residue + prediction (predictor depth kind) width (rows i) i before) % 2 ^ depth) residues)
    (λ j i. same i j)

-- ---- the whole

pub right_allowed : RightAllowed
right_allowed =
    record {
      entry = right_entry;
      exported = right_exported;
      table = right_table;
      table_exported = right_table_exported;
      reading = right_reading;
      reading_exported = right_reading_exported;
      unchanged = unchanged;
      unchanged_reading = unchanged_reading;
      unchanged_words = unchanged_words;
      unchanged_median = unchanged_median;
      unchanged_rows = unchanged_rows;
    }

-- ---- the behaviours

-- an answer whose slice, or plane, was exchanged names the other one
place_slice : (s p : ℕ) (place : Place) → kind_number (place_elsewhere s p place) ≡ 1 → place_number (place_elsewhere s p place) ≡ s
place_slice s p Nothing e = absurd (omega (arith, e))
place_slice s p (Slice k) e = refl
place_slice s p (Plane k) e = absurd (omega (arith, e))

slice_moved : (s p : ℕ) (a : Answer) → kind_of (elsewhere s p a) ≡ 1 → which_of (elsewhere s p a) ≡ s
slice_moved s p (Ok _) e = absurd (omega (arith, e))
slice_moved s p (Err why) e = place_slice s p why.1 e

place_plane : (s p : ℕ) (place : Place) → kind_number (place_elsewhere s p place) ≡ 2 → place_number (place_elsewhere s p place) ≡ p
place_plane s p Nothing e = absurd (omega (arith, e))
place_plane s p (Slice k) e = absurd (omega (arith, e))
place_plane s p (Plane k) e = refl

plane_moved : (s p : ℕ) (a : Answer) → kind_of (elsewhere s p a) ≡ 2 → which_of (elsewhere s p a) ≡ p
plane_moved s p (Ok _) e = absurd (omega (arith, e))
plane_moved s p (Err why) e = place_plane s p why.1 e

-- a test that decides between a refusal and planes
passed : (t : Bool) (n : ℕ) (p : Place) → 0 < n → number_of (refuse_if t n p) ≡ 0 → t ≡ false
passed true n p h e = absurd (omega (arith, h, e))
passed false n p h e = refl

applied : (t : Bool) (n : ℕ) (p : Place) → 0 < n → number_of (refuse_if t n p) ≡ n → t ≡ true
applied true n p h e = refl
applied false n p h e = absurd (omega (arith, h, e))

asker_asks : (asked : Geometry → Lengths → ℕ) → Asks asked (asker asked)
asker_asks asked =
    record {
      enough = λ l h e. ltb-false _ _ (passed _ 11 Nothing (omega arith) e);
      short = λ l h e. ltb-true _ _ (applied _ 11 Nothing (omega arith) e);
    }

asker_asks_alone : (asked : Lengths → ℕ) → AsksAlone asked (asker_alone asked)
asker_asks_alone asked =
    record {
      enough = λ ls w h e. ltb-false _ _ (passed _ 11 Nothing (omega arith) e);
      short = λ ls w h e. ltb-true _ _ (applied _ 11 Nothing (omega arith) e);
    }

full : (x : ℕ) → number_of (refuse_if (not (eqb x 262144)) 10 (Plane 0)) ≡ 0 → x ≡ 262144
full x e = eqb-true x 262144 (not-false (eqb x 262144) (passed (not (eqb x 262144)) 10 (Plane 0) (omega arith) e))

pub some_behave_so : SomeBehaveSo
some_behave_so =
    record {
      refuses_always = λ l h. omega arith;
      fixed_picture = λ picture l h e. refl;
      writes_nothing = λ l h. refl;
      leaves_workspace = λ l h. refl;
      leaves_refused = λ l h e. refl;
      zero_fills = λ l h e. refl;
      makes_up_slice = λ slice plane l h e. slice_moved (slice l.geometry) (plane l.geometry) (right l).answer e;
      makes_up_plane = λ slice plane l h e. plane_moved (slice l.geometry) (plane l.geometry) (right l).answer e;
      makes_up_need = λ asked. asker_asks (λ g lengths. asked g);
      asks_other = record { asks = asker_asks _; other = λ g lengths e. omega (arith, e) };
      makes_up_need_alone = λ asked. asker_asks_alone (λ ls. asked (length ls));
      asks_other_alone = record { asks = asker_asks_alone _; other = λ ls e. omega (arith, e) };
      complete_only = λ ls w h e. full (shares ls) e;
      complete_only_frames = λ l h e. full (shares (code_of0 l)) e;
    }
