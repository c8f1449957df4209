-- For an entry: slice s of a frame, read by any lookup that finds the words of its plane's code, answers and gives what document 01's
-- definitions say (crates/scope/specs/Frame.antt). Only here are the code lengths named. Assumes nothing.
use mathlib.Core.Path.{◌≡◌, ap}
use mathlib.Core.Bool.{cond}
use mathlib.Core.List.{List}
use Prim.Native.Nat.{ℕ}
use Rattle.scope.specs.Geometry.{fields}
use Rattle.scope.specs.Layout as lay
use Rattle.scope.specs.Layout.{is_raw, payload_of, samples_in, slice_at}
use Rattle.scope.specs.Bits.{raw_samples}
use Rattle.scope.specs.Words.{Chain, symbols, word_at}
use Rattle.scope.specs.Frame as frm
use Rattle.scope.specs.Pieces as pcs
use Rattle.scope.specs.Frame.{slice_lengths, residues_of, slice_samples}
use Rattle.scope.specs.declared.Geometry.{Geometry}
use Rattle.scope.specs.Found.{Found}
use Rattle.scope.specs.Pieces.{read_check}
use Rattle.codes.proofs.Chains.{chain_same}
use Rattle.slice.specs.Slice.{residues_by, read_by, samples_by}

module _ (frame : List ℕ) (g : Geometry) (lengths : List ℕ) (s : ℕ) (look : ℕ → Found)
    (same : (p : ℕ) → look p ≡ word_at (slice_lengths frame g lengths s) (payload_of frame g s) p) where
  residues_are : residues_by look g.depth frame (slice_at frame g s) ≡ residues_of frame g lengths s
  unfolding residues_by lay.slice_at lay.payload_of lay.samples_in frm.residues_of
  residues_are =
      let raw : Chain = symbols (raw_samples g.depth (payload_of frame g s) (samples_in frame g s)) in
      ap (λ (c : Chain). cond (is_raw frame g s) raw c)
      (chain_same look (word_at (slice_lengths frame g lengths s) (payload_of frame g s)) same (samples_in frame g s) 0)

  -- its answer
  pub read_is : read_by look g.depth frame (slice_at frame g s) ≡ read_check frame g lengths s
  unfolding read_by lay.slice_at pcs.read_check pcs.readable
  read_is = rw residues_are

  -- its samples
  pub samples_is : samples_by look g.depth (fields g) frame (slice_at frame g s) ≡ slice_samples frame g lengths s
  unfolding samples_by lay.slice_at frm.slice_samples
  samples_is = rw residues_are
