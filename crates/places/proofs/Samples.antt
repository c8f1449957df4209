-- The samples of one slice (document 01, "Layout" and "Prediction, slice by slice"): as many as the rows of its place hold, and each below
-- 2^depth, since "All sums are modulo 2^depth." Assumes nothing.
use mathlib.Core.Path.{◌≡◌, refl, sym, ap, ◌∙◌}
use mathlib.Core.Bool.{Bool, true, false, cond}
use mathlib.Core.List.{List, [], ◌++◌}
use Prim.Native.Nat.{ℕ, zero, suc, ◌+◌, ◌-◌, ◌^◌, ◌≤◌, ◌<◌}
use native.Mathlib.Decide.{dec_le}
use native.Mathlib.Nat.{zero-add, mod-lt}
use native.Mathlib.Omega.{arith}
use lib.ListN.{length, get_or, get_or-append, get_or-eq_default}
use lib.Pow.{pow_pos}
use lib.Seq.{get_or-append-add}
use Rattle.scope.specs.Base.{Bytes, Lengths, Samples, Step, grown}
use Rattle.scope.specs.Geometry.{slice_count}
use Rattle.scope.specs.Layout as lay
use Rattle.scope.specs.Layout.{plane_index, place_in_plane, is_raw, payload_of, samples_in}
use Rattle.scope.specs.Bits.{raw_samples}
use Rattle.scope.specs.Words as wds
use Rattle.scope.specs.Words.{Chain, symbols, stuck_at, chain, word_at, is_stuck, symbols_of}
use Rattle.scope.specs.Prediction as pre
use Rattle.scope.specs.Frame as frm
use Rattle.scope.specs.Frame.{slice_lengths, residues_of, slice_samples}
use Rattle.scope.specs.declared.Geometry.{Geometry}
use Rattle.memory.proofs.InPlace.{grown-length, grown_at}
use Rattle.raw.proofs.Raw.{raw_first, raw_length}
use Rattle.codes.proofs.Chains.{chain_length}
use Rattle.geometry.proofs.Figures.{place_most}
use Rattle.places.proofs.Passed.{Passed}

-- ---- how many

-- a chain that is not stuck is its symbols
symbols_are : (c : Chain) → is_stuck c ≡ false → c ≡ symbols (symbols_of c)
unfolding wds.symbols_of
symbols_are (symbols ss) e = refl
symbols_are (stuck_at at) e = cc

-- n residues, raw or coded
either_long : (t : Bool) (raw : Samples) (coded : Chain) (n : ℕ) → (t ≡ true → length raw ≡ n) → ((ss : Samples) → coded ≡ symbols ss → length ss ≡ n)
    → is_stuck (cond t (symbols raw) coded) ≡ false → length (symbols_of (cond t (symbols raw) coded)) ≡ n
unfolding wds.symbols_of
either_long true raw coded n h k e = h refl
either_long false raw coded n h k e = k (symbols_of coded) (symbols_are coded e)

module _ (frame : Bytes) (g : Geometry) (lengths : Lengths) (ok : Passed frame g lengths) (s : ℕ) (l : s < slice_count g) where
  -- the samples of a slice are no more than the largest plane's
  few : samples_in frame g s ≤ 268435456
  unfolding lay.samples_in
  few = place_most g (plane_index frame g s) (place_in_plane frame g s) ok.sound

  -- a raw slice has a residue for each sample, since it has all its bytes
  raw_long : is_raw frame g s ≡ true → length (raw_samples g.depth (payload_of frame g s) (samples_in frame g s)) ≡ samples_in frame g s
  raw_long e =
      ap length (sym (raw_first g.depth (payload_of frame g s) (samples_in frame g s)))
      ∙ raw_length g.depth (payload_of frame g s) 0 (samples_in frame g s) (record {
        room = rw (zero-add (samples_in frame g s)) (omega (arith, (ok.whole s l e).bytes));
        most = omega (arith, few);
      })

  -- so has any: 14 saw to a coded slice's words
  residues_long : length (symbols_of (residues_of frame g lengths s)) ≡ samples_in frame g s
  unfolding frm.residues_of
  residues_long =
      either_long (is_raw frame g s) (raw_samples g.depth (payload_of frame g s) (samples_in frame g s))
      (chain (slice_lengths frame g lengths s) (payload_of frame g s) 0 (samples_in frame g s)) (samples_in frame g s) raw_long
      (λ ss e. chain_length (word_at (slice_lengths frame g lengths s) (payload_of frame g s)) (samples_in frame g s) 0 ss e) (ok.read s l)

  -- and as many samples as residues: the rows of the slice's place, as wide as its plane
  pub slice_long : length (slice_samples frame g lengths s) ≡ samples_in frame g s
  unfolding frm.slice_samples pre.samples_of
  slice_long = grown-length _ (symbols_of (residues_of frame g lengths s)) (length (symbols_of (residues_of frame g lengths s))) ∙ residues_long

-- ---- how large

-- every element of a list is below m; past its end there stands 0, and m is some
abbrev pub Below : (m : ℕ) (xs : List ℕ) → Type 0
Below m xs = (i : ℕ) → get_or xs i 0 < m

-- the empty list
pub below_none : (m : ℕ) → 0 < m → Below m []
below_none m h zero = h
below_none m h (suc i) = h

-- two lists one after the other
pub below_append : (m : ℕ) (xs ys : List ℕ) → Below m xs → Below m ys → Below m (xs ++ ys)
below_append m xs ys hx hy i = go (dec_le (suc i) (length xs))
  where
    go : Dec (suc i ≤ length xs) → get_or (xs ++ ys) i 0 < m
    go (yes l) = rw (get_or-append xs ys 0 i l) (hx i)
    go (no l) =
        let e : i ≡ length xs + (i - length xs) = omega (arith, l) in
        rw e (rw (get_or-append-add xs ys (i - length xs) 0) (hy (i - length xs)))

-- what bounds each step bounds each element made
below_grown : (step : Step) (m : ℕ) → 0 < m → ((i : ℕ) (p : List ℕ) (x : ℕ) → step i p x < m) → (xs : List ℕ) (n : ℕ) → Below m (grown step xs n)
below_grown step m h k xs n i = go (dec_le (suc i) n)
  where
    go : Dec (suc i ≤ n) → get_or (grown step xs n) i 0 < m
    go (yes l) = rw (grown_at step xs i n l) (k _ _ _)
    go (no l) =
        let e : length (grown step xs n) ≤ i = omega (arith, l, grown-length step xs n) in
        rw (get_or-eq_default (grown step xs n) 0 e) h

-- the samples of a slice
pub slice_below : (frame : Bytes) (g : Geometry) (lengths : Lengths) (s : ℕ) → Below (2 ^ g.depth) (slice_samples frame g lengths s)
unfolding frm.slice_samples pre.samples_of pre.sample
slice_below frame g lengths s =
    below_grown _ (2 ^ g.depth) (pow_pos g.depth) (λ i p x. mod-lt _ (pow_pos g.depth)) (symbols_of (residues_of frame g lengths s)) (length (symbols_of (residues_of frame g lengths s)))
