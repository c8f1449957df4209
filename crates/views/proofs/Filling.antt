-- Filling a buffer's samples front to back, window after window, whatever stood there: rows of a slice or plane (cleared, read raw or
-- coded), and planes of the buffer. One law for every element, every way to make a window's samples, and both levels. Assumes nothing.
use mathlib.Core.Path.{◌≡◌, refl, sym, ap, ◌∙◌}
use mathlib.Core.Bool.{Bool, true}
use mathlib.Core.List.{List, [], ◌++◌, append_assoc, append-nil}
use Prim.Native.Nat.{ℕ, ◌+◌, ◌-◌, ◌*◌, ◌≤◌, ◌<◌}
use native.Mathlib.Nat.{suc-mul, zero-mul, mul-le-mul_right, mul-le-mul_left}
use native.Mathlib.Numerals.{add-one}
use native.Mathlib.Omega.{arith}
use borrow.Rule.Slice.PartMut.{put_mid}
use mir.Syntax.{w64}
use mir.Val.{Fits}
use lib.ListN.{length, take, drop, replicate, length-append, length-replicate, drop_of_length-le}
use lib.Seq.{take_at, drop_at, drop-drop}
use Rattle.lists.proofs.Parts.{length_part, put_keeps}
use Rattle.views.specs.Places.{samples_at, gaps_at, how_many, rows_places, Rowed}
use Rattle.views.proofs.Views.{samples_many, samples_all, gaps_all}
use Rattle.views.proofs.Windows.{Window, window-room, window_put, window_keeps, rows_long, rows_many, row_window}
use Rattle.lists.specs.Parts.{part, replaced}

-- ---- any windows, one after another

-- it began with s₀, its samples now begin with xs, and it now holds s
pub record Front (places : List Bool) (s₀ s xs : List ℕ) : Type 0 where
  pub front : samples_at places s ≡ xs ++ drop (length xs) (samples_at places s₀)
  pub gaps : gaps_at places s ≡ gaps_at places s₀
  pub same : length s ≡ length s₀

module _ (places : List Bool) (s₀ : List ℕ) where
  pub front_start : Front places s₀ s₀ []
  front_start = record { front = refl; gaps = refl; same = refl }

  module _ (room : length places ≤ length s₀) (s xs : List ℕ) (f : Front places s₀ s xs) where
    -- a window that is replaced, its own gaps as they were
    pub front_step : (i : ℕ) (own : List Bool) (ys : List ℕ) → Window places i own (length xs) → length ys ≡ length own → gaps_at own ys ≡ gaps_at own (part s i (length own)) → Front places s₀ (replaced s i (length own) ys) (xs ++ samples_at own ys)
    front_step i own ys w ey eg =
        let rest : List ℕ = samples_at places s₀ in
        let in_s : length places ≤ length s = omega (arith, f.same) in
        let n : length xs + how_many own ≡ length (xs ++ samples_at own ys) = sym (length-append xs (samples_at own ys) ∙ ap (λ (k : ℕ). length xs + k) (samples_many own ys (omega arith))) in
        record {
          front = window_put places i own (length xs) w s in_s ys ey
              ∙ rw (f.front, take_at xs (drop (length xs) rest) (length xs) refl, drop_at xs (drop (length xs) rest) (length xs) refl, drop-drop (how_many own) (length xs) rest, n)
              (sym (append_assoc xs (samples_at own ys) (drop (length (xs ++ samples_at own ys)) rest)));
          gaps = window_keeps places i own (length xs) w s in_s ys ey eg ∙ f.gaps;
          same = put_keeps s i (length own) ys ey (omega (arith, window-room places i own (length xs) w, in_s)) ∙ f.same;
        }

    -- all of them
    pub front_all : how_many places ≤ length xs → samples_at places s ≡ xs
    front_all h =
        let g : length (samples_at places s₀) ≤ length xs = omega (arith, samples_many places s₀ room) in
        f.front ∙ rw (drop_of_length-le (samples_at places s₀) {i = length xs} g) (append-nil xs)

-- ---- rows

pub record Fills (w p h : ℕ) (s₀ s xs : List ℕ) (r : ℕ) : Type 0 where
  pub so : Front (rows_places w p h) s₀ s xs
  pub long : length xs ≡ r * w
  pub within : r ≤ h

-- before the first row
pub fills_start : (w p h : ℕ) (s₀ : List ℕ) → Fills w p h s₀ s₀ [] 0
fills_start w p h s₀ = record { so = front_start (rows_places w p h) s₀; long = sym (zero-mul w); within = omega arith }

-- row r lies within, and its ends are numbers of 64 bits
module _ (len w p h r : ℕ) (ok : Rowed len w p h) (k : r < h) where
  pub row_in : r * p + w ≤ len
  row_in = omega (arith, ok.long, ok.wide, suc-mul r p, mul-le-mul_right p k)

  pub row_fits : Fits w64 (r * p)
  row_fits = record { fits = omega (arith, mul-le-mul_left r ok.most, ok.few) }

  -- the first one as a place of 16-bit elements too
  pub row_fits_2 : Fits w64 (r * p * 2)
  row_fits_2 = record { fits = omega (arith, mul-le-mul_left r ok.most, ok.few) }

  pub row_end_fits : Fits w64 (r * p + w)
  row_end_fits = record { fits = omega (arith, mul-le-mul_left r ok.most, ok.few, ok.wide, ok.most) }

module _ (w p h : ℕ) (s₀ s xs : List ℕ) (r : ℕ) (f : Fills w p h s₀ s xs r) (ok : Rowed (length s₀) w p h) where
  room : length (rows_places w p h) ≤ length s₀
  room = omega (arith, rows_long w p h ok.wide, ok.long)

  module _ (k : r < h) where
    -- what a lent row is
    pub lent_in : r * p + w ≤ length s
    lent_in = omega (arith, f.so.same, row_in (length s₀) w p h r ok k)

    pub lent_long : length (take (r * p + w - r * p) (drop (r * p) s)) ≡ w
    lent_long =
        let e : r * p + w - r * p ≡ w = omega arith in
        rw e (length_part s (r * p) w lent_in)

    -- and what it is given back as
    pub lent_back : (ys : List ℕ) → length ys ≡ w → Fills w p h s₀ (put_mid (r * p) (r * p + w - r * p) s ys) (xs ++ ys) (r + 1)
    lent_back ys ey =
        let e : r * p + w - r * p ≡ w = omega arith in
        let own : length (replicate w true) ≡ w = length-replicate w true in
        let win : Window (rows_places w p h) (r * p) (replicate w true) (length xs) = rw f.long (row_window w p h r ok.wide k) in
        let none : gaps_at (replicate w true) ys ≡ gaps_at (replicate w true) (part s (r * p) (length (replicate w true))) = rw own (gaps_all w ys ey ∙ sym (gaps_all w (part s (r * p) w) (length_part s (r * p) w lent_in))) in
        record {
          so = rw e (rw (own, samples_all w ys ey) at (front_step (rows_places w p h) s₀ room s xs f.so (r * p) (replicate w true) ys win (ey ∙ sym own) none));
          long = omega (arith, length-append xs ys, f.long, suc-mul r w, ap (λ (n : ℕ). n * w) (add-one r));
          within = omega arith;
        }

  -- after the last row
  pub fills_end : h ≤ r → samples_at (rows_places w p h) s ≡ xs
  fills_end k =
      let e : r ≡ h = omega (arith, f.within) in
      let n : h * w ≡ r * w = ap (λ (x : ℕ). x * w) (sym e) in
      front_all (rows_places w p h) s₀ room s xs f.so (omega (arith, rows_many w p h, f.long, n))
