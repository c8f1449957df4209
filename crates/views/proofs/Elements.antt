-- One sample of a buffer: read and stored, it is read and stored in the samples too, and a store keeps the gaps. Assumes nothing.
use mathlib.Core.Path.{◌≡◌, refl, sym, ap, ◌∙◌}
use mathlib.Core.Bool.{Bool, true}
use mathlib.Core.List.{List, [], ◌∷◌}
use Prim.Native.Nat.{ℕ, ◌+◌, ◌*◌, ◌≤◌, ◌<◌}
use native.Mathlib.Nat.{suc-mul, mul-le-mul_right}
use native.Mathlib.Omega.{arith}
use lib.ListN.{length, drop, get_or, set, replicate, length-replicate}
use lib.Seq.{get_or-take, get_or-drop}
use Rattle.lists.proofs.Parts.{length_part, set_put}
use Rattle.views.specs.Places.{samples_at, gaps_at, how_many, rows_places}
use Rattle.views.proofs.Views.{samples_many, samples_all, gaps_all, many_all}
use Rattle.views.proofs.Windows.{Window, window-room, window_many, window_in, window-part, window_put, window_keeps, rows_long, row_window, trues_window}
use Rattle.lists.specs.Parts.{part}

module _ (places : List Bool) (i j : ℕ) (w : Window places i (true ∷ []) j) (s : List ℕ) (room : length places ≤ length s) where
  inside : i < length s
  inside = omega (arith, window-room places i (true ∷ []) j w)

  many_one : how_many (true ∷ []) ≡ 1
  unfolding how_many
  many_one = refl

  inside_samples : j < length (samples_at places s)
  inside_samples = rw (samples_many places s room) (omega (arith, window_many places i (true ∷ []) j w, many_one))

  pub sample-set : (v : ℕ) → samples_at places (set s i v) ≡ set (samples_at places s) j v
  sample-set v =
      ap (samples_at places) (sym (set_put s i v inside))
      ∙ window_put places i (true ∷ []) j w s room (v ∷ []) refl
      ∙ rw (many_one, samples_all 1 (v ∷ []) refl) (set_put (samples_at places s) j v inside_samples)

  pub gaps_set : (v : ℕ) → gaps_at places (set s i v) ≡ gaps_at places s
  gaps_set v =
      ap (gaps_at places) (sym (set_put s i v inside))
      ∙ window_keeps places i (true ∷ []) j w s room (v ∷ []) refl (gaps_all 1 (v ∷ []) refl ∙ sym (gaps_all 1 (part s i 1) (length_part s i 1 (omega (arith, inside)))))

-- ---- row r, column c

module _ (w p h r c : ℕ) (l : w ≤ p) (k : r < h) (q : c < w) (s : List ℕ) (room : h * p ≤ length s) where
  at_place : Window (rows_places w p h) (r * p + c) (true ∷ []) (r * w + c)
  at_place = window_in (rows_places w p h) (r * p) (replicate w true) (r * w) (row_window w p h r l k) c (true ∷ []) c (trues_window w c 1 (omega arith))

  within : length (rows_places w p h) ≤ length s
  within = rw (rows_long w p h l) room

  pub row_set : (v : ℕ) → samples_at (rows_places w p h) (set s (r * p + c) v) ≡ set (samples_at (rows_places w p h) s) (r * w + c) v
  row_set = sample-set (rows_places w p h) (r * p + c) (r * w + c) at_place s within

  pub row_set_keeps : (v : ℕ) → gaps_at (rows_places w p h) (set s (r * p + c) v) ≡ gaps_at (rows_places w p h) s
  row_set_keeps = gaps_set (rows_places w p h) (r * p + c) (r * w + c) at_place s within

  pub row_get : get_or (samples_at (rows_places w p h) s) (r * w + c) 0 ≡ get_or s (r * p + c) 0
  row_get =
      let own : length (replicate w true) ≡ w = length-replicate w true in
      let e : length (part s (r * p) w) ≡ w = length_part s (r * p) w (omega (arith, room, suc-mul r p, mul-le-mul_right p k)) in
      let t : part (samples_at (rows_places w p h) s) (r * w) w ≡ part s (r * p) w =
      rw (own, many_all w, samples_all w (part s (r * p) w) e) at (window-part (rows_places w p h) (r * p) (replicate w true) (r * w) (row_window w p h r l k) s within)
      in
      sym (get_or-take w (drop (r * w) (samples_at (rows_places w p h) s)) c 0 q ∙ get_or-drop (r * w) (samples_at (rows_places w p h) s) c 0)
      ∙ ap (λ (z : List ℕ). get_or z c 0) t
      ∙ (get_or-take w (drop (r * p) s) c 0 q ∙ get_or-drop (r * p) s c 0)
