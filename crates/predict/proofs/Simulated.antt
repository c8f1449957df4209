-- A row function on rows with a pitch does to their samples what it does to rows with no gaps: the rows stand p places apart instead
-- of w, and the row f up stands f * p places back instead of f * w. The gaps stay. Document 01, "Prediction, slice by slice". Assumes nothing.
use mathlib.Core.Path.{◌≡◌, sym, ap, ◌∙◌}
use mathlib.Core.Bool.{Bool, cond}
use mathlib.Core.List.{List}
use Prim.Native.Nat.{ℕ, zero, suc, ◌+◌, ◌-◌, ◌*◌, ◌%◌, ◌^◌, ◌≤◌, ◌<◌}
use native.Mathlib.Nat.{add-zero, add-suc, suc-mul, mul-le-mul_right, add-mul}
use native.Mathlib.Decide.{dec_lt}
use native.Mathlib.Omega.{arith}
use borrow.Author.Tests.{lt-ltb, le-ltb}
use lib.Dec.{ltb}
use lib.ListN.{length, take, get_or, set, length-set}
use lib.Seq.{get_or-take}
use Rattle.scope.specs.Base.{Step}
use Rattle.scope.specs.Prediction.{predictor}
use Rattle.memory.specs.Loop.{swept}
use Rattle.rows.specs.Rows.{leftward, across, row_from, top_row, later_row, row}
use Rattle.views.specs.Places.{samples_at, gaps_at, rows_places}
use Rattle.views.proofs.Elements.{row_set, row_set_keeps, row_get}

-- two lists: one has the other's samples, and the gaps that a third one has
pub record Like (places : List Bool) (s₀ s v : List ℕ) : Type 0 where
  pub samples : samples_at places s ≡ v
  pub gaps : gaps_at places s ≡ gaps_at places s₀
  pub same : length s ≡ length s₀

module _ (w p h r : ℕ) (l : w ≤ p) (k : r < h) where
  -- two steps that agree in row r from column b on
  pub Agree : ℕ → Step → Step → Type 0
  Agree b pitched plain = (c : ℕ) (s : List ℕ) (x : ℕ) → b ≤ c → c < w → h * p ≤ length s → pitched (r * p + c) (take (r * p + c) s) x ≡ plain (r * w + c) (take (r * w + c) (samples_at (rows_places w p h) s)) x

  module _ (b : ℕ) (pitched plain : Step) (agree : Agree b pitched plain) where
    sweeps_like : (n c : ℕ) (s₀ s v : List ℕ) → b ≤ c → c + n ≤ w → h * p ≤ length s → Like (rows_places w p h) s₀ s v → Like (rows_places w p h) s₀ (swept pitched s (r * p + c) n) (swept plain v (r * w + c) n)
    unfolding swept Agree
    sweeps_like zero c s₀ s v g q room a = a
    sweeps_like (suc n) c s₀ s v g q room a =
        let m : c < w = omega arith in
        let i : suc (r * p + c) ≡ r * p + suc c = sym (add-suc (r * p) c) in
        let j : suc (r * w + c) ≡ r * w + suc c = sym (add-suc (r * w) c) in
        rw (i, j)
        (sweeps_like n (suc c) s₀ (set s (r * p + c) (pitched (r * p + c) (take (r * p + c) s) (get_or s (r * p + c) 0))) (set v (r * w + c) (plain (r * w + c) (take (r * w + c) v) (get_or v (r * w + c) 0))) (omega arith) (omega arith) (rw length-set room)
        (record {
          samples = row_set w p h r c l k m s room _ ∙ rw (← a.samples, row_get w p h r c l k m s room, agree c s (get_or s (r * p + c) 0) g m room);
          gaps = row_set_keeps w p h r c l k m s room _ ∙ a.gaps;
          same = length-set s (r * p + c) _ ∙ a.same;
        }))

-- row r is q rows below row f up
pub far : (r f p : ℕ) → f ≤ r → r * p ≡ f * p + (r - f) * p
far r f p g =
    let e : r ≡ f + (r - f) = omega arith in
    ap (λ (n : ℕ). n * p) e ∙ add-mul f (r - f) p

-- so a place there, not further along, stands before
before : (r f p c d : ℕ) → 0 < f → 0 < p → f ≤ r → d ≤ c → (r - f) * p + d < r * p + c
before r f p c d o q g b = omega (arith, far r f p g, mul-le-mul_right p o)

-- the row f up, and the column before
rows_up : (r f p c : ℕ) → f ≤ r → r * p + c - f * p ≡ (r - f) * p + c
rows_up r f p c g = omega (arith, far r f p g)

column_back : (n c : ℕ) → 1 ≤ c → n + c - 1 ≡ n + (c - 1)
column_back n c g = omega arith

module _ (w p h r : ℕ) (l : w ≤ p) (k : r < h) where
  -- the sample c columns along in row r, as a sample before a place i of the buffer and before j of the samples
  seen : (q c i j : ℕ) (s : List ℕ) → q < h → c < w → h * p ≤ length s → q * p + c < i → q * w + c < j → get_or (take i s) (q * p + c) 0 ≡ get_or (take j (samples_at (rows_places w p h) s)) (q * w + c) 0
  seen q c i j s a b room x y =
      get_or-take i s (q * p + c) 0 x ∙ sym (row_get w p h q c l a b s room) ∙ sym (get_or-take j (samples_at (rows_places w p h) s) (q * w + c) 0 y)

  left_agrees : (depth : ℕ) → Agree w p h r l k 1 (leftward depth) (leftward depth)
  unfolding Agree
  left_agrees depth c s x g m room =
      let a : r * p + c - 1 ≡ r * p + (c - 1) = omega arith in
      let b : r * w + c - 1 ≡ r * w + (c - 1) = omega arith in
      rw (a, b, seen r (c - 1) (r * p + c) (r * w + c) s k (omega arith) room (omega arith) (omega arith))

  across-agrees : (depth : ℕ) (predict : ℕ → ℕ → ℕ → ℕ) (f : ℕ) → 0 < f → f ≤ r → Agree w p h r l k 1 (across depth predict (f * p)) (across depth predict (f * w))
  unfolding Agree
  across-agrees depth predict f o g c s x b m room =
      let n1 : (r - f) * p + c < r * p + c = before r f p c c o (omega arith) g (omega arith) in
      let n2 : (r - f) * w + c < r * w + c = before r f w c c o (omega arith) g (omega arith) in
      let n3 : (r - f) * p + (c - 1) < r * p + c = before r f p c (c - 1) o (omega arith) g (omega arith) in
      let n4 : (r - f) * w + (c - 1) < r * w + c = before r f w c (c - 1) o (omega arith) g (omega arith) in
      let q : r - f < h = omega arith in
      let d : c - 1 < w = omega arith in
      rw (
        column_back (r * p) c b,
        column_back (r * w) c b,
        rows_up r f p c g,
        rows_up r f w c g,
        column_back ((r - f) * p) c b,
        column_back ((r - f) * w) c b,
        seen r (c - 1) (r * p + c) (r * w + c) s k d room (omega arith) (omega arith),
        seen (r - f) c (r * p + c) (r * w + c) s q m room n1 n2,
        seen (r - f) (c - 1) (r * p + c) (r * w + c) s q d room n3 n4,
      )

  -- a row whose column 0 adds the same
  from_like : (depth above : ℕ) (pitched plain : Step) (s₀ s v : List ℕ) → 0 < w → Agree w p h r l k 1 pitched plain → h * p ≤ length s → Like (rows_places w p h) s₀ s v → Like (rows_places w p h) s₀ (row_from depth above pitched s (r * p) (r * p + w)) (row_from depth above plain v (r * w) (r * w + w))
  unfolding row_from
  from_like depth above pitched plain s₀ s v o agree room a =
      let n : r * p + w - (r * p + 1) ≡ w - 1 = omega arith in
      let m : r * w + w - (r * w + 1) ≡ w - 1 = omega arith in
      let z : r * p + 0 ≡ r * p = add-zero (r * p) in
      let y : r * w + 0 ≡ r * w = add-zero (r * w) in
      let got : get_or (samples_at (rows_places w p h) s) (r * w) 0 ≡ get_or s (r * p) 0 = rw (z, y) at (row_get w p h r 0 l k o s room) in
      rw (n, m)
      (sweeps_like w p h r l k 1 pitched plain agree (w - 1) 1 s₀ _ _ (omega arith) (omega arith) (rw length-set room)
      (record {
        samples = rw (z, y) at (row_set w p h r 0 l k o s room ((get_or s (r * p) 0 + above) % 2 ^ depth)) ∙ rw (← a.samples, got);
        gaps = rw z at (row_set_keeps w p h r 0 l k o s room ((get_or s (r * p) 0 + above) % 2 ^ depth)) ∙ a.gaps;
        same = length-set s (r * p) _ ∙ a.same;
      }))

  -- a row of either sort
  pub row_like : (depth kind f : ℕ) (s₀ s v : List ℕ) → 0 < w → 0 < f → h * p ≤ length s → Like (rows_places w p h) s₀ s v → Like (rows_places w p h) s₀ (row depth kind (f * p) s (r * p) (r * p + w)) (row depth kind (f * w) v (r * w) (r * w + w))
  unfolding row
  row_like depth kind f s₀ s v o q room a = go (dec_lt r f)
    where
      go : Dec (r < f) → Like (rows_places w p h) s₀ (cond (ltb (r * p) (f * p)) (top_row depth s (r * p) (r * p + w)) (later_row depth kind (f * p) s (r * p) (r * p + w))) (cond (ltb (r * w) (f * w)) (top_row depth v (r * w) (r * w + w)) (later_row depth kind (f * w) v (r * w) (r * w + w)))
      go (yes g) =
          let x : r * p < f * p = omega (arith, suc-mul r p, mul-le-mul_right p g, l) in
          let y : r * w < f * w = omega (arith, suc-mul r w, mul-le-mul_right w g) in
          rw (lt-ltb (r * p) (f * p) x, lt-ltb (r * w) (f * w) y)
          (from_like depth 0 (leftward depth) (leftward depth) s₀ s v o (left_agrees depth) room a)
      go (no g) =
          let x : f * p ≤ r * p = mul-le-mul_right p (omega arith) in
          let y : f * w ≤ r * w = mul-le-mul_right w (omega arith) in
          let up : r * p - f * p ≡ (r - f) * p + 0 = omega (arith, far r f p (omega arith)) in
          let upw : r * w - f * w ≡ (r - f) * w + 0 = omega (arith, far r f w (omega arith)) in
          let e : get_or v (r * w - f * w) 0 ≡ get_or s (r * p - f * p) 0 = rw (up, upw, ← a.samples) (row_get w p h (r - f) 0 l (omega arith) o s room) in
          rw (le-ltb (r * p) (f * p) x, le-ltb (r * w) (f * w) y, e)
          (from_like depth (get_or s (r * p - f * p) 0) (across depth (predictor depth kind) (f * p)) (across depth (predictor depth kind) (f * w)) s₀ s v o (across-agrees depth (predictor depth kind) f q (omega arith)) room a)
