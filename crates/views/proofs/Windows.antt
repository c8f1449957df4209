-- A window: a stretch of a buffer whose own places are known, such as a row, a slice's rows, or a plane. A window that is replaced is
-- replaced in the samples too, and the gaps stay if its own do. One law for rows, slices and planes, at any element. Assumes nothing.
use mathlib.Core.Path.{◌≡◌, refl, sym, ap, ◌∙◌}
use mathlib.Core.Bool.{Bool, true, false}
use mathlib.Core.List.{List, [], ◌++◌, append_assoc, append-nil}
use Prim.Native.Nat.{ℕ, zero, suc, ◌+◌, ◌-◌, ◌*◌, ◌≤◌, ◌<◌}
use native.Mathlib.Nat.{suc-mul, zero-mul, zero-add, suc-add, add_comm}
use native.Mathlib.Omega.{arith}
use lib.ListN.{length, take, drop, replicate, length-append, length-replicate, take-append-drop, replicate-append-replicate}
use lib.Seq.{take_at, drop_at, length-take-le}
use Rattle.lists.proofs.Parts.{length_part}
use Rattle.views.specs.Places.{samples_at, gaps_at, how_many, row_places, rows_places}
use Rattle.views.proofs.Views.{samples_append, gaps_append, many_append, samples_many, many_all}
use Rattle.lists.specs.Parts.{part, replaced}

-- places `own` stand from place `from` on, where `past` samples stand before
pub record Window (places : List Bool) (from : ℕ) (own : List Bool) (past : ℕ) : Type 0 where
  pub before : List Bool
  pub after : List Bool
  pub is : places ≡ before ++ (own ++ after)
  pub long : length before ≡ from
  pub many : how_many before ≡ past

module _ (places : List Bool) (from : ℕ) (own : List Bool) (past : ℕ) (w : Window places from own past) where
  -- it lies within
  pub window-room : from + length own ≤ length places
  window-room = rw w.is (omega (arith, length-append w.before (own ++ w.after), length-append own w.after, w.long))

  pub window_many : past + how_many own ≤ how_many places
  window_many = rw w.is (omega (arith, many_append w.before (own ++ w.after), many_append own w.after, w.many))

  -- a window in a window
  pub window_in : (from' : ℕ) (own' : List Bool) (past' : ℕ) → Window own from' own' past' → Window places (from + from') own' (past + past')
  window_in from' own' past' v = record {
    before = w.before ++ v.before;
    after = v.after ++ w.after;
    is = w.is ∙ rw v.is (ap (λ (z : List Bool). w.before ++ z) (append_assoc v.before (own' ++ v.after) w.after ∙ ap (λ (z : List Bool). v.before ++ z) (append_assoc own' v.after w.after)) ∙ sym (append_assoc w.before v.before (own' ++ (v.after ++ w.after))));
    long = omega (arith, length-append w.before v.before, w.long, v.long);
    many = omega (arith, many_append w.before v.before, w.many, v.many);
  }

  module _ (x y z : List ℕ) (ex : length x ≡ from) (ey : length y ≡ length own) where
    three : samples_at places (x ++ (y ++ z)) ≡ samples_at w.before x ++ (samples_at own y ++ samples_at w.after z)
    three =
        ap (λ (m : List Bool). samples_at m (x ++ (y ++ z))) w.is
        ∙ samples_append w.before (own ++ w.after) x (y ++ z) (ex ∙ sym w.long)
        ∙ ap (λ (l : List ℕ). samples_at w.before x ++ l) (samples_append own w.after y z ey)

    three_gaps : gaps_at places (x ++ (y ++ z)) ≡ gaps_at w.before x ++ (gaps_at own y ++ gaps_at w.after z)
    three_gaps =
        ap (λ (m : List Bool). gaps_at m (x ++ (y ++ z))) w.is
        ∙ gaps_append w.before (own ++ w.after) x (y ++ z) (ex ∙ sym w.long)
        ∙ ap (λ (l : List ℕ). gaps_at w.before x ++ l) (gaps_append own w.after y z ey)

    three_before : length (samples_at w.before x) ≡ past
    three_before = samples_many w.before x (omega (arith, w.long)) ∙ w.many

    three_own : length (samples_at own y) ≡ how_many own
    three_own = samples_many own y (omega arith)

  module _ (s : List ℕ) (room : length places ≤ length s) where
    s_before : length (take from s) ≡ from
    s_before = length-take-le from s (omega (arith, window-room))

    s_own : length (part s from (length own)) ≡ length own
    s_own = length_part s from (length own) (omega (arith, window-room))

    whole : s ≡ take from s ++ (part s from (length own) ++ drop (length own) (drop from s))
    whole = sym (ap (λ (l : List ℕ). take from s ++ l) (take-append-drop (length own) (drop from s)) ∙ take-append-drop from s)

    halves : samples_at places s ≡ samples_at w.before (take from s) ++ (samples_at own (part s from (length own)) ++ samples_at w.after (drop (length own) (drop from s)))
    halves = ap (samples_at places) whole ∙ three (take from s) (part s from (length own)) (drop (length own) (drop from s)) s_before s_own

    -- the window's samples are a part of the samples
    pub window-part : part (samples_at places s) past (how_many own) ≡ samples_at own (part s from (length own))
    window-part =
        rw (halves, drop_at (samples_at w.before (take from s)) (samples_at own (part s from (length own)) ++ samples_at w.after (drop (length own) (drop from s))) past (three_before (take from s) (part s from (length own)) [] s_before s_own))
        (take_at (samples_at own (part s from (length own))) (samples_at w.after (drop (length own) (drop from s))) (how_many own) (three_own (take from s) (part s from (length own)) [] s_before s_own))

    module _ (ys : List ℕ) (ey : length ys ≡ length own) where
      -- replaced in the buffer, replaced in the samples
      pub window_put : samples_at places (replaced s from (length own) ys) ≡ replaced (samples_at places s) past (how_many own) (samples_at own ys)
      window_put =
          let a : List ℕ = samples_at w.before (take from s) in
          let b : List ℕ = samples_at own (part s from (length own)) in
          let c : List ℕ = samples_at w.after (drop (length own) (drop from s)) in
          let la : length a ≡ past = three_before (take from s) (part s from (length own)) [] s_before s_own in
          let lb : length b ≡ how_many own = three_own (take from s) (part s from (length own)) [] s_before s_own in
          three (take from s) ys (drop (length own) (drop from s)) s_before ey
          ∙ rw (halves, take_at a (b ++ c) past la, drop_at a (b ++ c) past la, drop_at b c (how_many own) lb)

      -- the gaps stay where the window's own do
      pub window_keeps : gaps_at own ys ≡ gaps_at own (part s from (length own)) → gaps_at places (replaced s from (length own) ys) ≡ gaps_at places s
      window_keeps e =
          three_gaps (take from s) ys (drop (length own) (drop from s)) s_before ey
          ∙ rw e (sym (ap (gaps_at places) whole ∙ three_gaps (take from s) (part s from (length own)) (drop (length own) (drop from s)) s_before s_own))

-- ---- rows

pub rows_long : (w p h : ℕ) → w ≤ p → length (rows_places w p h) ≡ h * p
unfolding rows_places
rows_long w p zero l = sym (zero-mul p)
rows_long w p (suc h) l =
    simp (length-append, length-replicate, rows_long w p h l) (omega (arith, suc-mul h p))

none : (n : ℕ) → how_many (replicate n false) ≡ 0
unfolding how_many
none zero = refl
none (suc n) = omega (arith, none n)

pub rows_many : (w p h : ℕ) → how_many (rows_places w p h) ≡ h * w
unfolding rows_places
rows_many w p zero = unfold how_many in (sym (zero-mul w))
rows_many w p (suc h) =
    many_append (row_places w p) (rows_places w p h)
    ∙ rw (many_append (replicate w true) (replicate (p - w) false), many_all w, none (p - w), rows_many w p h) (omega (arith, suc-mul h w))

pub rows_append : (w p a b : ℕ) → rows_places w p (a + b) ≡ rows_places w p a ++ rows_places w p b
unfolding rows_places
rows_append w p zero b = rw zero-add
rows_append w p (suc a) b = rw (suc-add a b, rows_append w p a b) (sym (append_assoc (row_places w p) (rows_places w p a) (rows_places w p b)))

-- with no gaps every place is a sample's
pub rows_all : (w h : ℕ) → rows_places w w h ≡ replicate (h * w) true
unfolding rows_places
rows_all w zero = rw zero-mul
rows_all w (suc h) =
    let e : w - w ≡ 0 = omega arith in
    rw (e, append-nil (replicate w true), rows_all w h, suc-mul h w)
    (rw (add_comm (h * w) w) (replicate-append-replicate w (h * w) true))

-- n places of samples alone, from place a on
pub trues_window : (len a n : ℕ) → a + n ≤ len → Window (replicate len true) a (replicate n true) a
trues_window len a n h =
    let e : len ≡ a + (n + (len - (a + n))) = omega arith in
    record {
      before = replicate a true;
      after = replicate (len - (a + n)) true;
      is = ap (λ (k : ℕ). replicate k true) e ∙ sym (replicate-append-replicate a (n + (len - (a + n))) true) ∙ ap (λ (z : List Bool). replicate a true ++ z) (sym (replicate-append-replicate n (len - (a + n)) true));
      long = length-replicate a true;
      many = many_all a;
    }

-- the samples of row r
pub row_window : (w p h r : ℕ) → w ≤ p → r < h → Window (rows_places w p h) (r * p) (replicate w true) (r * w)
unfolding rows_places
row_window w p h r l k =
    let e : h ≡ r + suc (h - suc r) = omega arith in
    record {
      before = rows_places w p r;
      after = replicate (p - w) false ++ rows_places w p (h - suc r);
      is = ap (rows_places w p) e ∙ rows_append w p r (suc (h - suc r)) ∙ ap (λ (z : List Bool). rows_places w p r ++ z) (append_assoc (replicate w true) (replicate (p - w) false) (rows_places w p (h - suc r)));
      long = rows_long w p r l;
      many = rows_many w p r;
    }
