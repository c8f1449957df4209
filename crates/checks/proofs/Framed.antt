-- Document 01, "Refusal numbers", 5 to 14: the loop over the slices, the steps put together in the table's order, that they are the
-- table's own checks, and what is known once none applies. Assumes nothing.
use mathlib.Core.Path.{◌≡◌, sym, ap, ◌∙◌}
use mathlib.Core.List.{List}
use Prim.Native.Nat.{ℕ, ◌+◌, ◌≤◌, ◌<◌}
use native.Mathlib.Decide.{ℕ_discrete}
use borrow.Author.Tests.{eq-eqb, ne_eqb, ltb-false}
use borrow.Author.Rules.{rules}
use lib.Dec.{eqb, ltb}
use lib.ListN.{length, get_or, set}
use Rattle.scope.specs.Refusals.{◌and_then◌}
use Rattle.scope.specs.Geometry.{plane_count, slice_count, lengths_of}
use Rattle.scope.specs.Layout as lay
use Rattle.scope.specs.Layout.{plane_index, slice_at}
use Rattle.scope.specs.Words.{longest, shortest}
use Rattle.scope.specs.Frame as frm
use Rattle.scope.specs.Pieces as pcs
use Rattle.scope.specs.Frame.{slice_lengths, need_of_all}
use Rattle.scope.specs.declared.Geometry.{Geometry}
use Rattle.scope.specs.declared.SliceAt.{SliceAt}
use Rattle.scope.specs.declared.Place.TheVariants.{Nothing}
use Rattle.scope.specs.declared.Refusal.{Refusal}
use Rattle.std.specs.Prelude.{Err}
use Rattle.scope.specs.Answers.{Answer, done}
use Rattle.scope.specs.Pieces.{in_order, preamble_checks, index_check, length_check, room_check, slice_check, frame_checks}
use Rattle.refusals.proofs.Rows.{index_below}
use Rattle.refusals.proofs.InOrder.{first_passed, then_passed, if_passed, each_passed, then_same, then_then, order_same}
use Rattle.layout.proofs.Going.{Going, going_step, going_refused}
use Rattle.preamble.specs.Layout as laid
use Rattle.preamble.specs.Layout.{layout_checks}
use Rattle.preamble.proofs.Checks.{layout_order}
use Rattle.checks.specs.Slices as slc
use Rattle.checks.specs.Slices.{slice_check_by, slices_by, words_by, framed_by, Shortests}
use Rattle.codes.proofs.Shortness.{shortest_none, longest_none}

-- ---- the loop over the slices

module _ (frame : List ℕ) (g : Geometry) (shorts : List ℕ) (t : ℕ) (seen : List ℕ) (s : ℕ) (w : Going (slices_by frame g shorts) frame g t seen s)
    (p : ℕ) (ls : s < t) (ei : p ≡ plane_index frame g s) (a : SliceAt) (ea : a ≡ slice_at frame g s)
    (r : Answer) (er : r ≡ slice_check_by (length frame) g.depth (get_or shorts p 0) a) where
  by_slice : r ≡ slices_by frame g shorts s
  unfolding slc.slices_by
  by_slice = er ∙ ap (λ (q : ℕ). slice_check_by (length frame) g.depth (get_or shorts q 0) a) ei ∙ ap (slice_check_by (length frame) g.depth (get_or shorts (plane_index frame g s) 0)) ea

  -- slice s is refused
  pub slice_refused : (why : Refusal) → r ≡ Err why → Err why ≡ in_order (slice_count g) (slices_by frame g shorts)
  slice_refused = going_refused (slices_by frame g shorts) frame g t seen s w p ls ei r by_slice

-- slice s passed: what the loop knew before it, its plane and record, and what its check answered
pub record SlicePassed (frame : List ℕ) (g : Geometry) (shorts : List ℕ) (t : ℕ) (seen : List ℕ) (s p : ℕ) (a : SliceAt) (r : Answer) : Type 0 where
  pub known : Going (slices_by frame g shorts) frame g t seen s
  pub within : s < t
  pub plane_is : p ≡ plane_index frame g s
  pub record_is : a ≡ slice_at frame g s
  pub answer_is : r ≡ slice_check_by (length frame) g.depth (get_or shorts p 0) a
  pub passed : r ≡ done

-- so the loop knows the same of one slice more
pub slice_step : {frame : List ℕ} {g : Geometry} {shorts : List ℕ} {t : ℕ} {seen : List ℕ} {s p : ℕ} {a : SliceAt} {r : Answer}
    → SlicePassed frame g shorts t seen s p a r → Going (slices_by frame g shorts) frame g t (set seen p (get_or seen p 0 + 1)) (s + 1)
slice_step {frame} {g} {shorts} {t} {seen} {s} {p} {a} {r} d =
    going_step (slices_by frame g shorts) frame g t seen s d.known p d.within d.plane_is r
    (by_slice frame g shorts t seen s d.known p d.within d.plane_is a d.record_is r d.answer_is) d.passed

-- a shortest word is a byte
pub short_small : (g : Geometry) (shorts : List ℕ) (p : ℕ) → Shortests g shorts → p < plane_count g → get_or shorts p 0 < 256
short_small g shorts p h l = h.small p l

-- which matters only where 9 and 10 refuse nothing
pub shorts_told : (g : Geometry) (shorts : List ℕ) (words : Answer) → (words ≡ done → Shortests g shorts) → words ≡ done → Shortests g shorts
shorts_told g shorts words h e = h e

-- ---- the steps in order

module _ (frame : List ℕ) (g : Geometry) (words room : Answer) (shorts : List ℕ) where
  -- 9 or 10
  pub words_refused : (why : Refusal) → words ≡ Err why → Err why ≡ words_by frame g words room shorts
  unfolding slc.words_by
  words_refused why h = rw h

  -- 11
  pub words_full : (why : Refusal) → words ≡ done → room ≡ Err why → Err why ≡ words_by frame g words room shorts
  unfolding slc.words_by
  words_full why h k = rw (h, k)

  -- else the slices' answer
  pub words_slices : (r : Answer) → words ≡ done → room ≡ done → r ≡ in_order (slice_count g) (slices_by frame g shorts) → r ≡ words_by frame g words room shorts
  unfolding slc.words_by
  words_slices r h k e = rw (h, k) e

  -- 5 to 8
  pub frame_early : (a : Answer) (why : Refusal) → a ≡ layout_checks frame g → a ≡ Err why → Err why ≡ framed_by frame g words room shorts
  unfolding slc.framed_by
  frame_early a why e h = rw (← e, h)

  -- else the rest
  pub frame_late : (a b : Answer) → a ≡ layout_checks frame g → a ≡ done → b ≡ words_by frame g words room shorts → b ≡ framed_by frame g words room shorts
  unfolding slc.framed_by
  frame_late a b e h k = rw (← e, h) k

-- and then none of 5 to 8 applies
pub layout_told : (frame : List ℕ) (g : Geometry) (a : Answer) → a ≡ layout_checks frame g → a ≡ done → done ≡ layout_checks frame g
layout_told frame g a e h = sym h ∙ e

pub ruleset wordings = (words_refused, words_full, words_slices, layout_order, shorts_told, rules)

pub ruleset frames = (frame_early, frame_late, layout_told, rules)

-- ---- they are the table's own checks

-- a code has no shortest word exactly where it has no longest
short_long : (ls : List ℕ) → eqb (shortest ls) 0 ≡ eqb (longest ls) 0
short_long ls = go (ℕ_discrete (longest ls) 0)
  where
    go : Dec (longest ls ≡ 0) → eqb (shortest ls) 0 ≡ eqb (longest ls) 0
    go (yes e) = rw (eq-eqb (longest ls) 0 e, eq-eqb (shortest ls) 0 (longest_none ls e))
    go (no e) = rw (ne_eqb (longest ls) 0 e, ne_eqb (shortest ls) 0 (λ z. e (shortest_none ls z)))

-- a slice by its plane's shortest word
slice_own : (frame : List ℕ) (g : Geometry) (lengths shorts : List ℕ) (s : ℕ) → get_or shorts (plane_index frame g s) 0 ≡ shortest (slice_lengths frame g lengths s) → slices_by frame g shorts s ≡ slice_check frame g lengths s
unfolding slc.slices_by slc.slice_rule slc.size_check lay.slice_at pcs.slice_check frm.fewest_bytes lay.samples_in
slice_own frame g lengths shorts s e = rw (e, short_long (slice_lengths frame g lengths s))

-- 5 to 14 by what the lengths answer, and, where they are not refused, by what the workspace answers and each plane's shortest word
pub framed_is : (frame : List ℕ) (g : Geometry) (lengths : List ℕ) (words room room' : Answer) (shorts : List ℕ) → words ≡ in_order (plane_count g) (length_check g lengths) → (words ≡ done → room ≡ room') → (words ≡ done → (p : ℕ) → p < plane_count g → get_or shorts p 0 ≡ shortest (lengths_of g lengths p)) → framed_by frame g words room shorts ≡ frame_checks frame g lengths room'
unfolding slc.framed_by slc.words_by pcs.frame_checks laid.layout_checks
framed_is frame g lengths words room room' shorts ew er es =
    then_then (preamble_checks frame g) (in_order (slice_count g) (index_check frame g)) (words and_then room and_then in_order (slice_count g) (slices_by frame g shorts))
    ∙ then_same (preamble_checks frame g) _ _ (λ d. then_same (in_order (slice_count g) (index_check frame g)) _ _ (λ i. rest i ∙ ap (λ (x : Answer). x and_then room' and_then in_order (slice_count g) (slice_check frame g lengths)) ew))
  where
    rest : done ≡ in_order (slice_count g) (index_check frame g) → (words and_then room and_then in_order (slice_count g) (slices_by frame g shorts)) ≡ (words and_then room' and_then in_order (slice_count g) (slice_check frame g lengths))
    rest i =
        then_same words _ _ (λ d. ap (λ (x : Answer). x and_then in_order (slice_count g) (slices_by frame g shorts)) (er (sym d)) ∙ then_same room' _ _ (λ r. order_same (slice_count g) _ _ (λ s l.
        slice_own frame g lengths shorts s (es (sym d) (plane_index frame g s) (index_below frame g s (each_passed (index_check frame g) (slice_count g) s i l))))))

-- ---- once none applies

module _ (frame : List ℕ) (g : Geometry) (lengths : List ℕ) (room : Answer) (e : done ≡ frame_checks frame g lengths room) where
  past_preamble : done ≡ (in_order (slice_count g) (index_check frame g) and_then in_order (plane_count g) (length_check g lengths) and_then room and_then in_order (slice_count g) (slice_check frame g lengths))
  unfolding pcs.frame_checks
  past_preamble = then_passed (preamble_checks frame g) _ e

  past_indices : done ≡ (in_order (plane_count g) (length_check g lengths) and_then room and_then in_order (slice_count g) (slice_check frame g lengths))
  past_indices = then_passed (in_order (slice_count g) (index_check frame g)) _ past_preamble

  past_words : done ≡ (room and_then in_order (slice_count g) (slice_check frame g lengths))
  past_words = then_passed (in_order (plane_count g) (length_check g lengths)) _ past_indices

  -- each slice names a plane that has room for it
  pub frame_order : done ≡ in_order (slice_count g) (index_check frame g)
  frame_order = first_passed (in_order (slice_count g) (index_check frame g)) _ past_preamble

  -- each plane's lengths pass 9 and 10
  pub frame_lengths : done ≡ in_order (plane_count g) (length_check g lengths)
  frame_lengths = first_passed (in_order (plane_count g) (length_check g lengths)) _ past_indices

  -- the workspace passes 11
  pub frame_room : done ≡ room
  frame_room = first_passed room _ past_words

  -- and each slice passes 12 to 14
  pub frame_slices : done ≡ in_order (slice_count g) (slice_check frame g lengths)
  frame_slices = then_passed room _ past_words

-- 11 passes where the workspace has room for all tables
pub room_in : (g : Geometry) (lengths : List ℕ) (w : ℕ) → done ≡ room_check g lengths w → need_of_all g lengths ≤ w
unfolding pcs.room_check
room_in g lengths w e = ltb-false _ _ (if_passed (ltb w (need_of_all g lengths)) 11 Nothing e)
