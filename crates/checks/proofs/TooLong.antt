-- Document 01, refusals 9 and 10, proved of the answer of a whole decode: `length_above_18` and `shares_above_one` (their
-- statements stand in specs/TooLong.antt). Assumes nothing.
use mathlib.Core.Path.{◌≡◌, refl}
use mathlib.Core.Bool.{true, false}
use mathlib.Core.List.{List}
use Prim.Native.Nat.{ℕ, zero, suc, ◌≤◌, ◌<◌}
use native.Mathlib.Omega.{arith}
use borrow.Author.Tests.{lt-ltb, le-ltb}
use Rattle.scope.specs.Pieces as pcs
use Rattle.scope.specs.Geometry.{plane_count, lengths_of}
use Rattle.scope.specs.Words as words
use Rattle.scope.specs.Words.{longest, length_of, shares, too_long, overfull}
use Rattle.scope.specs.Frame.{answer_of}
use Rattle.scope.specs.declared.Geometry.{Geometry}
use Rattle.scope.specs.declared.Place.TheVariants.{Plane}
use Rattle.scope.specs.Answers.{done, refused}
use Rattle.scope.specs.Pieces.{in_order, length_check}
use Rattle.scope.specs.declared.Entry.{Entry}
use Rattle.scope.proofs.Table.{in_pieces}
use Rattle.codes.proofs.Longest.{at_most_longest, longest_most}
use Rattle.refusals.proofs.InOrder.{one_refused}
use Rattle.checks.specs.TooLong.{Kept, PlaneReached, LengthAbove18, SharesAboveOne}

-- ---- one plane's lengths

module _ (ls : List ℕ) where
  some_long : (s : ℕ) → 18 < length_of ls s → too_long ls ≡ true
  unfolding words.too_long
  some_long s h = lt-ltb 18 (longest ls) (omega (arith, h, at_most_longest ls s))

  none_long : ((s : ℕ) → length_of ls s ≤ 18) → too_long ls ≡ false
  unfolding words.too_long
  none_long h = le-ltb 18 (longest ls) (longest_most ls 18 (λ s l. h s))

  over : 262144 < shares ls → overfull ls ≡ true
  unfolding words.overfull
  over h = lt-ltb 262144 (shares ls) h

  not_over : shares ls ≤ 262144 → overfull ls ≡ false
  unfolding words.overfull
  not_over h = le-ltb 262144 (shares ls) h

-- a plane that 9 and 10 leave has passed
kept_passes : (g : Geometry) (lengths : List ℕ) (q : ℕ) → Kept (lengths_of g lengths q) → done ≡ length_check g lengths q
unfolding pcs.length_check
kept_passes g lengths q k =
    rw (none_long (lengths_of g lengths q) k.short, not_over (lengths_of g lengths q) k.full)

-- and so have all before p
earlier_pass : (g : Geometry) (lengths : List ℕ) (p : ℕ) → ((q : ℕ) → q < p → Kept (lengths_of g lengths q)) → done ≡ in_order p (length_check g lengths)
unfolding pcs.in_order
earlier_pass g lengths zero k = refl
earlier_pass g lengths (suc p) k =
    rw (← earlier_pass g lengths p (λ q l. k q (omega arith))) (kept_passes g lengths p (k p (omega arith)))

-- ---- the answer

module _ (which : Entry) (frame : List ℕ) (g : Geometry) (lengths : List ℕ) (planes_len workspace_len p : ℕ) where
  -- what the check of plane p says is the answer, once it is reached
  plane_answers : PlaneReached which frame g lengths planes_len p → (n : ℕ) → refused n (Plane p) ≡ length_check g lengths p → answer_of which frame g lengths planes_len workspace_len ≡ refused n (Plane p)
  unfolding pcs.rest_of pcs.frame_checks pcs.room_check
  plane_answers w n e =
      let k : refused n (Plane p) ≡ in_order (plane_count g) (length_check g lengths) = one_refused (length_check g lengths) (plane_count g) p n (Plane p) w.plane (earlier_pass g lengths p w.earlier) e in
      rw (in_pieces which frame g lengths planes_len workspace_len, ← w.lent, ← w.preamble, ← w.indices, ← k)

  -- refusal 9: "a length above 18", at its plane
  pub length_above_18 : LengthAbove18 which frame g lengths planes_len workspace_len p
  unfolding pcs.length_check
  length_above_18 w s h = plane_answers w 9 (rw (some_long (lengths_of g lengths p) s (omega (arith, h))))

  -- refusal 10: "the plane's shares exceed one", at its plane
  pub shares_above_one : SharesAboveOne which frame g lengths planes_len workspace_len p
  unfolding pcs.length_check
  shares_above_one w short h = plane_answers w 10 (rw (none_long (lengths_of g lengths p) short, over (lengths_of g lengths p) h))
