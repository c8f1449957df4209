-- What an entry leaves once refusals 1 to 4 have passed: the planes are cleared where the run is refused, and the workspace is cleared
-- either way (document 01, "Refusals 1 to 4 leave planes and workspace as found. All others leave both wholly zero."). Assumes nothing.
use Rattle.std.proofs.Common.{◌≡◌, cond, refl, List, [], ℕ, ◌≤◌, length, take, drop, take_all, append-nil}
use Rattle.std.proofs.lemmas.List.{drop_all}
use borrow.Rule.Slice.PartMut.{put_mid}
use Rattle.std.specs.Prelude.{Ok, Err}
use Rattle.std.specs.Result.{is_err}
use Rattle.scope.specs.Base.{zeros}
use Rattle.scope.specs.Frame.{picture_of, Decoded}
use Rattle.scope.specs.declared.Entry.{Entry}
use Rattle.scope.specs.declared.Geometry.{Geometry}
use Rattle.scope.specs.Answers.{Answer, done}
use Rattle.scope.specs.Pieces.{room_check, lent_checks, rest_of}
use Rattle.refusals.proofs.Outcomes.{out_late, out_done}

-- all of a list, cleared as a part that begins at 0: the code clears the whole list, and by this law an edit that clears a part of it is refused for
-- what it leaves, not for its form
pub cleared_part : (ws ys : List ℕ) (k n : ℕ) → ys ≡ zeros (take n (drop k ws)) → k ≡ 0 → length ws ≤ n → put_mid k n ws ys ≡ zeros ws
cleared_part ws ys k n c e h =
    let all : take n ws ≡ ws = take_all n ws h in
    let none : drop n ws ≡ [] = drop_all n ws h in
    let d : ys ≡ zeros ws = rw (e, all) at c in
    rw (e, none, append-nil ys) d

module _ (which : Entry) (frame : List ℕ) (g : Geometry) (lengths planes workspace : List ℕ) (a : Answer) (ea : a ≡ lent_checks which g (length lengths) (length planes)) (da : a ≡ done) where
  -- r is the run's answer, planes₁ and workspace₁ are what it leaves, planes₂ and workspace₂ what the entry does
  pub left : (r : Answer) → r ≡ rest_of frame g lengths (room_check g lengths (length workspace))
      → (planes₁ workspace₁ planes₂ workspace₂ : List ℕ) → length planes₁ ≡ length planes → length workspace₁ ≡ length workspace
      → (r ≡ done → planes₁ ≡ picture_of frame g lengths)
      → planes₂ ≡ cond (is_err r) (zeros planes₁) planes₁ → workspace₂ ≡ zeros workspace₁
      → Decoded which frame g lengths planes workspace r planes₂ workspace₂
  left (Ok _) er planes₁ workspace₁ planes₂ workspace₂ lp lw picture ep ew =
      out_done which frame g lengths planes workspace a ea da done er planes₂ workspace₁ workspace₂ refl (λ e. rw ep (picture e)) lw ew
  left (Err why) er planes₁ workspace₁ planes₂ workspace₂ lp lw picture ep ew =
      out_late which frame g lengths planes workspace a ea da (Err why) er why planes₁ workspace₁ planes₂ workspace₂ refl lp lw ep ew
