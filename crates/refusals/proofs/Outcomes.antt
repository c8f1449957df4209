-- The three ways out of a frame entry, and what each leaves (document 01, "Refusals 1 to 4 leave planes and workspace as found. All
-- others leave both wholly zero."): refused before anything is written, refused after, done. Assumes nothing.
use mathlib.Core.Path.{◌≡◌, refl, sym, ◌∙◌}
use Prim.Native.Nat.{ℕ}
use mathlib.Core.Bool.{Bool, true, false}
use mathlib.Core.List.{List}
use lib.Dec.{leb}
use lib.ListN.{length, replicate}
use Rattle.scope.specs.Refusals.{left_by}
use Rattle.scope.specs.Frame.{answer_of, picture_of, planes_after, workspace_after, Decoded}
use Rattle.scope.specs.declared.Geometry.{Geometry}
use Rattle.scope.specs.declared.Place.{Place}
use Rattle.scope.specs.declared.Refusal.{Refusal}
use Rattle.std.specs.Prelude.{Err}
use Rattle.scope.specs.Answers.{Answer, done, refused}
use Rattle.scope.specs.Pieces.{room_check, lent_checks, rest_of}
use Rattle.scope.specs.declared.Entry.{Entry}
use Rattle.scope.proofs.Table.{in_pieces}
use Rattle.refusals.proofs.Rows.{every_lent, every_rest, every_refused}

-- which side of 4 a number is on
abbrev Side : Bool → ℕ → Place → Type 0
Side side n p = leb n 4 ≡ side

-- refusals 1 to 4 are numbered up to 4
pub lent_early : (which : Entry) (g : Geometry) (l q : ℕ) (a : Answer) (n : ℕ) (p : Place) → a ≡ lent_checks which g l q → a ≡ refused n p → leb n 4 ≡ true
lent_early which g l q a n p ea h =
    every_refused (Side true) (lent_checks which g l q) n p
    (every_lent (Side true) which g l q (record { row1 = refl; row2 = refl; row3 = refl; row4 = refl })) (sym ea ∙ h)

-- and all others above it
pub rest_late : (frame : List ℕ) (g : Geometry) (lengths : List ℕ) (w : ℕ) (a : Answer) (n : ℕ) (p : Place) → a ≡ rest_of frame g lengths (room_check g lengths w) → a ≡ refused n p → leb n 4 ≡ false
rest_late frame g lengths w a n p ea h =
    every_refused (Side false) (rest_of frame g lengths (room_check g lengths w)) n p
    (every_rest (Side false) frame g lengths
    (record { row5 = refl; row6 = refl; row7 = refl; row8 = λ s l. refl; row9 = λ q l. refl; row10 = λ q l. refl; row11 = refl; row12 = λ s l. refl; row13 = λ s l. refl; row14 = λ s l i. refl; row15 = λ s l. refl }) w)
    (sym ea ∙ h)

module _ (which : Entry) (frame : List ℕ) (g : Geometry) (lengths planes workspace : List ℕ) (a : Answer) (ea : a ≡ lent_checks which g (length lengths) (length planes)) where
  -- refused by 1 to 4: nothing was touched
  pub out_early : (why : Refusal) → a ≡ Err why → Decoded which frame g lengths planes workspace (Err why) planes workspace
  unfolding planes_after workspace_after left_by
  out_early why h =
      let e : leb why.0 4 ≡ true = lent_early which g (length lengths) (length planes) a why.0 why.1 ea h in
      let w = in_pieces which frame g lengths (length planes) (length workspace) in
      record { answer = rw (w, ← ea, h); planes = rw (w, ← ea, h, e); workspace = rw (w, ← ea, h, e) }

  module _ (da : a ≡ done) (r : Answer) (er : r ≡ rest_of frame g lengths (room_check g lengths (length workspace))) where
    whole : answer_of which frame g lengths (length planes) (length workspace) ≡ r
    whole = rw (in_pieces which frame g lengths (length planes) (length workspace), ← ea, da) (sym er)

    -- refused later: both were cleared
    pub out_late : (why : Refusal) (planes₁ workspace₁ planes₂ workspace₂ : List ℕ) → r ≡ Err why → length planes₁ ≡ length planes → length workspace₁ ≡ length workspace → planes₂ ≡ replicate (length planes₁) 0 → workspace₂ ≡ replicate (length workspace₁) 0 → Decoded which frame g lengths planes workspace (Err why) planes₂ workspace₂
    unfolding planes_after workspace_after left_by
    out_late why planes₁ workspace₁ planes₂ workspace₂ h lp lw ep ew =
        let e : leb why.0 4 ≡ false = rest_late frame g lengths (length workspace) r why.0 why.1 er h in
        record { answer = sym (whole ∙ h); planes = rw (whole, h, e, ← lp) ep; workspace = rw (whole, h, e, ← lw) ew }

    -- done: the planes are the picture, and the workspace was cleared
    pub out_done : (planes₂ workspace₁ workspace₂ : List ℕ) → r ≡ done → (r ≡ done → planes₂ ≡ picture_of frame g lengths) → length workspace₁ ≡ length workspace → workspace₂ ≡ replicate (length workspace₁) 0 → Decoded which frame g lengths planes workspace done planes₂ workspace₂
    unfolding planes_after workspace_after left_by
    out_done planes₂ workspace₁ workspace₂ h ep lw ew =
        record { answer = sym (whole ∙ h); planes = rw (whole, h) (ep h); workspace = rw (whole, h, ← lw) ew }
