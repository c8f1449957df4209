-- Document 01, refusals 9 and 10, in its own words: "a length above 18" is refusal 9 at its plane, and "the plane's shares exceed
-- one" is refusal 10 at its plane, wherever no earlier row of the table applies. Assumes nothing.
use Rattle.std.specs.Prelude.{◌≡◌, List, ℕ, ◌≤◌, ◌<◌, length}
use Rattle.scope.specs.Geometry.{plane_count, slice_count, lengths_of}
use Rattle.scope.specs.Words.{length_of, shares}
use Rattle.scope.specs.Frame.{answer_of}
use Rattle.scope.specs.declared.Geometry.{Geometry}
use Rattle.scope.specs.declared.Place.TheVariants.{Plane}
use Rattle.scope.specs.Answers.{done, refused}
use Rattle.scope.specs.Pieces.{in_order, lent_checks, preamble_checks, index_check}
use Rattle.scope.specs.declared.Entry.{Entry}

-- a plane that 9 and 10 leave: no length is above 18, and the shares are at most one
pub record Kept (ls : List ℕ) : Type 0 where
  pub short : (s : ℕ) → length_of ls s ≤ 18
  pub full : shares ls ≤ 262144

-- no row of the table applies before 9 of plane p: not 1 to 4, not 5 to 7, not 8 of any slice, and not 9 or 10 of an earlier plane
pub record PlaneReached (which : Entry) (frame : List ℕ) (g : Geometry) (lengths : List ℕ) (planes_len p : ℕ) : Type 0 where
  pub lent : done ≡ lent_checks which g (length lengths) planes_len
  pub preamble : done ≡ preamble_checks frame g
  pub indices : done ≡ in_order (slice_count g) (index_check frame g)
  pub plane : p < plane_count g
  pub earlier : (q : ℕ) → q < p → Kept (lengths_of g lengths q)

module _ (which : Entry) (frame : List ℕ) (g : Geometry) (lengths : List ℕ) (planes_len workspace_len p : ℕ) where
  -- symbol s of plane p has a length above 18
  abbrev pub LengthAbove18 : Type 0
  LengthAbove18 =
      PlaneReached which frame g lengths planes_len p → (s : ℕ) → 18 < length_of (lengths_of g lengths p) s
      → answer_of which frame g lengths planes_len workspace_len ≡ refused 9 (Plane p)

  -- none has, and the shares of plane p exceed one
  abbrev pub SharesAboveOne : Type 0
  SharesAboveOne =
      PlaneReached which frame g lengths planes_len p → ((s : ℕ) → length_of (lengths_of g lengths p) s ≤ 18) → 262144 < shares (lengths_of g lengths p)
      → answer_of which frame g lengths planes_len workspace_len ≡ refused 10 (Plane p)
