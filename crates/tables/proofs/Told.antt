-- What the codes of a frame tell their callers, field by field: the answer of 9 and 10, and, where no plane is refused, each plane's stretch
-- of the workspace, its longest and its shortest length, and all needs together. Assumes nothing.
use mathlib.Core.Path.{◌≡◌, refl, sym, ap, ◌∙◌}
use mathlib.Core.List.{List}
use Prim.Native.Nat.{ℕ, suc, ◌+◌, ◌-◌, ◌≤◌, ◌<◌}
use native.Mathlib.Omega.{arith}
use borrow.Author.Tests.{ltb-false}
use lib.ListN.{get_or}
use Rattle.scope.specs.Base as base
use Rattle.scope.specs.Geometry.{plane_count, lengths_of}
use Rattle.scope.specs.Words as wrd
use Rattle.scope.specs.Words.{longest, shortest, shares, too_long, overfull}
use Rattle.scope.specs.Frame as frm
use Rattle.scope.specs.Pieces as pcs
use Rattle.scope.specs.Frame.{need_of_all}
use Rattle.scope.specs.declared.Geometry.{Geometry}
use Rattle.scope.specs.declared.Place.TheVariants.{Plane}
use Rattle.scope.specs.Answers.{Answer, done}
use Rattle.std.specs.Prelude.{Ok, Err}
use Rattle.scope.specs.Pieces.{in_order, length_check}
use Rattle.codes.proofs.Shortness.{shortest_most}
use Rattle.geometry.proofs.Places.{planes_most}
use Rattle.lists.proofs.Sums.{sum_next}
use Rattle.refusals.proofs.InOrder.{both_passed, each_passed}
use Rattle.tables.specs.Tables.{plane_need, table_start}
use Rattle.tables.specs.Codes.{no_codes, codes_up_to, codes_by, codes_of}
use Rattle.tables.specs.declared.Codes.{Codes}
use Rattle.tables.proofs.Arrays.{per_at}

-- ---- lengths that pass 9 and 10

module _ (g : Geometry) (lengths : List ℕ) (p : ℕ) where
  pub plane_short : done ≡ length_check g lengths p → longest (lengths_of g lengths p) ≤ 18
  unfolding pcs.length_check wrd.too_long
  plane_short e =
      ltb-false 18 (longest (lengths_of g lengths p))
      (both_passed (too_long (lengths_of g lengths p)) (overfull (lengths_of g lengths p)) 9 10 (Plane p) (Plane p) e).0

  pub plane_full : done ≡ length_check g lengths p → shares (lengths_of g lengths p) ≤ 262144
  unfolding pcs.length_check wrd.overfull
  plane_full e =
      ltb-false 262144 (shares (lengths_of g lengths p))
      (both_passed (too_long (lengths_of g lengths p)) (overfull (lengths_of g lengths p)) 9 10 (Plane p) (Plane p) e).1

-- ---- the codes by their answer

module _ (g : Geometry) (lengths : List ℕ) where
  by_answer : (a : Answer) → (codes_by g lengths a).answer ≡ a
  unfolding codes_by codes_up_to no_codes
  by_answer (Ok _) = refl
  by_answer (Err why) = refl

-- ---- c is the codes of g and lengths

module _ (g : Geometry) (lengths : List ℕ) (c : Codes) (is : c ≡ codes_of g lengths) where
  -- what 9 and 10 say
  pub answer_is : c.answer ≡ in_order (plane_count g) (length_check g lengths)
  unfolding codes_of
  answer_is = ap (λ (x : Codes). x.answer) is ∙ by_answer g lengths (in_order (plane_count g) (length_check g lengths))

  -- no plane is refused
  module _ (ok : c.answer ≡ done) where
    pub all_passed : done ≡ in_order (plane_count g) (length_check g lengths)
    all_passed = sym ok ∙ answer_is

    known : c ≡ codes_up_to g lengths (plane_count g)
    unfolding codes_of codes_by
    known = is ∙ ap (codes_by g lengths) (sym all_passed)

    -- all needs together
    pub need_is : c.need ≡ need_of_all g lengths
    unfolding codes_up_to table_start frm.need_of_all
    need_is = ap (λ (x : Codes). x.need) known

    -- plane p
    module _ (p : ℕ) (l : p < plane_count g) where
      pub plane_four : p < 4
      plane_four = omega (arith, l, planes_most g.family)

      -- passes
      pub plane_passed : done ≡ length_check g lengths p
      plane_passed = each_passed (length_check g lengths) (plane_count g) p all_passed l

      -- its table starts here
      pub from_is : get_or c.from p 0 ≡ table_start g lengths p
      unfolding codes_up_to
      from_is = ap (λ (x : Codes). get_or x.from p 0) known ∙ per_at (plane_count g) (table_start g lengths) p plane_four l

      -- and ends here
      pub to_is : get_or c.to p 0 ≡ table_start g lengths (suc p)
      unfolding codes_up_to
      to_is = ap (λ (x : Codes). get_or x.to p 0) known ∙ per_at (plane_count g) (λ q. table_start g lengths (suc q)) p plane_four l

      -- its longest length
      pub longest_is : get_or c.longest p 0 ≡ longest (lengths_of g lengths p)
      unfolding codes_up_to
      longest_is = ap (λ (x : Codes). get_or x.longest p 0) known ∙ per_at (plane_count g) (λ q. longest (lengths_of g lengths q)) p plane_four l

      -- its shortest
      pub shortest_is : get_or c.shortest p 0 ≡ shortest (lengths_of g lengths p)
      unfolding codes_up_to
      shortest_is = ap (λ (x : Codes). get_or x.shortest p 0) known ∙ per_at (plane_count g) (λ q. shortest (lengths_of g lengths q)) p plane_four l

      -- it is at most 18
      pub shortest_small : get_or c.shortest p 0 ≤ 18
      shortest_small = omega (arith, shortest_is, shortest_most (lengths_of g lengths p), plane_short g lengths p plane_passed)

      pub shortest_byte : get_or c.shortest p 0 < 256
      shortest_byte = omega (arith, shortest_small)

      -- its stretch is as long as its need
      pub stretch_long : get_or c.to p 0 ≡ get_or c.from p 0 + plane_need g lengths p
      unfolding table_start base.sum_below
      stretch_long = to_is ∙ ap (λ (x : ℕ). x + plane_need g lengths p) (sym from_is)

      pub stretch_ahead : get_or c.from p 0 ≤ get_or c.to p 0
      stretch_ahead = omega (arith, stretch_long)

      pub stretch_size : get_or c.to p 0 - get_or c.from p 0 ≡ plane_need g lengths p
      stretch_size = omega (arith, stretch_long)

      -- it lies within as many words as all need
      pub stretch_room : (words : ℕ) → need_of_all g lengths ≤ words → get_or c.to p 0 ≤ words
      unfolding table_start frm.need_of_all
      stretch_room words h = omega (arith, stretch_long, from_is, sum_next (plane_need g lengths) p (plane_count g) l)
