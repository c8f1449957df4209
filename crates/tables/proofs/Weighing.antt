-- The loop that weighs one plane's lengths after another, and the codes so far (document 01, "Refusals 9 and 10 go plane by plane, 9
-- first in each"). Assumes nothing.
use mathlib.Core.Path.{◌≡◌, refl, sym, ap, ◌∙◌}
use mathlib.Core.List.{List}
use Prim.Native.Nat.{ℕ, suc, ◌+◌, ◌-◌, ◌*◌, ◌^◌, ◌≤◌, ◌<◌}
use native.Mathlib.Nat.{suc-mul}
use native.Mathlib.Numerals.{add-one}
use native.Mathlib.Omega.{arith}
use lib.ListN.{take, drop}
use Rattle.scope.specs.Base as base
use Rattle.scope.specs.Base.{sum_below}
use Rattle.scope.specs.Geometry.{plane_count, lengths_of}
use Rattle.scope.specs.Words.{longest, shortest}
use Rattle.scope.specs.declared.Geometry.{Geometry}
use Rattle.scope.specs.Answers.{Answer, done, refused}
use Rattle.scope.specs.Pieces.{in_order, length_check}
use Rattle.words.specs.Weigh.{weighed, weighed_answer}
use Rattle.std.specs.Prelude.{Result, Ok, Err}
use Rattle.scope.specs.declared.Refusal.{Refusal}
use Rattle.words.specs.declared.Code.{Code}
use Rattle.words.proofs.Weighing.{code_passes, code_longest, code_shortest, code_need, weighed_check}
use Rattle.geometry.proofs.Places.{planes_most}
use Rattle.geometry.proofs.Lengths.{part_is}
use Rattle.refusals.proofs.InOrder.{none_yet, one_passed, one_refused}
use Rattle.tables.specs.Tables.{plane_need, table_start}
use Rattle.tables.specs.Codes.{no_codes, with_code, codes_up_to, codes_by, codes_of}
use Rattle.tables.specs.declared.Codes.{Codes}
use Rattle.tables.proofs.Arrays.{per_start, per_more}

-- ---- one plane's lengths

-- weighing the part that is plane p's lengths
pub weighed-part : (g : Geometry) (lengths : List ℕ) (p n : ℕ) (w : Result Code Refusal) → n ≡ 2 ^ g.depth
    → w ≡ weighed (take (p * n + n - p * n) (drop (p * n) lengths)) p → w ≡ weighed (lengths_of g lengths p) p
weighed-part g lengths p n w en e = e ∙ ap (λ (l : List ℕ). weighed l p) (part_is g lengths p n en)

-- ---- codes that agree in every field

codes_same : (a b : Codes) → a.answer ≡ b.answer → a.from ≡ b.from → a.to ≡ b.to → a.longest ≡ b.longest → a.shortest ≡ b.shortest
    → a.need ≡ b.need → a ≡ b
codes_same a b ea ef et el es en =
    ap (λ (x : Answer). record { answer = x; from = a.from; to = a.to; longest = a.longest; shortest = a.shortest; need = a.need }) ea
    ∙ ap (λ (x : List ℕ). record { answer = b.answer; from = x; to = a.to; longest = a.longest; shortest = a.shortest; need = a.need }) ef
    ∙ ap (λ (x : List ℕ). record { answer = b.answer; from = b.from; to = x; longest = a.longest; shortest = a.shortest; need = a.need }) et
    ∙ ap (λ (x : List ℕ). record { answer = b.answer; from = b.from; to = b.to; longest = x; shortest = a.shortest; need = a.need }) el
    ∙ ap (λ (x : List ℕ). record { answer = b.answer; from = b.from; to = b.to; longest = b.longest; shortest = x; need = a.need }) es
    ∙ ap (λ (x : ℕ). record { answer = b.answer; from = b.from; to = b.to; longest = b.longest; shortest = b.shortest; need = x }) en

-- no plane yet
codes_none : (g : Geometry) (lengths : List ℕ) → no_codes done ≡ codes_up_to g lengths 0
unfolding no_codes codes_up_to table_start base.sum_below
codes_none g lengths = codes_same (no_codes done) (codes_up_to g lengths 0) refl (per_start _) (per_start _) (per_start _) (per_start _) refl

-- one plane more
codes_more : (g : Geometry) (lengths : List ℕ) (p m s n : ℕ) → p < 4 → m ≡ longest (lengths_of g lengths p) → s ≡ shortest (lengths_of g lengths p)
    → n ≡ plane_need g lengths p → with_code (codes_up_to g lengths p) p m s n ≡ codes_up_to g lengths (suc p)
unfolding with_code codes_up_to table_start base.sum_below
codes_more g lengths p m s n l em es en =
    let e : table_start g lengths p + n ≡ table_start g lengths (suc p) = ap (λ (x : ℕ). table_start g lengths p + x) en in
    codes_same (with_code (codes_up_to g lengths p) p m s n) (codes_up_to g lengths (suc p)) refl
    (per_more (table_start g lengths) p (table_start g lengths p) l refl)
    (per_more (λ q. table_start g lengths (suc q)) p (table_start g lengths p + n) l e)
    (per_more (λ q. longest (lengths_of g lengths q)) p m l em)
    (per_more (λ q. shortest (lengths_of g lengths q)) p s l es) e

-- ---- the loop

-- the planes before p pass, and c is their codes
pub record CodesBefore (g : Geometry) (lengths : List ℕ) (c : Codes) (planes p : ℕ) : Type 0 where
  pub codes : c ≡ codes_up_to g lengths p
  pub passed : done ≡ in_order p (length_check g lengths)
  pub bounded : table_start g lengths p ≤ p * 266240
  pub planes_are : planes ≡ plane_count g
  pub within : p ≤ planes

module _ (g : Geometry) (lengths : List ℕ) where
  -- before the first plane
  pub before_first : (c : Codes) (planes : ℕ) → planes ≡ plane_count g → c ≡ no_codes done → CodesBefore g lengths c planes 0
  unfolding table_start base.sum_below
  before_first c planes ep e = record {
    codes = e ∙ codes_none g lengths;
    passed = none_yet (length_check g lengths);
    bounded = omega arith;
    planes_are = ep;
    within = omega arith;
  }

  module _ (c : Codes) (planes p : ℕ) (b : CodesBefore g lengths c planes p) where
    -- after the last
    pub before_end : planes ≤ p → c ≡ codes_of g lengths
    unfolding codes_of codes_by
    before_end h =
        let e : p ≡ plane_count g = omega (arith, b.within, b.planes_are) in
        let d : in_order (plane_count g) (length_check g lengths) ≡ done = ap (λ (k : ℕ). in_order k (length_check g lengths)) (sym e) ∙ sym b.passed in
        b.codes ∙ ap (codes_up_to g lengths) e ∙ sym (ap (codes_by g lengths) d)

    module _ (l : p < planes) where
      -- p is a plane
      pub before_plane : p < plane_count g
      before_plane = omega (arith, b.planes_are)

      pub before_four : p < 4
      before_four = omega (arith, before_plane, planes_most g.family)

      -- the needs so far are small
      pub before_need : c.need ≤ 1064960
      unfolding codes_up_to
      before_need =
          let e : c.need ≡ table_start g lengths p = ap (λ (x : Codes). x.need) b.codes in
          omega (arith, e, b.bounded, before_four)

      module _ (w : Result Code Refusal) (is : w ≡ weighed (lengths_of g lengths p) p) where
        -- the plane is refused
        pub before_refused : (why : Refusal) → w ≡ Err why → (r : Codes) → r ≡ no_codes (Err why) → r ≡ codes_of g lengths
        unfolding codes_of codes_by
        before_refused why e r er =
            let a : refused why.0 why.1 ≡ length_check g lengths p = ap weighed_answer (sym e ∙ is) ∙ weighed_check g lengths p in
            let d : refused why.0 why.1 ≡ in_order (plane_count g) (length_check g lengths) =
            one_refused (length_check g lengths) (plane_count g) p why.0 why.1 before_plane b.passed a in
            er ∙ ap (codes_by g lengths) d

        -- it passes
        module _ (k : Code) (e : w ≡ Ok k) where
          code : weighed (lengths_of g lengths p) p ≡ Ok k
          code = sym is ∙ e

          need_is : k.need ≡ plane_need g lengths p
          need_is = code_need (lengths_of g lengths p) p k code

          pub before_small : k.need ≤ 266240
          before_small = omega (arith, need_is, (code_passes (lengths_of g lengths p) p k code).bounded)

          pub before_next : (c' : Codes) → c' ≡ with_code c p k.longest k.shortest k.need → CodesBefore g lengths c' planes (p + 1)
          unfolding table_start base.sum_below
          before_next c' ec = record {
            codes = rw (add-one p) (ec ∙ ap (λ (x : Codes). with_code x p k.longest k.shortest k.need) b.codes
                ∙ codes_more g lengths p k.longest k.shortest k.need before_four (code_longest (lengths_of g lengths p) p k code)
                (code_shortest (lengths_of g lengths p) p k code) need_is);
            passed = one_passed (length_check g lengths) p b.passed (ap weighed_answer (sym code) ∙ weighed_check g lengths p);
            bounded = rw (add-one p) (omega (arith, b.bounded, before_small, need_is, suc-mul p 266240));
            planes_are = b.planes_are;
            within = omega arith;
          }
