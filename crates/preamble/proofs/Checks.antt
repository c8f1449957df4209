-- Document 01, "Refusal numbers", 5 to 8: each as src/lib.rt finds it, and what is known once there is none. Assumes nothing.
use mathlib.Core.Path.{◌≡◌, sym, ◌∙◌}
use mathlib.Core.Bool.{true, false, not}
use mathlib.Core.List.{List}
use Prim.Native.Nat.{ℕ, ◌+◌, ◌*◌, ◌≤◌, ◌<◌}
use native.Mathlib.Omega.{arith}
use borrow.Author.Tests.{eq-eqb, ne_eqb, lt-ltb, le-ltb, ltb-false}
use borrow.Author.Rules.{rules}
use lib.Dec.{eqb, ltb}
use lib.ListN.{length}
use Rattle.scope.specs.Refusals.{refuse_if}
use Rattle.scope.specs.Geometry.{plane_count, slice_count}
use Rattle.scope.specs.Layout.{preamble_start, preamble_end, count_byte}
use Rattle.scope.specs.Pieces as pcs
use Rattle.preamble.specs.Layout as laid
use Rattle.preamble.specs.Layout.{layout_checks}
use Rattle.refusals.proofs.InOrder.{first_passed, then_passed, if_passed}
use Rattle.scope.specs.declared.Geometry.{Geometry}
use Rattle.scope.specs.declared.Place.TheVariants.{Nothing}
use Rattle.scope.specs.declared.Refusal.{Refusal}
use Rattle.std.specs.Prelude.{Err}
use Rattle.scope.specs.Answers.{Answer, done, refused}
use Rattle.scope.specs.Pieces.{in_order, preamble_checks, index_check}

-- ---- refusals 5 to 7, in the order of the table: each section has one test more behind it

module _ (frame : List ℕ) (g : Geometry) (t : ℕ) (et : t ≡ slice_count g) where
  start_is : 32 + 4 * (t + 1) ≡ preamble_start g
  start_is = rw et

  -- refusal 5
  pub pre_5 : length frame < 32 + 4 * (t + 1) → refused 5 Nothing ≡ preamble_checks frame g
  unfolding pcs.preamble_checks
  pre_5 h = rw (lt-ltb (length frame) (preamble_start g) (rw start_is at h))

  module _ (l5 : 32 + 4 * (t + 1) ≤ length frame) (e : ℕ) (ee : e ≡ preamble_end frame) where
    not_5 : ltb (length frame) (preamble_start g) ≡ false
    not_5 = le-ltb (length frame) (preamble_start g) (rw start_is at l5)

    -- 6: the preamble ends before it starts
    pub pre_6a : e < 32 + 4 * (t + 1) → refused 6 Nothing ≡ preamble_checks frame g
    unfolding pcs.preamble_checks
    pre_6a h = rw (not_5, ← ee, lt-ltb (e) (preamble_start g) (rw start_is at h))

    module _ (l6 : 32 + 4 * (t + 1) ≤ e) where
      not_6a : ltb (e) (preamble_start g) ≡ false
      not_6a = le-ltb (e) (preamble_start g) (rw start_is at l6)

      -- 6: or past the frame
      pub pre_6b : length frame < e → refused 6 Nothing ≡ preamble_checks frame g
      unfolding pcs.preamble_checks
      pre_6b h = rw (not_5, ← ee, not_6a, lt-ltb (length frame) (e) h)

      module _ (l6b : e ≤ length frame) where
        not_6b : ltb (length frame) (e) ≡ false
        not_6b = le-ltb (length frame) (e) l6b

        -- 6: or is empty
        pub pre_6c : e ≡ 32 + 4 * (t + 1) → refused 6 Nothing ≡ preamble_checks frame g
        unfolding pcs.preamble_checks
        pre_6c h = rw (not_5, ← ee, not_6a, not_6b, eq-eqb (e) (preamble_start g) (h ∙ start_is))

        module _ (n6 : e ≡ 32 + 4 * (t + 1) → ⊥) (b planes : ℕ) (eb : b ≡ count_byte frame g) (ep : planes ≡ plane_count g) where
          not_6c : eqb (e) (preamble_start g) ≡ false
          not_6c = ne_eqb (e) (preamble_start g) (λ z. n6 (z ∙ sym start_is))

          -- refusal 7
          pub pre_7 : (b ≡ planes → ⊥) → refused 7 Nothing ≡ preamble_checks frame g
          unfolding pcs.preamble_checks
          pre_7 h = rw (not_5, ← ee, not_6a, not_6b, not_6c, ← eb, ne_eqb b (plane_count g) (λ z. h (z ∙ sym ep)))

          module _ (e7 : b ≡ planes) where
            not_7 : eqb b (plane_count g) ≡ true
            not_7 = eq-eqb b (plane_count g) (e7 ∙ ep)

            -- 6: it lacks indices
            pub pre_6d : e < 32 + 4 * (t + 1) + 1 + t → refused 6 Nothing ≡ preamble_checks frame g
            unfolding pcs.preamble_checks
            pre_6d h =
                rw (not_5, ← ee, not_6a, not_6b, not_6c, ← eb, not_7, lt-ltb (e) (preamble_start g + 1 + slice_count g) (rw et at h))

            -- none of them
            pub pre_0 : 32 + 4 * (t + 1) + 1 + t ≤ e → done ≡ preamble_checks frame g
            unfolding pcs.preamble_checks
            pre_0 h =
                rw (not_5, ← ee, not_6a, not_6b, not_6c, ← eb, not_7, le-ltb (e) (preamble_start g + 1 + slice_count g) (rw et at h))

pub ruleset preamble = (pre_5, pre_6a, pre_6b, pre_6c, pre_7, pre_6d, pre_0)

-- no refusal up to 7: the plane indices are in the frame
pub indices_in : (frame : List ℕ) (g : Geometry) → done ≡ preamble_checks frame g → preamble_start g + 1 + slice_count g ≤ length frame
unfolding pcs.preamble_checks
indices_in frame g h =
    let h1 = then_passed (refuse_if (ltb (length frame) (preamble_start g)) 5 Nothing) _ h in
    let h2 = then_passed (refuse_if (ltb (preamble_end frame) (preamble_start g)) 6 Nothing) _ h1 in
    let h3 = then_passed (refuse_if (ltb (length frame) (preamble_end frame)) 6 Nothing) _ h2 in
    let h4 = then_passed (refuse_if (eqb (preamble_end frame) (preamble_start g)) 6 Nothing) _ h3 in
    let h5 = then_passed (refuse_if (not (eqb (count_byte frame g) (plane_count g))) 7 Nothing) _ h4 in
    let a : preamble_end frame ≤ length frame = ltb-false _ _ (if_passed _ 6 Nothing (first_passed (refuse_if (ltb (length frame) (preamble_end frame)) 6 Nothing) _ h2)) in
    let b : preamble_start g + 1 + slice_count g ≤ preamble_end frame = ltb-false _ _ (if_passed _ 6 Nothing h5) in
    omega (arith, a, b)

-- ---- 5 to 8 together

module _ (frame : List ℕ) (g : Geometry) where
  -- a refusal up to 7 is the answer
  pub layout_early : (a : Answer) (why : Refusal) → a ≡ preamble_checks frame g → a ≡ Err why → Err why ≡ layout_checks frame g
  unfolding laid.layout_checks
  layout_early a why e h = rw (← e, h)

  -- else the indices' answer is
  pub layout_late : (a b : Answer) → a ≡ preamble_checks frame g → a ≡ done → b ≡ in_order (slice_count g) (index_check frame g) → b ≡ layout_checks frame g
  unfolding laid.layout_checks
  layout_late a b e h k = rw (← e, h) k

  -- and these are then in the frame
  pub indices_told : (a : Answer) → a ≡ preamble_checks frame g → a ≡ done → preamble_start g + 1 + slice_count g ≤ length frame
  indices_told a e h = indices_in frame g (sym h ∙ e)

  -- each slice names a plane that has room for it
  pub layout_order : done ≡ layout_checks frame g → done ≡ in_order (slice_count g) (index_check frame g)
  unfolding laid.layout_checks
  layout_order e = then_passed (preamble_checks frame g) _ e

pub ruleset layouts = (layout_early, layout_late, indices_told, rules)
