-- Document 01, "Refusal numbers", 12 to 14 of a slice before any is read: each as src/lib.rt finds it, and what is known of a slice
-- that has none. Assumes nothing.
use mathlib.Core.Path.{◌≡◌, sym}
use mathlib.Core.Bool.{Bool, true, false}
use mathlib.Core.List.{List}
use Prim.Native.Nat.{ℕ, ◌+◌, ◌-◌, ◌*◌, ◌/◌, ◌≤◌, ◌<◌}
use native.Mathlib.Nat.{mul-le-mul}
use native.Mathlib.Omega.{arith}
use mir.Syntax.{w64}
use mir.Val.{Fits}
use borrow.Author.Tests.{eq-eqb, ne_eqb, lt-ltb, le-ltb, ltb-false}
use borrow.Author.Rules.{rules}
use lib.ListN.{length}
use Rattle.scope.specs.Base.{over_up}
use Rattle.scope.specs.Refusals as refusals
use Rattle.scope.specs.Refusals.{NoneApplies}
use Rattle.scope.specs.Layout.{slice_start, slice_end}
use Rattle.scope.specs.Pieces as pcs
use Rattle.scope.specs.Frame.{slice_rows}
use Rattle.scope.specs.declared.Geometry.{Geometry}
use Rattle.scope.specs.declared.Place.TheVariants.{Slice, Plane}
use Rattle.scope.specs.Answers.{Answer, done, refused}
use Rattle.scope.specs.Pieces.{slice_check}
use Rattle.scope.proofs.Table.{planes_when}
use Rattle.checks.specs.Slices as slc
use Rattle.checks.specs.Slices.{size_check, slice_rule}

-- ---- the size

module _ (samples bits : ℕ) (ls : samples ≤ 268435456) (lb : bits < 256) where
  bits_most : samples * bits ≤ 268435456 * 256
  bits_most =
      let k : bits ≤ 256 = omega arith in
      mul-le-mul ls k

  -- a slice's bits fit 64 bits
  pub bits_fit : Fits w64 (samples * bits)
  bits_fit = record { fits = omega (arith, bits_most) }

  -- and so does what is rounded
  pub rounded_fit : Fits w64 (samples * bits + 7)
  rounded_fit = record { fits = omega (arith, bits_most) }

-- too few bytes
pub size_short : (s bytes samples bits : ℕ) → bytes < (samples * bits + 7) / 8 → refused 12 (Slice s) ≡ size_check s bytes samples bits
unfolding slc.size_check
size_short s bytes samples bits h = rw (lt-ltb bytes (over_up (samples * bits) 8) h)

-- enough
pub size_enough : (s bytes samples bits : ℕ) → (samples * bits + 7) / 8 ≤ bytes → done ≡ size_check s bytes samples bits
unfolding slc.size_check
size_enough s bytes samples bits h = rw (le-ltb bytes (over_up (samples * bits) 8) h)

pub ruleset sizings = (bits_fit, rounded_fit, size_short, size_enough, rules)

-- ---- one slice: each section has one test more behind it

module _ (s plane samples start end : ℕ) (raw : Bool) (len depth b : ℕ) where
  -- 12: it ends before its start
  pub slice_12a : end < start → refused 12 (Slice s) ≡ slice_rule s plane samples start end raw len depth b
  unfolding slc.slice_rule
  slice_12a h = rw (lt-ltb end start h)

  module _ (l1 : start ≤ end) where
    -- 12: or past the frame
    pub slice_12b : len < end → refused 12 (Slice s) ≡ slice_rule s plane samples start end raw len depth b
    unfolding slc.slice_rule
    slice_12b h = rw (le-ltb end start l1, lt-ltb len end h)

    module _ (l2 : end ≤ len) where
      -- refusal 13
      pub slice_13 : end < start + 2 → refused 13 (Slice s) ≡ slice_rule s plane samples start end raw len depth b
      unfolding slc.slice_rule
      slice_13 h = rw (le-ltb end start l1, le-ltb len end l2, lt-ltb end (start + 2) h)

      module _ (l3 : start + 2 ≤ end) where
        -- a raw slice: its size at the depth
        pub slice_raw : (r : Answer) → raw ≡ true → r ≡ size_check s (end - (start + 2)) samples depth → r ≡ slice_rule s plane samples start end raw len depth b
        unfolding slc.slice_rule
        slice_raw r h e = rw (le-ltb end start l1, le-ltb len end l2, le-ltb end (start + 2) l3, h) e

        module _ (coded : raw ≡ false) where
          -- 14: coded, and its plane has no word
          pub slice_14 : b ≡ 0 → refused 14 (Plane plane) ≡ slice_rule s plane samples start end raw len depth b
          unfolding slc.slice_rule
          slice_14 z = rw (le-ltb end start l1, le-ltb len end l2, le-ltb end (start + 2) l3, coded, eq-eqb b 0 z)

          -- a coded slice: its size at the shortest word
          pub slice_coded : (r : Answer) → (b ≡ 0 → ⊥) → r ≡ size_check s (end - (start + 2)) samples b → r ≡ slice_rule s plane samples start end raw len depth b
          unfolding slc.slice_rule
          slice_coded r z e = rw (le-ltb end start l1, le-ltb len end l2, le-ltb end (start + 2) l3, coded, ne_eqb b 0 z) e

pub ruleset slicings = (slice_12a, slice_12b, slice_13, slice_raw, slice_14, slice_coded, rules)

-- ---- a slice that passed

module _ (frame : List ℕ) (g : Geometry) (lengths : List ℕ) (s : ℕ) (h : done ≡ slice_check frame g lengths s) where
  -- none of its five rows applies
  pub slice_none : NoneApplies (slice_rows frame g lengths s)
  unfolding pcs.slice_check
  slice_none = (planes_when (slice_rows frame g lengths s)).0 (sym h)

  -- it ends within the frame
  pub slice_in : slice_end frame g s ≤ length frame
  unfolding refusals.NoneApplies
  slice_in = ltb-false _ _ slice_none.1.0

  -- it has its two bytes of prefix
  pub prefix_in : slice_start frame g s + 2 ≤ slice_end frame g s
  unfolding refusals.NoneApplies
  prefix_in = ltb-false _ _ slice_none.1.1.0
