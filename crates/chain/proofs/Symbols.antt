-- A symbol out of a table: above the low byte of a word of 32 bits (document 01, "Words and lookup"), so that it goes into 32 bits again
-- before a sample is made of it. Assumes nothing.
use mathlib.Core.Path.{◌≡◌, sym, ap, ◌∙◌}
use Prim.Native.Nat.{ℕ, ◌+◌, ◌/◌, ◌%◌, ◌^◌, ◌<◌}
use native.Mathlib.Omega.{arith}
use mathlib.Core.Bool.{Bool, true, false}
use mathlib.Core.List.{List}
use lib.ListN.{get_or}
use lib.Dec.{eqb, ltb, leb}
use mir.Syntax.{w32}
use mir.Val.{Fits}
use Rattle.std.specs.Prelude.{cond}
use Rattle.scope.specs.Bits.{window}
use Rattle.scope.specs.Lookup.{unpacked, lookup_in}
use Rattle.scope.specs.declared.Word.{Word}
use Rattle.scope.specs.Found.{some_word}
use Rattle.std.specs.Prelude.{None, Some}
use Rattle.reader.specs.Stepping.{step_from}
use Rattle.reader.specs.Stepping.{Stepped}
use Rattle.reader.specs.declared.Passed.{Passed}
use Rattle.reader.proofs.Stepping.{Taken, past_taken}

-- what a word below 2^32 says
small : (e l s : ℕ) → e < 2 ^ 32 → unpacked e ≡ some_word l s → s < 2 ^ 32
unfolding unpacked
small e l s h f = go (eqb (e % 256) 0) f
  where
    go : (b : Bool) → cond b None (some_word (e % 256) (e / 256)) ≡ some_word l s → s < 2 ^ 32
    go true g = absurd (cc)
    go false g =
        let d : ◌≡◌ {A = Word} (record { length = e % 256; symbol = e / 256 }) (record { length = l; symbol = s }) = cc in
        let y : e / 256 ≡ s = ap (λ (x : Word). x.symbol) d in
        omega arith

-- and what the lookup finds, in words that are below it
module _ (words : List ℕ) (fit : (i : ℕ) → Fits w32 (get_or words i 0)) (m : ℕ) (payload : List ℕ) (at l s : ℕ) where
  found_small : lookup_in words m payload at ≡ some_word l s → s < 2 ^ 32
  unfolding lookup_in
  found_small f = go (ltb 18 m) (eqb m 0) (leb m 12) (eqb (get_or words (window payload at 12) 0 % 256) 255) f
    where
      go : (a b c d : Bool)
          → cond a None
          (cond b None
          (cond c (unpacked (get_or words (window payload at m) 0))
          (cond d (unpacked (get_or words (4096 + window payload at m) 0))
          (unpacked (get_or words (window payload at 12) 0)))))
          ≡ some_word l s → s < 2 ^ 32
      go true b c d g = absurd (cc)
      go false true c d g = absurd (cc)
      go false false true d g = small (get_or words (window payload at m) 0) l s (fit _).fits g
      go false false false true g = small (get_or words (4096 + window payload at m) 0) l s (fit _).fits g
      go false false false false g = small (get_or words (window payload at 12) 0) l s (fit _).fits g

-- so the symbol of a step fits
pub symbol_fits : (words : List ℕ) → ((i : ℕ) → Fits w32 (get_or words i 0)) → (m : ℕ) (payload : List ℕ) (at : ℕ) (o : Stepped) (v : Passed)
    → o ≡ step_from (lookup_in words m payload at) at → o ≡ Some v → Fits w32 v.symbol
symbol_fits words fit m payload at o v e f =
    let t : Taken (lookup_in words m payload at) at v.symbol v.end = past_taken (lookup_in words m payload at) at v.symbol v.end (sym f ∙ e) in
    record { fits = found_small words fit m payload at t.bits v.symbol t.word }
