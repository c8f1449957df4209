-- The loop that fills a lent slice front to back with a list that is known beforehand, one store a turn: bytes as they stand (document 01,
-- "Layout"). Assumes nothing.
use mathlib.Core.Path.{◌≡◌, refl, sym, ◌∙◌}
use Prim.Native.Nat.{ℕ, ◌+◌, ◌≤◌, ◌<◌}
use native.Mathlib.Numerals.{add-one}
use native.Mathlib.Omega.{arith}
use mathlib.Core.List.{List}
use borrow.Author.Rules.{rules}
use lib.ListN.{length, take, drop, get_or, set, length-set}
use lib.Seq.{take-suc, take-suc-set, take_all, get_or-take, get_or-drop}
use Rattle.raw.specs.Raw.{raw_from, RawIn}
use Rattle.raw.proofs.Raw.{raw_bytes, raw_inside, raw_length}

-- s holds the first i elements of ys, and has room for all
pub record Fills (ys s : List ℕ) (i : ℕ) : Type 0 where
  pub made : take i s ≡ take i ys
  pub within : i ≤ length s
  pub same : length s ≡ length ys

module _ (ys : List ℕ) where
  -- nothing is made yet
  pub fills_start : (s : List ℕ) → length s ≡ length ys → Fills ys s 0
  fills_start s e = record { made = refl; within = omega arith; same = e }

  module _ (s : List ℕ) (i : ℕ) (d : Fills ys s i) where
    -- one element more
    pub fills_step : (v : ℕ) → i < length s → v ≡ get_or ys i 0 → Fills ys (set s i v) (i + 1)
    fills_step v h e =
        let l : i < length ys = omega arith in
        record {
          made = rw (add-one, take-suc-set, take-suc ys i 0 l, d.made, e);
          within = simp length-set (omega arith);
          same = simp length-set d.same;
        }

    -- all of them
    pub fills_end : length s ≤ i → s ≡ ys
    fills_end h =
        let l : length ys ≤ i = omega arith in
        sym (take_all i s h) ∙ d.made ∙ take_all i ys l

-- ---- bytes as they stand

module _ (depth : ℕ) (payload : List ℕ) (first : ℕ) (s₀ : List ℕ) (d : depth ≡ 8) where
  -- before the first byte
  pub copy_start : RawIn depth payload first (length s₀) → Fills (raw_from depth payload first (length s₀)) s₀ 0
  copy_start r = fills_start _ s₀ (sym (raw_length depth payload first (length s₀) r))

  -- a byte copied
  pub copy_step : (s : List ℕ) (i v : ℕ) → Fills (raw_from depth payload first (length s₀)) s i → length s ≡ length s₀ → i < length s → v ≡ get_or payload (first + i) 0 → Fills (raw_from depth payload first (length s₀)) (set s i v) (i + 1)
  copy_step s i v f k l e =
      let m : i < length s₀ = omega arith in
      fills_step _ s i f v l (e ∙ sym (rw (raw_bytes depth payload first (length s₀) d) (get_or-take (length s₀) (drop first payload) i 0 m ∙ get_or-drop first payload i 0)))

pub ruleset fills = (fills_end, raw_inside, copy_start, copy_step, rules)
