-- The loop that places the symbols' words, one pass over the lengths (document 01, "Words and lookup": "given to symbols in ascending
-- order"). Assumes nothing.
use mathlib.Core.Path.{◌≡◌, sym, ap, ap₂, ◌∙◌, subst₂}
use Prim.Native.Nat.{ℕ, suc, ◌+◌, ◌-◌, ◌*◌, ◌/◌, ◌%◌, ◌^◌, ◌≤◌, ◌<◌, min}
use native.Mathlib.Nat.{zero-add, mul-le-mul_left}
use native.Mathlib.Numerals.{add-one}
use native.Mathlib.Decide.{ℕ_discrete, dec_le, dec_lt}
use native.Mathlib.Omega.{arith}
use mathlib.Core.List.{List}
use mir.Syntax.{w32}
use mir.Val.{Fits}
use lib.Dec.{eqb}
use lib.Pow.{pow_pos}
use lib.ListN.{length, take, get_or, set, length-set}
use lib.Seq.{set-get_or, get_or-set_same, get_or-set_other}
use Rattle.scope.specs.Base.{one, count}
use Rattle.scope.specs.Words.{longest, length_of, word_of, first, heads}
use Rattle.scope.specs.Lookup.{packed, word_in}
use Rattle.codes.proofs.Longest.{at_most_longest}
use Rattle.lists.proofs.Counts.{count_next, one_same, one_other}
use Rattle.lists.proofs.Powers.{shl_one}
use Rattle.codes.proofs.Table.{slot_hit, slot_miss}
use Rattle.words.specs.Weigh.{firsts_of}
use Rattle.words.proofs.Walking.{firsts_at, firsts_length}
use Rattle.builder.specs.Slots.{slot_bits, slot_base, StretchWritten, WordSlots, SymbolAsked, SymbolPut, Buildable, Slotted, WordsPlaced}
use Rattle.builder.proofs.Filling.{bits_first, base_first, bits_second, base_second}
use Rattle.builder.proofs.Rows.{row_of, of_row, first_room, second_room, short_row, row, apart}

-- ---- what `put` computes

module _ (m l s w n : ℕ) (r : WordSlots m l s w n) (k b : ℕ) (ek : k ≡ slot_bits m l) (eb : b ≡ slot_base l) where
  -- how many slots begin with the word
  size_is : 1 * 2 ^ (k - l) % 2 ^ 64 ≡ 2 ^ (slot_bits m l - l)
  size_is = shl_one 64 (k - l) (omega (arith, r.small)) ∙ ap (λ (x : ℕ). 2 ^ (x - l)) ek

  -- where they begin
  from_is : b + w * (1 * 2 ^ (k - l) % 2 ^ 64) ≡ slot_base l + w * 2 ^ (slot_bits m l - l)
  from_is = ap₂ (λ (x y : ℕ). x + w * y) eb size_is

  -- they lie within the part that is lent
  pub put_room : b + w * (1 * 2 ^ (k - l) % 2 ^ 64) + 1 * 2 ^ (k - l) % 2 ^ 64 ≤ n
  put_room = rw (from_is, size_is) r.inside

  -- what is written
  pub put_written : (ws ws' : List ℕ)
      → StretchWritten ws (b + w * (1 * 2 ^ (k - l) % 2 ^ 64)) (1 * 2 ^ (k - l) % 2 ^ 64) (s * 256 + l) ws'
      → StretchWritten ws (slot_base l + w * 2 ^ (slot_bits m l - l)) (2 ^ (slot_bits m l - l)) (s * 256 + l) ws'
  put_written ws ws' f = subst₂ (λ (x y : ℕ). StretchWritten ws x y (s * 256 + l) ws') from_is size_is f

-- ---- one part of the table: n slots of k bits, from `base` on

abbrev Part : List ℕ → ℕ → ℕ → ℕ → List ℕ → ℕ → Type 0
Part ls k base n ws s = (i : ℕ) → i < n → get_or ws (base + i) 0 ≡ packed (word_in ls k i s)

-- symbol s's row is written in it
hits : (ls : List ℕ) (k base n : ℕ) (ws ws' : List ℕ) (s : ℕ) → 0 < length_of ls s → length_of ls s ≤ k
    → StretchWritten ws (base + word_of ls s * 2 ^ (k - length_of ls s)) (2 ^ (k - length_of ls s)) (s * 256 + length_of ls s) ws'
    → Part ls k base n ws s → Part ls k base n ws' (suc s)
unfolding packed
hits ls k base n ws ws' s z g f p i a = go (dec_le from i) (dec_lt i (from + size))
  where
    size : ℕ
    size = 2 ^ (k - length_of ls s)

    from : ℕ
    from = word_of ls s * 2 ^ (k - length_of ls s)

    go : Dec (from ≤ i) → Dec (i < from + size) → get_or ws' (base + i) 0 ≡ packed (word_in ls k i (suc s))
    go (yes lo) (yes hi) =
        f.inside (base + i) (omega arith) (omega arith)
        ∙ sym (ap packed (slot_hit ls k i s z g (row_of (word_of ls s) i (k - length_of ls s) lo hi)))
    go (no lo) d =
        f.before (base + i) (omega arith) ∙ p i a
        ∙ sym (ap packed (slot_miss ls k i s (λ _ _ e. lo (of_row (word_of ls s) i (k - length_of ls s) e).0)))
    go (yes lo) (no hi) =
        f.behind (base + i) (omega arith) ∙ p i a
        ∙ sym (ap packed (slot_miss ls k i s (λ _ _ e. hi (of_row (word_of ls s) i (k - length_of ls s) e).1)))

-- no slot of it begins with symbol s's word, and none of it is written
misses : (ls : List ℕ) (k base n : ℕ) (ws ws' : List ℕ) (s : ℕ) → ((i : ℕ) → i < n → get_or ws' (base + i) 0 ≡ get_or ws (base + i) 0)
    → ((i : ℕ) → i < n → length_of ls s ≤ k → 0 < length_of ls s → i / 2 ^ (k - length_of ls s) ≡ word_of ls s → ⊥)
    → Part ls k base n ws s → Part ls k base n ws' (suc s)
misses ls k base n ws ws' s same o p i a = same i a ∙ p i a ∙ sym (ap packed (slot_miss ls k i s (o i a)))

-- the first part begins at 0
to_part : (ls : List ℕ) (k n : ℕ) (ws : List ℕ) (s : ℕ) → ((i : ℕ) → i < n → get_or ws i 0 ≡ packed (word_in ls k i s)) → Part ls k 0 n ws s
to_part ls k n ws s p i a = ap (λ (x : ℕ). get_or ws x 0) (zero-add i) ∙ p i a

of_part : (ls : List ℕ) (k n : ℕ) (ws : List ℕ) (s : ℕ) → Part ls k 0 n ws s → (i : ℕ) → i < n → get_or ws i 0 ≡ packed (word_in ls k i s)
of_part ls k n ws s p i a = ap (λ (x : ℕ). get_or ws x 0) (sym (zero-add i)) ∙ p i a

-- ---- one symbol after the other

-- before the first symbol every slot is 0
pub placed_start : (ls : List ℕ) (m : ℕ) (old ws next : List ℕ) → Buildable ls m (length old) → next ≡ firsts_of ls → length ws ≡ length old
    → StretchWritten old 0 (length old) 0 ws → WordsPlaced ls m ws next 0
unfolding packed word_in count
placed_start ls m old ws next ok e l f = record {
  ready = rw l ok;
  within = omega arith;
  many = ap length e ∙ firsts_length ls;
  words = λ l h g. ap (λ (x : List ℕ). get_or x l 0) e ∙ omega (arith, firsts_at ls l h g);
  slotted = record {
    first = λ i h. f.inside i (omega arith) (omega (arith, first_room ls m (length old) ok));
    second = λ q i h. f.inside (4096 + i) (omega arith) (omega (arith, second_room ls m (length old) ok q));
  };
}

module _ (ls : List ℕ) (m : ℕ) (ws next : List ℕ) (s : ℕ) (p : WordsPlaced ls m ws next s) (in-ls : s < length ls) where
  -- no length is above 18
  length_small : length_of ls s ≤ 18
  length_small = omega (arith, at_most_longest ls s, p.ready.small)

  -- and has a place among the next words
  pub length_below : length_of ls s < 19
  length_below = omega (arith, length_small)

  -- a symbol with no word
  pub placed_skip : length_of ls s ≡ 0 → WordsPlaced ls m ws next (s + 1)
  placed_skip o = record {
    ready = p.ready;
    within = omega arith;
    many = p.many;
    words = λ l h g. p.words l h g ∙ omega (arith, same l h);
    slotted = rw (add-one s) (record {
      first = λ i a. p.slotted.first i a ∙ sym (ap packed (slot_miss ls (min (longest ls) 12) i s (λ _ z _. omega arith)));
      second = λ q i a. p.slotted.second q i a ∙ sym (ap packed (slot_miss ls (longest ls) i s (λ _ z _. omega arith)));
    });
  }
    where
      same : (l : ℕ) → 0 < l → count l (take (s + 1) ls) ≡ count l (take s ls)
      same l h = rw (add-one s, count_next ls s l in-ls) (omega (arith, one_other (length_of ls s) l (λ (e : length_of ls s ≡ l). omega arith)))

  module _ (some : length_of ls s ≡ 0 → ⊥) where
    z : 0 < length_of ls s
    z = omega (arith, some)

    -- the next word of its length is the symbol's
    word_is : get_or next (length_of ls s) 0 ≡ word_of ls s
    unfolding word_of
    word_is = p.words (length_of ls s) z length_small

    -- `put` may write it
    pub placed_row : WordSlots m (length_of ls s) s (get_or next (length_of ls s) 0) (length ws)
    placed_row = row ls m (length ws) p.ready s in-ls z (get_or next (length_of ls s) 0) word_is

    -- and one more than it fits
    pub word_fits_32 : Fits w32 (get_or next (length_of ls s) 0 + 1)
    word_fits_32 =
        let r = placed_row in
        let w : ℕ = get_or next (length_of ls s) 0 in
        let q : 1 ≤ 2 ^ (slot_bits m (length_of ls s) - length_of ls s) = pow_pos (slot_bits m (length_of ls s) - length_of ls s) in
        let t : w * 1 ≤ w * 2 ^ (slot_bits m (length_of ls s) - length_of ls s) = mul-le-mul_left w q in
        record { fits = omega (arith, r.inside, r.room) }

    module _ (ws' : List ℕ)
        (f : StretchWritten ws (slot_base (length_of ls s) + get_or next (length_of ls s) 0 * 2 ^ (slot_bits m (length_of ls s) - length_of ls s)) (2 ^ (slot_bits m (length_of ls s) - length_of ls s)) (s * 256 + length_of ls s) ws') where
      -- the row in slots of k bits from `base` on
      row_in : (k base : ℕ) → slot_bits m (length_of ls s) ≡ k → slot_base (length_of ls s) ≡ base
          → StretchWritten ws (base + word_of ls s * 2 ^ (k - length_of ls s)) (2 ^ (k - length_of ls s)) (s * 256 + length_of ls s) ws'
      row_in k base ek eb =
          subst₂ (λ (x y : ℕ). StretchWritten ws x y (s * 256 + length_of ls s) ws')
          (ap₂ (λ (x y : ℕ). x + get_or next (length_of ls s) 0 * 2 ^ (y - length_of ls s)) eb ek
          ∙ ap (λ (x : ℕ). base + x * 2 ^ (k - length_of ls s)) word_is)
          (ap (λ (y : ℕ). 2 ^ (y - length_of ls s)) ek) f

      short_put : length_of ls s ≤ 12 → Slotted ls ws' (suc s)
      short_put h =
          let k : ℕ = min (longest ls) 12 in
          let g = row_in k 0 (bits_first m (length_of ls s) h ∙ ap (λ (x : ℕ). min x 12) p.ready.is) (base_first (length_of ls s) h) in
          record {
            first = of_part ls k (2 ^ k) ws' (suc s)
                (hits ls k 0 (2 ^ k) ws ws' s z (omega (arith, at_most_longest ls s)) g (to_part ls k (2 ^ k) ws s p.slotted.first));
            second = λ q.
                misses ls (longest ls) 4096 (heads ls * 2 ^ (longest ls - 12)) ws ws' s
                (λ i a. g.behind (4096 + i) (early i q)) (λ i a _ _. apart ls m (length ws) p.ready q s i a z h) (p.slotted.second q);
          }
        where
          early : (i : ℕ) → 12 < longest ls
              → 0 + word_of ls s * 2 ^ (min (longest ls) 12 - length_of ls s) + 2 ^ (min (longest ls) 12 - length_of ls s) ≤ 4096 + i
          early i q =
              let e : min (longest ls) 12 ≡ 12 = omega arith in
              let b : 2 ^ min (longest ls) 12 ≡ 4096 = ap (λ (x : ℕ). 2 ^ x) e in
              omega (arith, short_row ls m (length ws) p.ready s in-ls z h, b)

      long_put : 12 < length_of ls s → Slotted ls ws' (suc s)
      long_put h =
          let g = row_in (longest ls) 4096 (bits_second m (length_of ls s) h ∙ p.ready.is) (base_second (length_of ls s) h) in
          record {
            first = of_part ls (min (longest ls) 12) (2 ^ min (longest ls) 12) ws' (suc s)
                (misses ls (min (longest ls) 12) 0 (2 ^ min (longest ls) 12) ws ws' s
                (λ i a. g.before (0 + i) (omega (arith, short i a))) (λ i a b _ _. omega (arith, b))
                (to_part ls (min (longest ls) 12) (2 ^ min (longest ls) 12) ws s p.slotted.first));
            second = λ q.
                hits ls (longest ls) 4096 (heads ls * 2 ^ (longest ls - 12)) ws ws' s z (at_most_longest ls s) g (p.slotted.second q);
          }
        where
          short : (i : ℕ) → i < 2 ^ min (longest ls) 12 → i < 4096
          short i a =
              let e : min (longest ls) 12 ≡ 12 = omega (arith, at_most_longest ls s) in
              let b : 2 ^ min (longest ls) 12 ≡ 4096 = ap (λ (x : ℕ). 2 ^ x) e in
              omega arith

      -- its row is written, and the next word of its length is one more
      pub placed_put : length ws' ≡ length ws → WordsPlaced ls m ws' (set next (length_of ls s) (get_or next (length_of ls s) 0 + 1)) (s + 1)
      placed_put len = record {
        ready = rw len p.ready;
        within = omega arith;
        many = simp length-set p.many;
        words = λ l a c. rw (add-one s, count_next ls s l in-ls) (words l a c (ℕ_discrete l (length_of ls s)));
        slotted = rw (add-one s) (either (dec_le (length_of ls s) 12));
      }
        where
          either : Dec (length_of ls s ≤ 12) → Slotted ls ws' (suc s)
          either (yes h) = short_put h
          either (no h) = long_put (omega (arith, h))

          words : (l : ℕ) → 0 < l → l ≤ 18 → Dec (l ≡ length_of ls s)
              → get_or (set next (length_of ls s) (get_or next (length_of ls s) 0 + 1)) l 0 ≡ first ls l + (count l (take s ls) + one (eqb (length_of ls s) l))
          words l a c (yes e) =
              rw (e, get_or-set_same next (length_of ls s) (get_or next (length_of ls s) 0 + 1) 0 (omega (arith, p.many, length_small)), one_same (length_of ls s), p.words (length_of ls s) z length_small) (omega arith)
          words l a c (no e) =
              get_or-set_other next (length_of ls s) l (get_or next (length_of ls s) 0 + 1) 0 e
              ∙ omega (arith, p.words l a c, one_other (length_of ls s) l (λ (q : length_of ls s ≡ l). e (sym q)))

-- ---- a turn of `place`

module _ (ls : List ℕ) (m : ℕ) (ws next : List ℕ) (s : ℕ) (p : WordsPlaced ls m ws next s) (in-ls : s < length ls) where
  pub symbol_asked : SymbolAsked m (length_of ls s) s (get_or next (length_of ls s) 0) (length ws)
  symbol_asked = record {
    slots = λ z. placed_row ls m ws next s p in-ls z;
    more = λ z. (word_fits_32 ls m ws next s p in-ls z).fits;
  }

  pub placed_step : (r : ℕ) (ws' : List ℕ) → SymbolPut m (length_of ls s) s (get_or next (length_of ls s) 0) ws r ws' → length ws' ≡ length ws → WordsPlaced ls m ws' (set next (length_of ls s) r) (s + 1)
  placed_step r ws' f len = go (ℕ_discrete (length_of ls s) 0)
    where
      go : Dec (length_of ls s ≡ 0) → WordsPlaced ls m ws' (set next (length_of ls s) r) (s + 1)
      go (yes e) =
          let same : set next (length_of ls s) r ≡ next = ap (set next (length_of ls s)) (f.none e).0 ∙ set-get_or next (length_of ls s) 0 in
          rw (same, (f.none e).1) (placed_skip ls m ws next s p in-ls e)
      go (no z) = rw (f.next z) (placed_put ls m ws next s p in-ls z ws' (f.written z) len)
