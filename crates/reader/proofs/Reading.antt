-- The loop that reads words one after the other, for every element: what is read so far is a reading that has begun (`Began` of codes), and
-- the loop may go on from where another one ended (document 01, "Words and lookup": "takes every sample from that lookup"). Assumes
-- nothing.
use mathlib.Core.Path.{◌≡◌, refl, sym, ap, ◌∙◌, subst}
use Prim.Native.Nat.{ℕ, ◌+◌, ◌*◌, ◌^◌, ◌≤◌, ◌<◌}
use native.Mathlib.Omega.{arith}
use mathlib.Core.List.{List}
use lib.ListN.{length, set, length-set}
use lib.Seq.{take_all}
use Rattle.scope.specs.Words.{Chain, symbols, stuck_at, chain_by}
use Rattle.scope.specs.Lookup.{lookup_in}
use Rattle.scope.specs.Found.{Found}
use Rattle.std.specs.Prelude.{None, Some}
use Rattle.codes.specs.Reading.{position_after, Readable, Began}
use Rattle.codes.proofs.Chains.{no_symbols}
use Rattle.codes.proofs.Reading.{position_near, began_word, began_stuck}
use Rattle.reader.specs.Reading.{reached, WordsRead}
use Rattle.reader.specs.Stepping.{behind, step_from}
use Rattle.reader.specs.Stepping.{Stepped}
use Rattle.reader.specs.declared.Passed.{Passed}
use Rattle.std.specs.Prelude.{None}
use Rattle.reader.specs.Reading.{reached_end, reached_stuck}
use Rattle.reader.proofs.Stepping.{Taken, past_taken, still_none}

-- ---- after k words of n

pub record Reads (look : ℕ → Found) (limit at n : ℕ) (out : List ℕ) (p k : ℕ) : Type 0 where
  pub long : length out ≡ n
  pub asked : Readable look limit at n
  pub began : Began look at out p k

-- where a reading has begun
pub reads_from : (look : ℕ → Found) (limit at n : ℕ) (out : List ℕ) (p k : ℕ) → length out ≡ n → Readable look limit at n
    → Began look at out p k → Reads look limit at n out p k
reads_from look limit at n out p k l ok b = record { long = l; asked = ok; began = b }

module _ (look : ℕ → Found) (limit at n : ℕ) (out : List ℕ) (p k : ℕ) (d : Reads look limit at n out p k) where
  near : p ≤ at + 18 * k
  near = rw d.began.stands (position_near look d.asked.short k at)

  -- one step
  module _ (o : Stepped) (h : k < n) (e : o ≡ step_from (look p) p) where
    inside : k < length out
    inside = omega (arith, d.long)

    module _ (v : Passed) (f : o ≡ Some v) where
      taken : Taken (look p) p v.symbol v.end
      taken = past_taken (look p) p v.symbol v.end (sym f ∙ e)

      -- one word is read
      pub reads_step : Reads look limit at n (set out k v.symbol) v.end (k + 1)
      reads_step = record {
        long = simp length-set d.long;
        asked = d.asked;
        began = subst (λ (x : ℕ). Began look at (set out k v.symbol) x (k + 1)) (sym taken.end) (began_word look at out p k d.began taken.bits v.symbol inside taken.word);
      }

      -- the symbol is below the element's limit
      pub reads_below : v.symbol < limit
      reads_below = d.asked.symbol p taken.bits v.symbol taken.word

    -- no word
    none : o ≡ None → chain_by look at n ≡ stuck_at p
    none f = began_stuck look at out p k d.began n h (still_none (look p) p (sym f ∙ e))

    -- the reading is stuck at p
    pub reads_stuck : o ≡ None → (out' : List ℕ) → WordsRead look at n (reached_stuck p) out'
    unfolding reached
    reads_stuck f out' = record {
      answer = ap (λ (c : Chain). reached c (position_after look at n)) (sym (none f));
      handed = λ ss g. absurd (no_symbols p ss (sym (none f) ∙ g));
    }

  -- all words
  last : n ≤ k → k ≡ n
  last h = omega (arith, d.long, d.began.within)

  whole : n ≤ k → chain_by look at n ≡ symbols out
  whole h = ap (chain_by look at) (sym (last h)) ∙ d.began.read ∙ ap symbols (take_all k out (omega (arith, d.long)))

  -- the reading ends at p
  pub reads_end : n ≤ k → WordsRead look at n (reached_end p) out
  unfolding reached
  reads_end h = record {
    answer = ap reached_end (d.began.stands ∙ ap (position_after look at) (last h)) ∙ ap (λ (c : Chain). reached c (position_after look at n)) (sym (whole h));
    handed = λ ss g. same ss (sym (whole h) ∙ g);
  }
    where
      same : (ss : List ℕ) → symbols out ≡ symbols ss → out ≡ ss
      same ss g = cc

  -- the next position is a number of 64 bits
  reads_near : k < n → behind (look p) p < 2 ^ 64
  reads_near h = go (look p) refl
    where
      go : (o : Found) → look p ≡ o → behind o p < 2 ^ 64
      go None f = unfold behind in omega (arith, near, d.long, d.asked.near)
      go (Some w) f = unfold behind in omega (arith, near, d.long, d.asked.near, d.asked.short p w.length w.symbol f)

-- as `next` asks it of a table
pub table_near : (table : List ℕ) (m : ℕ) (payload : List ℕ) (limit at n : ℕ) (out : List ℕ) (p k : ℕ)
    → Reads (lookup_in table m payload) limit at n out p k → k < n → behind (lookup_in table m payload p) p < 2 ^ 64
table_near table m payload limit at n out p k d = reads_near (lookup_in table m payload) limit at n out p k d
