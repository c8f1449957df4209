-- The loops that read words, and rows of words, into samples (document 01, "Words and lookup": "takes every sample from that lookup"):
-- what reader's loops say of numbers, said of the numbers of a list of samples (`values` of sample). Assumes nothing.
use mathlib.Core.Path.{◌≡◌, sym, ap, ◌∙◌, subst}
use Prim.Native.Nat.{ℕ, ◌+◌, ◌-◌, ◌*◌, ◌≤◌, ◌<◌}
use mathlib.Core.List.{List}
use borrow.Author.Rules.{rules}
use borrow.Rule.Slice.PartMut.{put_mid}
use lib.ListN.{length, take, drop, set}
use Rattle.scope.specs.Found.{Found}
use Rattle.views.specs.Places.{gaps_at, rows_places, Rowed}
use Rattle.views.proofs.Filling.{row_fits, row_end_fits}
use Rattle.codes.specs.Reading.{Readable, Began}
use Rattle.sample.specs.Values.{ValuesLaws}
use Rattle.sample.proofs.Values.{values-length, values-set}
use Rattle.sample.proofs.More.{values-put_mid, values-mid}
use Rattle.reader.specs.Reading.{WordsRead}
use Rattle.reader.specs.Stepping.{step_from}
use Rattle.reader.specs.Stepping.{Stepped}
use Rattle.reader.specs.declared.Passed.{Passed}
use Rattle.reader.specs.declared.Stuck.{Stuck}
use Rattle.std.specs.Prelude.{Some, Err}
use Rattle.reader.specs.Reading.{Reached}
use Rattle.reader.specs.Reading.{reached_end}
use Rattle.reader.proofs.Reading.{Reads, reads_from, reads_step, table_near, reads_below, reads_stuck, reads_end}
use Rattle.reader.proofs.Rows.{RowsRead, rows_start, rows_same, rows_in, rows_asked, rows_step, rows_stuck, rows_kept, rows_end, rows_gaps}

-- ---- words

module _ {S : Type 0} {value : S → ℕ} {values : List S → List ℕ} (laws : ValuesLaws value values) (look : ℕ → Found) (limit at n : ℕ) where
  -- where a reading has begun
  pub samples_from : (out : List S) (p k : ℕ) → length out ≡ n → Readable look limit at n → Began look at (values out) p k
      → Reads look limit at n (values out) p k
  samples_from out p k l ok b = reads_from look limit at n (values out) p k (values-length laws out ∙ l) ok b

  module _ (out : List S) (p k : ℕ) (d : Reads look limit at n (values out) p k) where
    -- one word is read
    pub samples_step : (o : Stepped) → k < n → o ≡ step_from (look p) p → (v : Passed) → o ≡ Some v → (x : S) → value x ≡ v.symbol
        → Reads look limit at n (values (set out k x)) v.end (k + 1)
    samples_step o h e v f x y =
        let r : values (set out k x) ≡ set (values out) k v.symbol = values-set laws out k x ∙ ap (set (values out) k) y in
        subst (λ (xs : List ℕ). Reads look limit at n xs v.end (k + 1)) (sym r) (reads_step look limit at n (values out) p k d o h e v f)

pub ruleset reading = (table_near, reads_below, reads_stuck, reads_end, rules)

-- ---- rows of words

module _ {S : Type 0} {value : S → ℕ} {values : List S → List ℕ} (laws : ValuesLaws value values) (look : ℕ → Found) (limit w p h : ℕ) (s₀ : List S) where
  -- before the first row
  pub samples_start : Readable look limit 0 (h * w) → Rowed (length s₀) w p h → RowsRead look limit w p h (values s₀) (values s₀) 0 0
  samples_start a ok = rows_start look limit w p h (values s₀) a (rw (values-length laws s₀) ok)

  module _ (s : List S) (q r : ℕ) (a : RowsRead look limit w p h (values s₀) (values s) q r) where
    pub samples_same : length s ≡ length s₀
    samples_same = sym (values-length laws s) ∙ rows_same look limit w p h (values s₀) (values s) q r a ∙ values-length laws s₀

    module _ (k : r < h) where
      -- row r lies within what is lent
      pub samples_in : r * p + w ≤ length s
      samples_in = rw (values-length laws s) at (rows_in look limit w p h (values s₀) (values s) q r a k)

      mid : length (take (r * p + w - r * p) (drop (r * p) (values s))) ≡ length (take (r * p + w - r * p) (drop (r * p) s))
      mid = values-mid laws (r * p) (r * p + w - r * p) s

      -- what the reading of a row asks
      pub samples_asked : Readable look limit q (length (take (r * p + w - r * p) (drop (r * p) s)))
      samples_asked = rw mid at (rows_asked look limit w p h (values s₀) (values s) q r a k)

      module _ (out : List S) (l : length out ≡ length (take (r * p + w - r * p) (drop (r * p) s))) where
        long : length (values out) ≡ length (take (r * p + w - r * p) (drop (r * p) (values s)))
        long = values-length laws out ∙ l ∙ sym mid

        back : values (put_mid (r * p) (r * p + w - r * p) s out) ≡ put_mid (r * p) (r * p + w - r * p) (values s) (values out)
        back = values-put_mid laws (r * p) (r * p + w - r * p) s out

        -- the gaps stay, whatever a row was left with
        pub samples_kept : gaps_at (rows_places w p h) (values (put_mid (r * p) (r * p + w - r * p) s out)) ≡ gaps_at (rows_places w p h) (values s₀)
        samples_kept = ap (gaps_at (rows_places w p h)) back ∙ rows_kept look limit w p h (values s₀) (values s) q r a k (values out) long

        module _ (res : Reached) (d : WordsRead look q (length (take (r * p + w - r * p) (drop (r * p) s))) res (values out)) where
          words : WordsRead look q (length (take (r * p + w - r * p) (drop (r * p) (values s)))) res (values out)
          words = rw mid d

          -- a row was read
          pub samples_next : (e : ℕ) → res ≡ reached_end e → RowsRead look limit w p h (values s₀) (values (put_mid (r * p) (r * p + w - r * p) s out)) e (r + 1)
          samples_next e f =
              subst (λ (xs : List ℕ). RowsRead look limit w p h (values s₀) xs e (r + 1)) (sym back)
              (rows_step look limit w p h (values s₀) (values s) q r a k (values out) long res words e f)

          -- a row is stuck, and so is the whole
          pub samples_stuck : (why : Stuck) → res ≡ Err why → (v : List ℕ) → WordsRead look 0 (h * w) (Err why) v
          samples_stuck why f v = rows_stuck look limit w p h (values s₀) (values s) q r a k (values out) long res words why f v

pub ruleset rowing = (samples_start, samples_same, samples_in, samples_asked, samples_next, samples_stuck, samples_kept, rows_end, rows_gaps, row_fits, row_end_fits, rules)
