-- The loop that reads the words of rows one after the other, each row into its own places, resuming at the bit position where the last
-- one ended: for every lookup and element (document 01, "Words and lookup": "takes every sample from that lookup"). Assumes nothing.
use mathlib.Core.Path.{◌≡◌, refl, sym, ap, ◌∙◌}
use mathlib.Core.Bool.{Bool}
use mathlib.Core.List.{List, ◌++◌}
use Prim.Native.Nat.{ℕ, ◌+◌, ◌-◌, ◌*◌, ◌≤◌, ◌<◌}
use native.Mathlib.Nat.{suc-mul, zero-mul, mul-le-mul_right}
use native.Mathlib.Numerals.{add-one}
use native.Mathlib.Omega.{arith}
use borrow.Rule.Slice.PartMut.{put_mid}
use lib.ListN.{length, take, drop}
use lib.Seq.{take_at}
use Rattle.scope.specs.Words as wrd
use Rattle.scope.specs.Words.{Chain, symbols, stuck_at, chain_by}
use Rattle.scope.specs.Found.{Found}
use Rattle.codes.proofs.Chains.{no_symbols}
use Rattle.codes.proofs.Reading.{then, joined, chain_resumes, position_resumes, position_near}
use Rattle.views.specs.Places.{samples_at, gaps_at, rows_places, Rowed}
use Rattle.views.proofs.Views.{only_one}
use Rattle.views.proofs.Filling.{Fills, fills_start, fills_end, lent_in, lent_long, lent_back}
use Rattle.codes.specs.Reading.{position_after, Readable}
use Rattle.reader.specs.declared.Stuck.{Stuck}
use Rattle.std.specs.Prelude.{Err}
use Rattle.reader.specs.Reading.{reached, WordsRead}
use Rattle.reader.specs.Reading.{Reached}
use Rattle.reader.specs.Reading.{reached_end}
use Rattle.reader.proofs.Chains.{end_chain, end_position, stuck_chain, reading_once}

-- ---- the loop

-- r rows are read, and the next word begins at q
pub record RowsRead (look : ℕ → Found) (limit w p h : ℕ) (s₀ s : List ℕ) (q r : ℕ) : Type 0 where
  pub fills : Fills w p h s₀ s (take (r * w) (samples_at (rows_places w p h) s)) r
  pub read : chain_by look 0 (r * w) ≡ symbols (take (r * w) (samples_at (rows_places w p h) s))
  pub stands : q ≡ position_after look 0 (r * w)
  pub asked : Readable look limit 0 (h * w)
  pub rowed : Rowed (length s₀) w p h

module _ (look : ℕ → Found) (limit w p h : ℕ) (s₀ : List ℕ) where
  -- before the first row
  pub rows_start : Readable look limit 0 (h * w) → Rowed (length s₀) w p h → RowsRead look limit w p h s₀ s₀ 0 0
  unfolding wrd.chain_by position_after
  rows_start a ok = record {
    fills = rw zero-mul (fills_start w p h s₀);
    read = rw zero-mul;
    stands = rw zero-mul;
    asked = a;
    rowed = ok;
  }

  module _ (s : List ℕ) (q r : ℕ) (a : RowsRead look limit w p h s₀ s q r) where
    pub rows_same : length s ≡ length s₀
    rows_same = a.fills.so.same

    -- the gaps stay
    pub rows_gaps : gaps_at (rows_places w p h) s ≡ gaps_at (rows_places w p h) s₀
    rows_gaps = a.fills.so.gaps

    module _ (k : r < h) where
      -- row r lies within what is lent
      pub rows_in : r * p + w ≤ length s
      rows_in = lent_in w p h s₀ s _ r a.fills a.rowed k

      long : length (take (r * p + w - r * p) (drop (r * p) s)) ≡ w
      long = lent_long w p h s₀ s _ r a.fills a.rowed k

      -- what the reading of a row asks
      pub rows_asked : Readable look limit q (length (take (r * p + w - r * p) (drop (r * p) s)))
      rows_asked = rw long (record {
        symbol = a.asked.symbol;
        short = a.asked.short;
        near = omega (arith, a.asked.near, a.stands, position_near look a.asked.short (r * w) 0, suc-mul r w, mul-le-mul_right w k);
      })

      -- the words of the rows up to this one
      resumed : chain_by look 0 (r * w + w) ≡ joined (symbols (take (r * w) (samples_at (rows_places w p h) s))) (chain_by look q w)
      resumed =
          rw a.stands (chain_resumes look (r * w) 0 w ∙ ap (λ (c : Chain). joined c (chain_by look (position_after look 0 (r * w)) w)) a.read)

      module _ (out : List ℕ) (l : length out ≡ length (take (r * p + w - r * p) (drop (r * p) s))) where
        back : Fills w p h s₀ (put_mid (r * p) (r * p + w - r * p) s out) (take (r * w) (samples_at (rows_places w p h) s) ++ out) (r + 1)
        back = lent_back w p h s₀ s _ r a.fills a.rowed k out (l ∙ long)

        -- the gaps stay, whatever a row was left with
        pub rows_kept : gaps_at (rows_places w p h) (put_mid (r * p) (r * p + w - r * p) s out) ≡ gaps_at (rows_places w p h) s₀
        rows_kept = back.so.gaps

        module _ (res : Reached) (d : WordsRead look q (length (take (r * p + w - r * p) (drop (r * p) s))) res out) where
          words : WordsRead look q w res out
          words = rw long at d

          -- a row was read
          pub rows_step : (e : ℕ) → res ≡ reached_end e → RowsRead look limit w p h s₀ (put_mid (r * p) (r * p + w - r * p) s out) e (r + 1)
          rows_step e f =
              let here : WordsRead look q w (reached_end e) out = rw f at words in
              let next : (r + 1) * w ≡ r * w + w = ap (λ (n : ℕ). n * w) (add-one r) ∙ suc-mul r w in
              let all : take ((r + 1) * w) (samples_at (rows_places w p h) (put_mid (r * p) (r * p + w - r * p) s out)) ≡ take (r * w) (samples_at (rows_places w p h) s) ++ out =
              ap (take ((r + 1) * w)) back.so.front ∙ take_at (take (r * w) (samples_at (rows_places w p h) s) ++ out) _ ((r + 1) * w) back.long
              in
              record {
                fills = rw all back;
                read = rw (all, next) (resumed ∙ rw (end_chain look q w out e here) (unfold joined then in refl));
                stands = rw next (end_position look q w out e here ∙ rw a.stands (sym (position_resumes look (r * w) 0 w)));
                asked = a.asked;
                rowed = a.rowed;
              }

          -- a row is stuck, and so is the whole
          pub rows_stuck : (why : Stuck) → res ≡ Err why → (v : List ℕ) → WordsRead look 0 (h * w) (Err why) v
          unfolding reached
          rows_stuck why f v =
              let here : chain_by look q w ≡ stuck_at why.at = stuck_chain look q w out why.at (rw f at words) in
              let row : chain_by look 0 (r * w + w) ≡ stuck_at why.at = resumed ∙ rw here (unfold joined then in refl) in
              let m : h * w ≡ r * w + w + (h * w - (r * w + w)) = omega (arith, suc-mul r w, mul-le-mul_right w k) in
              let whole : chain_by look 0 (h * w) ≡ stuck_at why.at = ap (chain_by look 0) m ∙ chain_resumes look (r * w + w) 0 (h * w - (r * w + w)) ∙ rw row (unfold joined in refl) in
              record {
                answer = ap (λ (z : Chain). reached z (position_after look 0 (h * w))) (sym whole);
                handed = λ ss g. absurd (no_symbols why.at ss (sym whole ∙ g));
              }

    -- all rows are read
    pub rows_end : h ≤ r → WordsRead look 0 (h * w) (reached_end q) (samples_at (rows_places w p h) s)
    unfolding reached
    rows_end k =
        let last : r ≡ h = omega (arith, a.fills.within) in
        let full : samples_at (rows_places w p h) s ≡ take (r * w) (samples_at (rows_places w p h) s) = fills_end w p h s₀ s _ r a.fills a.rowed k in
        let whole : chain_by look 0 (h * w) ≡ symbols (samples_at (rows_places w p h) s) = ap (λ (n : ℕ). chain_by look 0 (n * w)) (sym last) ∙ a.read ∙ ap symbols (sym full) in
        let ended : q ≡ position_after look 0 (h * w) = a.stands ∙ ap (λ (n : ℕ). position_after look 0 (n * w)) last in
        record {
          answer = ap reached_end ended ∙ ap (λ (z : Chain). reached z (position_after look 0 (h * w))) (sym whole);
          handed = λ ss g. same ss (sym whole ∙ g);
        }
      where
        same : (ss : List ℕ) → symbols (samples_at (rows_places w p h) s) ≡ symbols ss → samples_at (rows_places w p h) s ≡ ss
        same ss g = cc

-- ---- any two readings of rows answer the same, leave the gaps alike and, where they end, the whole buffer

pub record SameRows (places : List Bool) (r₁ r₂ : Reached) (s₁ s₂ : List ℕ) : Type 0 where
  pub answer : r₁ ≡ r₂
  pub gaps : gaps_at places s₁ ≡ gaps_at places s₂
  pub ended : (e : ℕ) → r₁ ≡ reached_end e → s₁ ≡ s₂

module _ {look : ℕ → Found} {n : ℕ} {places : List Bool} {r₁ r₂ : Reached} {found s₁ s₂ : List ℕ} where
  pub rows_once : WordsRead look 0 n r₁ (samples_at places s₁) → gaps_at places s₁ ≡ found
      → WordsRead look 0 n r₂ (samples_at places s₂) → gaps_at places s₂ ≡ found → SameRows places r₁ r₂ s₁ s₂
  rows_once p g q h =
      let same = reading_once p q in
      let gaps : gaps_at places s₁ ≡ gaps_at places s₂ = g ∙ sym h in
      record { answer = same.0; gaps = gaps; ended = λ e f. only_one places (same.1 e f) gaps }
