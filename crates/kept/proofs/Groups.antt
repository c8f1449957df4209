-- The loops that read words out of the kept window, for every sample: a group of words out of one window, a turn, which is a group and one
-- word more, and turn after turn (document 01, "Words and lookup": "takes every sample from that lookup"). What they read is a reading
-- that has begun (`Began` of codes), into the numbers of a list of samples (`values` of sample). Assumes nothing.
use mathlib.Core.Path.{◌≡◌, refl, sym, ap, ◌∙◌, subst}
use Prim.Native.Nat.{ℕ, ◌+◌, ◌-◌, ◌*◌, ◌/◌, ◌%◌, ◌^◌, ◌≤◌, ◌<◌, min}
use native.Mathlib.Nat.{add-zero, zero-add, mul-le-mul_right}
use native.Mathlib.Omega.{arith}
use mathlib.Core.List.{List}
use borrow.Author.Rules.{rules}
use borrow.Rule.Slice.PartMut.{put_mid, same_len_mid, mid_len}
use lib.ListN.{length, take, drop, set, length-set}
use mir.Val.{Fits}
use mir.Syntax.{w64}
use Rattle.scope.specs.Bits.{window}
use Rattle.scope.specs.Lookup.{lookup_in}
use Rattle.scope.specs.Found.{Found, some_word}
use Rattle.codes.specs.Reading.{Readable, Began}
use Rattle.codes.proofs.Reading.{position_near, began_none, began_word, began_more}
use Rattle.sample.specs.Values.{ValuesLaws}
use Rattle.sample.proofs.Values.{values-length, values-set}
use Rattle.sample.proofs.More.{values-put_mid, values-mid}
use Rattle.kept.specs.Kept.{top_bits, Kept, Turning, Turned, entry_in, Told}
use Rattle.bits.proofs.Tops.{all_there}
use Rattle.kept.proofs.Window.{kept_far, kept_shows, kept_step, kept_fits, kept_turned}
use Rattle.kept.proofs.Entries.{entry_told}

-- ---- what is read, in samples

module _ {S : Type 0} {value : S → ℕ} {values : List S → List ℕ} (laws : ValuesLaws value values) (look : ℕ → Found) (at : ℕ) (out : List S) (p k : ℕ) (b : Began look at (values out) p k) where
  -- one word more
  sample_word : (l s : ℕ) → k < length out → look p ≡ some_word l s → (x : S) → value x ≡ s → Began look at (values (set out k x)) (p + l) (k + 1)
  sample_word l s h f x e =
      let r : values (set out k x) ≡ set (values out) k s = values-set laws out k x ∙ ap (set (values out) k) e in
      subst (λ (xs : List ℕ). Began look at xs (p + l) (k + 1)) (sym r) (began_word look at (values out) p k b l s (rw (values-length laws out) h) f)

  -- i words more, read into the places from k up to c
  sample_more : (c : ℕ) (ys : List S) (q i : ℕ) → k ≤ c → c ≤ length out → length ys ≡ length (take (c - k) (drop k out)) → Began look p (values ys) q i
      → Began look at (values (put_mid k (c - k) out ys)) q (k + i)
  sample_more c ys q i g h l m =
      let long : length (values ys) ≡ length (take (c - k) (drop k (values out))) = values-length laws ys ∙ l ∙ sym (values-mid laws k (c - k) out) in
      subst (λ (xs : List ℕ). Began look at xs q (k + i)) (sym (values-put_mid laws k (c - k) out ys))
      (began_more look at (values out) p k b c (values ys) q i g (rw (values-length laws out) h) long m)

-- ---- a group, out of a window at q from which some bits are gone

-- i words of n are taken
pub record Taking {S : Type 0} (values : List S → List ℕ) (table : List ℕ) (m : ℕ) (payload : List ℕ) (limit q p n : ℕ) (out : List S) (v d i : ℕ) : Type 0 where
  pub kept : Kept payload q v d i m n
  pub began : Began (lookup_in table m payload) p (values out) (q + d) i
  pub asked : Readable (lookup_in table m payload) limit p n
  pub long : length out ≡ n
  pub some : 0 < m
  pub short : m ≤ 18

-- the word that the window begins with
module _ (table : List ℕ) (m : ℕ) (payload : List ℕ) (q n v d i e : ℕ) (k : Kept payload q v d i m n) (some : 0 < m) (short : m ≤ 18) (f : e ≡ entry_in table m v) where
  told : Told (lookup_in table m payload (q + d)) m e
  told = rw f (entry_told table payload m (q + d) v some short (kept_shows payload q v d i m n k))

  -- its length is below 64
  length_is : e % 64 ≡ e % 256
  length_is = omega (arith, told.most)

  told_bits : d + e % 256 < 2 ^ 64
  told_bits = omega (arith, told.most, kept_far payload q v d i m n k)

module _ {S : Type 0} {value : S → ℕ} {values : List S → List ℕ} (laws : ValuesLaws value values) (table : List ℕ) (m : ℕ) (payload : List ℕ) (limit q : ℕ) where
  -- before the first word
  pub taking_start : (out : List S) (w d : ℕ) → Kept payload q w d 0 m (length out) → 0 < m → m ≤ 18
      → Readable (lookup_in table m payload) limit (q + d) (length out) → Taking values table m payload limit q (q + d) (length out) out w d 0
  taking_start out w d k a b ok = record {
    kept = k;
    began = began_none (lookup_in table m payload) (q + d) (values out);
    asked = ok;
    long = refl;
    some = a;
    short = b;
  }

  module _ (p n : ℕ) (out : List S) (v d i : ℕ) (t : Taking values table m payload limit q p n out v d i) where
    pub taking_kept : Kept payload q v d i m n
    taking_kept = t.kept

    pub taking_began : Began (lookup_in table m payload) p (values out) (q + d) i
    taking_began = t.began

    -- behind the last place
    module _ (h : n ≤ i) where
      all_taken : i ≡ n
      all_taken = omega (arith, t.kept.within)

      pub taking_full : Kept payload q v d n m n
      taking_full = rw all_taken at t.kept

      pub taking_read : Began (lookup_in table m payload) p (values out) (q + d) n
      taking_read = rw all_taken at t.began

    pub taking_some : 0 < m
    taking_some = t.some

    pub taking_short : m ≤ 18
    taking_short = t.short

    pub taking_long : length out ≡ n
    taking_long = t.long

    module _ (e : ℕ) (h : i < length out) (f : e ≡ entry_in table m v) where
      here : Told (lookup_in table m payload (q + d)) m e
      here = told table m payload q n v d i e t.kept t.some t.short f

      pub taking_bits : Fits w64 (d + e % 256)
      taking_bits = record { fits = told_bits table m payload q n v d i e t.kept t.some t.short f }

      pub taking_count : Fits w64 (i + 1)
      taking_count = record { fits = omega (arith, t.asked.near, t.long) }

      module _ (z : e % 256 ≡ 0 → ⊥) where
        -- a word's symbol is below the element's limit
        pub taking_below : e / 256 < limit
        taking_below = t.asked.symbol (q + d) (e % 256) (e / 256) (here.word z)

        -- one word more
        pub taking_step : (x : S) → value x ≡ e / 256 → Taking values table m payload limit q p n (set out i x) ((v * 2 ^ (e % 64)) % 2 ^ 64) (d + e % 256) (i + 1)
        taking_step x s =
            let y : q + d + e % 256 ≡ q + (d + e % 256) = omega arith in
            record {
              kept = rw (length_is table m payload q n v d i e t.kept t.some t.short f) (kept_step payload q v d i m n t.kept (e % 256) (omega (arith, t.long)) here.most);
              began =
                  subst (λ (j : ℕ). Began (lookup_in table m payload) p (values (set out i x)) j (i + 1)) y
                  (sample_word laws (lookup_in table m payload) p out (q + d) i t.began (e % 256) (e / 256) h (here.word z) x s);
              asked = t.asked;
              long = simp length-set t.long;
              some = t.some;
              short = t.short;
            }

pub ruleset taking = (
  taking_start,
  taking_kept,
  taking_began,
  taking_full,
  taking_read,
  taking_some,
  taking_short,
  taking_long,
  taking_bits,
  taking_count,
  taking_below,
  taking_step,
  rules,
)

-- ---- a turn: a group of n words, and one more

module _ {S : Type 0} (payload : List ℕ) (q gone w m : ℕ) (out : List S) (n : ℕ) (e : n ≡ length out - 1) (a : 0 < length out) where
  part : length (take (n - 0) (drop 0 out)) ≡ n
  part =
      let z : n - 0 ≡ n = omega arith in
      mid_len 0 n out (omega arith) ∙ z

  -- what the group asks of the window
  pub turn_kept : gone ≤ m → (length out + 1) * m ≤ 64 → length out * m ≤ 56 → w ≡ top_bits payload (q + gone) gone
      → Kept payload q w gone 0 m (length (take (n - 0) (drop 0 out)))
  turn_kept b c d f =
      let l : length out ≡ n + 1 = omega arith in
      let k : length out + 1 ≡ n + 2 = omega arith in
      rw part (record { holds = f; most = omega arith; within = omega arith; sight = rw k at c; room = rw l at d })

  -- and of the words
  pub turn_asked : (table : List ℕ) (limit p : ℕ) → Readable (lookup_in table m payload) limit p (length out)
      → Readable (lookup_in table m payload) limit p (length (take (n - 0) (drop 0 out)))
  turn_asked table limit p r = rw part (record { symbol = r.symbol; short = r.short; near = omega (arith, r.near) })

-- no word, where the payload is too short
pub turn_none : (table : List ℕ) (m : ℕ) (payload : List ℕ) (out : List ℕ) (p : ℕ) → Began (lookup_in table m payload) p out p 0
turn_none table m payload out p = began_none (lookup_in table m payload) p out

pub turn_not : (payload : List ℕ) (m n w q d : ℕ) → 0 < n → Turned payload m n w q d 0
turn_not payload m n w q d a = record { window = λ e. absurd (omega arith); last = λ e. absurd (omega arith) }

-- behind the group, out has its places still
module _ {S : Type 0} (out : List S) (n : ℕ) (e : n ≡ length out - 1) (a : 0 < length out) (ys : List S) (l : length ys ≡ length (take (n - 0) (drop 0 out))) where
  same : length (put_mid 0 (n - 0) out ys) ≡ length out
  same = same_len_mid 0 (n - 0) out ys l

  pub turn_some : 0 < length (put_mid 0 (n - 0) out ys)
  turn_some = rw same a

  pub turn_turned : (payload : List ℕ) (m w q d i : ℕ) → Turned payload m (length (put_mid 0 (n - 0) out ys)) w q d i → Turned payload m (length out) w q d i
  turn_turned payload m w q d i t = rw same at t

-- and the last word's lookup begins where the group ended
module _ {S : Type 0} {value : S → ℕ} {values : List S → List ℕ} (laws : ValuesLaws value values)
    (out : List S) (n : ℕ) (e : n ≡ length out - 1) (a : 0 < length out) (ys : List S) (l : length ys ≡ length (take (n - 0) (drop 0 out))) where
  pub turning_start : (table : List ℕ) (m : ℕ) (payload : List ℕ) (limit p q : ℕ) → 0 < m → m ≤ 18
      → Readable (lookup_in table m payload) limit p (length out)
      → (v d i : ℕ) → Kept payload q v d i m (length (take (n - 0) (drop 0 out)))
      → Began (lookup_in table m payload) p (values ys) (q + d) i
      → Turning table m payload limit p q (length (put_mid 0 (n - 0) out ys) - 1) (values (put_mid 0 (n - 0) out ys)) v d i
  turning_start table m payload limit p q some short ok v d i k b =
      let f : length out ≡ n + 1 = omega arith in
      let g : length (put_mid 0 (n - 0) out ys) - 1 ≡ n = omega (arith, same out n e a ys l) in
      rw g (record {
        kept = rw (part payload q 0 v m out n e a) at k;
        began =
            subst (λ (j : ℕ). Began (lookup_in table m payload) p (values (put_mid 0 (n - 0) out ys)) (q + d) j) (zero-add i)
            (sample_more laws (lookup_in table m payload) p out p 0 (began_none (lookup_in table m payload) p (values out)) n ys (q + d) i (omega arith) (omega arith) l b);
        asked = rw f at ok;
        long = values-length laws (put_mid 0 (n - 0) out ys) ∙ same out n e a ys l ∙ f;
        some = some;
        short = short;
      })

module _ {S : Type 0} {value : S → ℕ} {values : List S → List ℕ} (laws : ValuesLaws value values)
    (table : List ℕ) (m : ℕ) (payload : List ℕ) (limit p q n : ℕ) (out : List S) (v d i : ℕ) (t : Turning table m payload limit p q n (values out) v d i) where
  -- its numbers are as many as its places
  turning_long : length out ≡ n + 1
  turning_long = sym (values-length laws out) ∙ t.long

  pub turning_some : 0 < m
  turning_some = t.some

  pub turning_short : m ≤ 18
  turning_short = t.short

  pub turning_position : Fits w64 (q + d)
  turning_position = record {
    fits = omega (arith, t.asked.near, t.kept.within, t.began.stands, position_near (lookup_in table m payload) t.asked.short i p);
  }

  -- no word, in the group or behind it
  pub turning_stops : Began (lookup_in table m payload) p (values out) (q + d + 0) i
  turning_stops = subst (λ (j : ℕ). Began (lookup_in table m payload) p (values out) j i) (sym (add-zero (q + d))) t.began

  pub turning_not : (k w : ℕ) → k ≡ length out → Turned payload m k w (q + d) 0 i
  turning_not k w e = record { window = λ f. absurd (omega (arith, turning_long, t.kept.within)); last = λ f. absurd (omega (arith, turning_long, t.kept.within)) }

  pub turning_left : d ≤ 63
  turning_left = omega (arith, kept_far payload q v d i m n t.kept)

  -- the last word
  module _ (e : ℕ) (f : e ≡ entry_in table m v) (h : n ≤ i) (z : e % 256 ≡ 0 → ⊥) where
    last : i ≡ n
    last = omega (arith, t.kept.within)

    final : Told (lookup_in table m payload (q + d)) m e
    final = told table m payload q n v d i e t.kept t.some t.short f

    pub turning_below : e / 256 < limit
    turning_below = t.asked.symbol (q + d) (e % 256) (e / 256) (final.word z)

    pub turning_read : (x : S) → value x ≡ e / 256 → Began (lookup_in table m payload) p (values (set out n x)) (q + d + e % 256) (n + 1)
    turning_read x s =
        subst (λ (j : ℕ). Began (lookup_in table m payload) p (values (set out j x)) (q + d + e % 256) (j + 1)) last
        (sample_word laws (lookup_in table m payload) p out (q + d) i t.began (e % 256) (e / 256) (omega (arith, turning_long, last)) (final.word z) x s)

    -- the bits that follow
    module _ (x : ℕ) (a : x ≡ top_bits payload (q + 64) (q % 8)) where
      pub turning_fits : Fits w64 (v + x / 2 / 2 ^ (63 - d))
      turning_fits = record { fits = kept_fits payload q v d i m n t.kept x a }

      pub turning_turned : (k c : ℕ) → Turned payload m k (((v + x / 2 / 2 ^ (63 - d)) * 2 ^ (e % 64)) % 2 ^ 64) (q + d) (e % 256) c
      turning_turned k c = record {
        window = λ g. rw (length_is table m payload q n v d i e t.kept t.some t.short f) (kept_turned payload q v d i m n t.kept x a (e % 256) final.most);
        last = λ g. final.most;
      }

pub ruleset turning = (turn_none, turn_not, turn_kept, turn_asked, turn_some, turn_turned, rules)

pub ruleset ending = (turning_position, turning_stops, turning_not, turning_left, turning_below, turning_fits, turning_turned, turning_some, turning_short, rules)

-- ---- turn after turn

-- k words of n are read, the last of them at q, with `gone` bits, and w is the window behind it; g words make a turn
pub record Going {S : Type 0} (values : List S → List ℕ) (table : List ℕ) (m : ℕ) (payload : List ℕ) (limit at n g : ℕ) (out : List S) (w q gone k : ℕ) : Type 0 where
  pub began : Began (lookup_in table m payload) at (values out) (q + gone) k
  pub stands : w ≡ top_bits payload (q + gone) gone
  pub last : gone ≤ m
  pub asked : Readable (lookup_in table m payload) limit at n
  pub long : length out ≡ n
  pub sight : (g + 1) * m ≤ 64
  pub room : g * m ≤ 56
  pub each : 0 < g
  pub some : 0 < m
  pub short : m ≤ 18

module _ {S : Type 0} {value : S → ℕ} {values : List S → List ℕ} (laws : ValuesLaws value values) (table : List ℕ) (m : ℕ) (payload : List ℕ) (limit at : ℕ) where
  -- before the first turn
  pub going_start : (out : List S) (g w : ℕ) → Readable (lookup_in table m payload) limit at (length out) → w ≡ window payload at 64
      → 0 < m → m ≤ 18 → (g + 1) * m ≤ 64 → g * m ≤ 56 → 0 < g → Going values table m payload limit at (length out) g out w at 0 0
  going_start out g w ok e a b c d f = record {
    began = subst (λ (j : ℕ). Began (lookup_in table m payload) at (values out) j 0) (sym (add-zero at)) (began_none (lookup_in table m payload) at (values out));
    stands = all_there payload (at + 0) w (e ∙ ap (λ (j : ℕ). window payload j 64) (sym (add-zero at)));
    last = omega arith;
    asked = ok;
    long = refl;
    sight = c;
    room = d;
    each = f;
    some = a;
    short = b;
  }

  -- a position that is reached is a number of 64 bits
  reached : (n : ℕ) (out : List S) (p k : ℕ) → length out ≡ n → Readable (lookup_in table m payload) limit at n
      → Began (lookup_in table m payload) at (values out) p k → p < 2 ^ 64
  reached n out p k l ok b = omega (arith, l, values-length laws out, ok.near, b.within, b.stands, position_near (lookup_in table m payload) ok.short k at)

  module _ (n g : ℕ) (out : List S) (w q gone k : ℕ) (s : Going values table m payload limit at n g out w q gone k) where
    pub going_began : Began (lookup_in table m payload) at (values out) (q + gone) k
    going_began = s.began

    near : q + gone ≤ at + 18 * k
    near = rw s.began.stands (position_near (lookup_in table m payload) s.asked.short k at)

    pub going_position : Fits w64 (q + gone)
    going_position = record { fits = reached n out (q + gone) k s.long s.asked s.began }

    pub going_stands : w ≡ top_bits payload (q + gone) gone
    going_stands = s.stands

    pub going_last : gone ≤ m
    going_last = s.last

    pub going_some : 0 < m
    going_some = s.some

    pub going_short : m ≤ 18
    going_short = s.short

    pub going_long : length out ≡ n
    going_long = s.long

    module _ (c : ℕ) (h : k < length out) (e : c ≡ min g (length out - k)) where
      -- the turn's places lie in out
      pub going_in : k + c ≤ length out
      going_in = omega arith

      pub going_end : Fits w64 (k + c)
      going_end = record { fits = omega (arith, s.asked.near, s.long) }

      of_turn : length (take (k + c - k) (drop k out)) ≡ c
      of_turn =
          let z : k + c - k ≡ c = omega arith in
          mid_len k (k + c) out going_in ∙ z

      -- there is one at least
      pub going_each : 0 < length (take (k + c - k) (drop k out))
      going_each = rw of_turn (omega (arith, s.each))

      fewer : c * m ≤ g * m
      fewer = mul-le-mul_right {m = c} {n = g} m (omega arith)

      -- its words are in sight, and their bits at hand
      pub going_sight : (length (take (k + c - k) (drop k out)) + 1) * m ≤ 64
      going_sight = rw of_turn (omega (arith, s.sight, fewer))

      pub going_room : length (take (k + c - k) (drop k out)) * m ≤ 56
      going_room = rw of_turn (omega (arith, s.room, fewer))

      -- and it asks what the whole asks
      pub going_asked : Readable (lookup_in table m payload) limit (q + gone) (length (take (k + c - k) (drop k out)))
      going_asked = rw of_turn (record {
        symbol = s.asked.symbol;
        short = s.asked.short;
        near = omega (arith, near, s.asked.near, s.long);
      })

      module _ (ys : List S) (p d i : ℕ) (l : length ys ≡ length (take (k + c - k) (drop k out))) (b : Began (lookup_in table m payload) (q + gone) (values ys) (p + d) i) where
        within : i ≤ c
        within = omega (arith, b.within, values-length laws ys, l, of_turn)

        pub going_count : Fits w64 (k + i)
        going_count = record { fits = omega (arith, within, s.asked.near, s.long) }

        whole : length (put_mid k (k + c - k) out ys) ≡ n
        whole = same_len_mid k (k + c - k) out ys l ∙ s.long

        -- the turn's words are read
        pub going_more : Began (lookup_in table m payload) at (values (put_mid k (k + c - k) out ys)) (p + d) (k + i)
        going_more = sample_more laws (lookup_in table m payload) at out (q + gone) k s.began (k + c) ys (p + d) i (omega arith) going_in l b

        pub going_next : Fits w64 (p + d)
        going_next = record { fits = reached n (put_mid k (k + c - k) out ys) (p + d) (k + i) whole s.asked going_more }

        module _ (a : c ≤ i) where
          all : i ≡ length (take (k + c - k) (drop k out))
          all = omega (arith, within, of_turn)

          -- and the next turn begins behind them
          pub going_step : (v : ℕ) → Turned payload m (length (take (k + c - k) (drop k out))) v p d i
              → Going values table m payload limit at n g (put_mid k (k + c - k) out ys) v p d (k + i)
          going_step v t = record {
            began = going_more;
            stands = t.window all;
            last = t.last all;
            asked = s.asked;
            long = whole;
            sight = s.sight;
            room = s.room;
            each = s.each;
            some = s.some;
            short = s.short;
          }

          -- less is left then
          pub going_less : n - (k + i) < n - k
          going_less = omega (arith, s.each, s.long)

pub ruleset going = (
  going_start,
  going_began,
  going_stands,
  going_last,
  going_some,
  going_short,
  going_long,
  going_in,
  going_end,
  going_each,
  going_sight,
  going_room,
  going_asked,
  going_count,
  going_step,
  going_less,
  rules,
)

-- ---- a reading that reads no word

pub begins_none : (table : List ℕ) (m : ℕ) (payload : List ℕ) (at : ℕ) (out : List ℕ) → Began (lookup_in table m payload) at out at 0
begins_none table m payload at out = began_none (lookup_in table m payload) at out

pub begins_some : (m : ℕ) → (m ≡ 0 → ⊥) → 0 < m
begins_some m a = omega (arith, a)

pub ruleset beginnings = (begins_none, begins_some, rules)
