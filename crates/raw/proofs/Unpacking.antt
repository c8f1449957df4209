-- The loops that unpack samples: one after the other, out of eight bytes or by windows, and group after group (document 01, "Layout":
-- "deeper raw samples are packed at depth bits, highest bit first"). Assumes nothing.
use mathlib.Core.Path.{◌≡◌, refl, sym, ap, ◌∙◌}
use Prim.Native.Nat.{ℕ, ◌+◌, ◌-◌, ◌*◌, ◌/◌, ◌%◌, ◌^◌, ◌≤◌, ◌<◌}
use native.Mathlib.Nat.{le_refl, add-mul, mul-le-mul, mul-le-mul_right, div-mul-le_self, le-div_iff_mul-le}
use native.Mathlib.Numerals.{add-one}
use native.Mathlib.Omega.{arith}
use mathlib.Core.List.{List, [], ◌∷◌, ◌++◌}
use borrow.Author.Rules.{rules}
use borrow.Rule.Slice.PartMut.{put_mid, same_len_mid, mid_len, post_of}
use lib.ListN.{length, take, drop, set, length-set}
use lib.Seq.{length-take-le, take_all, take-suc-set, take-append-add, take-append-le}
use mir.Syntax.{w64}
use mir.Val.{Fits}
use Rattle.scope.specs.Bits as bts
use Rattle.scope.specs.Bits.{window, packed_from}
use Rattle.bits.proofs.Windows.{window_head, window_tail}
use Rattle.raw.specs.Raw.{Unpacked}
use Rattle.raw.proofs.Raw.{packed_resumes}

-- ---- one sample more, or c more

module _ (depth : ℕ) (payload : List ℕ) (at : ℕ) where
  -- nothing is made yet
  pub unpacked_none : (s : List ℕ) → Unpacked depth payload at s 0
  unfolding bts.packed_from
  unpacked_none s = record { made = refl; within = omega arith }

  one : (p : ℕ) → packed_from depth payload p 1 ≡ window payload p depth ∷ []
  unfolding bts.packed_from
  one p = refl

  module _ (s : List ℕ) (k : ℕ) (u : Unpacked depth payload at s k) where
    pub unpacked_step : (v : ℕ) → k < length s → v ≡ window payload (at + k * depth) depth → Unpacked depth payload at (set s k v) (k + 1)
    unpacked_step v h e = record {
      made =
          ap (λ (j : ℕ). take j (set s k v)) (add-one k) ∙ take-suc-set s k v h
          ∙ rw (u.made, e) (sym (packed_resumes depth payload k at 1 ∙ ap (λ (z : List ℕ). packed_from depth payload at k ++ z) (one (at + k * depth))));
      within = simp length-set (omega arith);
    }

    -- all of them
    pub unpacked_all : (n : ℕ) → length s ≡ n → n ≤ k → s ≡ packed_from depth payload at n
    unpacked_all n e h =
        let m : k ≡ n = omega (arith, u.within) in
        sym (take_all k s (omega arith)) ∙ u.made ∙ ap (packed_from depth payload at) m

    -- the samples from k up to b
    module _ (b : ℕ) (ys : List ℕ) (g : k ≤ b) (h : b ≤ length s) (l : length ys ≡ length (take (b - k) (drop k s)))
        (e : ys ≡ packed_from depth payload (at + k * depth) (length (take (b - k) (drop k s)))) where
      part : length (take (b - k) (drop k s)) ≡ b - k
      part = mid_len k b s h

      whole : k + (b - k) ≡ b
      whole = omega arith

      front : take b (put_mid k (b - k) s ys) ≡ take k s ++ ys
      front =
          let n : length (take k s) + (b - k) ≡ b = ap (λ (j : ℕ). j + (b - k)) (length-take-le k s (omega arith)) ∙ whole in
          ap (λ (j : ℕ). take j (put_mid k (b - k) s ys)) (sym n) ∙ take-append-add (take k s) (ys ++ post_of k (b - k) s) (b - k)
          ∙ ap (λ (t : List ℕ). take k s ++ t)
          (take-append-le (b - k) ys (post_of k (b - k) s) (omega (arith, l, part)) ∙ take_all (b - k) ys (omega (arith, l, part)))

      pub unpacked_more : Unpacked depth payload at (put_mid k (b - k) s ys) b
      unpacked_more = record {
        made = front ∙ rw (u.made, e, part) (sym (packed_resumes depth payload k at (b - k)) ∙ ap (packed_from depth payload at) whole);
        within = rw (same_len_mid k (b - k) s ys l) h;
      }

      -- up to the end
      pub unpacked_rest : length s ≡ b → put_mid k (b - k) s ys ≡ packed_from depth payload at b
      unpacked_rest q =
          let n : length (put_mid k (b - k) s ys) ≡ b = same_len_mid k (b - k) s ys l ∙ q in
          sym (take_all b (put_mid k (b - k) s ys) (omega arith)) ∙ unpacked_more.made

-- ---- a sample out of eight bytes

-- it stands behind what was taken, and before `end`
pub cut_is : (payload : List ℕ) (at depth x i end v : ℕ) → x ≡ window payload (at / 8 * 8) 64 → end ≡ at % 8 + i * depth → end + depth ≤ 64
    → v ≡ x / 2 ^ (64 - (end + depth)) % 2 ^ depth → v ≡ window payload (at + i * depth) depth
cut_is payload at depth x i end v e f h g =
    let q : at / 8 * 8 + end ≡ at + i * depth = omega arith in
    g ∙ rw e (ap (λ (n : ℕ). n % 2 ^ depth) (window_head payload (at / 8 * 8) (end + depth) 64 h) ∙ window_tail payload (at / 8 * 8) end depth)
    ∙ ap (λ (n : ℕ). window payload n depth) q

-- ---- a few of them

-- i samples of n are cut out, and `end` bits of the 64 are behind
pub record Cutting (payload : List ℕ) (at depth x n : ℕ) (out : List ℕ) (end i : ℕ) : Type 0 where
  pub unpacked : Unpacked depth payload at out i
  pub long : length out ≡ n
  pub bits : x ≡ window payload (at / 8 * 8) 64
  pub ends : end ≡ at % 8 + i * depth
  pub room : n * depth ≤ 56
  pub some : 0 < depth
  pub most : depth ≤ 16

module _ (payload : List ℕ) (at depth x : ℕ) where
  pub cutting_start : (out : List ℕ) → x ≡ window payload (at / 8 * 8) 64 → length out * depth ≤ 56 → 0 < depth → depth ≤ 16
      → Cutting payload at depth x (length out) out (at % 8) 0
  cutting_start out e h a b = record {
    unpacked = unpacked_none depth payload at out;
    long = refl;
    bits = e;
    ends = omega arith;
    room = h;
    some = a;
    most = b;
  }

  module _ (n : ℕ) (out : List ℕ) (end i : ℕ) (c : Cutting payload at depth x n out end i) where
    pub cutting_all : length out ≤ i → out ≡ packed_from depth payload at n
    cutting_all h = unpacked_all depth payload at out i c.unpacked n c.long (omega (arith, c.long))

    module _ (h : i < length out) where
      far : end + depth ≤ 63
      far =
          let t : (i + 1) * depth ≤ n * depth = mul-le-mul_right depth (omega (arith, c.long)) in
          omega (arith, c.ends, c.room, t)

      pub cutting_end : Fits w64 (end + depth)
      cutting_end = record { fits = omega (arith, far) }

      -- what `cut` asks
      pub cutting_some : 0 < end + depth
      cutting_some = omega (arith, c.some)

      pub cutting_most : end + depth ≤ 64
      cutting_most = omega (arith, far)

      pub cutting_depth : depth ≤ 16
      cutting_depth = c.most

      pub cutting_step : (v : ℕ) → v ≡ x / 2 ^ (64 - (end + depth)) % 2 ^ depth → Cutting payload at depth x n (set out i v) (end + depth) (i + 1)
      cutting_step v e = record {
        unpacked = unpacked_step depth payload at out i c.unpacked v h (cut_is payload at depth x i end v c.bits c.ends cutting_most e);
        long = simp length-set c.long;
        bits = c.bits;
        ends = omega (arith, c.ends);
        room = c.room;
        some = c.some;
        most = c.most;
      }

pub ruleset cuts = (cutting_start, cutting_all, cutting_end, cutting_some, cutting_most, cutting_depth, cutting_step, rules)

-- ---- group after group

-- k samples of n are unpacked, g at a time
pub record Grouping (payload : List ℕ) (at depth n g : ℕ) (out : List ℕ) (p k : ℕ) : Type 0 where
  pub unpacked : Unpacked depth payload at out k
  pub long : length out ≡ n
  pub stands : p ≡ at + k * depth
  pub near : at + n * 16 ≤ 8589934592
  pub room : g * depth ≤ 56
  pub each : 0 < g
  pub some : 0 < depth
  pub most : depth ≤ 16

module _ (payload : List ℕ) (at depth : ℕ) where
  pub grouping_start : (out : List ℕ) (g : ℕ) → depth ≤ 16 → at ≤ 4294967296 → length out ≤ 268435456 → (depth ≡ 0 → ⊥) → g ≡ 56 / depth
      → Grouping payload at depth (length out) g out at 0
  grouping_start out g a b l z e =
      let s : 0 < depth = omega (arith, z) in
      record {
        unpacked = unpacked_none depth payload at out;
        long = refl;
        stands = omega arith;
        near = omega arith;
        room = rw e (div-mul-le_self 56 depth);
        each = rw e ((le-div_iff_mul-le {k = depth} {x = 1} {y = 56} s).1 (omega arith));
        some = s;
        most = a;
      }

  module _ (n g : ℕ) (out : List ℕ) (p k : ℕ) (s : Grouping payload at depth n g out p k) where
    pub grouping_unpacked : Unpacked depth payload at out k
    grouping_unpacked = s.unpacked

    pub grouping_within : k ≤ length out
    grouping_within = s.unpacked.within

    close : p ≤ at + k * 16
    close = omega (arith, s.stands, mul-le-mul (le_refl k) s.most)

    pub grouping_byte : Fits w64 (p / 8 + 8)
    grouping_byte = record { fits = omega (arith, close, s.near, s.unpacked.within, s.long) }

    module _ (h : g ≤ length out - k) where
      pub grouping_in : k + g ≤ length out
      grouping_in = omega (arith, s.unpacked.within)

      pub grouping_end : Fits w64 (k + g)
      grouping_end = record { fits = omega (arith, grouping_in, s.near, s.long) }

      of_group : length (take (k + g - k) (drop k out)) ≡ g
      of_group =
          let z : k + g - k ≡ g = omega arith in
          mid_len k (k + g) out grouping_in ∙ z

      pub grouping_room : length (take (k + g - k) (drop k out)) * depth ≤ 56
      grouping_room = rw of_group s.room

      pub grouping_bits : Fits w64 (g * depth)
      grouping_bits = record { fits = omega (arith, s.room) }

      pub grouping_next : Fits w64 (p + g * depth)
      grouping_next = record { fits = omega (arith, s.room, close, s.near, s.unpacked.within, s.long) }

      pub grouping_step : (ys : List ℕ) → length ys ≡ length (take (k + g - k) (drop k out))
          → ys ≡ packed_from depth payload p (length (take (k + g - k) (drop k out)))
          → Grouping payload at depth n g (put_mid k (k + g - k) out ys) (p + g * depth) (k + g)
      grouping_step ys l e = record {
        unpacked = unpacked_more depth payload at out k s.unpacked (k + g) ys (omega arith) grouping_in l (rw (← s.stands) e);
        long = same_len_mid k (k + g - k) out ys l ∙ s.long;
        stands = omega (arith, s.stands, add-mul k g depth);
        near = s.near;
        room = s.room;
        each = s.each;
        some = s.some;
        most = s.most;
      }

      pub grouping_less : n - (k + g) < n - k
      grouping_less = omega (arith, s.each, s.long, grouping_in)

-- none
pub grouping_none : (depth : ℕ) (payload : List ℕ) (at : ℕ) (out : List ℕ) → Unpacked depth payload at out 0
grouping_none depth payload at out = unpacked_none depth payload at out

pub ruleset groupings = (
  grouping_none,
  grouping_start,
  grouping_unpacked,
  grouping_within,
  grouping_byte,
  grouping_in,
  grouping_end,
  grouping_room,
  grouping_bits,
  grouping_next,
  grouping_step,
  grouping_less,
  rules,
)

-- ---- one by one, and the rest

-- i samples of n are unpacked, by windows
pub record Each (payload : List ℕ) (at depth n : ℕ) (out : List ℕ) (p i : ℕ) : Type 0 where
  pub unpacked : Unpacked depth payload at out i
  pub long : length out ≡ n
  pub stands : p ≡ at + i * depth
  pub near : at + n * 16 ≤ 17179869184
  pub most : depth ≤ 16

module _ (payload : List ℕ) (at depth : ℕ) where
  pub each_start : (out : List ℕ) → depth ≤ 16 → at ≤ 8589934592 → length out ≤ 268435456 → Each payload at depth (length out) out at 0
  each_start out a b l = record { unpacked = unpacked_none depth payload at out; long = refl; stands = omega arith; near = omega arith; most = a }

  module _ (n : ℕ) (out : List ℕ) (p i : ℕ) (s : Each payload at depth n out p i) where
    pub each_all : length out ≤ i → out ≡ packed_from depth payload at n
    each_all h = unpacked_all depth payload at out i s.unpacked n s.long (omega (arith, s.long))

    pub each_most : depth ≤ 16
    each_most = s.most

    module _ (h : i < length out) where
      pub each_next : Fits w64 (p + depth)
      each_next = record {
        fits = omega (arith, s.stands, s.near, s.long, s.most, mul-le-mul (le_refl i) s.most);
      }

      pub each_step : (v : ℕ) → v ≡ window payload p depth → Each payload at depth n (set out i v) (p + depth) (i + 1)
      each_step v e = record {
        unpacked = unpacked_step depth payload at out i s.unpacked v h (e ∙ ap (λ (q : ℕ). window payload q depth) s.stands);
        long = simp length-set s.long;
        stands = omega (arith, s.stands);
        near = s.near;
        most = s.most;
      }

pub ruleset eaching = (each_start, each_all, each_most, each_next, each_step, rules)

module _ (depth : ℕ) (payload : List ℕ) (at : ℕ) (s : List ℕ) (k n : ℕ) (u : Unpacked depth payload at s k) (q : length s ≡ n) (d : depth ≤ 16) (a : at ≤ 4294967296) (b : n ≤ 268435456) where
  pub rest_in : k ≤ n
  rest_in = omega (arith, u.within)

  pub rest_end : n ≤ length s
  rest_end = omega arith

  rest_far : k * depth ≤ 4294967296
  rest_far =
      let l : k ≤ 268435456 = omega (arith, u.within) in
      omega (arith, mul-le-mul l d)

  pub rest_bits : Fits w64 (k * depth)
  rest_bits = record { fits = omega (arith, rest_far) }

  pub rest_fits : Fits w64 (at + k * depth)
  rest_fits = record { fits = omega (arith, rest_far) }

  pub rest_near : at + k * depth ≤ 8589934592
  rest_near = omega (arith, rest_far)

  pub rest_few : length (take (n - k) (drop k s)) ≤ 268435456
  rest_few = omega (arith, mid_len k n s rest_end)

  pub rest_all : (ys : List ℕ) → length ys ≡ length (take (n - k) (drop k s)) → ys ≡ packed_from depth payload (at + k * depth) (length (take (n - k) (drop k s)))
      → put_mid k (n - k) s ys ≡ packed_from depth payload at n
  rest_all ys l e = unpacked_rest depth payload at s k u n ys rest_in rest_end l e q

pub ruleset rests = (rest_in, rest_end, rest_bits, rest_fits, rest_near, rest_few, rest_all, rules)
