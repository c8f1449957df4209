-- A part of lent memory, and the memory once the part is replaced: what another part, and the part that ends with it, then hold.
-- Document 01, "a stretch of the plane memory lent to the predictor" and "stretches of the lent workspace". Assumes nothing.
use mathlib.Core.Path.{◌≡◌, sym, ap, ◌∙◌}
use mathlib.Core.List.{List, [], ◌∷◌, ◌++◌, append_assoc}
use Prim.Native.Nat.{ℕ, suc, ◌+◌, ◌-◌, ◌≤◌, ◌<◌}
use native.Mathlib.Numerals.{add-one}
use native.Mathlib.Omega.{arith}
use lib.ListN.{get_or, length, take, drop, set, length-append, length-take, length-drop, take-append-drop}
use lib.Seq.{take-suc, drop-cons, set_at, get_or-drop, take_at, drop_at, take-append-le, drop-append-le, drop-drop, take-add, length-take-le}
use Rattle.lists.specs.Parts.{part, replaced}

-- a part within the memory is as long as was asked
pub length_part : (l : List ℕ) (at n : ℕ) → at + n ≤ length l → length (part l at n) ≡ n
length_part l at n h = length-take-le n (drop at l) (simp length-drop (omega arith))

-- a part that is one longer
pub part_next : (l : List ℕ) (at n : ℕ) → at + n < length l → part l at (suc n) ≡ part l at n ++ (get_or l (at + n) 0 ∷ [])
part_next l at n h = take-suc (drop at l) n 0 (simp length-drop (omega arith)) ∙ rw get_or-drop

module _ (l : List ℕ) (at m : ℕ) where
  cut_before : (ys : List ℕ) (a : ℕ) → at + m ≤ a → a ≤ length l → part (take a l ++ ys) at m ≡ take m (drop at (take a l))
  cut_before ys a h k =
      let e : length (take a l) ≡ a = length-take-le a l k in
      let b : at ≤ length (take a l) = omega arith in
      let c : m ≤ length (drop at (take a l)) = simp length-drop (omega arith) in
      rw (drop-append-le at (take a l) ys b) (take-append-le m (drop at (take a l)) ys c)

  -- a part that ends before the one replaced
  pub part_before : (a n : ℕ) (xs : List ℕ) → at + m ≤ a → a ≤ length l → part (replaced l a n xs) at m ≡ part l at m
  part_before a n xs h k =
      cut_before _ a h k ∙ sym (cut_before (drop a l) a h k) ∙ ap (λ (y : List ℕ). part y at m) (take-append-drop a l)

  -- a part that starts after the one replaced
  pub part_after : (a n : ℕ) (xs : List ℕ) → length xs ≡ n → a + n ≤ at → a + n ≤ length l → part (replaced l a n xs) at m ≡ part l at m
  part_after a n xs e h k =
      let q : length (take a l ++ xs) ≡ a + n = simp (length-append, length-take) (omega arith) in
      let z : a + n + (at - (a + n)) ≡ at = omega arith in
      let from : drop (a + n) (replaced l a n xs) ≡ drop (a + n) l =
      rw (← append_assoc (take a l) xs (drop n (drop a l))) (drop_at (take a l ++ xs) (drop n (drop a l)) (a + n) q ∙ drop-drop n a l)
      in
      ap (take m) (ap (λ (y : ℕ). drop y (replaced l a n xs)) (sym z) ∙ sym (drop-drop (at - (a + n)) (a + n) (replaced l a n xs)) ∙ ap (drop (at - (a + n))) from ∙ drop-drop (at - (a + n)) (a + n) l ∙ ap (λ (y : ℕ). drop y l) z)

  -- the part that ends with it has what was put in at its end
  pub part_more : (n : ℕ) (xs : List ℕ) → length xs ≡ n → at + m + n ≤ length l → part (replaced l (at + m) n xs) at (m + n) ≡ part l at m ++ xs
  part_more n xs e h =
      let k : length (take at l) ≡ at = length-take-le at l (omega arith) in
      let q : length (part l at m ++ xs) ≡ m + n = simp (length-append, length_part l at m (omega arith)) (omega arith) in
      let ys : List ℕ = drop n (drop (at + m) l) in
      rw (take-add at m l, append_assoc (take at l) (part l at m) (xs ++ ys), drop_at (take at l) (part l at m ++ (xs ++ ys)) at k, ← append_assoc (part l at m) xs ys)
      (take_at (part l at m ++ xs) ys (m + n) q)

-- what is put in is as long as what it takes the place of, where the whole keeps its length
pub put_length : (l : List ℕ) (a n : ℕ) (xs : List ℕ) → a + n ≤ length l → length (replaced l a n xs) ≡ length l → length xs ≡ n
put_length l a n xs h e = omega (arith, length-append (take a l) (xs ++ drop n (drop a l)), length-append xs (drop n (drop a l)), length-take a l, length-drop n (drop a l), length-drop a l)

-- and so the whole keeps its length where it is
pub put_keeps : (l : List ℕ) (a n : ℕ) (xs : List ℕ) → length xs ≡ n → a + n ≤ length l → length (replaced l a n xs) ≡ length l
put_keeps l a n xs e h = simp (length-append, length-take, length-drop) (omega arith)

-- a part is a shorter one and what follows it
pub part-add : (l : List ℕ) (at m n : ℕ) → part l at (m + n) ≡ part l at m ++ part l (at + m) n
part-add l at m n = take-add m n (drop at l) ∙ rw (drop-drop m at l)

-- a part that is replaced, and then the one after it
pub put_more : (l : List ℕ) (a m n : ℕ) (xs ys : List ℕ) → length xs ≡ m → a + m ≤ length l
    → replaced (replaced l a m xs) (a + m) n ys ≡ replaced l a (m + n) (xs ++ ys)
put_more l a m n xs ys e h =
    let t : length (take a l ++ xs) ≡ a + m = length-append (take a l) xs ∙ rw (length-take-le a l (omega arith), e) in
    rw (
      ← append_assoc (take a l) xs (drop m (drop a l)),
      take_at (take a l ++ xs) (drop m (drop a l)) (a + m) t,
      drop_at (take a l ++ xs) (drop m (drop a l)) (a + m) t,
      drop-drop n m (drop a l),
    )
    (append_assoc (take a l) xs (ys ++ drop (m + n) (drop a l))
    ∙ ap (λ (z : List ℕ). take a l ++ z) (sym (append_assoc xs ys (drop (m + n) (drop a l)))))

-- a store is a part of one element that is replaced
pub set_put : (s : List ℕ) (i v : ℕ) → i < length s → replaced s i 1 (v ∷ []) ≡ set s i v
set_put s i v h =
    let e : s ≡ take i s ++ (get_or s i 0 ∷ drop (suc i) s) = sym (take-append-drop i s) ∙ ap (λ (l : List ℕ). take i s ++ l) (drop-cons s i 0 h) in
    let l : length (take i s) ≡ i = length-take-le i s (omega arith) in
    let n : i + 1 ≡ suc i = add-one i in
    rw (drop-drop 1 i s, n) (sym (ap (λ (z : List ℕ). set z i v) e ∙ set_at (take i s) (get_or s i 0) (drop (suc i) s) v i l))
