-- What the lengths of one plane get, case by case, and what a code says of them (document 01, refusals 9 and 10, and the need).
-- Assumes nothing.
use Rattle.std.proofs.Common.{◌≡◌, ℕ, ◌-◌, ◌*◌, ◌%◌, ◌^◌, ◌≤◌, cond, false, Option, Some, None, List, length, get_or, sym, refl, ap, ◌∙◌, inl, inr, arith, ltb-false, le-ltb}
use native.Mathlib.Decide.{dec_le}
use Rattle.std.proofs.lemmas.Option.{none-some}
use Rattle.scope.specs.Words.{longest, shortest, shares, overfull, too_long, first, need, need_from}
use Rattle.scope.specs.Geometry.{lengths_of}
use Rattle.scope.specs.declared.Geometry.{Geometry}
use Rattle.scope.specs.declared.Place.TheVariants.{Plane}
use Rattle.scope.specs.Pieces.{length_check}
use Rattle.lists.proofs.Tests.{which}
use Rattle.lists.proofs.Powers.{shl_one}
use Rattle.codes.proofs.Heads.{need_first, need_small, first_small, none_at_longest}
use Rattle.codes.proofs.Kraft.{none_over, over_none}
use Rattle.words.specs.Tally.{counts_of, highest, lowest, Tallied}
use Rattle.words.specs.Weigh.{firsts_of, code, weighed, weighed_answer, Begun}
use Rattle.std.specs.Prelude.{Result, Ok, Err}
use Rattle.scope.specs.Answers.{refusal}
use Rattle.scope.specs.declared.Refusal.{Refusal}
use Rattle.words.specs.declared.Code.{Code}
use Rattle.words.proofs.Walking.{firsts_twelve}
use Rattle.words.proofs.Ends.{highest-longest, lowest_shortest}

-- ---- `need_from`

-- the second part's size
module _ (m s : ℕ) (k : m ≤ 18) (f : s ≤ 4096) where
  -- the shift is exact
  pub second_exact : s * (1 * 2 ^ (m - 12) % 2 ^ 64) ≡ s * 2 ^ (m - 12)
  second_exact = ap (λ (x : ℕ). s * x) (shl_one 64 (m - 12) (omega arith))

-- ---- `weigh`

-- the words of 12 bits start at 4,096 or before, also where no word is longer
pub twelve_small : (ls : List ℕ) → longest ls ≤ 18 → shares ls ≤ 262144 → first ls 12 ≤ 4096
twelve_small ls k f = elim (dec_le (longest ls) 12) [
  | yes h ↦ rw (none_at_longest ls 12 h) (omega arith)
  | no h ↦ first_small ls k f (omega (arith, h))
]

-- what `tally` gives
module _ (ls : List ℕ) (few : length ls ≤ 16384) (tallied : Option (List ℕ)) (et : tallied ≡ cond (too_long ls) None (Some (counts_of ls))) where
  -- a length above 18
  pub weighed_9 : (plane : ℕ) → tallied ≡ None → Err (refusal 9 (Plane plane)) ≡ weighed ls plane
  unfolding weighed
  weighed_9 plane h = elim (which (too_long ls)) [
    | inl a ↦ sym (simp a)
    | inr a ↦ absurd (none-some _ (sym (rw a at (sym et ∙ h))))
  ]

  -- none
  module _ (counts : List ℕ) (h : tallied ≡ Some counts) (m : ℕ) (em : m ≡ highest counts 19) where
    short : too_long ls ≡ false
    short = elim (which (too_long ls)) [
      | inl a ↦ absurd (none-some _ (rw a at (sym et ∙ h)))
      | inr a ↦ a
    ]

    counted : counts ≡ counts_of ls
    counted =
        let e : Some counts ≡ cond (too_long ls) None (Some (counts_of ls)) = sym h ∙ et in
        let f : Some counts ≡ Some (counts_of ls) = rw short at e in
        cc

    small : longest ls ≤ 18
    small = unfold too_long in ltb-false 18 (longest ls) short

    -- these counts and this longest length
    is_tallied : Tallied ls counts m
    is_tallied = record {
      few = few;
      small = small;
      counted = counted;
      is = em ∙ ap (λ (x : List ℕ). highest x 19) counted ∙ highest-longest ls small;
    }

    -- what `first_words` gives
    module _ (begun : Option (List ℕ)) (b : Begun counts m begun) where
      -- shares that exceed one
      pub weighed_10 : (plane : ℕ) → begun ≡ None → Err (refusal 10 (Plane plane)) ≡ weighed ls plane
      unfolding weighed
      weighed_10 plane e = elim (which (overfull ls)) [
        | inl a ↦ sym (simp (short, a))
        | inr a ↦ absurd (none-some _ (sym (rw a at (sym (b.starts ls is_tallied) ∙ e))))
      ]

      -- shares that do not
      module _ (at : List ℕ) (e : begun ≡ Some at) where
        over : overfull ls ≡ false
        over = elim (which (overfull ls)) [
          | inl a ↦ absurd (none-some _ (rw a at (sym (b.starts ls is_tallied) ∙ e)))
          | inr a ↦ a
        ]

        is : at ≡ firsts_of ls
        is =
            let q : Some at ≡ cond (overfull ls) None (Some (firsts_of ls)) = sym e ∙ b.starts ls is_tallied in
            let f : Some at ≡ Some (firsts_of ls) = rw over at q in
            cc

        -- what `need_from` asks
        pub twelve_fits : get_or at 12 0 ≤ 4096
        twelve_fits = omega (arith, firsts_twelve ls at is, twelve_small ls small (none_over ls over))

        -- the code
        pub weighed_code : (plane s n : ℕ) → s ≡ lowest counts 1 18 → n ≡ need_from m (get_or at 12 0) → Ok (code m s n) ≡ weighed ls plane
        unfolding weighed
        weighed_code plane s n es en =
            let a : s ≡ shortest ls = es ∙ ap (λ (x : List ℕ). lowest x 1 18) counted ∙ lowest_shortest ls small in
            let b : n ≡ need ls =
            en ∙ ap (λ (x : ℕ). need_from x (get_or at 12 0)) is_tallied.is
            ∙ need_first ls small (none_over ls over) (get_or at 12 0) (λ k. firsts_twelve ls at is) in
            rw (is_tallied.is, a, b) (sym (simp (short, over)))

-- ---- `firsts`

-- the lengths are known to pass: they are counted
pub tally_some : (ls : List ℕ) → longest ls ≤ 18 → (r : Option (List ℕ)) → r ≡ cond (too_long ls) None (Some (counts_of ls)) → r ≡ Some (counts_of ls)
unfolding too_long
tally_some ls small r e = e ∙ rw (le-ltb 18 (longest ls) small) refl

-- and their words have room
pub begun_some : (ls : List ℕ) → length ls ≤ 16384 → longest ls ≤ 18 → shares ls ≤ 262144
    → (counts : List ℕ) → counts ≡ counts_of ls → (m : ℕ) → m ≡ highest counts 19 → (r : Option (List ℕ)) → Begun counts m r → r ≡ Some (firsts_of ls)
begun_some ls few small full counts ec m em r b =
    let t : Tallied ls counts m = record { few = few; small = small; counted = ec; is = em ∙ ap (λ (x : List ℕ). highest x 19) ec ∙ highest-longest ls small } in
    b.starts ls t ∙ rw (over_none ls full) refl

-- ---- what the cases say

-- lengths that pass refusals 9 and 10
pub record Passes (ls : List ℕ) : Type 0 where
  pub small : longest ls ≤ 18
  pub full : shares ls ≤ 262144
  -- and their need is at most 4,096 + 2^18 workspace words
  pub bounded : need ls ≤ 266240

no_code : (why : Refusal) (c : Code) → ◌≡◌ {A = Result Code Refusal} (Err why) (Ok c) → ⊥
no_code why c e =
    let z : ◌≡◌ {A = ℕ} 0 1 = cc in
    omega arith

-- a plane's lengths get a code
module _ (ls : List ℕ) (plane : ℕ) (c : Code) where
  -- what it says
  record Says : Type 0 where
    pub passes : Passes ls
    pub longest_is : c.longest ≡ longest ls
    pub shortest_is : c.shortest ≡ shortest ls
    pub need_is : c.need ≡ need ls

  says : weighed ls plane ≡ Ok c → Says
  unfolding weighed
  says e = elim (which (too_long ls)) [
    | inl a ↦ absurd (no_code (refusal 9 (Plane plane)) c (rw a at e))
    | inr a ↦ elim (which (overfull ls)) [
      | inl b ↦ absurd (no_code (refusal 10 (Plane plane)) c (rw (a, b) at e))
      | inr b ↦ (
          let f : ◌≡◌ {A = Result Code Refusal} (Ok (code (longest ls) (shortest ls) (need ls))) (Ok c) = rw (a, b) at e in
          let k : longest ls ≤ 18 = unfold too_long in ltb-false 18 (longest ls) a in
          let d : code (longest ls) (shortest ls) (need ls) ≡ c = cc in
          record {
            passes = record { small = k; full = none_over ls b; bounded = need_small ls k };
            longest_is = sym (ap (λ (x : Code). x.longest) d);
            shortest_is = sym (ap (λ (x : Code). x.shortest) d);
            need_is = sym (ap (λ (x : Code). x.need) d);
          })
    ]
  ]

  module _ (e : weighed ls plane ≡ Ok c) where
    -- the lengths pass
    pub code_passes : Passes ls
    code_passes = (says e).passes

    -- the longest length is theirs
    pub code_longest : c.longest ≡ longest ls
    code_longest = (says e).longest_is

    -- the shortest is
    pub code_shortest : c.shortest ≡ shortest ls
    code_shortest = (says e).shortest_is

    -- and so is the need
    pub code_need : c.need ≡ need ls
    code_need = (says e).need_is

-- the answer of the lengths of plane p is the frame's check of that plane
pub weighed_check : (g : Geometry) (lengths : List ℕ) (p : ℕ) → weighed_answer (weighed (lengths_of g lengths p) p) ≡ length_check g lengths p
unfolding weighed length_check
weighed_check g lengths p = elim (which (too_long (lengths_of g lengths p))) [
  | inl a ↦ rw a refl
  | inr a ↦ elim (which (overfull (lengths_of g lengths p))) [
    | inl b ↦ rw (a, b) refl
    | inr b ↦ rw (a, b) refl
  ]
]
