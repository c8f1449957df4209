-- What a table built by itself answers and leaves, case by case (document 01, "Words and lookup"). Assumes nothing.
use mathlib.Core.Path.{◌≡◌, refl, sym, ap, ◌∙◌, subst}
use mathlib.Core.Logic.{inl, inr}
use Prim.Native.Nat.{ℕ, ◌-◌, ◌≤◌, ◌<◌}
use native.Mathlib.Nat.{sub-zero}
use native.Mathlib.Omega.{arith}
use mathlib.Core.List.{List, ◌++◌}
use mathlib.Core.Bool.{true, false}
use lib.Dec.{ltb}
use lib.ListN.{length, drop}
use borrow.Author.Tests.{lt-ltb, le-ltb, le-leb, ltb-false}
use Rattle.std.specs.Prelude.{Result, Ok, Err}
use Rattle.scope.specs.Refusals.{left_by}
use Rattle.scope.specs.Words.{longest, shortest, shares, need, too_long, overfull}
use Rattle.scope.specs.Lookup.{table_of}
use Rattle.scope.specs.Alone.{build_answer, workspace_built, BuiltAlone}
use Rattle.scope.specs.declared.Place.{Place}
use Rattle.scope.specs.declared.Place.TheVariants.{Plane, Nothing}
use Rattle.scope.specs.declared.Refusal.{Refusal}
use Rattle.scope.specs.Answers.{Answer, done, refusal, refused}
use Rattle.lists.specs.Parts.{replaced}
use Rattle.lists.proofs.Tests.{which}
use Rattle.codes.proofs.Kraft.{none_over, over_none}
use Rattle.words.specs.Weigh.{code, weighed}
use Rattle.words.specs.declared.Code.{Code}
use Rattle.words.proofs.Weighing.{Passes, code_passes, code_longest, code_need}
use Rattle.alone.specs.Built.{built_by, BuiltTable}

-- ---- the answer

module _ (ls : List ℕ) (w : ℕ) where
  -- more than 16,384 lengths
  pub answer_4 : 16384 < length ls → build_answer ls w ≡ refused 4 Nothing
  unfolding build_answer
  answer_4 h = simp (lt-ltb _ _ h)

  module _ (few : length ls ≤ 16384) where
    -- a length above 18
    pub answer_9 : too_long ls ≡ true → build_answer ls w ≡ refused 9 (Plane 0)
    unfolding build_answer
    answer_9 a = simp (le-ltb _ _ few, a)

    -- shares that exceed one
    pub answer_10 : too_long ls ≡ false → overfull ls ≡ true → build_answer ls w ≡ refused 10 (Plane 0)
    unfolding build_answer
    answer_10 a b = simp (le-ltb _ _ few, a, b)

    module _ (small : longest ls ≤ 18) (full : shares ls ≤ 262144) where
      -- a workspace shorter than the need
      pub answer_11 : w < need ls → build_answer ls w ≡ refused 11 Nothing
      unfolding build_answer too_long
      answer_11 h = simp (le-ltb _ _ few, le-ltb _ _ small, over_none ls full, lt-ltb _ _ h)

      -- none of these
      pub answer_done : need ls ≤ w → build_answer ls w ≡ done
      unfolding build_answer too_long
      answer_done h = simp (le-ltb _ _ few, le-ltb _ _ small, over_none ls full, le-ltb _ _ h)

-- ---- `build_table`: and the workspace

module _ (ls workspace : List ℕ) where
  -- the refusals that leave it as found
  refused_early : (n : ℕ) (p : Place) → build_answer ls (length workspace) ≡ refused n p → n ≤ 11
      → BuiltTable ls workspace (Err (refusal n p)) workspace
  unfolding built_by workspace_built left_by
  refused_early n p e h = record { answer = rw e refl; workspace = rw e (simp (le-leb _ _ h)) }

  -- more than 16,384 lengths
  pub build_4 : 16384 < length ls → BuiltTable ls workspace (Err (refusal 4 Nothing)) workspace
  build_4 h = refused_early 4 Nothing (answer_4 ls (length workspace) h) (omega arith)

  module _ (few : length ls ≤ 16384) (o : Result Code Refusal) (is : o ≡ weighed ls 0) where
    -- what the lengths get by themselves
    pub build_refused : (why : Refusal) → o ≡ Err why → BuiltTable ls workspace (Err why) workspace
    unfolding weighed
    build_refused why e = elim (which (too_long ls)) [
      | inl a ↦ (
          let f : ◌≡◌ {A = Result Code Refusal} (Err (refusal 9 (Plane 0))) (Err why) = rw a at (sym is ∙ e) in
          same f (refused_early 9 (Plane 0) (answer_9 ls (length workspace) few a) (omega arith)))
      | inr a ↦ elim (which (overfull ls)) [
        | inl b ↦ (
            let f : ◌≡◌ {A = Result Code Refusal} (Err (refusal 10 (Plane 0))) (Err why) = rw (a, b) at (sym is ∙ e) in
            same f (refused_early 10 (Plane 0) (answer_10 ls (length workspace) few a b) (omega arith)))
        | inr b ↦ (
            let f : ◌≡◌ {A = Result Code Refusal} (Ok (code (longest ls) (shortest ls) (need ls))) (Err why) = rw (a, b) at (sym is ∙ e) in
            let z : ◌≡◌ {A = ℕ} 0 1 = cc in
            absurd (omega arith))
      ]
    ]
      where
        same : {k : ℕ} {q : Place} → ◌≡◌ {A = Result Code Refusal} (Err (refusal k q)) (Err why) → BuiltTable ls workspace (Err (refusal k q)) workspace
            → BuiltTable ls workspace (Err why) workspace
        same {k} {q} f b =
            let g : ◌≡◌ {A = Result ℕ Refusal} (Err (refusal k q)) (Err why) = cc in
            subst (λ (r : Result ℕ Refusal). BuiltTable ls workspace r workspace) g b

    -- a code
    module _ (c : Code) (e : o ≡ Ok c) where
      passes : Passes ls
      passes = code_passes ls 0 c (sym is ∙ e)

      size : c.need ≡ need ls
      size = code_need ls 0 c (sym is ∙ e)

      -- a workspace shorter than the need
      pub build_11 : length workspace < c.need → BuiltTable ls workspace (Err (refusal 11 Nothing)) workspace
      build_11 h = refused_early 11 Nothing (answer_11 ls (length workspace) few passes.small passes.full (omega (arith, size))) (omega arith)

      -- what `build_part` asks
      pub part_small : longest ls ≤ 18
      part_small = passes.small

      pub part_full : shares ls ≤ 262144
      part_full = passes.full

      -- the longest length
      pub part-longest : c.longest ≡ longest ls
      part-longest = code_longest ls 0 c (sym is ∙ e)

      -- and as many words as the need
      pub part_size : c.need - 0 ≡ need ls
      part_size = sub-zero c.need ∙ size

      -- success leaves the table, and the words past it as found
      pub build_done : (workspace' : List ℕ) → c.need ≤ length workspace → workspace' ≡ replaced workspace 0 (c.need - 0) (table_of ls)
          → BuiltTable ls workspace (Ok c.longest) workspace'
      unfolding built_by workspace_built left_by
      build_done workspace' h f =
          let g : build_answer ls (length workspace) ≡ done = answer_done ls (length workspace) few passes.small passes.full (omega (arith, size)) in
          record {
            answer = rw (g, part-longest) refl;
            workspace = f ∙ ap (λ (k : ℕ). table_of ls ++ drop k workspace) part_size ∙ rw g refl;
          }

-- ---- what `build_table` gives, case by case

no_table : (why : Refusal) (m : ℕ) → ◌≡◌ {A = Result ℕ Refusal} (Ok m) (Err why) → ⊥
no_table why m e =
    let z : ◌≡◌ {A = ℕ} 0 1 = cc in
    omega arith

-- a refusal
by_refused : (a : Answer) (m : ℕ) (why : Refusal) → Err why ≡ built_by a m → Err why ≡ a
unfolding built_by
by_refused (Ok _) m why e = absurd (no_table why m (sym e))
by_refused (Err w) m why e = cc

-- success
by_table : (a : Answer) (k m : ℕ) → Ok k ≡ built_by a m → (done ≡ a) × (k ≡ m)
unfolding built_by
by_table (Ok _) k m e = (refl, cc)
by_table (Err why) k m e = absurd (no_table why k e)

module _ (ls workspace : List ℕ) (o : Result ℕ Refusal) (workspace₁ : List ℕ) (b : BuiltTable ls workspace o workspace₁) where
  -- a refusal
  pub told_refused : (why : Refusal) → o ≡ Err why → BuiltAlone ls workspace (Err why) workspace₁
  told_refused why e = record {
    answer = by_refused (build_answer ls (length workspace)) (longest ls) why (sym e ∙ b.answer);
    workspace = b.workspace;
  }

  module _ (m : ℕ) (e : o ≡ Ok m) where
    -- success
    pub told_table : BuiltAlone ls workspace done workspace₁
    told_table = record {
      answer = (by_table (build_answer ls (length workspace)) m (longest ls) (sym e ∙ b.answer)).0;
      workspace = b.workspace;
    }

    -- with the longest length
    pub told_longest : m ≡ longest ls
    told_longest = (by_table (build_answer ls (length workspace)) m (longest ls) (sym e ∙ b.answer)).1

-- ---- what an answer says of the lengths

-- a table is built
pub record Good (ls : List ℕ) (w : ℕ) : Type 0 where
  pub few : length ls ≤ 16384
  pub small : longest ls ≤ 18
  pub full : shares ls ≤ 262144
  pub room : need ls ≤ w

-- the four tests, whatever the answer says: where one holds the answer is its refusal, and the lengths are good where none does
module _ (ls : List ℕ) (w : ℕ) (P : Answer → Type 0) where
  -- a fact of every refusal, and of success with good lengths, is one of the answer
  pub by_tests : P (refused 4 Nothing) → P (refused 9 (Plane 0)) → P (refused 10 (Plane 0)) → P (refused 11 Nothing) → (Good ls w → P done)
      → P (build_answer ls w)
  unfolding build_answer
  by_tests a b c d e = elim (which (ltb 16384 (length ls))) [
    | inl t ↦ rw t a
    | inr t ↦ elim (which (too_long ls)) [
      | inl u ↦ rw (t, u) b
      | inr u ↦ elim (which (overfull ls)) [
        | inl v ↦ rw (t, u, v) c
        | inr v ↦ elim (which (ltb w (need ls))) [
          | inl x ↦ rw (t, u, v, x) d
          | inr x ↦ rw (t, u, v, x) (e (record {
            few = ltb-false 16384 (length ls) t;
            small = unfold too_long in ltb-false 18 (longest ls) u;
            full = none_over ls v;
            room = ltb-false w (need ls) x;
          }))
        ]
      ]
    ]
  ]

no_done : (why : Refusal) → Err why ≡ done → ⊥
no_done why e =
    let z : ◌≡◌ {A = ℕ} 0 1 = cc in
    omega arith

-- success: the lengths are good, and the workspace is large enough
pub good : (ls : List ℕ) (w : ℕ) → build_answer ls w ≡ done → Good ls w
good ls w = by_tests ls w (λ (r : Answer). r ≡ done → Good ls w)
    (λ e. absurd (no_done _ e)) (λ e. absurd (no_done _ e)) (λ e. absurd (no_done _ e)) (λ e. absurd (no_done _ e)) (λ g e. g)

-- refusal: its number is at most 11
pub low : (ls : List ℕ) (w : ℕ) (why : Refusal) → build_answer ls w ≡ Err why → why.0 ≤ 11
low ls w why = by_tests ls w (λ (r : Answer). r ≡ Err why → why.0 ≤ 11)
    (λ e. small 4 Nothing e (omega arith)) (λ e. small 9 (Plane 0) e (omega arith)) (λ e. small 10 (Plane 0) e (omega arith))
    (λ e. small 11 Nothing e (omega arith)) (λ g e. absurd (no_done why (sym e)))
  where
    small : (k : ℕ) (q : Place) → refused k q ≡ Err why → k ≤ 11 → why.0 ≤ 11
    small k q e h =
        let d : ◌≡◌ {A = Refusal} (refusal k q) why = cc in
        let f : k ≡ why.0 = ap (λ (x : Refusal). x.0) d in
        omega arith
