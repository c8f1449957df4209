-- What a reading by itself answers and leaves, case by case (document 01, "Words and lookup"). Assumes nothing.
use mathlib.Core.Path.{◌≡◌, refl, sym, ap, ◌∙◌, subst, subst⁻¹}
use Prim.Native.Nat.{ℕ, ◌^◌, ◌≤◌, ◌<◌}
use native.Mathlib.Omega.{arith}
use mathlib.Core.List.{List}
use mathlib.Core.Bool.{true, false, true≢false}
use lib.Dec.{leb}
use lib.ListN.{length, take, drop, replicate}
use lib.Seq.{take_at}
use borrow.Author.Tests.{lt-ltb, le-ltb, le-leb}
use Rattle.scope.specs.Base.{zeros}
use Rattle.std.specs.Prelude.{Result, Ok, Err, is_err}
use Rattle.scope.specs.Refusals.{◌and_then◌, left_by, left_alone}
use Rattle.scope.specs.Words.{longest, need, word_at, Chain, symbols, stuck_at, chain_by, chain, symbols_of}
use Rattle.scope.specs.Lookup.{table_of, lookup_in}
use Rattle.scope.specs.Alone.{build_answer, workspace_built, read_answer, samples_read, workspace_read, ReadAlone}
use Rattle.scope.specs.Found.{Found}
use Rattle.scope.specs.declared.Place.TheVariants.{Plane, Nothing}
use Rattle.scope.specs.declared.Refusal.{Refusal}
use Rattle.scope.specs.Answers.{Answer, done, refused}
use Rattle.scope.specs.Pieces.{readable}
use Rattle.scope.proofs.Table.{read_in_pieces}
use Rattle.codes.proofs.Table.{table_length}
use Rattle.codes.proofs.Lookup.{looks_take}
use Rattle.codes.specs.Reading.{Readable}
use Rattle.reader.specs.Reading.{WordsRead, Reached, reached_end, reached_stuck}
use Rattle.reader.proofs.Chains.{end_chain, stuck_chain, code_readable, code_chain}
use Rattle.alone.specs.Built.{BuiltTable, TableRead}
use Rattle.alone.proofs.Building.{Good, good, low, told_refused, told_table, told_longest}

-- ---- `read_built`

module _ (look : ℕ → Found) (workspace samples : List ℕ) (o : Reached) (out workspace' : List ℕ) (r : WordsRead look 0 (length samples) o out)
    (z : workspace' ≡ replicate (length workspace) 0) where
  -- every word is read
  read_end : (e : ℕ) → o ≡ reached_end e → TableRead look workspace samples done workspace' out
  unfolding readable symbols_of left_by
  read_end e f =
      let c : chain_by look 0 (length samples) ≡ symbols out =
      end_chain look 0 (length samples) out e (subst (λ (x : Reached). WordsRead look 0 (length samples) x out) f r) in
      record { answer = rw c refl; samples = rw c refl; workspace = z }

  pub read_all : is_err o ≡ false → TableRead look workspace samples done workspace' out
  read_all = go o refl
    where
      go : (x : Reached) → o ≡ x → is_err x ≡ false → TableRead look workspace samples done workspace' out
      go (Ok e) f h = read_end e f
      go (Err s) f h = absurd (true≢false h)

  -- one fails
  module _ (out' : List ℕ) (g : out' ≡ replicate (length out) 0) (l : length out ≡ length samples) where
    read_at : (p : ℕ) → o ≡ reached_stuck p → TableRead look workspace samples (refused 14 (Plane 0)) workspace' out'
    unfolding readable symbols_of left_by
    read_at p f =
        let c : chain_by look 0 (length samples) ≡ stuck_at p =
        stuck_chain look 0 (length samples) out p (subst (λ (x : Reached). WordsRead look 0 (length samples) x out) f r) in
        record { answer = rw c refl; samples = rw c (g ∙ ap (λ (n : ℕ). replicate n 0) l); workspace = z }

    pub read_stuck : is_err o ≡ true → TableRead look workspace samples (refused 14 (Plane 0)) workspace' out'
    read_stuck = go o refl
      where
        go : (x : Reached) → o ≡ x → is_err x ≡ true → TableRead look workspace samples (refused 14 (Plane 0)) workspace' out'
        go (Ok e) f h = absurd (true≢false (sym h))
        go (Err s) f h = read_at s.at f

-- ---- from the start

-- a reading leaves the workspace wholly zero, whatever the chain is
pub cleared : (workspace : List ℕ) (c : Chain) → left_alone (readable 0 c) workspace (zeros workspace) (zeros workspace) ≡ zeros workspace
unfolding left_by readable
cleared workspace (symbols ss) = refl
cleared workspace (stuck_at p) = refl

module _ (ls payload workspace samples : List ℕ) where
  -- too many samples
  pub read_4 : 268435456 < length samples → ReadAlone ls payload workspace samples (refused 4 Nothing) workspace samples
  read_4 h = record {
    answer = sym e;
    samples = unfold samples_read left_by in (rw e refl);
    workspace = unfold workspace_read left_by in (rw e refl);
  }
    where
      e : read_answer ls payload (length samples) (length workspace) ≡ refused 4 Nothing
      e = unfold read_answer in (simp (lt-ltb _ _ h))

  module _ (few : length samples ≤ 268435456) where
    -- what is answered after the building
    after : (r : Answer) → build_answer ls (length workspace) ≡ r
        → read_answer ls payload (length samples) (length workspace) ≡ r and_then readable 0 (chain ls payload 0 (length samples))
    after r e = read_in_pieces ls payload (length samples) (length workspace) ∙ simp (le-ltb _ _ few, e)

    module _ (o : Result ℕ Refusal) (workspace₁ : List ℕ) (b : BuiltTable ls workspace o workspace₁) where
      -- no table is built
      pub read_refused : (why : Refusal) → o ≡ Err why → ReadAlone ls payload workspace samples (Err why) workspace₁ samples
      unfolding samples_read workspace_read workspace_built left_by
      read_refused why f =
          let e : build_answer ls (length workspace) ≡ Err why = sym (told_refused ls workspace o workspace₁ b why f).answer in
          let g : read_answer ls payload (length samples) (length workspace) ≡ Err why = after (Err why) e in
          let t : leb why.0 11 ≡ true = le-leb _ _ (low ls (length workspace) why e) in
          record {
            answer = sym g;
            samples = rw g (simp t);
            workspace = b.workspace ∙ rw (e, g) (simp t);
          }

      -- one is, and m is the longest length
      module _ (m : ℕ) (d : o ≡ Ok m) where
        is_done : build_answer ls (length workspace) ≡ done
        is_done = sym (told_table ls workspace o workspace₁ b m d).answer

        is_good : Good ls (length workspace)
        is_good = good ls (length workspace) is_done

        -- the workspace then begins with the table
        begins : take (need ls) workspace₁ ≡ table_of ls
        unfolding workspace_built left_by
        begins =
            ap (take (need ls)) (b.workspace ∙ rw is_done refl)
            ∙ take_at (table_of ls) (drop (need ls) workspace) (need ls) (table_length ls)

        looks : (p : ℕ) → lookup_in workspace₁ (longest ls) payload p ≡ word_at ls payload p
        looks p = looks_take ls payload p is_good.small is_good.full workspace₁ begins

        -- what a reading by it asks
        pub read_asked : Readable (lookup_in workspace₁ m payload) (2 ^ 16) 0 (length samples)
        read_asked =
            subst⁻¹ (λ (k : ℕ). Readable (lookup_in workspace₁ k payload) (2 ^ 16) 0 (length samples)) (told_longest ls workspace o workspace₁ b m d)
            (code_readable ls workspace₁ payload looks (2 ^ 16) 0 (length samples) is_good.small (omega (arith, is_good.few)) (omega (arith, few)))

        -- it finds the code's own words
        same_chain : chain_by (lookup_in workspace₁ m payload) 0 (length samples) ≡ chain ls payload 0 (length samples)
        same_chain =
            ap (λ (k : ℕ). chain_by (lookup_in workspace₁ k payload) 0 (length samples)) (told_longest ls workspace o workspace₁ b m d)
            ∙ code_chain ls workspace₁ payload looks 0 (length samples)

        -- and so the reading is that of the lengths
        pub read_table : (r : Answer) (workspace₂ samples₂ : List ℕ) → length workspace₁ ≡ length workspace
            → TableRead (lookup_in workspace₁ m payload) workspace₁ samples r workspace₂ samples₂
            → ReadAlone ls payload workspace samples r workspace₂ samples₂
        read_table r workspace₂ samples₂ l a = record {
          answer = a.answer ∙ ap (readable 0) same_chain ∙ sym e;
          samples = a.samples
              ∙ ap (λ (c : Chain). left_alone (readable 0 c) samples (zeros samples) (symbols_of c)) same_chain
              ∙ unfold samples_read in (rw e refl);
          workspace = a.workspace ∙ ap (λ (n : ℕ). replicate n 0) l
              ∙ unfold workspace_read in (sym (ap (λ (x : Answer). left_alone x workspace (zeros workspace) (zeros workspace)) e ∙ cleared workspace (chain ls payload 0 (length samples))));
        }
          where
            e : read_answer ls payload (length samples) (length workspace) ≡ readable 0 (chain ls payload 0 (length samples))
            e = after done is_done
