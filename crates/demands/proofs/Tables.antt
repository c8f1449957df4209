-- Demand 3 (specs/Demand.antt) of a table by itself, and of the lookup in what it leaves. Document 01, "Words and lookup". Assumes nothing.
use mathlib.Core.Path.{◌≡◌, refl, sym, ap, ◌∙◌}
use mathlib.Core.Logic.{◌↔◌}
use Prim.Native.Nat.{ℕ, ◌≤◌}
use mathlib.Core.List.{List, ◌++◌}
use native.Mathlib.Omega.{arith}
use lib.ListN.{length, take, drop}
use lib.Seq.{take_at, drop_at}
use Rattle.scope.specs.Base.{zeros}
use Rattle.scope.specs.Refusals.{number_of, first_of}
use Rattle.scope.specs.Words.{longest, need, length_of, word_at, Begins}
use Rattle.scope.specs.Lookup.{table_of, lookup_in}
use Rattle.scope.specs.Alone.{build_rows, build_answer, workspace_built}
use Rattle.scope.specs.Found.{Found, some_word}
use Rattle.std.specs.Prelude.{None, Some}
use Rattle.scope.specs.Answers.{Answer, done}
use Rattle.refusals.specs.Rows.{Every}
use Rattle.codes.proofs.Longest.{at_most_longest, longest_most}
use Rattle.codes.proofs.Words.{prefix_free, word_found, found-begins}
use Rattle.codes.proofs.Kraft.{word_fits}
use Rattle.codes.proofs.Table.{table_length}
use Rattle.codes.proofs.Lookup.{looks_behind}
use Rattle.alone.proofs.Building.{Good, good, answer_done, by_tests}
use Rattle.magicyuv.specs.declared.Reply.{Reply}
use Rattle.magicyuv.specs.Boundary.{reply_to}
use Rattle.demands.specs.Demand.{TableCall, LookupCall, Demand3Table, TablesAlike, TableForgotten, Usable, TableEntry, build, magicyuv_build, TableAllowed, table_call, Lookup, lookup_call}
use Rattle.demands.proofs.Replies.{Numbered, says_reply, reply_done, by_table, left_done, left_found}

-- what a contract says of a call, in the call's own names
pub record TableStated (c : TableCall) : Type 0 where
  pub reply : c.reply ≡ reply_to (first_of (build_rows c.lengths (length c.workspace₀)))
  pub workspace : c.workspace₁ ≡ workspace_built c.lengths c.workspace₀

pub table_stated : (f : TableEntry) (c : TableAllowed f) → TableStated (table_call f c)
unfolding build_answer
table_stated build c = record { reply = ap reply_to c.allowed.answer; workspace = c.allowed.workspace }
table_stated magicyuv_build c = record { reply = says_reply _ _ c.allowed.answer; workspace = c.allowed.workspace }

-- no number but those of document 01's table
pub build_numbers : (ls : List ℕ) (w : ℕ) → Every Numbered (build_answer ls w)
unfolding Every
build_numbers ls w =
    by_tests ls w (Every Numbered) (omega arith, omega arith) (omega arith, omega arith) (omega arith, omega arith) (omega arith, omega arith) (λ g. tt)

-- and none above 11
build_most : (ls : List ℕ) (w : ℕ) → number_of (build_answer ls w) ≤ 11
build_most ls w = by_tests ls w (λ (a : Answer). number_of a ≤ 11) (omega arith) (omega arith) (omega arith) (omega arith) (λ g. omega arith)

module _ (c : TableCall) (st : TableStated c) where
  module _ (z : c.reply.number ≡ 0) where
    built : build_answer c.lengths (length c.workspace₀) ≡ done
    unfolding build_answer
    built = reply_done (build_rows c.lengths (length c.workspace₀)) c.reply st.reply (build_numbers c.lengths (length c.workspace₀)) z

    is_good : Good c.lengths (length c.workspace₀)
    is_good = good c.lengths (length c.workspace₀) built

    pub left_table : c.workspace₁ ≡ table_of c.lengths ++ drop (need c.lengths) c.workspace₀
    unfolding workspace_built
    left_table = st.workspace ∙ left_done 11 c.workspace₀ (zeros c.workspace₀) (table_of c.lengths ++ drop (need c.lengths) c.workspace₀) _ built

    -- the words past the need
    past : drop (need c.lengths) c.workspace₁ ≡ drop (need c.lengths) c.workspace₀
    past =
        ap (λ (w : List ℕ). drop (need c.lengths) w) left_table
        ∙ drop_at (table_of c.lengths) (drop (need c.lengths) c.workspace₀) (need c.lengths) (table_length c.lengths)

  found : 1 ≤ c.reply.number → c.workspace₁ ≡ c.workspace₀
  unfolding workspace_built
  found l =
      let n : c.reply.number ≡ number_of (build_answer c.lengths (length c.workspace₀)) = unfold build_answer in ap (λ (x : Reply). x.number) st.reply in
      st.workspace
      ∙ left_found 11 c.workspace₀ (zeros c.workspace₀) (table_of c.lengths ++ drop (need c.lengths) c.workspace₀)
      (build_answer c.lengths (length c.workspace₀)) (omega (arith, l, n)) (build_most c.lengths (length c.workspace₀))

  done_reply : build_answer c.lengths (length c.workspace₀) ≡ done → c.reply.number ≡ 0
  unfolding build_answer
  done_reply e = ap (λ (x : Reply). x.number) st.reply ∙ ap number_of e

  pub demand_3_table_of : Demand3Table c
  demand_3_table_of = record {
    exactly = unfold build_answer in by_table (build_rows c.lengths (length c.workspace₀)) c.reply st.reply (build_numbers c.lengths (length c.workspace₀));
    built = λ caps room. (
      λ z. (is_good z).full,
      λ f. done_reply (answer_done c.lengths (length c.workspace₀) caps.few (longest_most c.lengths 18 caps.small) f room),
    );
    caps = λ z. record { few = (is_good z).few; small = λ s l. omega (arith, at_most_longest c.lengths s, (is_good z).small) };
    full = λ z. (is_good z).full;
    fits = λ caps f. word_fits c.lengths (longest_most c.lengths 18 caps.small) f;
    free = prefix_free c.lengths;
    found = found;
    past = past;
  }

-- ---- two tables

pub table_forgotten_of : (c d : TableCall) → TableStated c → TableStated d → TablesAlike c d → TableForgotten c d
table_forgotten_of c d sc sd h =
    let reply : c.reply ≡ d.reply = sc.reply ∙ rw (h.lengths, h.workspace) refl ∙ sym sd.reply in
    record {
      reply = reply;
      words = λ z.
          ap (λ (w : List ℕ). take (need c.lengths) w) (left_table c sc z)
          ∙ take_at (table_of c.lengths) (drop (need c.lengths) c.workspace₀) (need c.lengths) (table_length c.lengths)
          ∙ sym (ap (λ (w : List ℕ). take (need c.lengths) w) (left_table d sd (sym (ap (λ (x : Reply). x.number) reply) ∙ z))
          ∙ rw (← h.lengths) (take_at (table_of c.lengths) (drop (need c.lengths) d.workspace₀) (need c.lengths) (table_length c.lengths)));
      only = λ e. sc.workspace ∙ rw (h.lengths, e) refl ∙ sym sd.workspace;
    }

-- ---- the lookup

-- of what the word at a position is
word_of : (ls payload : List ℕ) (at n s : ℕ) → (word_at ls payload at ≡ some_word n s) ↔ (Begins ls payload at s × (n ≡ length_of ls s))
word_of ls payload at n s = (found-begins ls payload at n s, λ h. word_found ls payload at s h.0 ∙ ap (λ (k : ℕ). some_word k s) (sym h.1))

none_of : (ls payload : List ℕ) (at : ℕ) (f : Found) → word_at ls payload at ≡ f → ((s : ℕ) → Begins ls payload at s → ⊥) → f ≡ None
none_of ls payload at None e h = refl
none_of ls payload at (Some w) e h = absurd (h w.symbol (found-begins ls payload at w.length w.symbol e).0)

word_or_none : (n s : ℕ) → some_word n s ≡ None → ⊥
word_or_none n s e = let z : ◌≡◌ {A = ℕ} 0 1 = cc in omega (arith, z)

pub usable_of : (c : TableCall) (st : TableStated c) (l : LookupCall) → l.found ≡ lookup_in l.words l.longest l.payload l.at
    → c.reply.number ≡ 0 → l.words ≡ c.workspace₁ → l.longest ≡ longest c.lengths → Usable c l
usable_of c st l e z w m =
    let g : Good c.lengths (length c.workspace₀) = is_good c st z in
    let a : l.found ≡ word_at c.lengths l.payload l.at =
    e
    ∙ rw (w, left_table c st z, m) refl
    ∙ looks_behind c.lengths (drop (need c.lengths) c.workspace₀) l.payload l.at g.small g.full
    in
    record {
      word = λ n s. (λ f. (word_of c.lengths l.payload l.at n s).0 (sym a ∙ f), λ b. a ∙ (word_of c.lengths l.payload l.at n s).1 b);
      none = (
        λ f s b. word_or_none _ _ (sym (word_found c.lengths l.payload l.at s b) ∙ sym a ∙ f),
        λ h. a ∙ none_of c.lengths l.payload l.at (word_at c.lengths l.payload l.at) refl h,
      );
    }

pub usable : (f : TableEntry) (c : TableAllowed f) (l : Lookup) → (table_call f c).reply.number ≡ 0 → (lookup_call l).words ≡ (table_call f c).workspace₁
    → (lookup_call l).longest ≡ longest (table_call f c).lengths → Usable (table_call f c) (lookup_call l)
usable f c l = usable_of (table_call f c) (table_stated f c) (lookup_call l) l.allowed
