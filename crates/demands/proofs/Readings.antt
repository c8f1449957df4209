-- Demand 3 (specs/Demand.antt) of a reading by itself. Document 01, "Words and lookup". Assumes nothing.
use mathlib.Core.Path.{◌≡◌, refl, sym, ap, ◌∙◌}
use Prim.Native.Nat.{ℕ, ◌≤◌, ◌<◌}
use mathlib.Core.List.{List}
use native.Mathlib.Omega.{arith}
use borrow.Author.Tests.{le-ltb}
use lib.Dec.{ltb}
use lib.ListN.{length, replicate}
use Rattle.scope.specs.Base.{zeros}
use Rattle.scope.specs.Refusals.{number_of, place_of, kind_number, place_number, first_of, refuse_if, ◌and_then◌}
use Rattle.scope.specs.Words.{longest, shares, need, Chain, symbols, stuck_at, chain, symbols_of}
use Rattle.scope.specs.Pieces.{readable}
use Rattle.scope.specs.Alone.{build_answer, read_rows_alone, read_answer, samples_read, workspace_read}
use Rattle.scope.specs.declared.Place.TheVariants.{Plane, Nothing}
use Rattle.scope.specs.Answers.{Answer, done, refused}
use Rattle.scope.proofs.Table.{read_in_pieces}
use Rattle.refusals.specs.Rows.{Every}
use Rattle.refusals.proofs.InOrder.{first_passed, then_passed}
use Rattle.refusals.proofs.Rows.{every_next, every_one}
use Rattle.codes.proofs.Longest.{longest_most}
use Rattle.codes.proofs.Chains.{chain_exactly, one_chain}
use Rattle.alone.proofs.Building.{Good, good, answer_done}
use Rattle.magicyuv.specs.declared.Reply.{Reply}
use Rattle.magicyuv.specs.Boundary.{reply_to, Says}
use Rattle.demands.specs.Demand.{ReadCall, InCaps, ChainOf, Demand3Reading, ReadingsAlike, ReadingForgotten, ReadEntry, read, magicyuv_read, ReadAllowed, read_call}
use Rattle.demands.proofs.Replies.{Numbered, says_reply, reply_done, by_table, left_done, left_found, left_cleared}
use Rattle.demands.proofs.Tables.{build_numbers}

-- what a contract says of a call, in the call's own names
pub record ReadStated (c : ReadCall) : Type 0 where
  pub reply : c.reply ≡ reply_to (first_of (read_rows_alone c.lengths c.payload (length c.samples₀) (length c.workspace₀)))
  pub samples : c.samples₁ ≡ samples_read c.lengths c.payload c.samples₀ (length c.workspace₀)
  pub workspace : c.workspace₁ ≡ workspace_read c.lengths c.payload (length c.samples₀) c.workspace₀

pub read_stated : (f : ReadEntry) (c : ReadAllowed f) → ReadStated (read_call f c)
unfolding read_answer
read_stated read c = record { reply = ap reply_to c.allowed.answer; samples = c.allowed.samples; workspace = c.allowed.workspace }
read_stated magicyuv_read c = record { reply = says_reply _ _ c.allowed.answer; samples = c.allowed.samples; workspace = c.allowed.workspace }

-- ---- the answer

chain_numbers : (c : Chain) → Every Numbered (readable 0 c)
unfolding Every readable
chain_numbers (symbols ss) = tt
chain_numbers (stuck_at at) = (omega arith, omega arith)

read_numbers : (ls payload : List ℕ) (n w : ℕ) → Every Numbered (read_answer ls payload n w)
read_numbers ls payload n w =
    rw (read_in_pieces ls payload n w)
    (every_one Numbered (ltb 268435456 n) 4 Nothing _ (omega arith, omega arith)
    (every_next Numbered (build_answer ls w) (readable 0 (chain ls payload 0 n)) (build_numbers ls w) (λ e. chain_numbers (chain ls payload 0 n))))

-- a chain that is readable has symbols
readable_symbols : (c : Chain) → done ≡ readable 0 c → c ≡ symbols (symbols_of c)
unfolding readable symbols_of
readable_symbols (symbols ss) e = refl
readable_symbols (stuck_at at) e = absurd (let z : ◌≡◌ {A = ℕ} 0 1 = cc in omega (arith, z))

module _ (ls payload : List ℕ) (n w : ℕ) where
  -- a reading that succeeds built its table, and has its chain
  module _ (e : read_answer ls payload n w ≡ done) where
    parts : done ≡ (build_answer ls w and_then readable 0 (chain ls payload 0 n))
    parts = then_passed (refuse_if (ltb 268435456 n) 4 Nothing) _ (sym e ∙ read_in_pieces ls payload n w)

    pub read_good : Good ls w
    read_good = good ls w (sym (first_passed (build_answer ls w) _ parts))

    pub read_chain : chain ls payload 0 n ≡ symbols (symbols_of (chain ls payload 0 n))
    read_chain = readable_symbols (chain ls payload 0 n) (then_passed (build_answer ls w) _ parts)

  -- and with a chain, a table that can be built and few samples it succeeds
  pub chain_read : length ls ≤ 16384 → longest ls ≤ 18 → shares ls ≤ 262144 → need ls ≤ w → n ≤ 268435456 → (ss : List ℕ) → chain ls payload 0 n ≡ symbols ss
      → read_answer ls payload n w ≡ done
  unfolding readable
  chain_read few small full room k ss e = read_in_pieces ls payload n w ∙ rw (le-ltb _ _ k, answer_done ls w few small full room, e) refl

  -- with none it is 14 at plane 0
  pub no_chain : length ls ≤ 16384 → longest ls ≤ 18 → shares ls ≤ 262144 → need ls ≤ w → n ≤ 268435456 → (at : ℕ) → chain ls payload 0 n ≡ stuck_at at
      → read_answer ls payload n w ≡ refused 14 (Plane 0)
  unfolding readable
  no_chain few small full room k at e = read_in_pieces ls payload n w ∙ rw (le-ltb _ _ k, answer_done ls w few small full room, e) refl

-- ---- demand 3

module _ (c : ReadCall) (st : ReadStated c) where
  abbrev n : ℕ
  n = length c.samples₀

  abbrev said : Answer
  said = read_answer c.lengths c.payload n (length c.workspace₀)

  number_is : c.reply.number ≡ number_of said
  unfolding read_answer
  number_is = ap (λ (x : Reply). x.number) st.reply

  success_is : c.reply.number ≡ 0 → said ≡ done
  unfolding read_answer
  success_is z = reply_done (read_rows_alone c.lengths c.payload n (length c.workspace₀)) c.reply st.reply (read_numbers c.lengths c.payload n (length c.workspace₀)) z

  chain_is : (ss : List ℕ) → chain c.lengths c.payload 0 n ≡ symbols ss → ChainOf c.lengths c.payload n ss
  chain_is ss e = let t = (chain_exactly c.lengths c.payload n 0 ss).0 e in record { long = t.0; spelt = t.1 }

  is_chain : (ss : List ℕ) → ChainOf c.lengths c.payload n ss → chain c.lengths c.payload 0 n ≡ symbols ss
  is_chain ss t = (chain_exactly c.lengths c.payload n 0 ss).1 (t.long, t.spelt)

  hands : c.reply.number ≡ 0 → ChainOf c.lengths c.payload n c.samples₁
  unfolding samples_read
  hands z =
      let d : said ≡ done = success_is z in
      let s : c.samples₁ ≡ symbols_of (chain c.lengths c.payload 0 n) = st.samples ∙ left_done 11 c.samples₀ (zeros c.samples₀) (symbols_of (chain c.lengths c.payload 0 n)) said d in
      rw s (chain_is (symbols_of (chain c.lengths c.payload 0 n)) (read_chain c.lengths c.payload n (length c.workspace₀) d))

  kept : 1 ≤ c.reply.number → c.reply.number ≤ 11 → (c.samples₁ ≡ c.samples₀) × (c.workspace₁ ≡ c.workspace₀)
  unfolding samples_read workspace_read
  kept l h =
      let a : 1 ≤ number_of said = omega (arith, l, number_is) in
      let b : number_of said ≤ 11 = omega (arith, h, number_is) in (
        st.samples ∙ left_found 11 c.samples₀ (zeros c.samples₀) (symbols_of (chain c.lengths c.payload 0 n)) said a b,
        st.workspace ∙ left_found 11 c.workspace₀ (zeros c.workspace₀) (zeros c.workspace₀) said a b,
      )

  wiped : 11 < c.reply.number → (c.samples₁ ≡ zeros c.samples₀) × (c.workspace₁ ≡ zeros c.workspace₀)
  unfolding samples_read workspace_read
  wiped h =
      let a : 1 ≤ number_of said = omega (arith, h, number_is) in
      let b : 11 < number_of said = omega (arith, h, number_is) in (
        st.samples ∙ left_cleared 11 c.samples₀ (zeros c.samples₀) (symbols_of (chain c.lengths c.payload 0 n)) said a b,
        st.workspace ∙ left_cleared 11 c.workspace₀ (zeros c.workspace₀) (zeros c.workspace₀) said a b,
      )

  -- no chain
  fails_at : InCaps c.lengths → shares c.lengths ≤ 262144 → need c.lengths ≤ length c.workspace₀ → n ≤ 268435456
      → (ch : Chain) → chain c.lengths c.payload 0 n ≡ ch → ((ss : List ℕ) → ChainOf c.lengths c.payload n ss → ⊥)
      → Says (refused 14 (Plane 0)) c.reply × ((c.samples₁ ≡ zeros c.samples₀) × (c.workspace₁ ≡ zeros c.workspace₀))
  fails_at caps f r k (symbols ss) e h = absurd (h ss (chain_is ss e))
  fails_at caps f r k (stuck_at at) e h =
      let a : said ≡ refused 14 (Plane 0) = no_chain c.lengths c.payload n (length c.workspace₀) caps.few (longest_most c.lengths 18 caps.small) f r k at e in
      let b : c.reply ≡ reply_to said = unfold read_answer in st.reply in
      let m : c.reply.number ≡ 14 = number_is ∙ ap number_of a in (
        record {
          number = m;
          kind = ap (λ (x : Reply). x.kind) b ∙ ap (λ (x : Answer). kind_number (place_of x)) a;
          place = ap (λ (x : Reply). x.place) b ∙ ap (λ (x : Answer). place_number (place_of x)) a;
        },
        wiped (omega (arith, m)),
      )

  clears : c.reply.number ≡ 0 → c.workspace₁ ≡ zeros c.workspace₀
  unfolding workspace_read
  clears z = st.workspace ∙ left_done 11 c.workspace₀ (zeros c.workspace₀) (zeros c.workspace₀) said (success_is z)

  pub demand_3_reading_of : Demand3Reading c
  demand_3_reading_of = record {
    exactly = unfold read_answer in by_table (read_rows_alone c.lengths c.payload n (length c.workspace₀)) c.reply st.reply (read_numbers c.lengths c.payload n (length c.workspace₀));
    succeeds = λ caps f r k. (
      λ z. (c.samples₁, hands z),
      λ t. number_is ∙ ap number_of (chain_read c.lengths c.payload n (length c.workspace₀) caps.few (longest_most c.lengths 18 caps.small) f r k t.0 (is_chain t.0 t.1)),
    );
    only = λ ss ts a b. one_chain c.lengths c.payload 0 ss ts (a.long ∙ sym b.long) a.spelt b.spelt;
    hands = hands;
    fails = λ caps f r k h. fails_at caps f r k (chain c.lengths c.payload 0 n) refl h;
    full = λ z. (read_good c.lengths c.payload n (length c.workspace₀) (success_is z)).full;
    found = kept;
    cleared = wiped;
    clears = clears;
  }

-- ---- two readings

module _ (c d : ReadCall) (sc : ReadStated c) (sd : ReadStated d) (h : ReadingsAlike c d) where
  same_reply : c.reply ≡ d.reply
  same_reply = sc.reply ∙ rw (h.lengths, h.payload, h.workspace, h.samples) refl ∙ sym sd.reply

  same_zeros : (xs ys : List ℕ) → length xs ≡ length ys → zeros xs ≡ zeros ys
  same_zeros xs ys e = ap (λ (k : ℕ). replicate k 0) e

  same_number : c.reply.number ≡ d.reply.number
  same_number = ap (λ (x : Reply). x.number) same_reply

  pub reading_forgotten_of : ReadingForgotten c d
  reading_forgotten_of = record {
    reply = same_reply;
    success = λ z.
        let y : d.reply.number ≡ 0 = sym same_number ∙ z in
        let a = hands c sc z in
        let b = hands d sd y in (
          one_chain c.lengths c.payload 0 c.samples₁ d.samples₁ (a.long ∙ h.samples ∙ sym b.long) a.spelt (rw (h.lengths, h.payload) b.spelt),
          clears c sc z ∙ same_zeros c.workspace₀ d.workspace₀ h.workspace ∙ sym (clears d sd y),
        );
    cleared = λ l.
        let a = wiped c sc l in
        let b = wiped d sd (rw same_number at l) in
        (a.0 ∙ same_zeros c.samples₀ d.samples₀ h.samples ∙ sym b.0, a.1 ∙ same_zeros c.workspace₀ d.workspace₀ h.workspace ∙ sym b.1);
    only = λ es ew. (
      sc.samples ∙ rw (h.lengths, h.payload, es, h.workspace) refl ∙ sym sd.samples,
      sc.workspace ∙ rw (h.lengths, h.payload, h.samples, ew) refl ∙ sym sd.workspace,
    );
  }
