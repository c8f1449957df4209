-- Demands 1 and 2 (specs/Demand.antt) of every call of a frame entry, from what its contract says. Document 01, "Refusal numbers". Assumes nothing.
use mathlib.Core.Path.{◌≡◌, refl, sym, ap, ◌∙◌}
use Prim.Native.Nat.{ℕ, ◌≤◌, ◌<◌}
use mathlib.Core.Bool.{Bool, true, not}
use mathlib.Core.List.{List, ◌∷◌}
use native.Mathlib.Omega.{arith}
use lib.ListN.{length, replicate}
use Rattle.scope.specs.Base.{zeros}
use Rattle.scope.specs.Refusals.{number_of, Row, row, first_of, refuse_if, ◌and_then◌, left_by_frame}
use Rattle.scope.specs.Frame.{table, answer_of, picture_of, planes_after, workspace_after, Decoded}
use Rattle.scope.specs.declared.Entry.{Entry}
use Rattle.scope.specs.declared.Geometry.{Geometry}
use Rattle.scope.specs.declared.Place.TheVariants.{Nothing}
use Rattle.scope.specs.Answers.{Answer, done}
use Rattle.scope.proofs.Table.{first_cons}
use Rattle.refusals.specs.Rows.{Every}
use Rattle.refusals.proofs.InOrder.{then_passed}
use Rattle.refusals.proofs.Rows.{every_answer, every_one}
use Rattle.places.specs.Picture.{Pictured}
use Rattle.places.proofs.Picture.{pictured}
use Rattle.magicyuv.specs.declared.Reply.{Reply}
use Rattle.magicyuv.specs.declared.numbers.Numbers.{Numbers}
use Rattle.magicyuv.specs.Boundary.{reply_to, numbers_fit, geometry_of, host_answer, Hosted}
use Rattle.demands.specs.Demand.{FrameCall, table_for, picture_for, Demand1, LentAlike, Forgotten, Demand2, decoded, hosted, FrameEntry, decode8, decode16, magicyuv_decode8, magicyuv_decode16, FrameAllowed, frame_call}
use Rattle.demands.proofs.Replies.{Numbered, says_reply, reply_done, by_table, left_done, left_found, left_cleared}

-- what a contract says of a call, in the call's own names
pub record Stated (c : FrameCall) : Type 0 where
  pub reply : c.reply ≡ reply_to (first_of (table_for c))
  pub planes : c.planes₁ ≡ left_by_frame (first_of (table_for c)) c.planes₀ (zeros c.planes₀) (picture_for c)
  pub workspace : c.workspace₁ ≡ left_by_frame (first_of (table_for c)) c.workspace₀ (zeros c.workspace₀) (zeros c.workspace₀)

-- ---- of every entry

module _ (which : Entry) (frame : List ℕ) (g : Geometry) (lengths planes₀ workspace₀ : List ℕ) where
  -- a geometry record names a family, so the first row never applies
  whole : (n : Bool) → first_of (row 1 Nothing (not n) ∷ table which frame g lengths (length planes₀) (length workspace₀))
      ≡ (refuse_if (not n) 1 Nothing and_then answer_of which frame g lengths (length planes₀) (length workspace₀))
  unfolding answer_of
  whole n = first_cons (row 1 Nothing (not n)) (table which frame g lengths (length planes₀) (length workspace₀))

  decoded_stated : (r : Answer) (planes₁ workspace₁ : List ℕ) → Decoded which frame g lengths planes₀ workspace₀ r planes₁ workspace₁ → Stated (decoded which frame g lengths planes₀ workspace₀ r planes₁ workspace₁)
  unfolding planes_after workspace_after
  decoded_stated r planes₁ workspace₁ d =
      record {
        reply = ap reply_to (d.answer ∙ sym (whole true));
        planes = d.planes ∙ ap (λ (a : Answer). left_by_frame a planes₀ (zeros planes₀) (picture_of frame g lengths)) (sym (whole true));
        workspace = d.workspace ∙ ap (λ (a : Answer). left_by_frame a workspace₀ (zeros workspace₀) (zeros workspace₀)) (sym (whole true));
      }

hosted_stated : (which : Entry) (frame : List ℕ) (n : Numbers) (lengths planes₀ workspace₀ : List ℕ) (r : Reply) (planes₁ workspace₁ : List ℕ)
    → Hosted which frame n lengths planes₀ workspace₀ r planes₁ workspace₁ → Stated (hosted which frame n lengths planes₀ workspace₀ r planes₁ workspace₁)
unfolding host_answer
hosted_stated which frame n lengths planes₀ workspace₀ r planes₁ workspace₁ d =
    let e = whole which frame (geometry_of n) lengths planes₀ workspace₀ (numbers_fit n) in
    record {
      reply = says_reply (host_answer which frame n lengths (length planes₀) (length workspace₀)) r d.answer ∙ ap reply_to (sym e);
      planes = d.planes ∙ ap (λ (a : Answer). left_by_frame a planes₀ (zeros planes₀) (picture_of frame (geometry_of n) lengths)) (sym e);
      workspace = d.workspace ∙ ap (λ (a : Answer). left_by_frame a workspace₀ (zeros workspace₀) (zeros workspace₀)) (sym e);
    }

pub stated : (f : FrameEntry) (c : FrameAllowed f) → Stated (frame_call f c)
stated decode8 c = decoded_stated _ _ _ _ _ _ _ _ _ c.allowed
stated decode16 c = decoded_stated _ _ _ _ _ _ _ _ _ c.allowed
stated magicyuv_decode8 c = hosted_stated _ _ _ _ _ _ _ _ _ c.allowed
stated magicyuv_decode16 c = hosted_stated _ _ _ _ _ _ _ _ _ c.allowed

-- the answer itself
pub answer_of_lem : (which : Entry) (frame : List ℕ) (g : Geometry) (lengths planes₀ workspace₀ : List ℕ) (r : Answer) (planes₁ workspace₁ : List ℕ)
    → Decoded which frame g lengths planes₀ workspace₀ r planes₁ workspace₁
    → r ≡ first_of (row 1 Nothing (not true) ∷ table which frame g lengths (length planes₀) (length workspace₀))
answer_of_lem which frame g lengths planes₀ workspace₀ r planes₁ workspace₁ d = d.answer ∙ sym (whole which frame g lengths planes₀ workspace₀ true)

-- ---- demands 1 and 2, of whatever is so stated

module _ (c : FrameCall) (st : Stated c) where
  abbrev said : Answer
  said = first_of (table_for c)

  -- no number but those of document 01's table
  numbers : Every Numbered said
  unfolding answer_of
  numbers =
      rw (first_cons (row 1 Nothing (not c.named)) (table c.which c.frame c.geometry c.lengths (length c.planes₀) (length c.workspace₀)))
      (every_one Numbered (not c.named) 1 Nothing _ (omega arith, omega arith)
      (every_answer Numbered c.frame c.geometry c.lengths
      (record {
        row5 = (omega arith, omega arith);
        row6 = (omega arith, omega arith);
        row7 = (omega arith, omega arith);
        row8 = λ s l. (omega arith, omega arith);
        row9 = λ q l. (omega arith, omega arith);
        row10 = λ q l. (omega arith, omega arith);
        row11 = (omega arith, omega arith);
        row12 = λ s l. (omega arith, omega arith);
        row13 = λ s l. (omega arith, omega arith);
        row14 = λ s l i. (omega arith, omega arith);
        row15 = λ s l. (omega arith, omega arith);
      })
      c.which (length c.planes₀) (length c.workspace₀)
      (record { row1 = (omega arith, omega arith); row2 = (omega arith, omega arith); row3 = (omega arith, omega arith); row4 = (omega arith, omega arith) })))

  number_is : c.reply.number ≡ number_of said
  number_is = ap (λ (x : Reply). x.number) st.reply

  pub success_is : c.reply.number ≡ 0 → said ≡ done
  success_is z = reply_done (table_for c) c.reply st.reply numbers z

  success : c.reply.number ≡ 0 → (c.planes₁ ≡ picture_for c) × (c.workspace₁ ≡ zeros c.workspace₀)
  success z = (
    st.planes ∙ left_done 4 c.planes₀ (zeros c.planes₀) (picture_for c) said (success_is z),
    st.workspace ∙ left_done 4 c.workspace₀ (zeros c.workspace₀) (zeros c.workspace₀) said (success_is z),
  )

  kept : 1 ≤ c.reply.number → c.reply.number ≤ 4 → (c.planes₁ ≡ c.planes₀) × (c.workspace₁ ≡ c.workspace₀)
  kept l h =
      let a : 1 ≤ number_of said = omega (arith, l, number_is) in
      let b : number_of said ≤ 4 = omega (arith, h, number_is) in (
        st.planes ∙ left_found 4 c.planes₀ (zeros c.planes₀) (picture_for c) said a b,
        st.workspace ∙ left_found 4 c.workspace₀ (zeros c.workspace₀) (zeros c.workspace₀) said a b,
      )

  wiped : 4 < c.reply.number → (c.planes₁ ≡ zeros c.planes₀) × (c.workspace₁ ≡ zeros c.workspace₀)
  wiped h =
      let a : 1 ≤ number_of said = omega (arith, h, number_is) in
      let b : 4 < number_of said = omega (arith, h, number_is) in (
        st.planes ∙ left_cleared 4 c.planes₀ (zeros c.planes₀) (picture_for c) said a b,
        st.workspace ∙ left_cleared 4 c.workspace₀ (zeros c.workspace₀) (zeros c.workspace₀) said a b,
      )

  -- no row of the table itself applies either
  answer_done : c.reply.number ≡ 0 → answer_of c.which c.frame c.geometry c.lengths (length c.planes₀) (length c.workspace₀) ≡ done
  answer_done z =
      sym (then_passed (refuse_if (not c.named) 1 Nothing) _
      (sym (success_is z) ∙ whole c.which c.frame c.geometry c.lengths c.planes₀ c.workspace₀ c.named))

  picture : c.reply.number ≡ 0 → Pictured c.frame c.geometry c.lengths
  picture z = pictured c.which c.frame c.geometry c.lengths (length c.planes₀) (length c.workspace₀) (answer_done z)

  pub demand_1_of : Demand1 c
  demand_1_of = record { exactly = by_table (table_for c) c.reply st.reply numbers; success = success; found = kept; cleared = wiped }

  pub demand_2_of : Demand2 c
  demand_2_of = record {
    reply = st.reply;
    planes = λ z. (success z).0;
    handed = λ e. let z : c.reply.number ≡ 0 = number_is ∙ ap number_of e in (z, (success z).0);
    size = λ z. ap length (success z).0 ∙ (picture z).size;
    below = λ z i l. rw (success z).0 ((picture z).below i l);
    rows = λ z. rw (success z).0 (picture z).rows;
    pictured = picture;
  }

-- ---- two calls

same_table : (c d : FrameCall) → LentAlike c d → table_for c ≡ table_for d
same_table c d h = rw (h.which, h.named, h.frame, h.geometry, h.lengths, h.planes, h.workspace) refl

same_picture : (c d : FrameCall) → LentAlike c d → picture_for c ≡ picture_for d
same_picture c d h = rw (h.frame, h.geometry, h.lengths) refl

module _ (c d : FrameCall) (sc : Stated c) (sd : Stated d) (h : LentAlike c d) where
  same_reply : c.reply ≡ d.reply
  same_reply = sc.reply ∙ ap (λ (t : List Row). reply_to (first_of t)) (same_table c d h) ∙ sym sd.reply

  same_number : c.reply.number ≡ d.reply.number
  same_number = ap (λ (x : Reply). x.number) same_reply

  same_zeros : (xs ys : List ℕ) → length xs ≡ length ys → zeros xs ≡ zeros ys
  same_zeros xs ys e = ap (λ (n : ℕ). replicate n 0) e

  pub forgotten_of : Forgotten c d
  forgotten_of = record {
    reply = same_reply;
    success = λ z.
        let a = success c sc z in
        let b = success d sd (sym same_number ∙ z) in
        record {
          reply = same_reply;
          planes = a.0 ∙ same_picture c d h ∙ sym b.0;
          workspace = a.1 ∙ same_zeros c.workspace₀ d.workspace₀ h.workspace ∙ sym b.1;
        };
    cleared = λ l.
        let a = wiped c sc l in
        let b = wiped d sd (rw same_number at l) in
        record {
          reply = same_reply;
          planes = a.0 ∙ same_zeros c.planes₀ d.planes₀ h.planes ∙ sym b.0;
          workspace = a.1 ∙ same_zeros c.workspace₀ d.workspace₀ h.workspace ∙ sym b.1;
        };
    only = λ ep ew. record {
      reply = same_reply;
      planes = sc.planes ∙ rw (same_table c d h, ep, same_picture c d h) refl ∙ sym sd.planes;
      workspace = sc.workspace ∙ rw (same_table c d h, ew) refl ∙ sym sd.workspace;
    };
  }
