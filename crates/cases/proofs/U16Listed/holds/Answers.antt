-- `Listed::holds` of `u16` meets its contract: every sample is compared with the pair of bytes that is due. Assumes nothing.
use Rattle.std.proofs.Common.{◌≡◌, ℕ, List, w16, rules, tests}
use Rattle.std.specs.Int.{from_le_bytes}
use Rattle.std.proofs.lemmas.Iterator.{cases_from_all, YieldsList-from_slice, YieldsList-from_zip}
use Rattle.cases.proofs.Agreeing.{pairs_agree}
use Rattle.cases.proofs.U16Listed.holds.Goals as goal

pub returns : goal.returns
returns c =
    let planes = c.args.planes.now in
    let pairs = c.as_chunks.result.0.now in
    pairs_agree planes c.args.after.now pairs c.requires c.as_chunks.ensures.front c.as_chunks.ensures.front_len _
    (cases_from_all c.all.new.self _ _ (λ (p : ℕ × List ℕ). p.0 ≡ from_le_bytes w16 p.1) (λ (p : ℕ × List ℕ). p.0 ≡ from_le_bytes w16 p.1 → ⊥) c.all.ensures.ran
    (YieldsList-from_zip (YieldsList-from_slice planes cc) (YieldsList-from_slice pairs cc))
    (λ x q k. search (rules, tests)) (λ x q k. search (rules, tests)))
