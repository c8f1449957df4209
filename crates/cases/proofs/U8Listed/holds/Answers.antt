-- `Listed::holds` of `u8` meets its contract: every sample is compared with the byte that is due. Assumes nothing.
use Rattle.std.proofs.Common.{◌≡◌, ℕ, arith, rules, tests}
use Rattle.std.proofs.lemmas.Iterator.{cases_from_all, YieldsList-from_slice, YieldsList-from_zip}
use Rattle.cases.proofs.Agreeing.{bytes_agree}
use Rattle.cases.proofs.U8Listed.holds.Goals as goal

pub returns : goal.returns
returns c =
    let planes = c.args.planes.now in
    let after = c.args.after.now in
    bytes_agree planes after (omega (arith, c.requires)) _
    (cases_from_all c.all.new.self _ _ (λ (p : ℕ × ℕ). p.0 ≡ p.1) (λ (p : ℕ × ℕ). p.0 ≡ p.1 → ⊥) c.all.ensures.ran
    (YieldsList-from_zip (YieldsList-from_slice planes cc) (YieldsList-from_slice after cc))
    (λ x q k. search (rules, tests)) (λ x q k. search (rules, tests)))
