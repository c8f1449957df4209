-- `cases::holds_words` meets its contract: every word is compared with the one that is due. Assumes nothing.
use Rattle.std.proofs.Common.{◌≡◌, ℕ, rules, tests}
use Rattle.std.proofs.lemmas.Iterator.{cases_from_all, YieldsList-from_slice}
use Rattle.cases.proofs.Agreeing.{words_agree}
use Rattle.cases.proofs.holds_words.Goals as goal

pub returns : goal.returns
returns c =
    let word = c.word_after-word.result in
    let words = c.args.words.now in
    words_agree _ word words c.word_after-word.ensures _
    (cases_from_all _ _ _ (λ (x : ℕ). x ≡ word) (λ (x : ℕ). x ≡ word → ⊥) c.all.ensures.ran (YieldsList-from_slice words cc)
    (λ x q k. search (rules, tests)) (λ x q k. search (rules, tests)))
