-- `cases::lend_words` meets its contract: each place is filled with the one value. Assumes nothing.
use Rattle.cases.proofs.Placing.{word_filled}
use Rattle.cases.proofs.lend_words.Goals as goal

pub returns : goal.returns
returns c = word_filled _ _ (c.fill.ensures.after (λ y h. h))
