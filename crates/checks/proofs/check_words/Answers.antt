-- `checks::check_words` meets its contract: 9 and 10, then 11, then the slices (document 01, "Refusal numbers"). Assumes nothing.
use Rattle.std.proofs.Common.{rules}
use Rattle.std.proofs.lemmas.Result.{err_from_is_err_and}
use Rattle.checks.proofs.Framed.{wordings, words_refused, words_full}
use Rattle.checks.proofs.check_words.Goals as goal

pub check_slices-requires-clause-value : goal.check_slices-requires-clause-value
check_slices-requires-clause-value c = search wordings

pub returns-in_err-words : goal.returns-in_err-words
returns-in_err-words c =
    let p = err_from_is_err_and c.from_residual.result c.from_residual.ensures.1 in
    rw (p.1, p.2) (words_refused _ _ _ _ _ _ c.in_err-words.was)

pub returns-in_err-room : goal.returns-in_err-room
returns-in_err-room c =
    let p = err_from_is_err_and c.from_residual-in_err-room.result c.from_residual-in_err-room.ensures.1 in
    rw (p.1, p.2) (words_full _ _ _ _ _ _ (search rules) c.in_err-room.was)

pub returns : goal.returns
returns c = search wordings
