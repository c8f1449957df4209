-- `cases::judge` meets its contract: its tests in the order of `verdict_of`. Assumes nothing.
use Rattle.cases.proofs.Verdicts.{verdicts}
use Rattle.cases.proofs.judge.Goals as goal

pub returns-then-told-stored : goal.returns-then-told-stored
returns-then-told-stored c = search verdicts

pub returns-then-told-stored-2 : goal.returns-then-told-stored-2
returns-then-told-stored-2 c = search verdicts

pub returns-then-told-stored-3 : goal.returns-then-told-stored-3
returns-then-told-stored-3 c = search verdicts

pub returns-then-not-samples : goal.returns-then-not-samples
returns-then-not-samples c = search verdicts

pub returns-then-not-words : goal.returns-then-not-words
returns-then-not-words c = search verdicts

pub returns : goal.returns
returns c = search verdicts
