-- `step` gives what is found with the position behind it (document 01, "Words and lookup").
use Rattle.std.proofs.Common.{rules}
use Rattle.reader.specs.Stepping as stepping
use Rattle.reader.proofs.step.Goals as goal

pub returns-in_err-word : goal.returns-in_err-word
unfolding stepping.step_to
returns-in_err-word c = search rules

pub returns : goal.returns
unfolding stepping.step_to
returns c = search rules
