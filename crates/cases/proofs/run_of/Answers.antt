-- `cases::run_of` meets its contract: within the runs, and past them. Assumes nothing.
use Rattle.cases.proofs.Forms.{runs}
use Rattle.cases.proofs.run_of.Goals as goal

pub returns-then-k-runs : goal.returns-then-k-runs
returns-then-k-runs c = search runs

pub returns : goal.returns
returns c = search runs
