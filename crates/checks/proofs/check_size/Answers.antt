-- `checks::check_size` meets its contract: bits over 8, rounded up (document 01, "Refusal numbers"). Assumes nothing.
use Rattle.checks.proofs.Sliced.{sizings}
use Rattle.checks.proofs.check_size.Goals as goal

pub returns-then-bytes-samples : goal.returns-then-bytes-samples
returns-then-bytes-samples c = search sizings

pub returns : goal.returns
returns c = search sizings
