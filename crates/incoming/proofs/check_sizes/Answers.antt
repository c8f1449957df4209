-- `lent::check_sizes` meets its contract: refusal 4 (document 01, "Refusal numbers"). Assumes nothing.
use Rattle.incoming.proofs.Refused.{lent_sizes}
use Rattle.incoming.proofs.check_sizes.Goals as goal

pub returns-then-lengths-p : goal.returns-then-lengths-p
returns-then-lengths-p c = search lent_sizes

pub returns-then-planes-all_elements : goal.returns-then-planes-all_elements
returns-then-planes-all_elements c = search lent_sizes

pub returns : goal.returns
returns c = search lent_sizes
