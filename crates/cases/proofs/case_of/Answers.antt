-- `cases::case_of` meets its contract: number by number. Assumes nothing.
use Rattle.cases.proofs.Forms.{case_is}
use Rattle.cases.proofs.case_of.Goals as goal

pub returns-clause-case : goal.returns-clause-case
returns-clause-case c = search case_is
