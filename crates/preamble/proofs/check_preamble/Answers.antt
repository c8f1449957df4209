-- `preamble::check_preamble` meets its contract: refusals 5 to 7 in the table's order (document 01, "Layout" and "Refusal numbers"). Assumes nothing.
use Rattle.preamble.proofs.Checks.{preamble}
use Rattle.preamble.proofs.check_preamble.Goals as goal

pub returns-then-frame-start : goal.returns-then-frame-start
returns-then-frame-start c = search preamble

pub returns-then-end-start : goal.returns-then-end-start
returns-then-end-start c = search preamble

pub returns-then-frame-end : goal.returns-then-frame-end
returns-then-frame-end c = search preamble

pub returns-then-end-start-2 : goal.returns-then-end-start-2
returns-then-end-start-2 c = search preamble

pub returns-then-count_byte-planes : goal.returns-then-count_byte-planes
returns-then-count_byte-planes c = search preamble

pub returns-then-end-start-3 : goal.returns-then-end-start-3
returns-then-end-start-3 c = search preamble

pub returns : goal.returns
returns c = search preamble
