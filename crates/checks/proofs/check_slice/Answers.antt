use Rattle.checks.proofs.Sliced.{slicings}
use Rattle.checks.proofs.check_slice.Goals as goal

pub returns-then-a : goal.returns-then-a
returns-then-a c = search slicings

pub returns-then-len-a : goal.returns-then-len-a
returns-then-len-a c = search slicings

pub returns-then-a-2 : goal.returns-then-a-2
returns-then-a-2 c = search slicings

pub returns-then-a-3 : goal.returns-then-a-3
returns-then-a-3 c = search slicings

pub returns-then-b-eq0 : goal.returns-then-b-eq0
returns-then-b-eq0 c = search slicings

pub returns : goal.returns
returns c = search slicings
