-- `sides::place_rows` meets its contract: the slice height, cut at the plane's height (document 01, "Layout"). Assumes nothing.
use Rattle.geometry.proofs.Figures.{place_rows}
use Rattle.sides.proofs.place_rows.Goals as goal

pub overflow_sub-left : goal.overflow_sub-left
overflow_sub-left c = search place_rows

pub returns : goal.returns
returns c = search place_rows
