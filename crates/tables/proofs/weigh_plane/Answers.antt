-- `weigh_plane` weighs the plane's part of the lent lengths (document 01, refusals 9 and 10).
use Rattle.tables.proofs.Weighing.{weighed-part}
use Rattle.tables.proofs.weigh_plane.Goals as goal

pub returns : goal.returns
returns c = search weighed-part
