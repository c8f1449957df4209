-- `build_plane` writes plane p's table into its stretch of the workspace (document 01, "Words and lookup").
use Rattle.geometry.proofs.Lengths.{part_few}
use Rattle.tables.proofs.Laying.{lay_short, lay_full, lay_longest, lay_size, lay_table}
use Rattle.tables.proofs.Told.{stretch_ahead, stretch_room}
use Rattle.tables.proofs.build_plane.Goals as goal

pub build_part-requires-clause-lengths_len_bound : goal.build_part-requires-clause-lengths_len_bound
build_part-requires-clause-lengths_len_bound c = (search part_few, search lay_short, search lay_full)

pub build_part-requires-clause-m_value : goal.build_part-requires-clause-m_value
build_part-requires-clause-m_value c = search lay_longest

pub build_part-requires-clause-from_le_to : goal.build_part-requires-clause-from_le_to
build_part-requires-clause-from_le_to c = (search stretch_ahead, search stretch_room, search lay_size)

pub returns : goal.returns
returns c = search lay_table
