-- An entry is taken only where there is room.
use Rattle.std.proofs.Common.{rules}
use Rattle.tables.proofs.Checked.{room_for}
use Rattle.tables.proofs.LeapTable.try_extend.Goals as goal

pub joined-requires : goal.joined-requires
joined-requires c = room_for c.args.self c.args.entry (search rules) (search rules) c.in-Ok.ensures
