use Rattle.std.proofs.Common.{lit<}
use Rattle.lock_table.proofs.Telling.{marks_grants}
use Rattle.lock_table.proofs.indexed.IndexedTableLockTable.is_waiting.Goals as goal

pub is_waiting-requires : goal.is_waiting-requires
is_waiting-requires g c = (lit< tt, (c.self.invariant.right, marks_grants c.self.inside.table.store c.self.inside.table.keys c.self.invariant.table))
