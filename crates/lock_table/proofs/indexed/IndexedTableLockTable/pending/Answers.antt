use Rattle.std.proofs.Common.{lit<}
use Rattle.lock_table.proofs.Telling.{marks_grants}
use Rattle.lock_table.proofs.indexed.IndexedTableLockTable.pending.Goals as goal

pub pending_of-requires : goal.pending_of-requires
pending_of-requires g c = (lit< tt, (c.self.invariant.right, marks_grants c.self.inside.table.store c.self.inside.table.keys c.self.invariant.table))
