use Rattle.std.proofs.Common.{lit<}
use Rattle.lock_table.proofs.Telling.{marks_grants}
use Rattle.lock_table.proofs.indexed.IndexedTableLockTable.status.Goals as goal

pub status_of-requires : goal.status_of-requires
status_of-requires g c =
    (lit< tt, (lit< tt, (c.self.invariant.table, marks_grants c.self.inside.table.store c.self.inside.table.keys c.self.invariant.table)))
