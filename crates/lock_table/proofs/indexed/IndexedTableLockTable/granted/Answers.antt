use Rattle.std.proofs.Common.{◌<◌, ap, length, arith, lit<}
use Rattle.std.proofs.lemmas.List.{length-map}
use Rattle.lock_table.specs.Reads.{request_at}
use Rattle.lock_table.specs.Seen.{Seen}
use Rattle.lock_table.proofs.Telling.{marks_grants}
use Rattle.lock_table.proofs.indexed.IndexedTableLockTable.granted.Goals as goal

pub is_granted-requires : goal.is_granted-requires
is_granted-requires g c =
    let within : c.args.i < length c.self.inside.table.store.order =
    omega (arith, c.requires, ap (λ (v : Seen g.row.REQS). length v.requests) c.self.view_is, length-map c.self.inside.table.store.order (request_at c.self.inside.table.store)) in
    (lit< tt, (within, marks_grants c.self.inside.table.store c.self.inside.table.keys c.self.invariant.table))
