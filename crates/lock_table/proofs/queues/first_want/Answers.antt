use Rattle.std.proofs.Common.{lit<}
use Rattle.lock_table.proofs.Queued.{first_there, there_parts, want_within}
use Rattle.lock_table.proofs.queues.first_want.Goals as goal

pub queued_want-requires : goal.queued_want-requires
queued_want-requires g c =
    let s = c.args.store.now in
    let there = first_there s c.args.keys.now c.args.n c.requires.table c.requires.in_use in
    rw (c.slot.ensures, c.lock_of.ensures)
    (lit< tt, ((there_parts s c.args.keys.now c.args.n c.requires.table c.requires.in_use _ there).0, want_within s c.args.keys.now c.args.n c.requires.table c.requires.in_use _ there))
