use Rattle.std.proofs.Common.{◌<◌, arith, length, sym}
use Rattle.lock_table.proofs.Reading.{slot_kept}
use Rattle.lock_table.specs.Reads.{request_at}
use Rattle.lock_table.proofs.Telling.{level_first, level_none}
use Rattle.lock_table.proofs.status.level_at.Goals as goal

pub returns : goal.returns
returns g c =
    let some : 0 < length c.args.slots.now = grind (arith, c.is_empty.ensures, c.if-is_empty.false) in
    rw (c.unwrap_or.ensures, c.level_in.ensures, c.as_slice.ensures.value, c.get.ensures.value, c.new-2.ensures)
    (sym (level_first (request_at c.args.store.now) c.args.store.now.order c.args.key.now c.args.slots.now c.requires some))

pub returns-then-is_empty : goal.returns-then-is_empty
returns-then-is_empty g c = grind (arith, slot_kept, level_none)

pub get-requires : goal.get-requires
get-requires g c = grind (arith, slot_kept, level_none)
