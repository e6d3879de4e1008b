use Rattle.std.proofs.Common.{arith}
use Rattle.lock_table.proofs.Reading.{present_at}
use Rattle.lock_table.proofs.Queued.{wanted_by_slot, all_present, wanted_of_job}
use Rattle.lock_table.proofs.refusals.is_wanted_by.Goals as goal

pub returns-else-own-slots : goal.returns-else-own-slots
returns-else-own-slots g c =
    let wanted = wanted_by_slot c.args.store.now c.args.keys.now c.args.n c.requires.table c.requires.in_use c.args.job in
    grind (arith, wanted, c.slot_of.ensures, c.lock_of.ensures)

pub is_job_queued-requires : goal.is_job_queued-requires
is_job_queued-requires g c = grind (arith, all_present, present_at, wanted_of_job)

pub slot_of-requires : goal.slot_of-requires
slot_of-requires g c = grind (arith, all_present, present_at, wanted_of_job)

pub returns-then-own-slots : goal.returns-then-own-slots
returns-then-own-slots g c = grind (arith, all_present, present_at, wanted_of_job)
