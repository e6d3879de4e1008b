use Rattle.std.proofs.Common.{refl, arith}
use Rattle.lock_table.proofs.Levels.{first_alike}
use Rattle.key_queues.proofs.Finding.{found_in_use, in_use_parts}
use Rattle.lock_table.proofs.Queued.{unwanted_at, unwanted_by}
use Rattle.lock_table.proofs.refusals.fault_beside.Goals as goal

pub returns-in_err-n : goal.returns-in_err-n
returns-in_err-n g c =
    let s = c.args.store.now in
    let none = c.requires.found.none c.in_err-n.was in
    rw (
      c.from_residual.ensures,
      unwanted_at s c.args.keys.now c.args.w.now.key c.requires.table none,
      unwanted_by s c.args.keys.now c.args.w.now.key c.requires.table none c.args.job,
    ) refl

pub returns-else-is_wanted_by : goal.returns-else-is_wanted_by
returns-else-is_wanted_by g c = grind (arith, found_in_use, in_use_parts, first_alike)

pub returns-then-is_wanted_by : goal.returns-then-is_wanted_by
returns-then-is_wanted_by g c = grind (arith, found_in_use, in_use_parts, first_alike)

pub returns-then-not-is_alike : goal.returns-then-not-is_alike
returns-then-not-is_alike g c = grind (arith, found_in_use, in_use_parts, first_alike)

pub first_want-requires : goal.first_want-requires
first_want-requires g c = grind arith

pub is_wanted_by-requires : goal.is_wanted_by-requires
is_wanted_by-requires g c = grind arith
