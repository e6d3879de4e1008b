use Rattle.std.proofs.Common.{lit<, arith}
use Rattle.lock_table.proofs.Telling.{pending_there, pending_is}
use Rattle.lock_table.proofs.readings.pending_of.Goals as goal

pub get-requires : goal.get-requires
get-requires g c = (lit< tt, pending_there c.args.store.now c.args.job c.in_ok-p.p c.in_ok-p.ensures)

pub returns : goal.returns
returns g c = grind (arith, pending_is)

pub returns-in_err-p : goal.returns-in_err-p
returns-in_err-p g c = grind (arith, pending_is)
