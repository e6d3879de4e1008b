use Rattle.std.proofs.Common.{◌∙◌, sym, lit<}
use Rattle.key_queues.proofs.Using.{there_kept}
use Rattle.lock_table.proofs.Telling.{find_there}
use Rattle.key_queues.specs.Stores.{entry_at, slots_of}
use Rattle.lock_table.specs.Reads.{is_pending_entry}
use Rattle.lock_table.specs.Departures.{is_of}
use Rattle.lock_table.proofs.Wholes.{none_notified, notified_is}
use Rattle.lock_table.proofs.notifying.mark_notified.Goals as goal

pub set_notified-requires : goal.set_notified-requires
set_notified-requires g c = (
  lit< tt,
  (there_kept (is_of c.args.store.now c.args.job) c.in-Some.p c.args.store.now.order
      (find_there (λ x. is_pending_entry (entry_at c.args.store.now x)) (slots_of c.args.store.now c.args.job) c.in-Some.p
      (sym c.in-Some.ensures))).0,
)

pub returns-in-Some-clause-requests : goal.returns-in-Some-clause-requests
returns-in-Some-clause-requests g c locks table =
    notified_is c.args.store.now locks c.args.job table c.set_notified.new.store c.in-Some.p (sym c.in-Some.ensures)
    c.set_notified.ensures.order c.set_notified.ensures.request c.set_notified.ensures.others

pub returns-in_default-clause-requests : goal.returns-in_default-clause-requests
returns-in_default-clause-requests g c locks table =
    none_notified c.args.store.now locks c.args.job table (sym c.first_pending.ensures ∙ c.in_default.is)
