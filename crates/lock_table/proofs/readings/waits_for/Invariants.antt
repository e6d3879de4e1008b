use Rattle.std.proofs.Common.{◌≡◌, drop}
use Rattle.std.specs.List.{list_any}
use Rattle.lock_queue.specs.Jobs.{waits_for}
use Rattle.key_queues.specs.Stores.{slots_of}
use Rattle.lock_table.specs.Reads.{is_blocked_from}
use Rattle.lock_table.specs.Whole.{requests_in}
use Rattle.lock_table.proofs.readings.waits_for.Given as goal

abbrev pub invariant-loop-p : goal.invariant-loop-p
invariant-loop-p g l = record {
  items : l.p-items ≡ slots_of l.store l.job;
  rest : list_any (is_blocked_from l.store l.other) (drop l.p-index l.p-items) ≡ waits_for (requests_in l.store) l.job l.other;
}
