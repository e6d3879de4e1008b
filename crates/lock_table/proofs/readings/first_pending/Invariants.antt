use Rattle.std.proofs.Common.{◌≡◌, drop}
use Rattle.std.specs.List.{find}
use Rattle.key_queues.specs.Stores.{entry_at, slots_of}
use Rattle.lock_table.specs.Reads.{is_pending_entry}
use Rattle.lock_table.proofs.readings.first_pending.Given as goal

abbrev pub invariant-loop-p : goal.invariant-loop-p
invariant-loop-p g l = record {
  items : l.p-items ≡ slots_of l.store l.job;
  rest : find (λ p. is_pending_entry (entry_at l.store p)) (drop l.p-index l.p-items)
      ≡ find (λ p. is_pending_entry (entry_at l.store p)) (slots_of l.store l.job);
}
