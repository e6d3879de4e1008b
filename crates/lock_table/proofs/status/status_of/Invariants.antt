-- The status is that of the slots from the index on.
use Rattle.std.proofs.Common.{◌≡◌, ◌+◌, ◌*◌, ◌≤◌, length, drop}
use Rattle.lock_queue.specs.StatusSteps.{most_taken}
use Rattle.lock_queue.specs.StatusWords.{level_of}
use Rattle.lock_table.specs.Reads.{status_among}
use Rattle.lock_table.specs.Whole.{requests_in}
use Rattle.lock_table.proofs.status.status_of.Given as goal

abbrev pub invariant-loop-i : goal.invariant-loop-i
invariant-loop-i g l =
    record {
      told : l.status ≡ status_among l.store (drop l.i l.slots) l.key l.job (level_of (requests_in l.store) l.key);
      there : l.i ≤ length l.slots;
      owners : l.status.owner_count + l.i ≤ length l.slots;
      waiters : l.status.waiter_count + l.i ≤ length l.slots;
      amount : l.status.amount + l.i * most_taken ≤ length l.slots * most_taken;
    }
