-- The status is that of the requests from the index on.
use Rattle.std.proofs.Common.{◌≡◌, ◌+◌, ◌*◌, ◌≤◌, length, take, drop}
use Rattle.lock_queue.specs.Queue.{chosen_behind, is_owner, is_waiter}
use Rattle.lock_queue.specs.StatusSteps.{most_taken}
use Rattle.lock_queue.specs.StatusWords.{level_of, status_from}
use Rattle.plain_table.proofs.status.status_at.Given as goal

abbrev pub invariant-loop-i : goal.invariant-loop-i
invariant-loop-i l =
    record {
      told :
          l.status
          ≡ status_from l.key l.job (level_of l.requests l.key)
          (chosen_behind (is_owner l.key) (take l.i l.requests) (drop l.i l.requests))
          (chosen_behind (is_waiter l.key) (take l.i l.requests) (drop l.i l.requests));
      there : l.i ≤ length l.requests;
      owners : l.status.owner_count + l.i ≤ length l.requests;
      waiters : l.status.waiter_count + l.i ≤ length l.requests;
      amount : l.status.amount + l.i * most_taken ≤ length l.requests * most_taken;
    }
