use Rattle.std.proofs.Common.{◌≡◌, ◌<◌, ℕ, [], get_or, length, take, drop}
use Rattle.lock_queue.specs.Dequeues.{dequeue_fault}
use Rattle.lock_queue.specs.Outcomes.{first_refusal}
use Rattle.lock_queue.specs.Unused.{unused_want}
use Rattle.key_queues.specs.Found.{IsFound}
use Rattle.lock_table.specs.Arrivals.{no_found}
use Rattle.lock_table.specs.Whole.{requests_in}
use Rattle.lock_table.proofs.refusals.refusal_of_dequeue.Given as goal

abbrev pub invariant-loop-i : goal.invariant-loop-i
invariant-loop-i g l = record {
  fault : first_refusal (dequeue_fault (requests_in l.store) l.job) (take l.i l.named) (drop l.i l.named)
      ≡ first_refusal (dequeue_fault (requests_in l.store) l.job) [] l.named;
  long : length l.found.items ≡ l.i;
  found : (j : ℕ) → j < l.i → IsFound l.keys (get_or l.named j unused_want).key (get_or l.found.items j no_found);
}
