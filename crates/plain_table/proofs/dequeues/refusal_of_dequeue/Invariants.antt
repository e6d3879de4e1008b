use Rattle.std.proofs.Common.{◌≡◌, [], take, drop}
use Rattle.lock_queue.specs.Dequeues.{dequeue_fault}
use Rattle.lock_queue.specs.Outcomes.{first_refusal}
use Rattle.plain_table.proofs.dequeues.refusal_of_dequeue.Given as goal

abbrev pub invariant-loop-i : goal.invariant-loop-i
invariant-loop-i l =
    first_refusal (dequeue_fault l.requests l.job) (take l.i l.named) (drop l.i l.named)
    ≡ first_refusal (dequeue_fault l.requests l.job) [] l.named
