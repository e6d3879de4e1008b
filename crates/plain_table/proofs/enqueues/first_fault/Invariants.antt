use Rattle.std.proofs.Common.{◌≡◌, [], take, drop}
use Rattle.lock_queue.specs.Enqueues.{enqueue_fault}
use Rattle.lock_queue.specs.Outcomes.{first_refusal}
use Rattle.plain_table.proofs.enqueues.first_fault.Given as goal

abbrev pub invariant-loop-i : goal.invariant-loop-i
invariant-loop-i l =
    first_refusal (enqueue_fault l.requests l.job) (take l.i l.wants) (drop l.i l.wants)
    ≡ first_refusal (enqueue_fault l.requests l.job) [] l.wants
