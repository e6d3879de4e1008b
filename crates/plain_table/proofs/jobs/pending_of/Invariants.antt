use Rattle.std.proofs.Common.{◌≡◌, take, drop}
use Rattle.lock_queue.specs.Jobs.{is_pending, first_id, pending}
use Rattle.lock_queue.specs.Queue.{chosen_behind}
use Rattle.plain_table.proofs.jobs.pending_of.Given as goal

abbrev pub invariant-loop-i : goal.invariant-loop-i
invariant-loop-i l =
    first_id (chosen_behind (is_pending l.job) (take l.i l.requests) (drop l.i l.requests)) ≡ pending l.requests l.job
