use Rattle.std.proofs.Common.{◌≡◌, ◌++◌, take, drop}
use Rattle.lock_queue.specs.Enqueues.{some_too_low}
use Rattle.lock_queue.specs.Queue.{all_wants, wants_of}
use Rattle.lock_table.specs.Reads.{requests_at}
use Rattle.lock_table.specs.Whole.{requests_in}
use Rattle.lock_table.proofs.refusals.is_some_too_low.Given as goal

abbrev pub invariant-loop-i : goal.invariant-loop-i
invariant-loop-i g l =
    some_too_low (all_wants (requests_at l.store l.own) ++ take l.i l.wants) (drop l.i l.wants)
    ≡ some_too_low (wants_of (requests_in l.store) l.job) l.wants
