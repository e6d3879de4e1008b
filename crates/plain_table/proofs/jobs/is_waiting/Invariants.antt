use Rattle.std.proofs.Common.{◌≡◌, [], take, drop}
use Rattle.lock_queue.specs.Jobs.{is_blocked}
use Rattle.lock_queue.specs.Queue.{some_behind}
use Rattle.plain_table.proofs.jobs.is_waiting.Given as goal

abbrev pub invariant-loop-i : goal.invariant-loop-i
invariant-loop-i l =
    some_behind (is_blocked l.job) (take l.i l.requests) (drop l.i l.requests)
    ≡ some_behind (is_blocked l.job) [] l.requests
