use Rattle.std.proofs.Common.{◌≡◌, ◌++◌, take, drop}
use Rattle.lock_queue.specs.Jobs.{is_pending, notified_behind, job_notified}
use Rattle.plain_table.proofs.jobs.mark_notified.Given as goal

abbrev pub invariant-loop-i : goal.invariant-loop-i
invariant-loop-i l =
    record {
      same : l.requests ≡ l.initial.requests;
      rest : take l.i l.requests ++ notified_behind (is_pending l.job) (take l.i l.requests) (drop l.i l.requests) ≡ job_notified l.requests l.job;
    }
