-- The requests before the index are as they were, and of the others those stay by which the job does not wait.
use Rattle.std.proofs.Common.{◌≡◌, ◌≤◌, ◌++◌, take, drop, length}
use Rattle.lock_queue.specs.Jobs.{is_not_blocked_where, is_one}
use Rattle.lock_queue.specs.Queue.{chosen_behind}
use Rattle.plain_table.proofs.jobs.remove_blocked.Given as goal

abbrev pub invariant-loop-i : goal.invariant-loop-i
invariant-loop-i g l =
    record {
      items : l.row ≡ take l.i l.initial.row ++ chosen_behind (is_not_blocked_where (is_one l.job)) (take l.i l.initial.row) (drop l.i l.initial.row);
      there : l.i ≤ length l.initial.row;
      front : l.i ≤ length l.row;
      few : length l.row ≤ g.row.REQS;
    }
