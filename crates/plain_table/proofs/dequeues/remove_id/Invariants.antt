-- The requests before the index are as they were, and of the others those stay that are to stay.
use Rattle.std.proofs.Common.{◌≡◌, ◌≤◌, ◌++◌, take, drop, filter, length, not}
use Rattle.lock_queue.specs.Dequeues.{has_id}
use Rattle.plain_table.proofs.dequeues.remove_id.Given as goal

abbrev pub invariant-loop-i : goal.invariant-loop-i
invariant-loop-i g l =
    record {
      items : l.row ≡ take l.i l.initial.row ++ filter (λ r. not (has_id l.job l.id r)) (drop l.i l.initial.row);
      there : l.i ≤ length l.initial.row;
      front : l.i ≤ length l.row;
      few : length l.row ≤ g.row.REQS;
    }
