-- The requests before the index are as they were, and of the others those stay that are to stay.
use Rattle.std.proofs.Common.{◌≡◌, ◌≤◌, ◌++◌, take, drop, filter, length}
use Rattle.lock_queue.specs.Dequeues.{has_wants}
use Rattle.plain_table.proofs.dequeues.remove_empty.Given as goal

abbrev pub invariant-loop-i : goal.invariant-loop-i
invariant-loop-i g l =
    record {
      items : l.row ≡ take l.i l.initial.row ++ filter has_wants (drop l.i l.initial.row);
      there : l.i ≤ length l.initial.row;
      front : l.i ≤ length l.row;
      few : length l.row ≤ g.row.REQS;
    }
