-- The marks so far and those of what is left are all marks.
use Rattle.std.proofs.Common.{◌≡◌, ◌≤◌, ◌++◌, [], take, drop, length}
use Rattle.lock_queue.specs.Grants.{left_of}
use Rattle.plain_table.specs.GrantSteps.{marks_behind}
use Rattle.plain_table.proofs.waking.mark.Given as goal

abbrev pub invariant-loop-i : goal.invariant-loop-i
invariant-loop-i g l =
    record {
      marked :
          l.marks.items ++ marks_behind (left_of l.job l.call) (take l.i l.requests) (drop l.i l.requests)
          ≡ marks_behind (left_of l.job l.call) [] l.requests;
      few : length l.marks.items ≤ l.i;
    }
