-- The marks so far and those of what is left are all marks.
use Rattle.std.proofs.Common.{◌≡◌, ◌≤◌, ◌++◌, [], take, drop, length}
use Rattle.lock_queue.specs.Jobs.{is_among}
use Rattle.plain_table.specs.GrantSteps.{marks_without}
use Rattle.plain_table.proofs.waking.mark_without.Given as goal

abbrev pub invariant-loop-i : goal.invariant-loop-i
invariant-loop-i g l =
    record {
      marked :
          l.marks.items ++ marks_without (is_among l.jobs) (take l.i l.requests) (drop l.i l.requests)
          ≡ marks_without (is_among l.jobs) [] l.requests;
      few : length l.marks.items ≤ l.i;
    }
