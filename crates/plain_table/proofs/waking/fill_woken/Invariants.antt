-- The grants so far and those of what is left are all grants.
use Rattle.std.proofs.Common.{◌≡◌, ◌≤◌, ◌++◌, [], take, drop, length}
use Rattle.plain_table.specs.GrantSteps.{raised_behind}
use Rattle.plain_table.proofs.waking.fill_woken.Given as goal

abbrev pub invariant-loop-i : goal.invariant-loop-i
invariant-loop-i l =
    record {
      raised :
          l.woken.items ++ raised_behind (take l.i l.requests) (drop l.i l.marks) (drop l.i l.requests)
          ≡ raised_behind [] l.marks l.requests;
      few : length l.woken.items ≤ l.i;
    }
