use Rattle.std.proofs.Common.{◌≡◌, [], take, drop}
use Rattle.lock_queue.specs.Changes.{modify_fault}
use Rattle.lock_queue.specs.Outcomes.{first_refusal}
use Rattle.plain_table.proofs.changes.refusal_of_modify.Given as goal

abbrev pub invariant-loop-i : goal.invariant-loop-i
invariant-loop-i l =
    first_refusal (modify_fault l.requests l.job) (take l.i l.changes) (drop l.i l.changes)
    ≡ first_refusal (modify_fault l.requests l.job) [] l.changes
