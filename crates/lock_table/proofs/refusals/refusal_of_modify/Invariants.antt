use Rattle.std.proofs.Common.{◌≡◌, [], take, drop}
use Rattle.lock_queue.specs.Changes.{modify_fault}
use Rattle.lock_queue.specs.Outcomes.{first_refusal}
use Rattle.lock_table.specs.Whole.{requests_in}
use Rattle.lock_table.proofs.refusals.refusal_of_modify.Given as goal

abbrev pub invariant-loop-i : goal.invariant-loop-i
invariant-loop-i g l =
    first_refusal (modify_fault (requests_in l.store) l.job) (take l.i l.changes) (drop l.i l.changes)
    ≡ first_refusal (modify_fault (requests_in l.store) l.job) [] l.changes
