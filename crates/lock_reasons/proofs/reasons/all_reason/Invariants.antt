use Rattle.std.proofs.Common.{◌≡◌, drop}
use Rattle.std.specs.List.{list_any}
use Rattle.lock_queue.specs.Dequeues.{is_of_job}
use Rattle.lock_reasons.proofs.reasons.all_reason.Given as goal

abbrev pub invariant-loop-r : goal.invariant-loop-r
invariant-loop-r l = list_any (is_of_job l.job) (drop l.r-index l.requests) ≡ list_any (is_of_job l.job) l.requests
