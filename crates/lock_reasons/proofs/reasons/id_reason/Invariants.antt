use Rattle.std.proofs.Common.{◌≡◌, drop}
use Rattle.std.specs.List.{list_any}
use Rattle.lock_queue.specs.Dequeues.{has_id}
use Rattle.lock_reasons.proofs.reasons.id_reason.Given as goal

abbrev pub invariant-loop-r : goal.invariant-loop-r
invariant-loop-r l = list_any (has_id l.job l.id) (drop l.r-index l.requests) ≡ list_any (has_id l.job l.id) l.requests
