use Rattle.std.proofs.Common.{◌≡◌, ◌+◌, ◌≤◌, drop, length}
use Rattle.lock_queue.specs.Queue.{requests_of}
use Rattle.lock_reasons.proofs.reasons.count_of.Given as goal

abbrev pub invariant-loop-r : goal.invariant-loop-r
invariant-loop-r l = record {
  counted : l.count + length (requests_of (drop l.r-index l.requests) l.job) ≡ length (requests_of l.requests l.job);
  few : l.count ≤ l.r-index;
}
