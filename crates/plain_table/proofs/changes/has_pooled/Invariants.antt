use Rattle.std.proofs.Common.{◌≡◌, drop}
use Rattle.std.specs.List.{list_any}
use Rattle.lock_queue.specs.Queue.{is_pooled, wants_at, requests_of}
use Rattle.plain_table.proofs.changes.has_pooled.Given as goal

abbrev pub invariant-loop-r : goal.invariant-loop-r
invariant-loop-r l =
    list_any is_pooled (wants_at (requests_of (drop l.r-index l.requests) l.job) l.key)
    ≡ list_any is_pooled (wants_at (requests_of l.requests l.job) l.key)
