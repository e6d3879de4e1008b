use Rattle.std.proofs.Common.{◌≡◌, drop}
use Rattle.std.specs.List.{list_any}
use Rattle.lock_queue.specs.Jobs.{is_kept_by}
use Rattle.lock_table.specs.Reads.{before_of, is_kept_from, request_at, requests_at}
use Rattle.lock_table.proofs.readings.is_kept_from.Given as goal

abbrev pub invariant-loop-k : goal.invariant-loop-k
invariant-loop-k g l =
    list_any (is_kept_by l.job (requests_at l.store (before_of l.store.order l.p))) (drop l.k (request_at l.store l.p).wants.items)
    ≡ is_kept_from l.store l.job l.p
