use Rattle.std.proofs.Common.{◌≡◌, drop}
use Rattle.std.specs.List.{list_all}
use Rattle.key_queues.specs.Locks.{lock_at}
use Rattle.key_queues.specs.Tables.{is_counted}
use Rattle.key_queues.proofs.keys.Keys.all_count.Given as goal

abbrev pub invariant-loop-n : goal.invariant-loop-n
invariant-loop-n g l =
    list_all (λ n. is_counted (lock_at l.locks n).queue l.p) (drop l.n-index l.queues)
    ≡ list_all (λ n. is_counted (lock_at l.locks n).queue l.p) l.queues
