use Rattle.std.proofs.Common.{◌≡◌, drop}
use Rattle.std.specs.List.{find}
use Rattle.key_queues.specs.Locks.{lock_at}
use Rattle.key_queues.specs.LockUse.{in_use_for}
use Rattle.key_queues.proofs.keys.Keys.find_at.Given as goal

abbrev pub invariant-loop-n : goal.invariant-loop-n
invariant-loop-n g l =
    find (λ n. in_use_for l.key (lock_at l.self n)) (drop l.n-index l.bucket.numbers.items)
    ≡ find (λ n. in_use_for l.key (lock_at l.self n)) l.bucket.numbers.items
