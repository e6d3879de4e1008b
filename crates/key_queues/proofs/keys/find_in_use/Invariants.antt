use Rattle.std.proofs.Common.{◌≡◌, drop}
use Rattle.std.specs.List.{list_any}
use Rattle.key_queues.specs.LockUse.{in_use_for}
use Rattle.key_queues.proofs.keys.find_in_use.Given as goal

abbrev pub invariant-loop-i : goal.invariant-loop-i
invariant-loop-i l =
    list_any (in_use_for l.key) (drop l.i l.locks)
    ≡ list_any (in_use_for l.key) l.locks
