use Rattle.std.proofs.Common.{◌≡◌, take, map}
use Rattle.lock_queue.specs.Changes.{changed_want}
use Rattle.lock_queue.proofs.rewriting.changed_wants.Given as goal

abbrev pub invariant-loop-w : goal.invariant-loop-w
invariant-loop-w l =
    l.changed.items ≡ map (changed_want l.changes) (take l.w-index l.w-items)
