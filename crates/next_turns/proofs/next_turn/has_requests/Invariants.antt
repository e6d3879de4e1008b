use Rattle.std.proofs.Common.{◌≡◌, drop}
use Rattle.lock_queue.specs.StatusWords.{has_job}
use Rattle.next_turns.proofs.next_turn.has_requests.Given as goal

abbrev pub invariant-loop-i : goal.invariant-loop-i
invariant-loop-i g l =
    let requests = g.L.LockTable.requests l.locks in
    has_job (drop l.i requests) l.n ≡ has_job requests l.n
