-- The answers so far and those to what is left are the answers to all.
use Rattle.std.proofs.Common.{◌≡◌, ◌++◌, take, drop}
use Rattle.lock_queue.specs.Calls.{requests_after, replies_to}
use Rattle.lock_queue.proofs.table.run_calls.Given as goal

abbrev pub invariant-loop-i : goal.invariant-loop-i
invariant-loop-i g l =
    let requests = g.L.LockTable.requests in
    let size = g.L.LockTable.REQS in
    record {
      answered : take l.i l.replies ++ replies_to size (requests l.table) (drop l.i l.calls) ≡ replies_to size (requests l.fn.table) l.calls;
      performed : requests_after size (requests l.table) (drop l.i l.calls) ≡ requests_after size (requests l.fn.table) l.calls;
    }
