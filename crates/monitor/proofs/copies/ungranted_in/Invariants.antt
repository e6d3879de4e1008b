use Rattle.std.proofs.Common.{◌≡◌, ◌++◌, take, drop}
use Rattle.lock_queue.specs.Queue.{chosen_behind}
use Rattle.machine.specs.Waits.{is_ungranted, ungranted}
use Rattle.monitor.proofs.copies.ungranted_in.Given as goal

-- the requests so far, and those of the ones that are left, are all
abbrev pub invariant-loop-i : goal.invariant-loop-i
invariant-loop-i g l =
    let all = g.L.LockTable.requests l.table in
    l.requests.items ++ chosen_behind is_ungranted (take l.i all) (drop l.i all) ≡ ungranted all
