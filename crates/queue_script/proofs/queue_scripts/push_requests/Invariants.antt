use Rattle.std.proofs.Common.{◌≡◌, ◌++◌, drop}
use Rattle.queue_script.specs.QueueScripts.{shown_from}
use Rattle.queue_script.proofs.queue_scripts.push_requests.Given as goal

abbrev pub invariant-loop-i : goal.invariant-loop-i
invariant-loop-i g l =
    let requests = g.L.LockTable.requests l.table in
    l.out.items ++ shown_from requests l.i (drop l.i requests) ≡ l.initial.out.items ++ shown_from requests 0 requests
