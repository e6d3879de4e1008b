use Rattle.std.proofs.Common.{◌≡◌, ◌++◌, drop}
use Rattle.queue_script.specs.QueueScripts.{statuses}
use Rattle.queue_script.proofs.queue_scripts.push_statuses.Given as goal

abbrev pub invariant-loop-want : goal.invariant-loop-want
invariant-loop-want g l =
    let requests = g.L.LockTable.requests l.table in
    l.out.items ++ statuses requests l.job (drop l.want-index l.wants) ≡ l.initial.out.items ++ statuses requests l.job l.wants
