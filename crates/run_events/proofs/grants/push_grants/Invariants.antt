use Rattle.std.proofs.Common.{◌≡◌, ◌++◌, take, drop, map}
use Rattle.lock_queue.specs.Queue.{chosen_behind}
use Rattle.run_events.specs.Facts.{granted_facts}
use Rattle.run_events.specs.Grants.{is_new_grant}
use Rattle.run_events.specs.declared.facts.Fact.TheVariants.{Granted}
use Rattle.run_events.proofs.grants.push_grants.Given as goal

-- the facts so far, and those of the requests that are left, are all facts
abbrev pub invariant-loop-position : goal.invariant-loop-position
invariant-loop-position g l =
    let all = g.L.LockTable.requests l.locks in
    l.facts.items
    ++ map Granted (chosen_behind (is_new_grant l.before) (take l.position all) (drop l.position all))
    ≡ l.initial.facts.items ++ granted_facts l.before all
