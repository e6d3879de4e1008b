use Rattle.std.proofs.Common.{◌≡◌, ◌++◌, drop}
use Rattle.run_events.specs.Facts.{left_facts}
use Rattle.run_events.proofs.grants.push_left.Given as goal

-- the facts so far, and those of the requests that are left, are all facts
abbrev pub invariant-loop-i : goal.invariant-loop-i
invariant-loop-i g l =
    let all = g.L.LockTable.requests l.locks in
    l.facts.items ++ left_facts (drop l.i l.before) all ≡ l.initial.facts.items ++ left_facts l.before all
