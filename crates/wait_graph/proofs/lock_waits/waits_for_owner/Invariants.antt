use Rattle.std.proofs.Common.{◌≡◌, ◌-◌}
use Rattle.std.specs.List.{list_any}
use Rattle.lock_queue.specs.Waits.{jobs, numbers_from, waits_hard_for}
use Rattle.wait_graph.specs.declared.pairs.TheConstants.{NUMBERS}
use Rattle.wait_graph.proofs.lock_waits.waits_for_owner.Given as goal

abbrev pub invariant-loop-other : goal.invariant-loop-other
invariant-loop-other l =
    list_any (waits_hard_for l.requests l.job) (numbers_from l.other (NUMBERS - l.other)) ≡ list_any (waits_hard_for l.requests l.job) jobs
