use Rattle.std.proofs.Common.{◌≡◌, ◌-◌}
use Rattle.std.specs.List.{list_any}
use Rattle.lock_queue.specs.Jobs.{waits_for}
use Rattle.lock_queue.specs.Waits.{is_in_circle, jobs, numbers_from}
use Rattle.wait_graph.specs.declared.pairs.TheConstants.{NUMBERS}
use Rattle.run_notes.proofs.circle_lines.has_circle.Given as goal

abbrev pub invariant-loop-job : goal.invariant-loop-job
invariant-loop-job l =
    let waits = waits_for l.machine.world.requests in
    list_any (is_in_circle waits) (numbers_from l.job (NUMBERS - l.job)) ≡ list_any (is_in_circle waits) jobs
