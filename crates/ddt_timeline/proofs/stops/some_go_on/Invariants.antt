use Rattle.std.proofs.Common.{◌≡◌, ◌-◌}
use Rattle.std.specs.List.{list_any}
use Rattle.lock_queue.specs.Waits.{jobs, numbers_from}
use Rattle.wait_graph.specs.declared.pairs.TheConstants.{NUMBERS}
use Rattle.ddt_timeline.specs.Runs.{goes_on_in}
use Rattle.ddt_timeline.proofs.stops.some_go_on.Given as goal

abbrev pub invariant-loop-number : goal.invariant-loop-number
invariant-loop-number l =
    list_any (goes_on_in l.machine) (numbers_from l.number (NUMBERS - l.number)) ≡ list_any (goes_on_in l.machine) jobs
