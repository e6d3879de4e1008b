use Rattle.std.proofs.Common.{◌≡◌, ◌++◌, ◌-◌}
use Rattle.std.specs.List.{flat_map}
use Rattle.machine.specs.Views.{job_view}
use Rattle.lock_queue.specs.Waits.{jobs, numbers_from}
use Rattle.wait_graph.specs.declared.pairs.TheConstants.{NUMBERS}
use Rattle.op_script.specs.Printing.{job_line}
use Rattle.op_script.proofs.showing.push_jobs.Given as goal

abbrev pub invariant-loop-n : goal.invariant-loop-n
invariant-loop-n g l =
    l.out.items ++ flat_map (λ n. job_line n (job_view l.machine.world n)) (numbers_from l.n (NUMBERS - l.n))
    ≡ l.initial.out.items ++ flat_map (λ n. job_line n (job_view l.machine.world n)) jobs
