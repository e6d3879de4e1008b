use Rattle.std.proofs.Common.{◌++◌, ◌<◌, ◌≤◌, ◌∙◌, ℕ, ap, arith, append_assoc}
use Rattle.std.specs.Prelude.{codes}
use Rattle.std.specs.List.{flat_map}
use Rattle.machine.specs.Views.{job_view}
use Rattle.lock_queue.specs.Waits.{jobs}
use Rattle.wait_graph.proofs.JobLemmas.{lists-start, lists-step, lists-end}
use Rattle.wait_graph.specs.declared.pairs.TheConstants.{NUMBERS}
use Rattle.op_script.specs.Printing.{job_line}
use Rattle.op_script.proofs.showing.push_jobs.Goals as goal

pub loop-n-init : goal.loop-n-init
loop-n-init g c = lists-start (λ n. job_line n (job_view c.args.machine.now.world n)) c.args.out.now.items

pub loop-n-preserved : goal.loop-n-preserved
loop-n-preserved g c =
    let within : c.loop-n.n < NUMBERS = omega arith in
    lists-step (λ n. job_line n (job_view c.args.machine.now.world n)) c.loop-n.n c.loop-n.out.items c.push_job_of.new.out.items _
    within c.in_ok-push_job_of.ensures c.loop-n.invariant

pub returns : goal.returns
returns g c =
    let line = λ (n : ℕ). job_line n (job_view c.args.machine.now.world n) in
    let end : NUMBERS ≤ c.loop-n.n = omega arith in
    let all = lists-end line c.loop-n.n c.loop-n.out.items (c.args.out.now.items ++ flat_map line jobs) end c.loop-n.invariant in
    c.in_ok-extend_from_slice.ensures.items ∙ ap (λ l. l ++ codes "END\n") all ∙ append_assoc c.args.out.now.items (flat_map line jobs) (codes "END\n")
