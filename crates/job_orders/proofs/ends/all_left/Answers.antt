use Rattle.std.proofs.Common.{◌++◌, ◌∷◌, ◌∙◌, [], map, sym, ap}
use Rattle.std.proofs.lemmas.List.{map-append}
use Rattle.job_orders.specs.Endings.{job_ending, job_ending_of}
use Rattle.job_orders.specs.Views.{jobs_in}
use Rattle.job_orders.proofs.Ended.{endings-more, endings-none}
use Rattle.job_orders.proofs.ends.all_left.Goals as goal

pub loop-k-init : goal.loop-k-init
loop-k-init c = ap (map job_ending_of) c.in_ok-jobs.ensures.items ∙ sym (endings-none c.args.machine.now)

pub loop-k-preserved : goal.loop-k-preserved
loop-k-preserved c =
    ap (map job_ending_of) c.in_ok-push.ensures.items ∙ map-append job_ending_of c.loop-k.jobs.items (c.in_ok-left.left ∷ [])
    ∙ ap (λ l. l ++ job_ending_of c.in_ok-left.left ∷ []) c.loop-k.invariant
    ∙ ap (λ e. map job_ending (jobs_in c.args.machine.now c.loop-k.k) ++ e ∷ []) c.in_ok-left.ensures
    ∙ sym (endings-more c.args.machine.now c.loop-k.k)
