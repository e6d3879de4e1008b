use Rattle.std.proofs.Common.{◌∙◌, ap, Option}
use Rattle.machine.specs.declared.told.Told.{Told}
use Rattle.run_events.specs.Runs.{job_told}
use Rattle.run_events.proofs.RunLemmas.{told_job}
use Rattle.run_events.proofs.runs.round_facts.Goals as goal

pub returns-in_default-clause-job : goal.returns-in_default-clause-job
returns-in_default-clause-job g c =
    c.job_told-job.ensures ∙ ap (λ (o : Option Told). job_told o) c.step_told-told.ensures.told ∙ told_job c.args.system.now

pub returns-in-Ok-append-clause-job : goal.returns-in-Ok-append-clause-job
returns-in-Ok-append-clause-job g c =
    c.job_told-job.ensures ∙ ap (λ (o : Option Told). job_told o) c.step_told-told.ensures.told ∙ told_job c.args.system.now

pub returns-in-Err-append-clause-job : goal.returns-in-Err-append-clause-job
returns-in-Err-append-clause-job g c =
    c.job_told-job.ensures ∙ ap (λ (o : Option Told). job_told o) c.step_told-told.ensures.told ∙ told_job c.args.system.now
