use Rattle.std.proofs.Common.{◌∙◌, sym, ap, subst}
use Rattle.ka_cpu.specs.Runs.{Ran}
use Rattle.ka_state.specs.declared.outcome.Outcome.{Outcome}
use Rattle.monitor_laws.proofs.Stretching.{HasFields, ran-fields}
use Rattle.monitor.proofs.turn.execute.Goals as goal

pub new-ac-requires : goal.new-ac-requires
new-ac-requires g c =
    let same = ap (λ (r : Ran). r.after.outcome) c.run-steps.ensures.ran in
    let fields = subst (λ (o : Outcome). HasFields o) (sym same ∙ c.in-Call.is)
    (ran-fields c.run-steps.result.0 c.args.job.now.regs c.window-words.result.now) in
    fields.0

pub new-e-requires : goal.new-e-requires
new-e-requires g c =
    let same = ap (λ (r : Ran). r.after.outcome) c.run-steps.ensures.ran in
    let fields = subst (λ (o : Outcome). HasFields o) (sym same ∙ c.in-Call.is)
    (ran-fields c.run-steps.result.0 c.args.job.now.regs c.window-words.result.now) in
    fields.1
