use Rattle.std.proofs.Common.{rules, ◌≡◌, ◌<◌, ◌-◌, ◌∙◌, suc, arith}
use Rattle.ka_state.specs.declared.outcome.Outcome.TheVariants.{Done}
use Rattle.ka_cpu.proofs.RunSteps.{ran_ended}
use Rattle.ka_cpu.proofs.processor.run_steps.Goals as goal

pub returns-in_default : goal.returns-in_default
returns-in_default c =
    let j = c.loop-left.left - 1 in
    let b : j < c.args.most = omega arith in
    let e : c.loop-left.left ≡ suc j = omega arith in
    let d : (c.execute_next.result ≡ Done → ⊥) = c.in_default.not-Done in
    let p =
    ran_ended c.args.most j c.loop-left.left c.loop-left.regs c.execute_next.new.regs c.loop-left.memory.words.now
    c.execute_next.new.memory.words.now c.execute_next.result b e c.execute_next.ensures.exec d
    ∙ c.loop-left.invariant.after in
    search (rules, p)
