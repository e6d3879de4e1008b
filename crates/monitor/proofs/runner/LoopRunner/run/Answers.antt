use Rattle.std.proofs.Common.{ap, arith}
use Rattle.ka_cpu.specs.Runs.{Ran}
use Rattle.monitor_laws.proofs.Stretching.{ran-least, ran-most}
use Rattle.monitor.proofs.Running.{ran_all}
use Rattle.monitor.proofs.runner.LoopRunner.run.Goals as goal

pub returns-clause-ran : goal.returns-clause-ran
returns-clause-ran g c = ran_all c.args.most c.run_steps_from-steps.result.0 _ c.args.regs.now c.args.words.now c.run_steps_from-steps.ensures

pub returns-clause-most : goal.returns-clause-most
returns-clause-most g c =
    let same = ap (λ (r : Ran). r.steps) c.run_steps_from-steps.ensures in
    let few = ran-most c.args.most c.args.regs.now c.args.words.now in
    omega (arith, same, few)

pub returns-clause-least : goal.returns-clause-least
returns-clause-least g c =
    λ some.
    let same = ap (λ (r : Ran). r.steps) c.run_steps_from-steps.ensures in
    let one = ran-least c.args.most c.args.regs.now c.args.words.now some in
    omega (arith, same, one)
