use Rattle.std.proofs.Common.{rules}
use Rattle.ka_cpu.proofs.RunSteps.{ran_one}
use Rattle.ka_cpu.proofs.processor.run_one.Goals as goal

pub returns : goal.returns
returns c =
    let p =
    ran_one c.args.regs.now c.execute_next-outcome.new.regs c.args.words.now c.execute_next-outcome.new.memory.words.now
    c.execute_next-outcome.result c.execute_next-outcome.ensures.exec in
    search (rules, p)
