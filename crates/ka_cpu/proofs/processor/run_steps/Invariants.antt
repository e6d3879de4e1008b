use Rattle.std.proofs.Common.{◌≡◌, ◌-◌}
use Rattle.ka_cpu.specs.Runs.{ran, ran_on}
use Rattle.ka_cpu.proofs.processor.run_steps.Given as goal

abbrev pub invariant-loop-left : goal.invariant-loop-left
invariant-loop-left l = record {
  after : ran_on (l.most - l.left) (ran l.left l.regs l.memory.words.now) ≡ ran l.most l.fn.regs l.fn.words;
  place : l.memory.words.ghost_name ≡ l.initial.memory.words.ghost_name;
}
