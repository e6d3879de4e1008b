use Rattle.std.proofs.Common.{◌≡◌, ◌≤◌, ◌<◌, ◌+◌, ℕ, false}
use Rattle.ka_cpu.specs.Runs.{ran}
use Rattle.ka_state.specs.declared.outcome.Outcome.TheVariants.{Done}
use Rattle.machine.specs.Between.{is_among}
use Rattle.monitor.proofs.runner.UpToRunner.run.Given as goal

-- so many instructions were executed, all were done, and none has left the PC at one of the places
abbrev pub invariant-loop-done : goal.invariant-loop-done
invariant-loop-done l = record {
  after : record { steps = l.done; after = record { regs = l.regs; core = l.memory.words.now; outcome = Done } } ≡ ran l.done l.fn.regs l.fn.words;
  none_over : (k : ℕ) → k < l.done + 1 → 1 ≤ k → is_among l.self.addresses.now (ran k l.fn.regs l.fn.words).after.regs.pc ≡ false;
  place : l.memory.words.ghost_name ≡ l.initial.memory.words.ghost_name;
}
