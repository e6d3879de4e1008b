use Rattle.std.proofs.Common.{◌≡◌, ◌-◌}
use Rattle.ka_cpu.specs.declared.limits.TheConstants.{MOST_EXECUTES}
use Rattle.ka_cpu.specs.Addresses.{reading}
use Rattle.ka_cpu.specs.Exec.{word_behind}
use Rattle.ka_state.specs.Memory.{word_at}
use Rattle.ka_cpu.proofs.processor.follow_executes.Given as goal

abbrev pub invariant-loop-turn : goal.invariant-loop-turn
invariant-loop-turn g l =
    word_behind (MOST_EXECUTES - l.turn) l.regs.ac (g.M.ReadMemory.words l.memory) l.word
    ≡ reading (word_at l.regs.ac (g.M.ReadMemory.words l.memory) l.fn.e) (λ v. word_behind (MOST_EXECUTES - 1) l.regs.ac (g.M.ReadMemory.words l.memory) v)
