use Rattle.std.proofs.Common.{◌≡◌, ◌-◌, None}
use Rattle.ka_cpu.specs.declared.limits.TheConstants.{MOST_LINKS}
use Rattle.ka_cpu.specs.Addresses.{target_from}
use Rattle.ka_cpu.proofs.address.follow_chain.Given as goal

abbrev pub invariant-loop-turn : goal.invariant-loop-turn
invariant-loop-turn g l =
    target_from (MOST_LINKS - l.turn) l.regs.ac (g.M.ReadMemory.words l.memory) l.word l.used
    ≡ target_from MOST_LINKS l.regs.ac (g.M.ReadMemory.words l.memory) l.fn.word None
