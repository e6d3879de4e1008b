-- The halfword family (Processor Reference Manual, "Half word data transmission").
use Rattle.std.specs.Prelude.{ℕ, ◌/◌, ◌%◌, nat_lt, if◌then◌else◌, Option, Some, List, Result, Ok}
use Rattle.ka_word.specs.Halves.{halfword_of}
use Rattle.ka_cpu.specs.Addresses.{reading}
use Rattle.ka_state.specs.Memory.{word_at}
use Rattle.ka_cpu.specs.Effects.{Effect, a_of, moved_operand, moved_to}
use Rattle.ka_state.specs.declared.registers.Regs.{Regs}
use Rattle.ka_state.specs.declared.outcome.StopReason.{StopReason}
use Rattle.ka_cpu.specs.Instructions.{Instruction}

-- the destination is AC in the basic mode and in I, and the word at E in M and S
abbrev pub destination : Regs → List ℕ → Instruction → Option ℕ
destination g core n = if nat_lt (n.op % 4) 2 then Some (a_of g n) else word_at g.ac core n.e

-- from 500 octal by fours
unfoldable pub half_row : Regs → List ℕ → Instruction → Result Effect StopReason
half_row g core n =
    reading (moved_operand g core n) (λ w. reading (destination g core n) (λ d. Ok (moved_to g n (halfword_of (n.op / 4 % 16) w d))))
