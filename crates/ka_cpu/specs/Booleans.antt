-- The Boolean family (Processor Reference Manual, "Boolean functions").
use Rattle.std.specs.Prelude.{ℕ, ◌/◌, ◌%◌, nat_eq, Bool, ◌||◌, if◌then◌else◌, Some, List, Result, Ok}
use Rattle.ka_word.specs.Booleans.{boolean_of}
use Rattle.ka_cpu.specs.Addresses.{reading}
use Rattle.ka_cpu.specs.Effects.{Effect, a_of, computed_operand, computed_to}
use Rattle.ka_state.specs.declared.registers.Regs.{Regs}
use Rattle.ka_state.specs.declared.outcome.StopReason.{StopReason}
use Rattle.ka_cpu.specs.Instructions.{Instruction}

-- SETZ, SETA, SETCA and SETO read no memory (this project's profile)
abbrev pub reads_none : ℕ → Bool
reads_none k = nat_eq k 0 || nat_eq k 5 || nat_eq k 10 || nat_eq k 15

-- from 400 octal by fours
unfoldable pub boolean_row : Regs → List ℕ → Instruction → Result Effect StopReason
boolean_row g core n =
    reading (if reads_none (n.op / 4 % 16) then Some 0 else computed_operand g core n)
    (λ m. Ok (computed_to g n (boolean_of (n.op / 4 % 16) (a_of g n) m)))
