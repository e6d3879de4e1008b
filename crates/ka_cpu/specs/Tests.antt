-- The tests, 600 to 677 octal (Processor Reference Manual, "Logical testing and modification").
use Rattle.std.specs.Prelude.{ℕ, ◌/◌, ◌%◌, nat_eq, bit_and, bit_or, bit_xor, if◌then◌else◌, Option, Some, None, List, Result, Ok}
use Rattle.word36.specs.Words.{complement}
use Rattle.ka_word.specs.Tests.{mask_of, skips_on}
use Rattle.ka_cpu.specs.Addresses.{reading}
use Rattle.ka_state.specs.Memory.{word_at}
use Rattle.ka_cpu.specs.Effects.{Effect, a_of, skips_if}
use Rattle.ka_state.specs.declared.registers.Regs.{Regs}
use Rattle.ka_state.specs.declared.outcome.StopReason.{StopReason}
use Rattle.ka_cpu.specs.Instructions.{Instruction}

-- the mask is `0,,E` (R), `E,,0` (L), M (D), M with halves swapped (S): 10 octal is for D and S, 1 for L and S
abbrev pub mask_source : Regs → List ℕ → Instruction → Option ℕ
mask_source g core n = if nat_eq (n.op / 8 % 2) 0 then Some n.e else word_at g.ac core n.e

abbrev pub masked : ℕ → Option ℕ → Option ℕ
masked op None = None
masked op (Some m) = Some (mask_of op m)

-- 0 changes nothing (N), 20 clears (Z), 40 complements (C), 60 sets (O) the masked bits
abbrev pub modified : ℕ → ℕ → ℕ → Option ℕ
modified op a m =
    if nat_eq (op / 16 % 4) 0 then None else
    if nat_eq (op / 16 % 4) 1 then Some (bit_and a (complement m)) else
    if nat_eq (op / 16 % 4) 2 then Some (bit_xor a m) else Some (bit_or a m)

-- the skip is by the old A
abbrev pub tested : Regs → Instruction → ℕ → Effect
tested g n m = record (skips_if g (skips_on n.op (nat_eq (bit_and (a_of g n) m) 0))) { ac = modified n.op (a_of g n) m }

unfoldable pub test_row : Regs → List ℕ → Instruction → Result Effect StopReason
test_row g core n = reading (masked n.op (mask_source g core n)) (λ m. Ok (tested g n m))
