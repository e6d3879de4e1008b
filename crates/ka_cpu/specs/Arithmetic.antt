-- ADD, SUB, IMUL, MUL and IDIV (Processor Reference Manual, "Fixed point arithmetic").
use Rattle.std.specs.Prelude.{ℕ, ◌%◌, ◌^◌, nat_eq, Bool, true, false, ◌||◌, if◌then◌else◌, Option, Some, None, List, Result, Ok}
use Rattle.word36.specs.Words.{complement, sum_of}
use Rattle.ka_word.specs.Products.{both_least, high_word, low_word, overflows}
use Rattle.ka_word.specs.Quotients.{no_quotient, quotient_of, remainder_of}
use Rattle.ka_cpu.specs.Addresses.{reading}
use Rattle.ka_cpu.specs.Effects.{Effect, a_of, goes_on, computed_operand, computed_to, sum_flags}
use Rattle.ka_state.specs.declared.registers.Regs.{Regs}
use Rattle.ka_state.specs.declared.outcome.StopReason.{StopReason}
use Rattle.ka_cpu.specs.Instructions.{Instruction}

-- ADD: A + operand. SUB: A + not operand + 1
abbrev pub added : Bool → Regs → Instruction → ℕ → Effect
added false g n m = record (computed_to g n (sum_of (a_of g n) m 0)) { flags = sum_flags g.flags (a_of g n) m 0 }
added true g n m = record (computed_to g n (sum_of (a_of g n) (complement m) 1)) { flags = sum_flags g.flags (a_of g n) (complement m) 1 }

unfoldable pub add_row : Bool → Regs → List ℕ → Instruction → Result Effect StopReason
add_row subtracts g core n = reading (computed_operand g core n) (λ m. Ok (added subtracts g n m))

-- IMUL: the product; where it does not fit, Overflow, and its sign with its low 35 bits (this project's profile)
unfoldable pub imul_row : Regs → List ℕ → Instruction → Result Effect StopReason
imul_row g core n =
    reading (computed_operand g core n)
    (λ m. Ok (record (computed_to g n (low_word (a_of g n) m)) {
      flags = record g.flags { overflow = g.flags.overflow || overflows (a_of g n) m };
    }))

-- AC+1, in all modes but M
abbrev pub to_next : Instruction → ℕ → Option ℕ
to_next n w = if nat_eq (n.op % 4) 2 then None else Some w

-- MUL: the high word where the mode says, the low word to AC+1. -2 ^ 35 by -2 ^ 35: Overflow, both words 400000,,000000
unfoldable pub mul_row : Regs → List ℕ → Instruction → Result Effect StopReason
mul_row g core n =
    reading (computed_operand g core n)
    (λ m. Ok (record (computed_to g n (high_word (a_of g n) m)) {
      next = to_next n (if both_least (a_of g n) m then 2 ^ 35 else low_word (a_of g n) m);
      flags = record g.flags { overflow = g.flags.overflow || both_least (a_of g n) m };
    }))

-- not done: Overflow, No Divide, nothing stored
abbrev pub divided : Regs → Instruction → ℕ → Effect
divided g n m =
    if no_quotient (a_of g n) m
    then record (goes_on g 1) { flags = record g.flags { overflow = true; no_divide = true } }
    else record (computed_to g n (quotient_of (a_of g n) m)) { next = to_next n (remainder_of (a_of g n) m) }

-- IDIV: A by the operand, quotient where the mode says, remainder to AC+1
unfoldable pub idiv_row : Regs → List ℕ → Instruction → Result Effect StopReason
idiv_row g core n = reading (computed_operand g core n) (λ m. Ok (divided g n m))
