-- MOVE, MOVS, MOVN, MOVM and EXCH (Processor Reference Manual, "Full word data transmission").
use Rattle.std.specs.Prelude.{ℕ, if◌then◌else◌, Some, List, Result, Ok}
use Rattle.word36.specs.Words.{is_negative, complement}
use Rattle.ka_word.specs.Halves.{swapped}
use Rattle.ka_word.specs.Sums.{negated}
use Rattle.ka_state.specs.Memory.{word_at}
use Rattle.ka_cpu.specs.Addresses.{reading}
use Rattle.ka_cpu.specs.Effects.{Effect, a_of, goes_on, moved_operand, moved_to, sum_flags}
use Rattle.ka_state.specs.declared.registers.Regs.{Regs}
use Rattle.ka_state.specs.declared.outcome.StopReason.{StopReason}
use Rattle.ka_cpu.specs.Instructions.{Instruction}
use Rattle.ka_cpu.specs.declared.moves.Transfer.{Transfer}
use Rattle.ka_cpu.specs.declared.moves.Transfer.TheVariants.{Plain, Swapped, Negated, Magnitude}

-- the negated word, with the flags of ADD (this project's profile)
abbrev pub negates : Regs → Instruction → ℕ → Effect
negates g n w = record (moved_to g n (negated w)) { flags = sum_flags g.flags (complement w) 1 0 }

-- MOVE: the operand. MOVS: the operand with its halves swapped. MOVN: the operand negated. MOVM: the magnitude; the
-- operand is negated only where it is negative
abbrev pub transferred : Transfer → Regs → Instruction → ℕ → Effect
transferred Plain g n w = moved_to g n w
transferred Swapped g n w = moved_to g n (swapped w)
transferred Negated g n w = negates g n w
transferred Magnitude g n w = if is_negative w then negates g n w else moved_to g n w

unfoldable pub move_row : Transfer → Regs → List ℕ → Instruction → Result Effect StopReason
move_row transfer g core n = reading (moved_operand g core n) (λ w. Ok (transferred transfer g n w))

-- EXCH: A and M are exchanged
unfoldable pub exch_row : Regs → List ℕ → Instruction → Result Effect StopReason
exch_row g core n = reading (word_at g.ac core n.e) (λ m. Ok (record (goes_on g 1) { memory = Some (n.e, a_of g n); ac = Some m }))
