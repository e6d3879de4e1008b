-- PUSHJ, PUSH, POP and POPJ (Processor Reference Manual, "Pushdown list").
use Rattle.std.specs.Prelude.{ℕ, if◌then◌else◌, Some, List, Result, Ok}
use Rattle.word36.specs.Words.{right_half}
use Rattle.ka_word.specs.Pushdown.{counted_down, counted_up, runs_over, runs_under}
use Rattle.ka_cpu.specs.Addresses.{reading}
use Rattle.ka_state.specs.Memory.{word_at}
use Rattle.ka_cpu.specs.Effects.{After, Effect, Ending, Goes_on, Overruns, a_of, finished, goes_on, goes_to}
use Rattle.ka_state.specs.Registers.{next_pc, pc_word}
use Rattle.ka_state.specs.declared.registers.Regs.{Regs}
use Rattle.ka_state.specs.declared.outcome.StopReason.{StopReason}
use Rattle.ka_cpu.specs.Instructions.{Instruction}

-- a carry out of bit 0 of A + 1000001, or a borrow in A - 1000001, is stop 4 after the instruction (this project's profile)
abbrev pub push_ending : ℕ → Ending
push_ending a = if runs_over a then Overruns else Goes_on

abbrev pub pop_ending : ℕ → Ending
pop_ending a = if runs_under a then Overruns else Goes_on

-- PUSHJ: A + 1000001 to AC, `flags,,next PC` at its right half, go to E
unfoldable pub pushj_row : Regs → Instruction → Effect
pushj_row g n =
    record (goes_to g n.e) {
      memory = Some (right_half (counted_up (a_of g n)), pc_word g.flags (next_pc g));
      ac = Some (counted_up (a_of g n));
      ending = push_ending (a_of g n);
    }

-- PUSH: A + 1000001 to AC, M at its right half
unfoldable pub push_row : Regs → List ℕ → Instruction → Result Effect StopReason
push_row g core n =
    reading (word_at g.ac core n.e)
    (λ m. Ok (record (goes_on g 1) {
      memory = Some (right_half (counted_up (a_of g n)), m);
      ac = Some (counted_up (a_of g n));
      ending = push_ending (a_of g n);
    }))

-- POP: the word at A's right half to E, A - 1000001 to AC
unfoldable pub pop_row : Regs → List ℕ → Instruction → Result Effect StopReason
pop_row g core n =
    reading (word_at g.ac core (right_half (a_of g n)))
    (λ m. Ok (record (goes_on g 1) { memory = Some (n.e, m); ac = Some (counted_down (a_of g n)); ending = pop_ending (a_of g n) }))

-- the state after PUSH, and after POP
abbrev pub pushed : Regs → List ℕ → Instruction → After
pushed g core n = finished g core n (push_row g core n)

abbrev pub popped : After → Instruction → After
popped a n = finished a.regs a.core n (pop_row a.regs a.core n)

-- POPJ: PC is the right half of the word at A's right half; A - 1000001 to AC
unfoldable pub popj_row : Regs → List ℕ → Instruction → Result Effect StopReason
popj_row g core n =
    reading (word_at g.ac core (right_half (a_of g n)))
    (λ m. Ok (record (goes_to g (right_half m)) { ac = Some (counted_down (a_of g n)); ending = pop_ending (a_of g n) }))
