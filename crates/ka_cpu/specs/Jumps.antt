-- JFFO, AOBJP, AOBJN, JRST, JFCL, the subroutine calls JSR, JSP, JSA and JRA, and the monitor calls
-- (Processor Reference Manual, "Program control"; TOPS-10 Monitor Calls Manual).
use Rattle.std.specs.Prelude.{ℕ, ◌+◌, ◌/◌, ◌%◌, ◌^◌, nat_eq, Bool, not, ◌||◌, ◌&&◌, if◌then◌else◌, Option, Some, None, List, Result, Ok}
use Rattle.std.specs.Int.Count.{count_leading_zeros}
use Rattle.word36.specs.Words.{is_negative, left_half, joined}
use Rattle.ka_word.specs.Pushdown.{counted_up}
use Rattle.ka_cpu.specs.Addresses.{reading}
use Rattle.ka_state.specs.Memory.{word_at}
use Rattle.ka_cpu.specs.Effects.{Effect, Halts, Calls, a_of, goes_on, goes_to, jumps_if}
use Rattle.ka_state.specs.Registers.{flags_of, next_pc, pc_word}
use Rattle.ka_state.specs.declared.registers.Regs.{Regs}
use Rattle.ka_state.specs.declared.registers.Flags.{Flags}
use Rattle.ka_state.specs.declared.outcome.StopReason.{StopReason}
use Rattle.ka_state.specs.declared.outcome.CallKind.{CallKind}
use Rattle.ka_cpu.specs.Instructions.{Instruction}

-- JFFO: A not 0: AC+1 is the number of leading zeros, go to E; A 0: AC+1 is 0
unfoldable pub jffo_row : Regs → Instruction → Effect
jffo_row g n =
    if nat_eq (a_of g n) 0
    then record (goes_on g 1) { next = Some 0 }
    else record (goes_to g n.e) { next = Some (count_leading_zeros 36 (a_of g n)) }

-- A with both halves counted up: AOBJP goes to E where the sum is not negative, AOBJN, the odd operation, where it is
unfoldable pub aobj_row : Regs → Instruction → Effect
aobj_row g n =
    record (jumps_if g
    (if nat_eq (n.op % 2) 0 then not (is_negative (counted_up (a_of g n))) else is_negative (counted_up (a_of g n))) n.e) {
      ac = Some (counted_up (a_of g n));
    }

-- flags from the register or word that was used last in the address; unchanged where none was (this project's profile)
abbrev pub restored : Flags → Option ℕ → Flags
restored f None = f
restored f (Some w) = flags_of w

-- JRST: AC 0 goes to E, 2 takes flags too, 4 halts with PC E
unfoldable pub jrst_row : Regs → Instruction → Option ℕ → Effect
jrst_row g n used =
    if nat_eq n.ac 0 then goes_to g n.e else
    if nat_eq n.ac 2 then record (goes_to g n.e) { flags = restored g.flags used } else
    record (goes_to g n.e) { ending = Halts }

-- bits of the AC field: 10 selects Overflow, 4 Carry 0, 2 Carry 1, 1 none
abbrev pub selects : Instruction → ℕ → Bool
selects n k = nat_eq (n.ac / 2 ^ k % 2) 1

-- JFCL: where a selected flag is set go to E; clear the selected ones
unfoldable pub jfcl_row : Regs → Instruction → Effect
jfcl_row g n =
    record (jumps_if g ((g.flags.overflow && selects n 3) || (g.flags.carry0 && selects n 2) || (g.flags.carry1 && selects n 1)) n.e) {
      flags = record g.flags {
        overflow = g.flags.overflow && not (selects n 3);
        carry0 = g.flags.carry0 && not (selects n 2);
        carry1 = g.flags.carry1 && not (selects n 1);
      };
    }

-- JSR: `flags,,next PC` to E, go to E+1
unfoldable pub jsr_row : Regs → Instruction → Effect
jsr_row g n = record (goes_to g ((n.e + 1) % 2 ^ 18)) { memory = Some (n.e, pc_word g.flags (next_pc g)) }

-- JSP: the same to AC, go to E
unfoldable pub jsp_row : Regs → Instruction → Effect
jsp_row g n = record (goes_to g n.e) { ac = Some (pc_word g.flags (next_pc g)) }

-- JSA: A to E, `E,,next PC` to AC, go to E+1
unfoldable pub jsa_row : Regs → Instruction → Effect
jsa_row g n = record (goes_to g ((n.e + 1) % 2 ^ 18)) { memory = Some (n.e, a_of g n); ac = Some (joined n.e (next_pc g)) }

-- JRA: the word at A's left half to AC, go to E
unfoldable pub jra_row : Regs → List ℕ → Instruction → Result Effect StopReason
jra_row g core n = reading (word_at g.ac core (left_half (a_of g n))) (λ m. Ok (record (goes_to g n.e) { ac = Some m }))

-- CALLI and TTCALL: a call of the monitor, with the PC of the next instruction
unfoldable pub call_row : CallKind → Regs → Instruction → Effect
call_row kind g n = record (goes_on g 1) { ending = Calls kind n.ac n.e }
