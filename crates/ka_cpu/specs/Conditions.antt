-- CAI, CAM, JUMP, SKIP and those that add or subtract 1 first (Processor Reference Manual, "Arithmetic testing").
use Rattle.std.specs.Prelude.{ℕ, pos, ◌-◌, ◌%◌, ◌^◌, nat_eq, nat_lt, if◌then◌else◌, Option, Some, None, List, Result, Ok}
use Rattle.word36.specs.Words.{signed_value, sum_of}
use Rattle.ka_word.specs.Conditions.{holds}
use Rattle.ka_cpu.specs.Addresses.{reading}
use Rattle.ka_state.specs.Memory.{word_at}
use Rattle.ka_cpu.specs.Effects.{Effect, a_of, skips_if, jumps_if, sum_flags}
use Rattle.ka_state.specs.declared.registers.Regs.{Regs}
use Rattle.ka_state.specs.declared.registers.Flags.{Flags}
use Rattle.ka_state.specs.declared.outcome.StopReason.{StopReason}
use Rattle.ka_cpu.specs.Instructions.{Instruction}
use Rattle.ka_isa.specs.declared.Change.{Change}
use Rattle.ka_isa.specs.declared.Change.TheVariants.{Keep, Up, Down}

-- the low digit of the operation
abbrev pub condition_of : Instruction → ℕ
condition_of n = n.op % 8

-- CAI and CAM: skip where A compares with `0,,E`, with M
unfoldable pub compare_row : Regs → List ℕ → Instruction → Result Effect StopReason
compare_row g core n =
    reading (if nat_lt n.op 0o310 then Some n.e else word_at g.ac core n.e)
    (λ m. Ok (skips_if g (holds (condition_of n) (signed_value (a_of g n)) (signed_value m))))

-- AOx adds 1, SOx adds 777777,,777777, with the flags of ADD
abbrev pub changed_word : Change → ℕ → ℕ
changed_word Keep w = w
changed_word Up w = sum_of w 1 0
changed_word Down w = sum_of w (2 ^ 36 - 1) 0

abbrev pub changed_flags : Change → Flags → ℕ → Flags
changed_flags Keep f w = f
changed_flags Up f w = sum_flags f w 1 0
changed_flags Down f w = sum_flags f w (2 ^ 36 - 1) 0

-- what is stored where the word is changed
abbrev pub if_changed : {A : Type 0} → Change → A → Option A
if_changed Keep x = None
if_changed Up x = Some x
if_changed Down x = Some x

-- JUMP, AOJ, SOJ: A, A+1, A-1 (stored in AC) compared with 0: go to E
unfoldable pub jump_row : Change → Regs → Instruction → Effect
jump_row c g n =
    let w = changed_word c (a_of g n) in
    record (jumps_if g (holds (condition_of n) (signed_value w) (pos 0)) n.e) {
      ac = if_changed c w;
      flags = changed_flags c g.flags (a_of g n);
    }

-- SKIP, AOS, SOS: M, M+1, M-1 (stored in E for the last two) compared with 0: skip; the value to AC where AC is not 0
unfoldable pub skip_row : Change → Regs → List ℕ → Instruction → Result Effect StopReason
skip_row c g core n =
    reading (word_at g.ac core n.e)
    (λ m. Ok (record (skips_if g (holds (condition_of n) (signed_value (changed_word c m)) (pos 0))) {
      memory = if_changed c (n.e, changed_word c m);
      ac = if nat_eq n.ac 0 then None else Some (changed_word c m);
      flags = changed_flags c g.flags m;
    }))
