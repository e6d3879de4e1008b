-- IBP, ILDB, LDB, IDPB and DPB (Processor Reference Manual, "Byte manipulation").
use Rattle.std.specs.Prelude.{ℕ, nat_eq, Bool, ◌||◌, if◌then◌else◌, Option, Some, None, List, Result, Ok, Err}
use Rattle.ka_word.specs.Bytes.{byte_of, deposited, incremented}
use Rattle.ka_cpu.specs.Addresses.{reading, target_of, at_target}
use Rattle.ka_state.specs.Memory.{word_at, ac_with, core_with}
use Rattle.ka_cpu.specs.Effects.{After, Effect, a_of, goes_on, applied, stopped}
use Rattle.ka_state.specs.Registers.{next_pc}
use Rattle.ka_state.specs.declared.registers.Regs.{Regs}
use Rattle.ka_state.specs.declared.outcome.StopReason.{StopReason}
use Rattle.ka_state.specs.declared.outcome.StopReason.TheVariants.{IllegalAddress}
use Rattle.ka_state.specs.declared.outcome.Outcome.TheVariants.{Done}
use Rattle.ka_cpu.specs.Instructions.{Instruction}

-- 133 IBP, 134 ILDB, 135 LDB, 136 IDPB, 137 DPB (octal)
abbrev pub increments : ℕ → Bool
increments op = nat_eq op 0o133 || nat_eq op 0o134 || nat_eq op 0o136

abbrev pub loads : ℕ → Bool
loads op = nat_eq op 0o134 || nat_eq op 0o135

-- LDB puts the byte in AC; DPB replaces the byte by the low bits of A
abbrev pub byte_effect : Regs → Instruction → ℕ → ℕ → ℕ → Effect
byte_effect g n p e w =
    if loads n.op then record (goes_on g 1) { ac = Some (byte_of p w) }
    else record (goes_on g 1) { memory = Some (e, deposited p (a_of g n) w) }

-- the address of the byte that a pointer names, and the word there
abbrev pub located_byte : List ℕ → List ℕ → ℕ → Result (ℕ × ℕ) StopReason
located_byte ac core p = at_target (target_of ac core p) (λ t. reading (word_at ac core t.e) (λ w. Ok (t.e, w)))

-- what is done in the state g, core; where the byte's address is refused the state is the old one
abbrev pub byte_done : Regs → List ℕ → Regs → List ℕ → Instruction → ℕ → Result (ℕ × ℕ) StopReason → After
byte_done old old_core g core n p (Err r) = stopped old old_core r
byte_done old old_core g core n p (Ok b) = applied g core n (byte_effect g n p b.0 b.1)

-- IBP increments the pointer at E; ILDB and IDPB do so first, and find the byte and AC in the state that this
-- leaves (this project's profile)
abbrev pub behind_pointer : Regs → List ℕ → Regs → List ℕ → Instruction → ℕ → After
behind_pointer old old_core g core n p =
    if nat_eq n.op 0o133
    then record { regs = record g { pc = next_pc g }; core = core; outcome = Done }
    else byte_done old old_core g core n p (located_byte g.ac core p)

abbrev pub with_pointer : Regs → List ℕ → Instruction → Option ℕ → After
with_pointer g core n None = stopped g core IllegalAddress
with_pointer g core n (Some p) =
    if increments n.op
    then behind_pointer g core (record g { ac = ac_with g.ac n.e (incremented p) }) (core_with core n.e (incremented p)) n (incremented p)
    else byte_done g core g core n p (located_byte g.ac core p)

unfoldable pub byte_after : Regs → List ℕ → Instruction → After
byte_after g core n = with_pointer g core n (word_at g.ac core n.e)
