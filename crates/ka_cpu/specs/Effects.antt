-- What an instruction does: its operand, where its result goes, its flags, and the next PC.
use Rattle.std.specs.Prelude.{◌≡◌, ◌<◌, ℕ, ◌+◌, ◌%◌, ◌^◌, nat_eq, nat_lt, Bool, true, ◌||◌, if◌then◌else◌, Option}
use Rattle.std.specs.Prelude.{Some, None, List, slice_index, slice_set, Result, Ok, Err}
use Rattle.ka_state.specs.Registers.{next_pc}
use Rattle.ka_state.specs.Memory.{word_at, is_legal, ac_with, core_with}
use Rattle.ka_state.specs.declared.registers.Regs.{Regs}
use Rattle.ka_state.specs.declared.registers.Flags.{Flags}
use Rattle.ka_state.specs.declared.outcome.CallKind.{CallKind}
use Rattle.ka_state.specs.declared.outcome.StopReason.{StopReason}
use Rattle.ka_state.specs.declared.outcome.StopReason.TheVariants.{IllegalAddress}
use Rattle.ka_state.specs.declared.outcome.Outcome.{Outcome}
use Rattle.ka_state.specs.declared.outcome.Outcome.TheVariants as outcome
use Rattle.ka_state.specs.declared.outcome.StopReason.TheVariants as reason
use Rattle.ka_cpu.specs.Instructions.{Instruction}
use Rattle.word36.specs.Words.{carry_0, carry_1}
use Rattle.ka_word.specs.Sums.{carries_differ}

-- how an instruction that is carried out ends
pub data Ending : Type 0 where
  Goes_on : Ending
  Calls : (kind : CallKind) (ac e : ℕ) → Ending
  Halts : Ending
  Overruns : Ending

-- what an instruction stores, at an address of memory, in AC and in AC+1, its flags, its next PC and its ending
pub record Effect : Type 0 where
  pub memory : Option (ℕ × ℕ)
  pub ac : Option ℕ
  pub next : Option ℕ
  pub flags : Flags
  pub pc : ℕ
  pub ending : Ending

-- the state after an instruction, and its outcome
pub record After : Type 0 where
  pub regs : Regs
  pub core : List ℕ
  pub outcome : Outcome

-- A, the word in the accumulator that an instruction names
abbrev pub a_of : Regs → Instruction → ℕ
a_of g n = slice_index g.ac n.ac

-- the number of AC+1, which is 0 after 17 octal
abbrev pub next_ac : Instruction → ℕ
next_ac n = (n.ac + 1) % 16

-- nothing is stored, the flags stay, and the PC goes on by so many words
abbrev pub goes_on : Regs → ℕ → Effect
goes_on g k = record { memory = None; ac = None; next = None; flags = g.flags; pc = (g.pc + k) % 2 ^ 18; ending = Goes_on }

-- the next instruction is skipped where the test holds
abbrev pub skips_if : Regs → Bool → Effect
skips_if g b = goes_on g (if b then 2 else 1)

-- go to an address
abbrev pub goes_to : Regs → ℕ → Effect
goes_to g e = record (goes_on g 1) { pc = e }

-- go to an address where the test holds
abbrev pub jumps_if : Regs → Bool → ℕ → Effect
jumps_if g b e = goes_to g (if b then e else next_pc g)

-- The four modes, by the low two bits of the operation: basic (operand M, the word at E), I (operand `0,,E`),
-- M, and the fourth, S or B. In mode M the families of MOVE and the halfwords take A as operand.
abbrev pub moved_operand : Regs → List ℕ → Instruction → Option ℕ
moved_operand g core n =
    if nat_eq (n.op % 4) 1 then Some n.e else
    if nat_eq (n.op % 4) 2 then Some (a_of g n) else word_at g.ac core n.e

-- the other families compute from A and M
abbrev pub computed_operand : Regs → List ℕ → Instruction → Option ℕ
computed_operand g core n = if nat_eq (n.op % 4) 1 then Some n.e else word_at g.ac core n.e

-- a result goes to E in mode M and in the fourth mode
abbrev pub to_memory : Instruction → ℕ → Option (ℕ × ℕ)
to_memory n w = if nat_lt (n.op % 4) 2 then None else Some (n.e, w)

-- and to AC in all modes but M, in mode S where AC is not 0
abbrev pub moved_to_ac : Instruction → ℕ → Option ℕ
moved_to_ac n w =
    if nat_lt (n.op % 4) 2 then Some w else
    if nat_eq (n.op % 4) 2 then None else
    if nat_eq n.ac 0 then None else Some w

abbrev pub moved_to : Regs → Instruction → ℕ → Effect
moved_to g n w = record (goes_on g 1) { memory = to_memory n w; ac = moved_to_ac n w }

-- in mode B also where AC is 0
abbrev pub computed_to_ac : Instruction → ℕ → Option ℕ
computed_to_ac n w = if nat_eq (n.op % 4) 2 then None else Some w

abbrev pub computed_to : Regs → Instruction → ℕ → Effect
computed_to g n w = record (goes_on g 1) { memory = to_memory n w; ac = computed_to_ac n w }

-- flags stay set: a carry out of bit 0 sets Carry 0, out of bit 1 Carry 1, Overflow where they differ
abbrev pub carried_flags : Flags → Bool → Bool → Flags
carried_flags f c0 c1 = record f { overflow = f.overflow || carries_differ c0 c1; carry0 = f.carry0 || c0; carry1 = f.carry1 || c1 }

-- the flags of the sum of two words and a carry into bit 35
abbrev pub sum_flags : Flags → ℕ → ℕ → ℕ → Flags
sum_flags f a b c = carried_flags f (carry_0 a b c) (carry_1 a b c)

-- the address of the store must be legal
abbrev pub memory_legal : List ℕ → Option (ℕ × ℕ) → Bool
memory_legal core None = true
memory_legal core (Some p) = is_legal core p.0

abbrev pub ac_memory : List ℕ → Option (ℕ × ℕ) → List ℕ
ac_memory ac None = ac
ac_memory ac (Some p) = ac_with ac p.0 p.1

abbrev pub core_memory : List ℕ → Option (ℕ × ℕ) → List ℕ
core_memory core None = core
core_memory core (Some p) = core_with core p.0 p.1

abbrev pub ac_put : List ℕ → ℕ → Option ℕ → List ℕ
ac_put ac k None = ac
ac_put ac k (Some w) = slice_set ac k w

abbrev pub outcome_of : Ending → Outcome
outcome_of Goes_on = outcome.Done
outcome_of (Calls kind ac e) = outcome.Call kind ac e
outcome_of Halts = outcome.Stop reason.Halt
outcome_of Overruns = outcome.Stop reason.Pushdown

-- How an instruction leaves the registers g and core, as h and rest, by its outcome: at stops 1, 2 and 5 nothing
-- has changed; at a halt the PC alone has; before a call of the monitor core is unchanged and the PC is that of the
-- next instruction. At stop 4 the instruction is complete.
abbrev pub EndsAs : Outcome → Regs → List ℕ → Regs → List ℕ → Type 0
EndsAs outcome.Done g core h rest = Unit {0}
EndsAs (outcome.Call kind ac e) g core h rest =
    (ac < 16) × (e < 2 ^ 18) × (h ≡ record g { pc = next_pc g }) × (rest ≡ core)
EndsAs (outcome.Stop reason.IllegalAddress) g core h rest = (h ≡ g) × (rest ≡ core)
EndsAs (outcome.Stop reason.IllegalInstruction) g core h rest = (h ≡ g) × (rest ≡ core)
EndsAs (outcome.Stop reason.Halt) g core h rest = (h ≡ record g { pc = h.pc }) × (rest ≡ core)
EndsAs (outcome.Stop reason.Pushdown) g core h rest = Unit {0}
EndsAs (outcome.Stop reason.AddressChain) g core h rest = (h ≡ g) × (rest ≡ core)

-- an instruction that is refused: nothing changes
abbrev pub stopped : Regs → List ℕ → StopReason → After
stopped g core r = record { regs = g; core = core; outcome = outcome.Stop r }

-- results go first to memory, then to AC, then to AC+1; the later wins at one address (this project's profile)
abbrev pub applied : Regs → List ℕ → Instruction → Effect → After
applied g core n x =
    if memory_legal core x.memory
    then record {
      regs = record { ac = ac_put (ac_put (ac_memory g.ac x.memory) n.ac x.ac) (next_ac n) x.next; pc = x.pc; flags = x.flags };
      core = core_memory core x.memory;
      outcome = outcome_of x.ending;
    }
    else stopped g core IllegalAddress

-- a row with what it does, or the reason why it is refused
abbrev pub finished : Regs → List ℕ → Instruction → Result Effect StopReason → After
finished g core n (Err r) = stopped g core r
finished g core n (Ok x) = applied g core n x
