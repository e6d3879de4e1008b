-- The program counter and the flags, and their PC word (DECsystem-10 Processor Reference Manual).
use Rattle.std.specs.Prelude.{ℕ, ◌+◌, ◌/◌, ◌%◌, ◌^◌, nat_eq, if◌then◌else◌}
use Rattle.ka_state.specs.declared.registers.Regs.{Regs}
use Rattle.ka_state.specs.declared.registers.Flags.{Flags}

-- PC+1
abbrev pub next_pc : Regs → ℕ
next_pc g = (g.pc + 1) % 2 ^ 18

-- the PC word `flags,,PC`: bit 0 Overflow, 1 Carry 0, 2 Carry 1, 5 User, which is always set, 12 No Divide
unfoldable pub pc_word : Flags → ℕ → ℕ
pc_word f pc =
    (if f.overflow then 2 ^ 35 else 0) + (if f.carry0 then 2 ^ 34 else 0) + (if f.carry1 then 2 ^ 33 else 0)
    + 2 ^ 30 + (if f.no_divide then 2 ^ 23 else 0) + pc

-- the flags in the left half of a PC word, whose other bits have no effect
unfoldable pub flags_of : ℕ → Flags
flags_of w = record {
  overflow = nat_eq (w / 2 ^ 35 % 2) 1;
  carry0 = nat_eq (w / 2 ^ 34 % 2) 1;
  carry1 = nat_eq (w / 2 ^ 33 % 2) 1;
  no_divide = nat_eq (w / 2 ^ 23 % 2) 1;
}
