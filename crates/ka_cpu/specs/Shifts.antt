-- ASH, ROT, LSH, ROTC and LSHC (Processor Reference Manual, "Shift and rotate").
use Rattle.std.specs.Prelude.{ℕ, ◌+◌, ◌*◌, ◌/◌, ◌%◌, ◌^◌, nat_eq, ◌||◌, if◌then◌else◌, Some, slice_index}
use Rattle.ka_word.specs.Shifts.{ash_of, ash_overflows, lsh_of, lshc_of, rot_of, rotc_of}
use Rattle.ka_cpu.specs.Effects.{Effect, a_of, next_ac, goes_on}
use Rattle.ka_state.specs.declared.registers.Regs.{Regs}
use Rattle.ka_cpu.specs.Instructions.{Instruction}

-- AC and AC+1 as 72 bits
abbrev pub pair_of : Regs → Instruction → ℕ
pair_of g n = a_of g n * 2 ^ 36 + slice_index g.ac (next_ac n)

abbrev pub pair_effect : Regs → ℕ → Effect
pair_effect g d = record (goes_on g 1) { ac = Some (d / 2 ^ 36); next = Some (d % 2 ^ 36) }

-- 240 ASH, 241 ROT, 242 LSH, 245 ROTC, 246 LSHC (octal)
unfoldable pub shift_row : Regs → Instruction → Effect
shift_row g n =
    if nat_eq n.op 0o240
    then record (goes_on g 1) {
      ac = Some (ash_of n.e (a_of g n));
      flags = record g.flags { overflow = g.flags.overflow || ash_overflows n.e (a_of g n) };
    } else
    if nat_eq n.op 0o241 then record (goes_on g 1) { ac = Some (rot_of n.e (a_of g n)) } else
    if nat_eq n.op 0o242 then record (goes_on g 1) { ac = Some (lsh_of n.e (a_of g n)) } else
    if nat_eq n.op 0o245 then pair_effect g (rotc_of n.e (pair_of g n)) else
    pair_effect g (lshc_of n.e (pair_of g n))
