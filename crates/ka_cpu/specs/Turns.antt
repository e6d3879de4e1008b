-- Words of private clauses, which `exec` does not use.
use Rattle.std.specs.Prelude.{ℕ, if◌then◌else◌}
use Rattle.ka_isa.specs.declared.Family.{Family}
use Rattle.ka_cpu.specs.Exec.{is_listed}
use Rattle.ka_state.specs.declared.outcome.StopReason.{StopReason}
use Rattle.ka_state.specs.declared.outcome.StopReason.TheVariants.{IllegalInstruction}

-- why an instruction is refused whose address is not found
abbrev pub refusal_of : Family → ℕ → StopReason → StopReason
refusal_of f ac r = if is_listed f ac then r else IllegalInstruction
