-- The call of the monitor that the next instruction makes.
use Rattle.std.specs.Prelude.{ℕ, Option, Some, None, List}
use Rattle.ka_cpu.specs.Exec.{exec}
use Rattle.ka_state.specs.declared.outcome.CallKind.{CallKind}
use Rattle.ka_state.specs.declared.outcome.Outcome.{Outcome}
use Rattle.ka_state.specs.declared.outcome.Outcome.TheVariants.{Call}
use Rattle.ka_state.specs.declared.registers.Regs.{Regs}

-- the call that an outcome is: its kind, its AC field and its E
abbrev pub call_in : Outcome → Option (CallKind × ℕ × ℕ)
call_in (Call kind ac e) = Some (kind, ac, e)
call_in _ = None

-- the call that the instruction at the PC makes, if it makes one
abbrev pub next_call : Regs → List ℕ → Option (CallKind × ℕ × ℕ)
next_call g core = call_in (exec g core).outcome
