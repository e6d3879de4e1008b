-- The numbers of the reasons why a job is stopped (this project's profile).
use Rattle.std.specs.Prelude.{ℕ}
use Rattle.ka_state.specs.Outcomes.{code_of as fault_code}
use Rattle.job_sched.specs.declared.job.Stop.{Stop}
use Rattle.job_sched.specs.declared.job.Stop.TheVariants.{Loaded, Fault, Exit, Monitor, Typed}

-- loaded, a fault of the processor or of a call, EXIT, EXIT 1, CTRL-C
abbrev pub code_of : Stop → ℕ
code_of Loaded = 0
code_of (Fault reason) = fault_code reason
code_of Exit = 6
code_of Monitor = 7
code_of Typed = 8
