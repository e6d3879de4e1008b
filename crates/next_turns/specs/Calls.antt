-- The call that a job's next instruction makes.
use Rattle.std.specs.Prelude.{ℕ, List, Option, Some, None}
use Rattle.ka_cpu.specs.Next.{next_call}
use Rattle.ka_state.specs.declared.outcome.CallKind.{CallKind}
use Rattle.job_sched.specs.declared.job.Job.{Job}
use Rattle.uuo_calls.specs.Services.{service_of}
use Rattle.uuo_calls.specs.declared.service.Service.{Service}

-- the service of a call, if there is one
abbrev pub service_in : Option (CallKind × ℕ × ℕ) → Option Service
service_in (Some c) = Some (service_of c.0 c.1 c.2)
service_in None = None

-- the service of the call that a job's next instruction makes, if it makes one
abbrev pub next_service : Job → List ℕ → Option Service
next_service j core = service_in (next_call j.regs core)
