-- The words of an image that are operations or calls of a user's program, and that this machine refuses as instructions.
use Rattle.std.specs.Prelude.{◌≡◌, ℕ, Bool, true, false, not, ◌&&◌, ◌||◌, ◌==◌, nat_le, nat_lt, List, [], ◌∷◌, ◌++◌, codes, if◌then◌else◌, Some}
use Rattle.ka_isa.specs.declared.Fields.{Fields}
use Rattle.ka_isa.specs.declared.Family.{Family}
use Rattle.ka_isa.specs.declared.Family.TheVariants.{Calli, Ttcall}
use Rattle.ka_isa.specs.Fields.{fields_of}
use Rattle.ka_isa.specs.Families.{family_of}
use Rattle.ka_state.specs.declared.registers.Regs.{Regs}
use Rattle.ka_state.specs.declared.outcome.CallKind.TheVariants as call
use Rattle.ka_state.specs.declared.outcome.Outcome.{Outcome}
use Rattle.ka_state.specs.declared.outcome.Outcome.TheVariants as outcome
use Rattle.ka_state.specs.declared.outcome.StopReason.TheVariants as reason
use Rattle.ka_cpu.specs.Addresses.{target_of}
use Rattle.ka_cpu.specs.Exec.{is_listed, performed, at_address}
use Rattle.job_sched.specs.declared.job.Job.{Job}
use Rattle.job_sched.specs.Tables.{job_at}
use Rattle.uuo_calls.specs.declared.call.CallOutcome.TheVariants.{Done}
use Rattle.uuo_calls.specs.declared.call.MonitorCall.{MonitorCall}
use Rattle.uuo_calls.specs.declared.service.Service.{Service}
use Rattle.uuo_calls.specs.declared.service.Service.TheVariants.{Unlisted}
use Rattle.uuo_calls.specs.CallState.{stopped_at}
use Rattle.uuo_calls.specs.Laws.{with_new_job}
use Rattle.uuo_calls.specs.Performed.{World, performed as call_performed}
use Rattle.uuo_calls.specs.Services.{service_of}
use Rattle.left_out.specs.Words.{name_of}

-- a call that the monitor has not
abbrev pub is_unlisted : Service → Bool
is_unlisted Unlisted = true
is_unlisted _ = false

-- neither @ nor an index register: E is the address in the word
abbrev pub has_own_address : Fields → Bool
has_own_address f = not f.i && f.x == 0

-- the word itself shows that the monitor has not its call: a CALLI by its address, a TTCALL by its AC field
abbrev pub is_unlisted_call : Family → Fields → Bool
is_unlisted_call Calli f = has_own_address f && is_unlisted (service_of call.Calli f.ac f.y)
is_unlisted_call Ttcall f = is_unlisted (service_of call.Ttcall f.ac f.y)
is_unlisted_call _ f = false

-- the processor has not the operation, or the monitor has not the call
abbrev pub is_left_out : Family → Fields → Bool
is_left_out family f = not (is_listed family f.ac) || is_unlisted_call family f

-- a user's program has neither operation 000 nor the input and output of 700 to 777 on any of these machines; small numbers,
-- above 0 and below, look like them (this project's profile)
abbrev pub is_of_users : ℕ → Bool
is_of_users op = nat_lt 0 op && nat_lt op 0o700

unfoldable pub is_not_here : ℕ → Bool
is_not_here w = is_of_users (fields_of w).op && is_left_out (family_of (fields_of w).op) (fields_of w)

-- operations 040 to 077 are calls of the monitor (TOPS-10 Monitor Calls Manual)
abbrev pub is_call : ℕ → Bool
is_call op = nat_le 0o40 op && nat_lt op 0o100

-- what is said after such a word, and the name that the manuals give it
abbrev pub kind_text : Bool → List ℕ
kind_text is_a_call = if is_a_call then codes " ; call not here" else codes " ; operation not here"

abbrev pub named_text : List ℕ → List ℕ
named_text [] = []
named_text (c ∷ name) = codes ": " ++ (c ∷ name)

abbrev pub mark_text : ℕ → List ℕ
mark_text w = if is_not_here w then kind_text (is_call (fields_of w).op) ++ named_text (name_of (fields_of w).op (fields_of w).ac (fields_of w).y) else []

-- ---- what the machine does at such a word

-- an instruction is refused with nothing changed, or is a call that the monitor has not
abbrev pub is_refused : Outcome → Bool
is_refused outcome.Done = false
is_refused (outcome.Call kind ac e) = is_unlisted (service_of kind ac e)
is_refused (outcome.Stop reason.IllegalAddress) = true
is_refused (outcome.Stop reason.IllegalInstruction) = true
is_refused (outcome.Stop reason.Halt) = false
is_refused (outcome.Stop reason.Pushdown) = false
is_refused (outcome.Stop reason.AddressChain) = true

-- whatever the registers and the core hold
abbrev pub AreRefused : Type 0
AreRefused = (w : ℕ) (g : Regs) (core : List ℕ) → is_not_here w ≡ true → is_refused (performed g core w).outcome ≡ true

-- a call that the monitor has not stops its job with 2, at the call
abbrev pub CallsStopTheirJobs : Type 0
CallsStopTheirJobs =
    (w : World) (time n : ℕ) (c : MonitorCall) (j : Job) → job_at w.table.jobs n ≡ Some j
    → is_unlisted (service_of c.kind c.ac c.e) ≡ true
    → call_performed w time n c ≡ record { world = with_new_job w n (stopped_at j reason.IllegalInstruction); outcome = Done }

-- every other operation of a user's program is carried out, wherever its address leads
abbrev pub OthersAreCarriedOut : Type 0
OthersAreCarriedOut =
    (w : ℕ) (g : Regs) (core : List ℕ) → is_of_users (fields_of w).op ≡ true → is_not_here w ≡ false
    → performed g core w ≡ at_address g core w (target_of g.ac core w)
