-- How jobs stand, in words (this project's profile).
use Rattle.std.specs.Prelude.{◌≡◌, ◌++◌, nat_lt, ℕ, List, [], Option, Some, None, codes, decimal, if◌then◌else◌}
use Rattle.job_sched.specs.declared.job.Stop.{Stop}
use Rattle.job_sched.specs.declared.job.Stop.TheVariants.{Loaded, Exit, Monitor, Typed, Fault}
use Rattle.job_sched.specs.declared.job.Wait.{Wait}
use Rattle.job_sched.specs.declared.job.Wait.TheVariants.{Sleep, Char, Line, Room, Queue, None as Nothing}
use Rattle.ka_state.specs.declared.outcome.StopReason.{StopReason}
use Rattle.ka_state.specs.declared.outcome.StopReason.TheVariants.{IllegalAddress, IllegalInstruction, Halt, Pushdown, AddressChain}
use Rattle.lock_queue.specs.declared.request.Request.{Request}
use Rattle.machine.specs.declared.event.RefusedEvent.{RefusedEvent}
use Rattle.machine.specs.declared.event.RefusedEvent.TheVariants as refused
use Rattle.machine.specs.declared.view.JobView.{JobView}
use Rattle.run_facts.specs.declared.standing.Standing.{Standing}
use Rattle.run_facts.specs.declared.standing.Standing.TheVariants.{Gone, Stopped, Goes}
use Rattle.run_notes.specs.Words.{IsWaitText}

abbrev pub standing_by : Option Stop → Wait → Standing
standing_by None wait = Goes wait
standing_by (Some why) wait = Stopped why

-- how a job stands, by what can be seen of it: a job that is stopped does not go on, whatever it waits for
abbrev pub standing_of : Option JobView → Standing
standing_of None = Gone
standing_of (Some view) = standing_by view.stop view.wait

abbrev pub fault_words : StopReason → List ℕ
fault_words IllegalAddress = codes "illegal address"
fault_words IllegalInstruction = codes "illegal instruction"
fault_words Halt = codes "HALT"
fault_words Pushdown = codes "pushdown list ran over"
fault_words AddressChain = codes "address chain without end"

-- why a job is stopped
abbrev pub stop_words : Stop → List ℕ
stop_words Loaded = codes "not started"
stop_words Exit = codes "EXIT"
stop_words Monitor = codes "EXIT 1"
stop_words Typed = codes "stopped by CTRL-C"
stop_words (Fault why) = fault_words why

-- what is left of a time limit, where there is one
abbrev pub limit_left_words : ℕ → List ℕ
limit_left_words limit = if nat_lt 0 limit then codes ", for " ++ (decimal limit ++ codes " ticks more") else []

-- the words on what a job waits for, or that it runs
abbrev pub IsToldWait : List Request → ℕ → Wait → List ℕ → Type 0
IsToldWait requests job Nothing text = text ≡ codes "still runs"
IsToldWait requests job (Sleep ticks) text = text ≡ codes "sleeps for " ++ (decimal ticks ++ codes " ticks more")
IsToldWait requests job Char text = text ≡ codes "waits for a character"
IsToldWait requests job Line text = text ≡ codes "waits for a line"
IsToldWait requests job (Room count) text = text ≡ codes "waits for its output to be taken"
IsToldWait requests job (Queue limit accumulator) text =
    (words : List ℕ) × IsWaitText requests job words × (text ≡ words ++ limit_left_words limit)

-- the words on how a job stands: what it waits for, and for how long, only where it is there and not stopped
abbrev pub IsStandingText : List Request → ℕ → Standing → List ℕ → Type 0
IsStandingText requests job Gone text = text ≡ codes "LOGOUT"
IsStandingText requests job (Stopped why) text = text ≡ stop_words why
IsStandingText requests job (Goes wait) text = IsToldWait requests job wait text

-- why a program cannot be logged in or started
abbrev pub login_refusal_words : RefusedEvent → List ℕ
login_refusal_words refused.NoCore = codes "it takes more blocks of core than are free"
login_refusal_words refused.BadImage = codes "it has no words"
login_refusal_words refused.NoLine = codes "there is no terminal line for it"
login_refusal_words refused.LineBusy = codes "its terminal line is taken"
login_refusal_words refused.NoJobNumber = codes "all job numbers are taken"
login_refusal_words refused.NoSuchJob = codes "there is no such job"
login_refusal_words refused.NotStopped = codes "it runs already"
login_refusal_words refused.Full = codes "its terminal line is full"
