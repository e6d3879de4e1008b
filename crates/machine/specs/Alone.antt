-- A job among others is a job alone (this project's profile).
use Rattle.std.specs.Prelude.{ℕ, ◌≡◌, suc, zero, ◌==◌, ◌||◌, ◌&&◌, Bool, true, false, not, if◌then◌else◌, List, [], ◌∷◌, ◌++◌, Option, Some}
use Rattle.std.specs.Prelude.{None, ⊤}
use Rattle.word36.specs.declared.sizes.TheConstants.{OUTPUT_RING}
use Rattle.ka_cpu.specs.Exec.{exec}
use Rattle.ka_state.specs.Memory.{word_below}
use Rattle.ka_state.specs.declared.outcome.CallKind.{CallKind}
use Rattle.ka_state.specs.declared.outcome.CallKind.TheVariants.{Calli, Ttcall}
use Rattle.ka_state.specs.declared.outcome.Outcome.{Outcome}
use Rattle.ka_state.specs.declared.outcome.Outcome.TheVariants as outcome
use Rattle.ka_state.specs.declared.registers.Regs.{Regs}
use Rattle.core_store.specs.Cores.{core_of}
use Rattle.tty_lines.specs.Rings.{output_of}
use Rattle.job_sched.specs.Limits.{limit_of}
use Rattle.job_sched.specs.Tables.{job_at}
use Rattle.job_sched.specs.declared.job.Job.{Job}
use Rattle.uuo_calls.specs.Laws.{is_terminal_wait}
use Rattle.uuo_calls.specs.Performed.{World}
use Rattle.uuo_calls.specs.TerminalRows.{low_character, text_from}
use Rattle.machine.specs.declared.event.Answer.{Answer}
use Rattle.machine.specs.declared.event.Answer.TheVariants.{Ran, Text}
use Rattle.machine.specs.declared.event.Event.{Event}
use Rattle.machine.specs.declared.event.Event.TheVariants.{Take, Start, Kill, Restart}
use Rattle.machine.specs.Machine.{S, Made, happens, after}
use Rattle.machine.specs.Safe.{wait_of}

-- a job alone: its registers, PC and flags, its core, and all that it has put out
pub record Solo : Type 0 where
  pub regs : Regs
  pub core : List ℕ
  pub output : List ℕ

-- OUTCHR is function 1 of TTCALL, and OUTSTR function 3
abbrev pub is_output : CallKind → ℕ → Bool
is_output Ttcall ac = (ac == 1) || (ac == 3)
is_output Calli ac = false

-- what such a call puts out, if its addresses are legal
abbrev pub text_of : ℕ → Regs → List ℕ → ℕ → Option (List ℕ)
text_of ac g core e = if ac == 1 then low_character (word_below g.ac core e) else text_from g.ac core e [] OUTPUT_RING

-- the text goes out, however long it is, and the job goes on; where an address is not legal the job stays at its call
abbrev pub printed : Solo → Regs → List ℕ → Option (List ℕ) → Solo
printed x g core (Some text) = record { regs = g; core = core; output = x.output ++ text }
printed x g core None = x

-- the job alone after an outcome of the processor
abbrev pub solo_after : Solo → Regs → List ℕ → Outcome → Solo
solo_after x g core outcome.Done = record { regs = g; core = core; output = x.output }
solo_after x g core (outcome.Stop reason) = record { regs = g; core = core; output = x.output }
solo_after x g core (outcome.Call kind ac e) = printed x g core (text_of ac g core e)

-- one instruction alone; after a stop the next one is executed from there
abbrev pub solo_step : Solo → Solo
solo_step x = let r = exec x.regs x.core in solo_after x r.regs r.core r.outcome

-- after k steps alone
abbrev pub solo : Solo → ℕ → Solo
solo x zero = x
solo x (suc k) = solo (solo_step x) k

-- whether an outcome calls the monitor for output only, or not at all
abbrev pub is_allowed : Outcome → Bool
is_allowed (outcome.Call kind ac e) = is_output kind ac
is_allowed outcome.Done = true
is_allowed (outcome.Stop reason) = true

-- the first k steps alone call the monitor for output only
abbrev pub OnlyPrints : Solo → ℕ → Type 0
OnlyPrints x zero = ⊤
OnlyPrints x (suc k) = (is_allowed (exec x.regs x.core).outcome ≡ true) × OnlyPrints (solo_step x) k

-- whether an event neither starts nor kills a job
abbrev pub spares : ℕ → Event → Bool
spares job (Kill n) = not (n == job)
spares job (Start n) = not (n == job)
spares job Restart = false
spares job _ = true

-- no event of a run starts or kills a job
abbrev pub Spares : ℕ → List Event → Type 0
Spares job [] = ⊤
Spares job (e ∷ es) = (spares job e ≡ true) × Spares job es

-- whether an answer is Ran of a job
abbrev pub is_ran : ℕ → Answer → Bool
is_ran job (Ran n) = n == job
is_ran job _ = false

-- whether an event was a step of the job, and no empty one, after which the job waits for its terminal
abbrev pub advances : ℕ → Made → Bool
advances job m = is_ran job m.answer && not (is_terminal_wait (wait_of (job_at m.state.world.table.jobs job)))

-- how many of the events of a run were
abbrev pub steps_of : ℕ → S → List Event → ℕ
steps_of job s [] = 0
steps_of job s (e ∷ es) =
    if advances job (happens s e) then suc (steps_of job (happens s e).state es) else steps_of job (happens s e).state es

-- the characters of an answer
abbrev pub text_in : Answer → List ℕ
text_in (Text text) = text
text_in _ = []

-- what an event and its answer take from a line's output
abbrev pub taken_by : ℕ → Event → Answer → List ℕ
taken_by line (Take l n) a = if l == line then text_in a else []
taken_by line _ a = []

-- the texts that a run takes from a line, one after the other
abbrev pub taken_from : ℕ → S → List Event → List ℕ
taken_from line s [] = []
taken_from line s (e ∷ es) = taken_by line e (happens s e).answer ++ taken_from line (happens s e).state es

-- A job is there with the registers, PC, flags and core that it has alone. What was in its line's output, followed by what
-- it puts out alone, is what was taken from there, followed by what is there now.
pub record IsAsAlone (w : World) (n line : ℕ) (first taken : List ℕ) (x : Solo) : Type 0 where
  pub job : Job
  pub there : job_at w.table.jobs n ≡ Some job
  pub regs : job.regs ≡ x.regs
  pub core : core_of w.cores n ≡ x.core
  pub output : first ++ x.output ≡ taken ++ output_of w.lines line

-- a job that has put out nothing yet
abbrev pub solo_of : World → ℕ → Job → Solo
solo_of w n j = record { regs = j.regs; core = core_of w.cores n; output = [] }

-- A job that is there when a run begins, with its interrupts off and no limit on its wait, and that nobody starts or
-- kills: where it calls the monitor for output only in its first k steps alone, k being its steps in the run without the
-- empty ones, it is as it is alone after k steps, whatever the other jobs do.
abbrev pub RunsAlone : S → List Event → Type 0
RunsAlone s es =
    (n : ℕ) (j : Job) → job_at s.world.table.jobs n ≡ Some j → j.interrupts.on ≡ false → limit_of j.wait ≡ 0 → Spares n es
    → OnlyPrints (solo_of s.world n j) (steps_of n s es)
    → IsAsAlone (after es s).world n j.line (output_of s.world.lines j.line) (taken_from j.line s es)
    (solo (solo_of s.world n j) (steps_of n s es))
