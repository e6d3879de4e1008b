-- What the jobs of a run wait for, and how they ended (this project's profile).
use Rattle.std.specs.Prelude.{ℕ, ◌≡◌, ◌==◌, ◌++◌, nat_lt, is_none, Bool, true, false, List, [], Option, Some, None, codes, decimal, IfSome, if◌then◌else◌}
use Rattle.job_sched.specs.declared.job.Stop.{Stop}
use Rattle.job_sched.specs.declared.job.Stop.TheVariants.{Loaded, Exit, Monitor, Typed, Fault}
use Rattle.job_sched.specs.declared.job.Wait.{Wait}
use Rattle.job_sched.specs.declared.job.Wait.TheVariants.{Sleep, Char, Line, Room, Queue, None as Nothing}
use Rattle.ka_state.specs.declared.outcome.StopReason.{StopReason}
use Rattle.ka_state.specs.declared.outcome.StopReason.TheVariants.{IllegalAddress, IllegalInstruction, Halt, Pushdown, AddressChain}
use Rattle.lock_queue.specs.declared.request.Request.{Request}
use Rattle.machine.specs.Machine.{S}
use Rattle.machine.specs.Next.{executed_in}
use Rattle.machine.specs.Views.{job_view, word_in}
use Rattle.machine.specs.declared.view.JobView.{JobView}
use Rattle.run_facts.specs.declared.standing.Standing.{Standing}
use Rattle.run_facts.specs.declared.standing.Standing.TheVariants.{Gone, Stopped, Goes}
use Rattle.run_notes.specs.Instructions.{illegal_words}
use Rattle.run_notes.specs.Standings.{IsStandingText, standing_of}
use Rattle.source_labels.specs.Spots.{spot_words}
use Rattle.source_labels.specs.declared.places.Places.{Places}
use Rattle.ten.specs.declared.jobs.RunningJob.{RunningJob}
use Rattle.ten.specs.declared.waits.Waits.{Waits}
use Rattle.uuo_calls.specs.Performed.{World}

-- ---- what jobs wait for

-- what a job waits for that goes on, or is stopped: a time limit goes down while it is stopped, too
abbrev pub waits_by : Bool → Wait → Waits
waits_by goes Nothing = record { input = false; limit = false; sleep = false }
waits_by goes (Sleep ticks) = record { input = false; limit = false; sleep = goes }
waits_by goes Char = record { input = goes; limit = false; sleep = false }
waits_by goes Line = record { input = goes; limit = false; sleep = false }
waits_by goes (Room count) = record { input = false; limit = false; sleep = false }
waits_by goes (Queue limit accumulator) = record { input = false; limit = nat_lt 0 limit; sleep = false }

abbrev pub waits_of : JobView → Waits
waits_of view = waits_by (is_none view.stop) view.wait

-- what a job waits for, if it is there
abbrev pub waits_in : Option JobView → Waits
waits_in (Some view) = waits_of view
waits_in None = record { input = false; limit = false; sleep = false }

abbrev pub waits_for_input : S → RunningJob → Bool
waits_for_input s job = (waits_in (job_view s.world job.traced.number)).input

abbrev pub waits_with_limit : S → RunningJob → Bool
waits_with_limit s job = (waits_in (job_view s.world job.traced.number)).limit

abbrev pub sleeps : S → RunningJob → Bool
sleeps s job = (waits_in (job_view s.world job.traced.number)).sleep

-- ---- how jobs ended

-- whether a job waits
abbrev pub is_waiting_for : Wait → Bool
is_waiting_for Nothing = false
is_waiting_for (Sleep ticks) = true
is_waiting_for Char = true
is_waiting_for Line = true
is_waiting_for (Room count) = true
is_waiting_for (Queue limit accumulator) = true

abbrev pub is_waiting : Standing → Bool
is_waiting Gone = false
is_waiting (Stopped why) = false
is_waiting (Goes wait) = is_waiting_for wait

abbrev pub standing_in : S → RunningJob → Standing
standing_in s job = standing_of (job_view s.world job.traced.number)

-- the address at which a job is: that of its next instruction if it still runs or was stopped by CTRL-C, and else that of
-- its last, which is `last`
abbrev pub pc_or : ℕ → Option JobView → ℕ
pc_or last (Some view) = view.pc
pc_or last None = last

abbrev pub stopped_place : ℕ → Option JobView → Stop → ℕ
stopped_place last view Loaded = last
stopped_place last view Exit = last
stopped_place last view Monitor = last
stopped_place last view Typed = pc_or last view
stopped_place last view (Fault why) = last

abbrev pub waiting_place : ℕ → Option JobView → Wait → ℕ
waiting_place last view Nothing = pc_or last view
waiting_place last view (Sleep ticks) = last
waiting_place last view Char = last
waiting_place last view Line = last
waiting_place last view (Room count) = last
waiting_place last view (Queue limit accumulator) = last

abbrev pub place_of : ℕ → Option JobView → Standing → ℕ
place_of last view Gone = last
place_of last view (Stopped why) = stopped_place last view why
place_of last view (Goes wait) = waiting_place last view wait

-- the word that is executed in the end at an address of a job, if the job has a word there and the processor refuses no XCT
abbrev pub IsExecuted : World → ℕ → ℕ → ℕ → Type 0
IsExecuted w job place word = IfSome (word_in w job place) (λ first. IfSome (executed_in w job first) (λ last. word ≡ last))

-- the words on the instruction at an address, in round brackets
abbrev pub IsInBrackets : World → Places → ℕ → ℕ → List ℕ → Type 0
IsInBrackets w places job place text =
    (word : ℕ) × IsExecuted w job place word × (text ≡ codes " (" ++ (illegal_words places word ++ codes ")"))

-- the words on an illegal instruction, at which the processor stopped a job, are in round brackets; there are none else
abbrev pub IsFaultText : World → Places → ℕ → ℕ → StopReason → List ℕ → Type 0
IsFaultText w places job place IllegalInstruction text = IsInBrackets w places job place text
IsFaultText w places job place IllegalAddress text = text ≡ []
IsFaultText w places job place Halt text = text ≡ []
IsFaultText w places job place Pushdown text = text ≡ []
IsFaultText w places job place AddressChain text = text ≡ []

abbrev pub IsStopText : World → Places → ℕ → ℕ → Stop → List ℕ → Type 0
IsStopText w places job place Loaded text = text ≡ []
IsStopText w places job place Exit text = text ≡ []
IsStopText w places job place Monitor text = text ≡ []
IsStopText w places job place Typed text = text ≡ []
IsStopText w places job place (Fault why) text = IsFaultText w places job place why text

abbrev pub IsIllegalText : World → Places → ℕ → ℕ → Standing → List ℕ → Type 0
IsIllegalText w places job place Gone text = text ≡ []
IsIllegalText w places job place (Stopped why) text = IsStopText w places job place why text
IsIllegalText w places job place (Goes wait) text = text ≡ []

-- at which address of a program
abbrev pub spot_text : Places → ℕ → List ℕ
spot_text places place = codes " at " ++ spot_words places place

abbrev pub IsSpotText : Places → ℕ → List ℕ → Type 0
IsSpotText places place text = text ≡ spot_text places place

-- the address at which a job is reported to be
abbrev pub told_place : S → RunningJob → Standing → ℕ
told_place s job standing = place_of job.traced.last (job_view s.world job.traced.number) standing

-- how a job ended, in words, and at which address
pub record StandsSo (s : S) (job : RunningJob) (standing : Standing) (text : List ℕ) : Type 0 where
  pub words : List ℕ
  pub illegal : List ℕ
  pub is_standing : IsStandingText s.world.requests job.traced.number standing words
  pub is_illegal : IsIllegalText s.world job.traced.places job.traced.number (told_place s job standing) standing illegal
  pub is_text :
      text ≡ words ++ ((if is_waiting standing then codes "," else [])
      ++ (spot_text job.traced.places (told_place s job standing) ++ illegal))

abbrev pub steps_text : ℕ → List ℕ
steps_text steps = codes ", " ++ (decimal steps ++ (if steps == 1 then codes " step\n" else codes " steps\n"))

-- the line on a job at the end of a run
pub record IsEndLine (s : S) (job : RunningJob) (file : List ℕ) (standing : Standing) (text : List ℕ) : Type 0 where
  pub how : List ℕ
  pub so : StandsSo s job standing how
  pub is_text :
      text ≡ codes "job " ++ (decimal job.traced.number ++ (codes ", " ++ (file ++ (codes ": " ++ (how ++ steps_text job.steps)))))
