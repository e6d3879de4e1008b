-- Which job had its turn in which step of what has happened, and where (this project's profile).
use Rattle.std.specs.List.{filter}
use Rattle.std.specs.Prelude.{◌+◌, ◌-◌, ◌^◌, ◌%◌, ℕ, min, nat_le, nat_lt, Bool, if◌then◌else◌, List, [], ◌∷◌, length, drop}
use Rattle.std.specs.Prelude.{slice_get, slice_index_or, Option, Some, None}
use Rattle.word36.specs.declared.sizes.TheConstants.{JOBS}
use Rattle.ka_state.specs.declared.outcome.StopReason.TheVariants.{Halt}
use Rattle.job_sched.specs.declared.job.Stop.{Stop}
use Rattle.job_sched.specs.declared.job.Stop.TheVariants.{Fault, Exit, Monitor}
use Rattle.machine.specs.Between.{next_in, pc_in}
use Rattle.machine.specs.Machine.{S}
use Rattle.machine.specs.Views.{job_view, word_in}
use Rattle.machine.specs.declared.view.JobView.{JobView}
use Rattle.ddt_timeline.specs.Histories.{History, machine_of}
use Rattle.ddt_timeline.specs.Stops.{is_job}
use Rattle.ddt_timeline.specs.Timelines.{made, steps_of}
use Rattle.ddt_timeline.specs.declared.entries.Entry.{Entry}
use Rattle.ddt_moves.specs.declared.past_steps.Turns.{Turns}

-- the states before each step of some things
abbrev pub states_before : List Entry → S → List S
states_before [] s = []
states_before (e ∷ es) s = if nat_lt 0 (steps_of e) then s ∷ states_before es (made s e) else states_before es (made s e)

-- the states before each step of what has happened
abbrev pub states_in : History → List S
states_in h = states_before h.past h.boot

-- ---- the turn in a step

-- a number with another one behind it, if that is there
abbrev pub paired : ℕ → Option ℕ → Option (ℕ × ℕ)
paired n (Some other) = Some (n, other)
paired n None = None

-- a job with its PC in a state
abbrev pub job_there : S → Option ℕ → Option (ℕ × ℕ)
job_there s (Some n) = if nat_le n JOBS then paired n (pc_in s n) else None
job_there s None = None

-- a job with its PC among those of all jobs
abbrev pub turn_among : List (Option ℕ) → Option ℕ → Option (ℕ × ℕ)
turn_among pcs (Some n) = if nat_le n JOBS then paired n (slice_index_or pcs n None) else None
turn_among pcs None = None

-- the job that runs in the step from a state on, with its PC before it
abbrev pub turn_from : Option S → Option (ℕ × ℕ)
turn_from (Some s) = job_there s (next_in s)
turn_from None = None

-- the job that ran in the step with so many before it, with its PC before that step
abbrev pub turn_in : History → ℕ → Option (ℕ × ℕ)
turn_in h steps = turn_from (slice_get (states_in h) steps)

-- an address, and the word there of a job
abbrev pub instruction_at : S → ℕ → Option ℕ → Option (ℕ × ℕ)
instruction_at s n (Some pc) = paired pc (word_in s.world n pc)
instruction_at s n None = None

-- the PC of a job, and the word there
abbrev pub instruction_of : S → ℕ → Option (ℕ × ℕ)
instruction_of s n = instruction_at s n (pc_in s n)

-- ---- the turns of a job

-- whether the step from a state on is a turn of a job
abbrev pub is_turn : ℕ → S → Bool
is_turn job s = is_job (next_in s) job

-- the numbers of the steps from some states on that are turns of a job, where that of the first is n; 2 ^ 64 - 1 in place of more
abbrev pub turns_from : ℕ → ℕ → List S → List ℕ
turns_from job n [] = []
turns_from job n (s ∷ ss) =
    if is_turn job s then n ∷ turns_from job (min (2 ^ 64 - 1) (n + 1)) ss else turns_from job (min (2 ^ 64 - 1) (n + 1)) ss

-- how many steps were made before each turn of a job
abbrev pub turns_in : History → ℕ → List ℕ
turns_in h job = turns_from job 0 (states_in h)

-- the last of some numbers, so many at most
abbrev pub last_of : ℕ → List ℕ → List ℕ
last_of most xs = drop (length xs - most) xs

-- the turns that are kept, each by how many steps were made before it
abbrev pub kept : Turns → List ℕ
kept turns = turns.steps.items

-- ---- where a job ended

-- the last of some states
abbrev pub last_state : List S → Option S
last_state [] = None
last_state (s ∷ []) = Some s
last_state (s ∷ t ∷ ss) = last_state (t ∷ ss)

-- the PC of a job in a state, if both are there
abbrev pub pc_at : ℕ → Option S → Option ℕ
pc_at job (Some s) = pc_in s job
pc_at job None = None

-- the PC of a job before its last turn
abbrev pub last_pc_in : History → ℕ → Option ℕ
last_pc_in h job = pc_at job (last_state (filter (is_turn job) (states_in h)))

-- the address before another one; 777777 octal is before 0
abbrev pub address_before : ℕ → ℕ
address_before a = (a + (2 ^ 18 - 1)) % 2 ^ 18

-- the address of the instruction that stopped a job: EXIT and EXIT 1 stand before the PC that they leave, and HALT stood where the
-- PC was before the last turn
abbrev pub ended_by : Option ℕ → ℕ → Option Stop → Option ℕ
ended_by last pc (Some Exit) = Some (address_before pc)
ended_by last pc (Some Monitor) = Some (address_before pc)
ended_by last pc (Some (Fault Halt)) = last
ended_by last pc _ = None

abbrev pub ended_for : Option ℕ → Option JobView → Option ℕ
ended_for last (Some view) = ended_by last view.pc view.stop
ended_for last None = None

-- the address of the EXIT, EXIT 1 or HALT that stopped a job, if one of these did
abbrev pub ended_in : History → ℕ → Option ℕ
ended_in h job = ended_for (last_pc_in h job) (job_view (machine_of h).world job)
