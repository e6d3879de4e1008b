-- A job that may run does run: how many rounds pass before a ready job has made a step (this project's profile).
use Rattle.std.specs.Prelude.{ℕ, ◌≡◌, suc, ◌-◌, ◌*◌, ◌<◌, ◌≤◌, nat_le, min, Bool, true, false, List, [], ◌∷◌, is_some, Contains}
use Rattle.std.specs.List.{list_any}
use Rattle.word36.specs.declared.sizes.TheConstants.{JOBS, LINES}
use Rattle.job_sched.specs.Ready.{is_ready}
use Rattle.job_sched.specs.Tables.{job_at}
use Rattle.machine.specs.declared.event.Answer.TheVariants.{Ran}
use Rattle.machine.specs.declared.event.Event.{Event}
use Rattle.machine.specs.declared.event.Event.TheVariants.{Step, Tick, Login, Restart}
use Rattle.machine.specs.Along.{Always, Along}
use Rattle.machine.specs.Machine.{S, answers}
use Rattle.progress_laws.specs.Turns.{how_many}

-- How many rounds some events have. A round is a step, and a tick after it before the next step. A step with no tick after it, a
-- tick with no step before it, and all other events are not rounds. `begun` says whether a step came before these events whose
-- tick has not come yet.
abbrev pub rounds_from : Bool → List Event → ℕ
rounds_from begun [] = 0
rounds_from begun (Step ∷ es) = rounds_from true es
rounds_from true (Tick ∷ es) = suc (rounds_from false es)
rounds_from false (Tick ∷ es) = rounds_from false es
rounds_from begun (_ ∷ es) = rounds_from begun es

abbrev pub rounds_in : List Event → ℕ
rounds_in es = rounds_from false es

-- job n may run at an event: before a step it is ready, and the event is not a restart of the machine
abbrev pub MayRun : ℕ → S → Event → Type 0
MayRun n s Step = is_ready s.world.table.jobs s.world.lines s.world.requests n ≡ true
MayRun n s Restart = ⊥
MayRun n s _ = Unit {0}

-- the number of each job that is there passes a test
abbrev pub HasJobs : (ℕ → Bool) → S → Type 0
HasJobs test s = (n : ℕ) → is_some (job_at s.world.table.jobs n) ≡ true → test n ≡ true

-- A job that may run at each event of a run makes a step in it, where the run has more rounds than a quantum for each other
-- number that passes a test, and the number of each job that is there at any time of the run passes it.
abbrev pub RunsInTime : S → List Event → Type 0
RunsInTime s es =
    (n : ℕ) (test : ℕ → Bool) → Along (MayRun n) s es → Always (HasJobs test) s es
    → (how_many test - 1) * s.quantum < rounds_in es → Contains (answers es s) (Ran n)

-- the same with a quantum for each other number that a job can have, whatever jobs come and go
abbrev pub RunsInTimeAmongAll : S → List Event → Type 0
RunsInTimeAmongAll s es =
    (n : ℕ) → Along (MayRun n) s es → (JOBS - 1) * s.quantum < rounds_in es → Contains (answers es s) (Ran n)

-- whether a number is at most the number of lines: each job has a line of its own, and a login gives the least free number, so
-- the numbers of all jobs are
abbrev pub has_low_number : ℕ → Bool
has_low_number n = nat_le n LINES

-- the same with a quantum for each other line, where the lines are fewer than the numbers
abbrev pub RunsInTimeAmongLines : S → List Event → Type 0
RunsInTimeAmongLines s es =
    (n : ℕ) → Along (MayRun n) s es → (min JOBS LINES - 1) * s.quantum < rounds_in es → Contains (answers es s) (Ran n)

abbrev pub is_login : Event → Bool
is_login (Login line image) = true
is_login _ = false

-- how many jobs are there
abbrev pub jobs_in : S → ℕ
jobs_in s = how_many (λ n. is_some (job_at s.world.table.jobs n))

-- the same, where nobody logs in, with a quantum for each other job that is there
abbrev pub RunsInTimeAmongThese : S → List Event → Type 0
RunsInTimeAmongThese s es =
    (n : ℕ) → Along (MayRun n) s es → list_any is_login es ≡ false → (jobs_in s - 1) * s.quantum < rounds_in es
    → Contains (answers es s) (Ran n)

-- the scheduler keeps time: a quantum has a tick or more, no more ticks are left than it has, and some are left only where the
-- current job is there
pub record KeepsTime (s : S) : Type 0 where
  pub some_ticks : 1 ≤ s.quantum
  pub most : s.world.table.left ≤ s.quantum
  pub there : 1 ≤ s.world.table.left → is_some (job_at s.world.table.jobs s.world.table.current) ≡ true
