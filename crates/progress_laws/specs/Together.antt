-- A job that waits for a lock gets it in time, where each owner gives it up within so many steps of its own (this project's
-- profile).
use Rattle.std.specs.Prelude.{ℕ, ◌≡◌, ◌+◌, ◌-◌, ◌*◌, ◌<◌, ◌≤◌, ◌&&◌, if◌then◌else◌, Bool, true, false, List, [], ◌∷◌, length, filter}
use Rattle.std.specs.Prelude.{Contains, ⊤, Some, None}
use Rattle.lock_queue.specs.declared.key.Key.{Key}
use Rattle.lock_queue.specs.declared.request.Request.{Request}
use Rattle.lock_queue.specs.Jobs.{is_waiting_job}
use Rattle.lock_queue.specs.Queue.{names}
use Rattle.job_sched.specs.Limits.{is_queue}
use Rattle.job_sched.specs.Tables.{job_at}
use Rattle.job_sched.specs.declared.job.Job.{Job}
use Rattle.machine.specs.declared.event.Answer.TheVariants.{Ran}
use Rattle.lock_laws.specs.Owning.{owns}
use Rattle.machine.specs.declared.event.Event.{Event}
use Rattle.machine.specs.declared.event.Event.TheVariants.{Step, Restart}
use Rattle.machine.specs.Alone.{is_ran}
use Rattle.machine.specs.Along.{Always, Along}
use Rattle.machine.specs.Machine.{S, answers, happens}
use Rattle.progress_laws.specs.Arrivals.{is_wanted_by, front_of}
use Rattle.progress_laws.specs.Rounds.{rounds_in, MayRun, HasJobs}
use Rattle.progress_laws.specs.Turns.{how_many}

-- whether a request wants a key, perhaps among others
abbrev pub is_for : Key → Request → Bool
is_for key r = names r.wants.items key

-- how many requests in front of the one by which a job wants a key want it too
abbrev pub ahead : ℕ → Key → S → ℕ
ahead job key s = length (filter (is_for key) (front_of job key s))

-- job n has its grant at an event: before a step it is not stopped, its wait is for a grant, and it has no blocking request that
-- is not granted; and the event is not a restart of the machine
abbrev pub HasItsGrant : ℕ → S → Event → Type 0
HasItsGrant n s Step =
    (j : Job) × (job_at s.world.table.jobs n ≡ Some j) × (j.stop ≡ None) × (is_queue j.wait ≡ true)
    × (is_waiting_job s.world.requests n ≡ false)
HasItsGrant n s Restart = ⊥
HasItsGrant n s _ = Unit {0}

-- a job that has its grant makes a step in time: the bound is that of a job that may run
abbrev pub GoesOnInTime : S → List Event → Type 0
GoesOnInTime s es =
    (n : ℕ) (test : ℕ → Bool) → Along (HasItsGrant n) s es → Always (HasJobs test) s es
    → (how_many test - 1) * s.quantum < rounds_in es → Contains (answers es s) (Ran n)

-- a job wants a key and does not own it
pub record IsWithout (job : ℕ) (key : Key) (s : S) : Type 0 where
  pub wanted : is_wanted_by job key s ≡ true
  pub without : owns s.world.requests job key ≡ false

-- each request for the key wants nothing else
abbrev pub IsWantedAlone : Key → S → Type 0
IsWantedAlone key s = (r : Request) → Contains s.world.requests r → is_for key r ≡ true → length r.wants.items ≤ 1

-- each owner of the key may run: it is not stopped, and waits for nothing
abbrev pub OwnersMayRun : Key → S → Event → Type 0
OwnersMayRun key s e = (job : ℕ) → owns s.world.requests job key ≡ true → MayRun job s e

-- how many steps the owner of a key makes from here on and still owns the key after each, until it first does not
abbrev pub steps_owning : ℕ → Key → S → List Event → ℕ
steps_owning job key s [] = 0
steps_owning job key s (e ∷ es) =
    if owns s.world.requests job key && owns (happens s e).state.world.requests job key
    then (if is_ran job (happens s e).answer then 1 else 0) + steps_owning job key (happens s e).state es
    else 0

-- at all times of a run the owner of the key gives it up by the last of its next `most` steps, or has not made them yet
abbrev pub GivenUpWithin : ℕ → Key → S → List Event → Type 0
GivenUpWithin most key s [] = ⊤
GivenUpWithin most key s (e ∷ es) =
    ((job : ℕ) → steps_owning job key s (e ∷ es) < most) × GivenUpWithin most key (happens s e).state es

-- A job waits all along a run for a key: it wants it and does not own it. Each request for the key wants nothing else, and each
-- owner may run and gives the key up by the last of `most` steps of its own. Then the run has fewer rounds than this bound: for
-- each request for the key in front of the job's own, `most` steps of an owner, each within one round more than a quantum for
-- each other number that passes the test.
abbrev pub IsGrantedInTime : S → List Event → Type 0
IsGrantedInTime s es =
    (job : ℕ) (key : Key) (most : ℕ) (test : ℕ → Bool) → 1 ≤ most → Always (IsWithout job key) s es → Always (IsWantedAlone key) s es
    → Along (OwnersMayRun key) s es → GivenUpWithin most key s es → Always (HasJobs test) s es
    → rounds_in es < ahead job key s * (most * ((how_many test - 1) * s.quantum + 1))
