-- A job that waits gets its grant in time, where each job asks for all that it needs by one request (this project's profile).
use Rattle.std.specs.Prelude.{ℕ, ◌+◌, ◌-◌, ◌*◌, ◌<◌, ◌≤◌, Bool, List, length}
use Rattle.lock_queue.specs.declared.key.Key.{Key}
use Rattle.machine.specs.declared.event.Event.{Event}
use Rattle.machine.specs.Along.{Always, Along}
use Rattle.machine.specs.Machine.{S}
use Rattle.progress_laws.specs.Arrivals.{front_of}
use Rattle.progress_laws.specs.Rounds.{rounds_in, HasJobs}
use Rattle.progress_laws.specs.Together.{IsWithout, OwnersMayRun, GivenUpWithin}
use Rattle.progress_laws.specs.Turns.{how_many}

-- A job waits all along a run for the grant of one request, for any number of locks: it wants a key and does not own it. Jobs ask
-- for all that they need by one request, so an owner waits for no other lock, may run, and gives each of its locks up by the last
-- of `most` steps of its own. Then the run has fewer rounds than this bound: for each request in front of the job's own, whatever
-- it is for, `most` steps of one job, each within one round more than a quantum for each other number that passes the test. The
-- reason: the first request in the list is granted, and when it leaves, one fewer is in front.
abbrev pub IsGrantedByOneRequest : S → List Event → Type 0
IsGrantedByOneRequest s es =
    (job : ℕ) (key : Key) (most : ℕ) (test : ℕ → Bool) → 1 ≤ most → Always (IsWithout job key) s es
    → ((k : Key) → Along (OwnersMayRun k) s es) → ((k : Key) → GivenUpWithin most k s es) → Always (HasJobs test) s es
    → rounds_in es < length (front_of job key s) * (most * ((how_many test - 1) * s.quantum + 1))
