-- No wake-up is lost: a request that can be granted is, and a job that waits no more is ready (ENQ/DEQ of the TOPS-10 Monitor
-- Calls Manual, in this project's profile).
use Rattle.std.specs.Prelude.{◌≡◌, ◌≢◌, ◌≤◌, ◌⊎◌, ℕ, ◌+◌, sum_by, true, false, List, Some, None, take, slice_get, Contains, IsTrue}
use Rattle.lock_queue.specs.declared.request.Request.{Request}
use Rattle.lock_queue.specs.declared.want.Want.{Want}
use Rattle.lock_queue.specs.Jobs.{is_waiting_job, waits_for}
use Rattle.lock_queue.specs.Queue.{agree, all_wants, amount_of, granted, names, wants_at}
use Rattle.lock_queue.specs.Pools.{PoolShare}
use Rattle.lock_queue.specs.WellFormed.{are_well_formed}
use Rattle.job_sched.specs.Limits.{is_queue}
use Rattle.job_sched.specs.Ready.{is_ready}
use Rattle.job_sched.specs.Tables.{job_at}
use Rattle.job_sched.specs.declared.job.Job.{Job}
use Rattle.machine.specs.declared.event.Event.{Event}
use Rattle.machine.specs.Alone.{Spares}
use Rattle.machine.specs.Limits.{HasEnded, IsInWait, ticks_in}
use Rattle.machine.specs.Machine.{S, after}

-- a request is granted where no earlier one wants a key that it wants
abbrev pub FirstIsGranted : List Request → Type 0
FirstIsGranted requests =
    (i : ℕ) (r : Request) → slice_get requests i ≡ Some r
    → ((w : Want) → Contains r.wants.items w → names (all_wants (take i requests)) w.key ≡ false)
    → granted requests i ≡ true

-- there is room for a want after some requests: each earlier want of its key agrees with it, where it takes from no pool; where it
-- does, it and they together take at most the size of the pool
abbrev pub HasRoom : List Request → Want → Type 0
HasRoom earlier w =
    ((w.pool ≡ None) × ((v : Want) → Contains (wants_at earlier w.key) v → agree v w ≡ true))
    ⊎ ((share : PoolShare) × (w.pool ≡ Some share) × (sum_by amount_of (wants_at earlier w.key) + share.amount ≤ share.size))

-- a request is granted as soon as there is room for each of its wants
abbrev pub WhoHasRoomIsGranted : List Request → Type 0
WhoHasRoomIsGranted requests =
    (i : ℕ) (r : Request) → slice_get requests i ≡ Some r
    → ((w : Want) → Contains r.wants.items w → HasRoom (take i requests) w)
    → granted requests i ≡ true

-- a job that waits for a grant waits for another job, which owns what it wants or stands in front of it
abbrev pub WaitersWaitForOthers : List Request → Type 0
WaitersWaitForOthers requests =
    (job : ℕ) → is_waiting_job requests job ≡ true → (other : ℕ) × (other ≢ job) × (waits_for requests job other ≡ true)

-- a job that waited for a grant, and has no blocking request any more that is not granted, is ready, unless it is stopped
abbrev pub GrantedAreReady : S → Type 0
GrantedAreReady s =
    (n : ℕ) (j : Job) → job_at s.world.table.jobs n ≡ Some j → j.stop ≡ None → is_queue j.wait ≡ true
    → is_waiting_job s.world.requests n ≡ false
    → is_ready s.world.table.jobs s.world.lines s.world.requests n ≡ true

-- job n is ready, unless it is stopped
abbrev pub IsReadyUnlessStopped : ℕ → S → Type 0
IsReadyUnlessStopped n s =
    (j : Job) → job_at s.world.table.jobs n ≡ Some j → j.stop ≡ None
    → is_ready s.world.table.jobs s.world.lines s.world.requests n ≡ true

-- No job waits past its limit: where a job waits with a limit, and nobody starts or kills it or restarts the machine, its request
-- is granted or its call is refused by the time that as many ticks have passed, and the job is ready then, unless it is stopped.
abbrev pub NobodyWaitsPastALimit : S → List Event → Type 0
NobodyWaitsPastALimit s events =
    (n limit ac : ℕ) (j : Job) → IsInWait s.world n j limit ac → 1 ≤ limit → Spares n events → limit ≤ ticks_in events
    → (k : ℕ) × HasEnded s events n j limit ac k × IsReadyUnlessStopped n (after (take k events) s)

-- the requests of a machine are well-formed: each has 1 to 16 wants, of as many keys, with levels and pools in range; a want of
-- more than the whole pool would never be granted
abbrev pub IsWellFormed : S → Type 0
IsWellFormed s = IsTrue (are_well_formed s.world.requests)
