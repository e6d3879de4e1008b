-- No request comes in front of another, whatever happens to the machine (this project's profile).
use Rattle.std.specs.Prelude.{◌≡◌, ℕ, ◌==◌, ◌&&◌, Bool, true, false, List, Option, Some, None, ◌⊎◌, [], ◌∷◌, ◌++◌}
use Rattle.std.specs.List.{list_any}
use Rattle.word36.specs.Words.{left_half}
use Rattle.lock_queue.specs.declared.key.Key.{Key}
use Rattle.lock_queue.specs.declared.request.Request.{Request}
use Rattle.job_sched.specs.Ready.{next_job}
use Rattle.job_sched.specs.Tables.{job_at}
use Rattle.job_sched.specs.declared.job.Job.{Job}
use Rattle.uuo_calls.specs.CallState.{ac_of}
use Rattle.uuo_calls.specs.Performed.{World}
use Rattle.uuo_calls.specs.Services.{service_of}
use Rattle.uuo_calls.specs.declared.call.MonitorCall.{MonitorCall}
use Rattle.uuo_calls.specs.declared.service.Service.{Service}
use Rattle.uuo_calls.specs.declared.service.Service.TheVariants.{Enq}
use Rattle.lock_queue.specs.declared.want.Want.{Want}
use Rattle.machine.specs.declared.event.Answer.TheVariants.{Ran}
use Rattle.machine.specs.declared.event.Event.{Event}
use Rattle.machine.specs.declared.event.Event.TheVariants.{Step}
use Rattle.machine.specs.Machine.{S, after, awake, happens}
use Rattle.machine.specs.Turns.{Turn, turn_of}
use Rattle.machine.specs.Along.{Always}
use Rattle.progress_laws.specs.Fronts.{IsSame, IsSameButSharing, Remains, NobodyInFront, wants_key, in_front}
use Rattle.progress_laws.specs.Thinning.{Thinned}

-- whether a service is ENQ.
abbrev pub is_enq : Service → Bool
is_enq Enq = true
is_enq _ = false

-- whether a call that a job makes is ENQ. function 3: its AC is `3,,address`
abbrev pub changes_wants : Job → Option MonitorCall → Bool
changes_wants j (Some c) = is_enq (service_of c.kind c.ac c.e) && left_half (ac_of j c.ac) == 3
changes_wants j None = false

-- whether a turn makes such a call
abbrev pub turn_changes_wants : Turn → Bool
turn_changes_wants t = changes_wants t.job t.call

-- whether the next turn of job n does
abbrev pub job_changes_wants : World → ℕ → Option Job → Bool
job_changes_wants w n (Some j) = turn_changes_wants (turn_of n (awake j) w.cores w.requests)
job_changes_wants w n None = false

-- whether the turn of the job that is next does
abbrev pub next_changes_wants : World → Option ℕ → Bool
next_changes_wants w (Some n) = job_changes_wants w n (job_at w.table.jobs n)
next_changes_wants w None = false

-- whether an event is a step in which a job makes ENQ. function 3
abbrev pub is_change_of_wants : S → Event → Bool
is_change_of_wants s Step = next_changes_wants s.world (next_job s.world.table s.world.lines s.world.requests)
is_change_of_wants s _ = false

-- over an event some requests leave, or one comes after them all, in a step of its own job; never both
abbrev pub LeaveOrComeOver : (Want → Want → Type 0) → S → Event → Type 0
LeaveOrComeOver Same s e =
    Thinned (Remains Same) s.world.requests (happens s e).state.world.requests
    ⊎ ((r : Request) × ((happens s e).answer ≡ Ran r.job) × ((happens s e).state.world.requests ≡ s.world.requests ++ r ∷ []))

-- this holds over every event; and where no job changes its wants in the event, each want stays shared or exclusive
pub record InFrontOver (s : S) (e : Event) : Type 0 where
  pub any : LeaveOrComeOver IsSameButSharing s e
  pub other : is_change_of_wants s e ≡ false → LeaveOrComeOver IsSame s e

-- no request comes in front over a run: those from before stand in front of all that have come since, in their order
abbrev pub NobodyInFrontAlong : S → List Event → Type 0
NobodyInFrontAlong s es = NobodyInFront IsSameButSharing s.world.requests (after es s).world.requests

-- whether a job wants a key
abbrev pub is_wanted_by : ℕ → Key → S → Bool
is_wanted_by job key s = list_any (wants_key job key) s.world.requests

-- the requests in front of the one by which a job wants a key
abbrev pub front_of : ℕ → Key → S → List Request
front_of job key s = in_front (wants_key job key) s.world.requests

-- Where a job wants a key before an event and after it, the requests in front of its own after the event are some of those
-- before it, in their order, each with the same wants or fewer.
abbrev pub FrontThinsOver : S → Event → Type 0
FrontThinsOver s e =
    (job : ℕ) (key : Key) → is_wanted_by job key s ≡ true → is_wanted_by job key (happens s e).state ≡ true
    → Thinned (Remains IsSameButSharing) (front_of job key s) (front_of job key (happens s e).state)

-- and where no job changes its wants in the event, each want that is left is the same: so nothing new is in the way
abbrev pub FrontStaysOver : S → Event → Type 0
FrontStaysOver s e =
    (job : ℕ) (key : Key) → is_change_of_wants s e ≡ false → is_wanted_by job key s ≡ true → is_wanted_by job key (happens s e).state ≡ true
    → Thinned (Remains IsSame) (front_of job key s) (front_of job key (happens s e).state)

-- the same over a run in which the job wants the key all along
abbrev pub FrontThinsAlong : S → List Event → Type 0
FrontThinsAlong s es =
    (job : ℕ) (key : Key) → Always (λ t. is_wanted_by job key t ≡ true) s es
    → Thinned (Remains IsSameButSharing) (front_of job key s) (front_of job key (after es s))
