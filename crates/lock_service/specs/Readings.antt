-- What is read of the service, as C sees it.
use Rattle.std.specs.Prelude.{ℕ, ◌+◌, Bool, if◌then◌else◌, List, [], length, Option, Some, None, Result, Ok, Err, unwrap_or, slice_get}
use Rattle.lock_queue.specs.declared.grant.Grant.{Grant}
use Rattle.lock_queue.specs.declared.key.Scope.{Scope}
use Rattle.lock_queue.specs.declared.key.Scope.TheVariants.{All, Job}
use Rattle.lock_queue.specs.declared.name.Name.{Name}
use Rattle.lock_queue.specs.declared.name.Name.TheVariants.{Text, Code}
use Rattle.lock_queue.specs.declared.refusal.Refusal.{Refusal}
use Rattle.lock_queue.specs.declared.request.EnqueueKind.{EnqueueKind}
use Rattle.lock_queue.specs.declared.request.EnqueueKind.TheVariants.{Blocking, AtOnce, Interrupt}
use Rattle.lock_queue.specs.declared.request.Request.{Request}
use Rattle.lock_queue.specs.declared.status.Status.{Status}
use Rattle.lock_queue.specs.declared.want.Want.{Want}
use Rattle.lock_queue.specs.Jobs.{waits_for}
use Rattle.lock_queue.specs.Names.{filled_up}
use Rattle.lock_queue.specs.Pools.{PoolShare}
use Rattle.lock_queue.specs.Queue.{granted}
use Rattle.lock_queue.specs.Refusals.{code_of}
use Rattle.lock_queue.specs.StatusWords.{status_of}
use Rattle.lock_queue.specs.Waits.{is_in_circle}
use Rattle.lock_queue.specs.WellFormed.{is_job}
use Rattle.lock_service.specs.declared.codes.TheConstants.{OK, WAITS, NOT_THERE, BAD_JOB}
use Rattle.lock_service.specs.declared.readings.LockGrant.{LockGrant}
use Rattle.lock_service.specs.declared.readings.LockRequest.{LockRequest}
use Rattle.lock_service.specs.declared.readings.LockStatus.{LockStatus}
use Rattle.lock_service.specs.declared.spelling.LockTerms.{LockTerms}

-- a flag of this weight
abbrev pub weight : ℕ → Bool → ℕ
weight n flag = if flag then n else 0

-- ---- the status of a lock

abbrev pub shown_status : Status → LockStatus
shown_status s =
    record {
      flags = weight 1 s.owns + weight 2 s.waits + weight 4 s.exclusive;
      level = s.level;
      first_owner = unwrap_or s.first_owner 0;
      owners = s.owner_count;
      waiters = s.waiter_count;
      amount = s.amount;
    }

abbrev pub status_code : Result Want Refusal → ℕ
status_code (Ok want) = OK
status_code (Err refusal) = code_of refusal

-- what is written over a status
abbrev pub status_over : List Request → ℕ → LockStatus → Result Want Refusal → LockStatus
status_over requests job before (Ok want) = shown_status (status_of requests want.key job)
status_over requests job before (Err refusal) = before

-- ---- something at a place of a list, or nothing

abbrev pub code_at : {A : Type 0} → Option A → ℕ
code_at (Some x) = OK
code_at None = NOT_THERE

abbrev pub over : {A B : Type 0} → (A → B) → B → Option A → B
over show before (Some x) = show x
over show before None = before

abbrev pub shown_grant : Grant → LockGrant
shown_grant g = record { job = g.job; id = g.id }

abbrev pub kind_number : EnqueueKind → ℕ
kind_number Blocking = 0
kind_number AtOnce = 1
kind_number Interrupt = 2

-- the request at a place of the list
abbrev pub shown_request : List Request → ℕ → Request → LockRequest
shown_request requests i r =
    record {
      job = r.job;
      id = r.id;
      kind = kind_number r.kind;
      flags = weight 1 (granted requests i) + weight 2 r.notified;
      wants = length r.wants.items;
    }

-- ---- a want, as a call spells it

abbrev pub is_own : Scope → ℕ
is_own All = 0
is_own (Job job) = 4

abbrev pub name_bytes : Name → List ℕ
name_bytes (Text text) = filled_up text
name_bytes (Code number) = filled_up []

abbrev pub name_code : Name → ℕ
name_code (Text text) = 0
name_code (Code number) = number

abbrev pub name_length : Name → ℕ
name_length (Text text) = length text
name_length (Code number) = 0

abbrev pub is_code : Name → ℕ
is_code (Text text) = 0
is_code (Code number) = 8

abbrev pub size_of : Option PoolShare → ℕ
size_of None = 0
size_of (Some share) = share.size

abbrev pub amount_of : Option PoolShare → ℕ
amount_of None = 0
amount_of (Some share) = share.amount

abbrev pub shown_want : Want → LockTerms
shown_want w =
    record {
      name = name_bytes w.key.name;
      code = name_code w.key.name;
      flags = weight 1 w.shared + weight 2 w.bypass + is_own w.key.scope + is_code w.key.name;
      length = name_length w.key.name;
      level = w.level;
      group = w.group;
      pool_size = size_of w.pool;
      pool_amount = amount_of w.pool;
    }

abbrev pub want_in : Option Request → ℕ → Option Want
want_in None k = None
want_in (Some r) k = slice_get r.wants.items k

-- ---- circles of waits

-- whether a walk of waits leads from a job back to it
abbrev pub circle_code : List Request → ℕ → ℕ
circle_code requests job =
    if is_job job then (if is_in_circle (waits_for requests) job then WAITS else OK) else BAD_JOB
