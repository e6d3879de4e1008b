-- What a call does, by its values: the requests afterwards, the grants that it makes, and the code that it returns (this
-- project's profile).
use Rattle.std.specs.Prelude.{ℕ, ◌^◌, true, ◌==◌, if◌then◌else◌, List, [], Option, Some, None, Result, Ok, Err, nat_lt}
use Rattle.word36.specs.declared.sizes.TheConstants.{MOST_REQUESTS}
use Rattle.lock_queue.specs.declared.call.Asking.{Asking}
use Rattle.lock_queue.specs.declared.call.LockCall.{LockCall}
use Rattle.lock_queue.specs.declared.call.LockCall.TheVariants.{Enqueue, Modify, DequeueNamed, DequeueId}
use Rattle.lock_queue.specs.declared.call.LockReply.{LockReply}
use Rattle.lock_queue.specs.declared.call.LockReply.TheVariants.{Granted, Queued, Done, Refused}
use Rattle.lock_queue.specs.declared.grant.Grant.{Grant}
use Rattle.lock_queue.specs.declared.refusal.Refusal.{Refusal}
use Rattle.lock_queue.specs.declared.refusal.Refusal.TheVariants.{NoFunction, BadBlock}
use Rattle.lock_queue.specs.declared.request.EnqueueKind.{EnqueueKind}
use Rattle.lock_queue.specs.declared.request.EnqueueKind.TheVariants.{Blocking, AtOnce, Interrupt}
use Rattle.lock_queue.specs.declared.request.Request.{Request}
use Rattle.lock_queue.specs.declared.terms.BlockUse.TheVariants.{Full, Named}
use Rattle.lock_queue.specs.Calls.{outcome_of}
use Rattle.lock_queue.specs.Grants.{woken_by, woken_by_release, woken_by_withdrawal}
use Rattle.lock_queue.specs.Jobs.{is_waiting_job, released, withdrawn_all}
use Rattle.lock_queue.specs.Refusals.{code_of}
use Rattle.lock_queue.specs.WellFormed.{is_job}
use Rattle.lock_service.specs.Spelled.{wants_of, ◌>>=◌}
use Rattle.lock_service.specs.declared.codes.TheConstants.{OK, WAITS, BUSY, BAD_JOB}
use Rattle.lock_service.specs.declared.spelling.LockTerms.{LockTerms}

-- the list after a call, the grants that the call made of requests that were present before it, and its code
pub record Effect : Type 0 where
  pub requests : List Request
  pub grants : List Grant
  pub code : ℕ

-- the table's reply as a number: a refusal has its own code
abbrev pub reply_code : LockReply → ℕ
reply_code Granted = OK
reply_code Queued = WAITS
reply_code Done = OK
reply_code (Refused refusal) = code_of refusal

-- nothing is done, and no grant is made
abbrev pub refused_with : List Request → ℕ → Effect
refused_with requests code = record { requests = requests; grants = []; code = code }

-- ---- calls

-- the kinds of requests, by their numbers
abbrev pub kind_of : ℕ → Option EnqueueKind
kind_of kind =
    if kind == 0 then Some Blocking else (if kind == 1 then Some AtOnce else (if kind == 2 then Some Interrupt else None))

abbrev pub kind_asking : ℕ → ℕ → Option EnqueueKind → Result Asking Refusal
kind_asking id quota None = Err NoFunction
kind_asking id quota (Some kind) =
    if nat_lt id (2 ^ 18) then Ok (record { kind = kind; id = id; armed = true; quota = quota }) else Err BadBlock

-- a request of one of the three kinds, with an id of 18 bits
abbrev pub asking_of : ℕ → ℕ → ℕ → Result Asking Refusal
asking_of kind id quota = kind_asking id quota (kind_of kind)

abbrev pub request_call : ℕ → Asking → List LockTerms → Result LockCall Refusal
request_call job asking terms = wants_of Full job terms >>= (λ wants. Ok (Enqueue asking (record { items = wants })))

abbrev pub enqueue_call : ℕ → ℕ → ℕ → ℕ → List LockTerms → Result LockCall Refusal
enqueue_call job kind id quota terms = asking_of kind id quota >>= (λ asking. request_call job asking terms)

abbrev pub modify_call : ℕ → List LockTerms → Result LockCall Refusal
modify_call job terms = wants_of Named job terms >>= (λ wants. Ok (Modify (record { items = wants })))

abbrev pub dequeue_call : ℕ → List LockTerms → Result LockCall Refusal
dequeue_call job terms = wants_of Named job terms >>= (λ wants. Ok (DequeueNamed (record { items = wants })))

abbrev pub dequeue_id_call : ℕ → Result LockCall Refusal
dequeue_id_call id = if nat_lt id (2 ^ 18) then Ok (DequeueId id) else Err BadBlock

-- a call on the table of 1,024 requests, unless it was refused before
abbrev pub call_effect : ℕ → Result LockCall Refusal → List Request → Effect
call_effect job (Err refusal) requests = refused_with requests (code_of refusal)
call_effect job (Ok call) requests =
    record {
      requests = (outcome_of MOST_REQUESTS requests job call).requests;
      grants = woken_by MOST_REQUESTS requests job call;
      code = reply_code (outcome_of MOST_REQUESTS requests job call).reply;
    }

-- why a job can make no call now, if so: it is none, or it waits
abbrev pub barred : ℕ → List Request → Option ℕ
barred job requests = if is_job job then (if is_waiting_job requests job then Some BUSY else None) else Some BAD_JOB

abbrev pub unless_told : Option ℕ → ℕ → Result LockCall Refusal → List Request → Effect
unless_told (Some code) job call requests = refused_with requests code
unless_told None job call requests = call_effect job call requests

-- a job's call, if it can make one now
abbrev pub job_effect : ℕ → Result LockCall Refusal → List Request → Effect
job_effect job call requests = unless_told (barred job requests) job call requests

-- ---- releases and limits

-- all requests of a job leave
unfoldable pub release_effect : ℕ → List Request → Effect
release_effect job requests =
    if is_job job
    then record { requests = released requests job; grants = woken_by_release requests job; code = OK }
    else refused_with requests BAD_JOB

-- the requests leave by which the jobs of a set wait, all judged by the list before any of them left
unfoldable pub withdraw_effect : ℕ → List Request → Effect
withdraw_effect jobs requests =
    record { requests = withdrawn_all requests jobs; grants = woken_by_withdrawal requests jobs; code = OK }
