-- Who waits, and who has requests, after each change of the list of requests (this project's profile).
use Rattle.std.specs.Prelude.{◌≡◌, ◌≢◌, ℕ, Bool, true, false, List, ◌⊎◌}
use Rattle.lock_queue.specs.declared.call.LockCall.{LockCall}
use Rattle.lock_queue.specs.declared.call.LockReply.TheVariants.{Queued}
use Rattle.lock_queue.specs.declared.request.Request.{Request}
use Rattle.lock_queue.specs.Calls.{outcome_of}
use Rattle.lock_queue.specs.Jobs.{is_waiting_job, released, withdrawn_where, job_notified}
use Rattle.lock_queue.specs.StatusWords.{has_job}

pub record WaitingIsKept (size : ℕ) : Type 0 where
  pub by_calls : (requests : List Request) (caller n : ℕ) (call : LockCall)
      → is_waiting_job (outcome_of size requests caller call).requests n ≡ true
      → (is_waiting_job requests n ≡ true) ⊎ ((n ≡ caller) × ((outcome_of size requests caller call).reply ≡ Queued))
  pub by_releases : (requests : List Request) (gone n : ℕ) → is_waiting_job (released requests gone) n ≡ true
      → (is_waiting_job requests n ≡ true) × (n ≢ gone)
  pub by_withdrawals : (requests : List Request) (waiters : ℕ → Bool) (n : ℕ)
      → is_waiting_job (withdrawn_where requests waiters) n ≡ true → is_waiting_job requests n ≡ true
  pub by_notifying : (requests : List Request) (notified n : ℕ) → is_waiting_job (job_notified requests notified) n ≡ true
      → is_waiting_job requests n ≡ true

pub record JobsAreKept (size : ℕ) : Type 0 where
  pub by_calls : (requests : List Request) (caller n : ℕ) (call : LockCall)
      → has_job (outcome_of size requests caller call).requests n ≡ true → (has_job requests n ≡ true) ⊎ (n ≡ caller)
  pub by_releases : (requests : List Request) (gone n : ℕ) → has_job (released requests gone) n ≡ true
      → (has_job requests n ≡ true) × (n ≢ gone)
  pub by_withdrawals : (requests : List Request) (waiters : ℕ → Bool) (n : ℕ)
      → has_job (withdrawn_where requests waiters) n ≡ true → has_job requests n ≡ true
  pub by_notifying : (requests : List Request) (notified n : ℕ) → has_job (job_notified requests notified) n ≡ true
      → has_job requests n ≡ true

-- a job whose wait is given up does not wait
abbrev pub WithdrawingEndsWaits : Type 0
WithdrawingEndsWaits =
    (requests : List Request) (waiters : ℕ → Bool) (n : ℕ) → waiters n ≡ true
    → is_waiting_job (withdrawn_where requests waiters) n ≡ false
