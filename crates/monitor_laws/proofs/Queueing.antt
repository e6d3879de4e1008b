-- What keeps the requests and their jobs in order.
use Rattle.std.proofs.Common.{◌≡◌, ◌≢◌, ◌∙◌, sym, ap, subst, ℕ, ◌&&◌, Bool, true, false, List, map, Option, Some, None, is_some, slice_set, inl, inr, refl}
use Rattle.std.proofs.lemmas.Bool.{both_ways, cases_eq, eq-eqb, false_from_ne_true}
use Rattle.std.specs.Option.{option_map}
use Rattle.std.proofs.lemmas.List.{get_or-set_other, get_or-set_same}
use Rattle.lock_queue.specs.declared.call.LockCall.{LockCall}
use Rattle.lock_queue.specs.declared.call.LockReply.TheVariants.{Queued as QueuedReply}
use Rattle.lock_queue.specs.declared.request.Request.{Request}
use Rattle.lock_queue.specs.Calls.{outcome_of}
use Rattle.lock_queue.specs.Jobs.{is_one, is_waiting_job, released, withdrawn, withdrawn_where, job_notified}
use Rattle.lock_laws.proofs.EveryChange.{safety_is_kept, latest_is_kept}
use Rattle.lock_laws.proofs.WaitLaws.{waiting_is_kept, jobs_are_kept}
use Rattle.job_sched.specs.Tables.{Table, job_at}
use Rattle.job_sched.specs.declared.job.Job.{Job}
use Rattle.job_sched.specs.Limits.{expires, is_last_tick, is_queue, limited_job, limited_table}
use Rattle.job_sched.proofs.Limits.{job-limited, queue-limited, there-limited}
use Rattle.machine.specs.Safe.{Queued, wait_of}
use Rattle.monitor_laws.proofs.Housing.{Mild, there-set, there-below, at-mapped}
use Rattle.lock_laws.proofs.WaitSteps.{has-waiting}
use Rattle.lock_laws.proofs.Withdrawals.{withdrawing_ends_waits}

-- another job's wait
wait-other : (jobs : List (Option Job)) (n k : ℕ) (o : Option Job) → k ≢ n → wait_of (job_at (slice_set jobs n o) k) ≡ wait_of (job_at jobs k)
wait-other jobs n k o other = ap wait_of (get_or-set_other jobs n k o None other)

wait-same : (jobs : List (Option Job)) (n : ℕ) (j : Job) → is_some (job_at jobs n) ≡ true → wait_of (job_at (slice_set jobs n (Some j)) n) ≡ j.wait
wait-same jobs n j there = ap wait_of (get_or-set_same jobs n (Some j) None (there-below jobs n there))

-- a job that does not wait gets another state, also one of waiting for what it asks now
pub queued-job : (size : ℕ) (jobs : List (Option Job)) (requests : List Request) (n : ℕ) (j : Job) → is_some (job_at jobs n) ≡ true
    → is_waiting_job requests n ≡ false → Queued size jobs requests
    → Queued size (slice_set jobs n (Some j)) requests
queued-job size jobs requests n j there free q = record {
  safe = q.safe;
  live = λ k h. there-set jobs n k j there ∙ q.live k h;
  waiting = λ k h. elim (cases_eq k n) [
    | inl same ↦ absurd (both_ways (is_waiting_job requests n) free (subst (λ m. is_waiting_job requests m ≡ true) same h))
    | inr other ↦ ap is_queue (wait-other jobs n k (Some j) other) ∙ q.waiting k h
  ];
  latest = q.latest;
}

-- a lock call of a job that does not wait
pub queued-call : (size : ℕ) (jobs : List (Option Job)) (requests : List Request) (n : ℕ) (j : Job) (call : LockCall) → is_some (job_at jobs n) ≡ true
    → is_waiting_job requests n ≡ false
    → ((outcome_of size requests n call).reply ≡ QueuedReply → is_queue j.wait ≡ true)
    → Queued size jobs requests → Queued size (slice_set jobs n (Some j)) (outcome_of size requests n call).requests
queued-call size jobs requests n j call there free asks q = record {
  safe = (safety_is_kept size).by_calls requests n call q.safe;
  live = λ k h. there-set jobs n k j there ∙ (elim ((jobs_are_kept size).by_calls requests n k call h) [
    | inl old ↦ q.live k old
    | inr mine ↦ subst (λ m. is_some (job_at jobs m) ≡ true) (sym mine) there
  ]);
  waiting = λ k h. elim ((waiting_is_kept size).by_calls requests n k call h) [
    | inl old ↦ elim (cases_eq k n) [
      | inl same ↦ absurd (both_ways (is_waiting_job requests n) free (subst (λ m. is_waiting_job requests m ≡ true) same old))
      | inr other ↦ ap is_queue (wait-other jobs n k (Some j) other) ∙ q.waiting k old
    ]
    | inr new ↦ subst (λ m. is_queue (wait_of (job_at (slice_set jobs n (Some j)) m)) ≡ true) (sym new.0) (ap is_queue (wait-same jobs n j there) ∙ asks new.1)
  ];
  latest = (latest_is_kept size).by_calls requests n call free q.latest;
}

-- a job is told of its grant
pub queued-notified : (size : ℕ) (jobs : List (Option Job)) (requests : List Request) (n : ℕ) → Queued size jobs requests → Queued size jobs (job_notified requests n)
queued-notified size jobs requests n q = record {
  safe = (safety_is_kept size).by_notifying requests n q.safe;
  live = λ k h. q.live k ((jobs_are_kept size).by_notifying requests n k h);
  waiting = λ k h. q.waiting k ((waiting_is_kept size).by_notifying requests n k h);
  latest = (latest_is_kept size).by_notifying requests n q.latest;
}

pub free-notified : (requests : List Request) (n k : ℕ) → is_waiting_job requests k ≡ false → is_waiting_job (job_notified requests n) k ≡ false
free-notified requests n k free = false_from_ne_true _ (λ h. both_ways (is_waiting_job requests k) free ((waiting_is_kept 0).by_notifying requests n k h))

-- a job that is gone
pub queued-gone : (size : ℕ) (jobs : List (Option Job)) (requests : List Request) (n : ℕ) → Queued size jobs requests
    → Queued size (slice_set jobs n None) (released requests n)
queued-gone size jobs requests n q = record {
  safe = (safety_is_kept size).by_releases requests n q.safe;
  live = λ k h. let f = (jobs_are_kept size).by_releases requests n k h in ap is_some (get_or-set_other jobs n k None None f.1) ∙ q.live k f.0;
  waiting = λ k h. let f = (waiting_is_kept size).by_releases requests n k h in ap is_queue (wait-other jobs n k None f.1) ∙ q.waiting k f.0;
  latest = (latest_is_kept size).by_releases requests n q.latest;
}

-- a job's requests are released
pub queued-released : (size : ℕ) (jobs : List (Option Job)) (requests : List Request) (n : ℕ) (j : Job) → is_some (job_at jobs n) ≡ true
    → Queued size jobs requests → Queued size (slice_set jobs n (Some j)) (released requests n)
queued-released size jobs requests n j there q = record {
  safe = (safety_is_kept size).by_releases requests n q.safe;
  live = λ k h. there-set jobs n k j there ∙ q.live k ((jobs_are_kept size).by_releases requests n k h).0;
  waiting = λ k h. let f = (waiting_is_kept size).by_releases requests n k h in ap is_queue (wait-other jobs n k (Some j) f.1) ∙ q.waiting k f.0;
  latest = (latest_is_kept size).by_releases requests n q.latest;
}

-- a job starts again
pub queued-started : (size : ℕ) (jobs : List (Option Job)) (requests : List Request) (n : ℕ) (j : Job) → is_some (job_at jobs n) ≡ true
    → Queued size jobs requests → Queued size (slice_set jobs n (Some j)) (withdrawn requests n)
queued-started size jobs requests n j there q = record {
  safe = (safety_is_kept size).by_withdrawals requests (is_one n) q.safe;
  live = λ k h. there-set jobs n k j there ∙ q.live k ((jobs_are_kept size).by_withdrawals requests (is_one n) k h);
  waiting = λ k h. elim (cases_eq k n) [
    | inl same ↦
        absurd
        (both_ways (is_waiting_job (withdrawn requests n) n) (withdrawing_ends_waits requests (is_one n) n (eq-eqb n n refl))
        (subst (λ m. is_waiting_job (withdrawn requests n) m ≡ true) same h))
    | inr other ↦ ap is_queue (wait-other jobs n k (Some j) other) ∙ q.waiting k ((waiting_is_kept size).by_withdrawals requests (is_one n) k h)
  ];
  latest = (latest_is_kept size).by_withdrawals requests (is_one n) q.latest;
}

-- a job whose wait stays
pub queued-going_on : (size : ℕ) (jobs : List (Option Job)) (requests : List Request) (n : ℕ) (j : Job) → is_some (job_at jobs n) ≡ true
    → wait_of (job_at jobs n) ≡ j.wait → Queued size jobs requests → Queued size (slice_set jobs n (Some j)) requests
queued-going_on size jobs requests n j there same q = record {
  safe = q.safe;
  live = λ k h. there-set jobs n k j there ∙ q.live k h;
  waiting = λ k h. elim (cases_eq k n) [
    | inl is ↦ subst (λ m. is_queue (wait_of (job_at (slice_set jobs n (Some j)) m)) ≡ true) (sym is)
        (ap is_queue (wait-same jobs n j there ∙ sym same) ∙ q.waiting n (subst (λ m. is_waiting_job requests m ≡ true) is h))
    | inr other ↦ ap is_queue (wait-other jobs n k (Some j) other) ∙ q.waiting k h
  ];
  latest = q.latest;
}

-- a job that begins
pub queued-new : (size : ℕ) (jobs : List (Option Job)) (requests : List Request) (n : ℕ) (j : Job) → job_at jobs n ≡ None → Queued size jobs requests
    → Queued size (slice_set jobs n (Some j)) requests
queued-new size jobs requests n j none q = record {
  safe = q.safe;
  live = λ k h. ap is_some (get_or-set_other jobs n k (Some j) None (not-new k (q.live k h))) ∙ q.live k h;
  waiting = λ k h. ap is_queue (wait-other jobs n k (Some j) (not-new k (q.live k (has-waiting requests k h)))) ∙ q.waiting k h;
  latest = q.latest;
}
  where
    not-new : (k : ℕ) → is_some (job_at jobs k) ≡ true → k ≢ n
    not-new k there is = both_ways (is_some (job_at jobs k)) (ap (λ m. is_some (job_at jobs m)) is ∙ ap is_some none) there

pub queued-mapped : (size : ℕ) (f : Option Job → Option Job) (jobs : List (Option Job)) (requests : List Request) → Mild f
    → Queued size jobs requests
    → Queued size (map f jobs) requests
queued-mapped size f jobs requests m q = record {
  safe = q.safe;
  live = λ k h. ap is_some (at-mapped f jobs k m.none) ∙ m.some (job_at jobs k) ∙ q.live k h;
  waiting = λ k h. ap (λ (o : Option Job). is_queue (wait_of o)) (at-mapped f jobs k m.none) ∙ m.wait (job_at jobs k) (q.waiting k h);
  latest = q.latest;
}

-- a tick of the limits: a job whose limit does not end goes on waiting
wait-limited : (b : Bool) (o : Option Job) → is_queue (wait_of o) ≡ true → (b && is_last_tick o) ≡ false
    → is_queue (wait_of (option_map (limited_job b) o)) ≡ true
wait-limited b None waits more = waits
wait-limited b (Some j) waits more = queue-limited b j waits more

-- a job that waits when the limits were looked at is none whose limit ended
pub goes-on-waiting : (jobs : List (Option Job)) (requests : List Request) (k : ℕ) → is_waiting_job (withdrawn_where requests (expires requests jobs)) k ≡ true
    → expires requests jobs k ≡ false
goes-on-waiting jobs requests k still =
    false_from_ne_true _ (λ ends. both_ways (is_waiting_job (withdrawn_where requests (expires requests jobs)) k)
    (withdrawing_ends_waits requests (expires requests jobs) k ends) still)

pub queued-limited : (size : ℕ) (t : Table) (requests : List Request) → Queued size t.jobs requests
    → Queued size (limited_table t requests).jobs (withdrawn_where requests (expires requests t.jobs))
queued-limited size t requests q =
    let gone : ℕ → Bool = expires requests t.jobs in
    record {
      safe = (safety_is_kept size).by_withdrawals requests gone q.safe;
      live = λ k h. there-limited t requests k ∙ q.live k ((jobs_are_kept size).by_withdrawals requests gone k h);
      waiting = λ k h. ap (λ (o : Option Job). is_queue (wait_of o)) (job-limited t requests k)
          ∙ wait-limited (is_waiting_job requests k) (job_at t.jobs k)
          (q.waiting k ((waiting_is_kept size).by_withdrawals requests gone k h)) (goes-on-waiting t.jobs requests k h);
      latest = (latest_is_kept size).by_withdrawals requests gone q.latest;
    }
