-- The laws.
use Rattle.std.proofs.Common.{◌≡◌, ℕ, true, List, []}
use Rattle.lock_queue.specs.declared.request.Request.{Request}
use Rattle.lock_queue.specs.Jobs.{is_pending, job_notified}
use Rattle.lock_laws.proofs.Departures.{releases-released, releases-withdrawn}
use Rattle.lock_laws.proofs.SameButNotified.{SameButNotified, SameButNotified-notified}
use Rattle.lock_laws.proofs.Steps.{is_job_of}
use Rattle.lock_laws.specs.Waiting.{WaitingIsKept, JobsAreKept}
use Rattle.lock_laws.proofs.WaitSteps.{waits-call, waits-releases, waits-notified, jobs-call, jobs-releases, jobs-notified, jobs-released, has-waiting}

notified : (requests : List Request) (job : ℕ) → SameButNotified requests (job_notified requests job)
notified requests job = SameButNotified-notified (is_pending job) [] requests

pub waiting_is_kept : (size : ℕ) → WaitingIsKept size
waiting_is_kept size = record {
  by_calls = waits-call size;
  by_releases =
      λ requests gone n h. (
        waits-releases (is_job_of gone) requests _ n (releases-released requests gone) h,
        jobs-released requests gone n (has-waiting _ n h),
      );
  by_withdrawals = λ requests waiters n h. waits-releases (λ n. waiters n ≡ true) requests _ n (releases-withdrawn requests waiters) h;
  by_notifying = λ requests job n h. waits-notified requests _ n (notified requests job) h;
}

pub jobs_are_kept : (size : ℕ) → JobsAreKept size
jobs_are_kept size = record {
  by_calls = jobs-call size;
  by_releases = λ requests gone n h. (jobs-releases (is_job_of gone) requests _ n (releases-released requests gone) h, jobs-released requests gone n h);
  by_withdrawals = λ requests waiters n h. jobs-releases (λ n. waiters n ≡ true) requests _ n (releases-withdrawn requests waiters) h;
  by_notifying = λ requests job n h. jobs-notified requests _ n (notified requests job) h;
}
