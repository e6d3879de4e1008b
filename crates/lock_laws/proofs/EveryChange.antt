-- The laws over each change of the list of requests.
use Rattle.std.proofs.Common.{◌≡◌, sym, subst, ℕ, true, List, [], arith}
use Rattle.lock_queue.specs.declared.request.Request.{Request}
use Rattle.lock_queue.specs.Jobs.{is_pending, job_notified}
use Rattle.lock_laws.specs.Kept.{SafetyIsKept, OwnersAreKept, LatestIsKept, SafeJobsMakeNoCircle}
use Rattle.lock_laws.proofs.CallSteps.{step_of}
use Rattle.lock_laws.proofs.Circling.{waits-step, waits-releases, waits-notified, by_latest, waits_last}
use Rattle.lock_laws.proofs.Departures.{releases-released, releases-withdrawn}
use Rattle.lock_laws.proofs.Invariant.{Kept, kept-call, kept-releases, kept-safe, safe-kept}
use Rattle.lock_laws.proofs.Keeping.{keeps_owners, owns-released, owns-withdrawn, owns-notified}
use Rattle.lock_queue.proofs.Lists.{Pairs}
use Rattle.lock_laws.proofs.Ranks.{no_plain_circle}
use Rattle.lock_laws.proofs.SameButNotified.{SameButNotified, SameButNotified-notified, SameButNotified-claims, SameButNotified-length}
use Rattle.lock_laws.proofs.Steps.{Ordered, is_job_of}

-- notifying a job changes no claim
kept-notified : (size : ℕ) (before after : List Request) → SameButNotified before after → Kept size before → Kept size after
kept-notified size before after s k = record {
  ordered = subst (λ l. Pairs Ordered l) (sym (SameButNotified-claims s)) k.ordered;
  few = omega (arith, SameButNotified-length s, k.few);
}

notified : (requests : List Request) (job : ℕ) → SameButNotified requests (job_notified requests job)
notified requests job = SameButNotified-notified (is_pending job) [] requests

-- the laws, for calls, for a job that is gone, for a wait that is given up and for a job that is notified
pub safety_is_kept : (size : ℕ) → SafetyIsKept size
safety_is_kept size = record {
  by_calls = λ requests job call s. safe-kept size _ (kept-call size requests job call (kept-safe size requests s));
  by_releases = λ requests job s. safe-kept size _ (kept-releases size (is_job_of job) requests _ (releases-released requests job) (kept-safe size requests s));
  by_withdrawals =
      λ requests waiters s. safe-kept size _
      (kept-releases size (λ n. waiters n ≡ true) requests _ (releases-withdrawn requests waiters) (kept-safe size requests s));
  by_notifying = λ requests job s. safe-kept size _ (kept-notified size requests _ (notified requests job) (kept-safe size requests s));
}

pub owners_are_kept : (size : ℕ) → OwnersAreKept size
owners_are_kept size = record {
  by_calls = keeps_owners size;
  by_releases = owns-released;
  by_withdrawals = owns-withdrawn;
  by_notifying = owns-notified;
}

pub latest_is_kept : (size : ℕ) → LatestIsKept size
latest_is_kept size = record {
  by_calls = λ requests job call free w. by_latest _ (waits-step job call requests _ (step_of size requests job call) free (waits_last requests w));
  by_releases = λ requests job w. by_latest _ (waits-releases (is_job_of job) requests _ (releases-released requests job) (waits_last requests w));
  by_withdrawals =
      λ requests waiters w. by_latest _
      (waits-releases (λ n. waiters n ≡ true) requests _ (releases-withdrawn requests waiters) (waits_last requests w));
  by_notifying = λ requests job w. by_latest _ (waits-notified requests _ (notified requests job) (waits_last requests w));
}

pub safe_jobs_make_no_circle : SafeJobsMakeNoCircle
safe_jobs_make_no_circle size requests s w = no_plain_circle requests (kept-safe size requests s).ordered (waits_last requests w)
