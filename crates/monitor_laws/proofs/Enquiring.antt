-- What ENQC. leaves, by its function.
use Rattle.std.proofs.Common.{ℕ, ◌==◌, nat_le, List, Option, Some, None}
use Rattle.word36.specs.Words.{left_half, right_half}
use Rattle.core_store.specs.Cores.{Cores, core_of}
use Rattle.lock_queue.specs.declared.refusal.Refusal.TheVariants.{NoSuchQuota}
use Rattle.lock_queue.specs.declared.request.Request.{Request}
use Rattle.lock_queue.specs.Refusals.{code_of}
use Rattle.job_sched.specs.declared.job.Job.{Job}
use Rattle.uuo_calls.specs.CallState.{ac_of, refusing, skipping, with_ac}
use Rattle.uuo_calls.specs.CoreRow.{JobCores}
use Rattle.uuo_calls.specs.QuotaRows.{named_job, quota_at, told_quota}
use Rattle.uuo_calls.specs.StatusRow.{enqc, status_told, with_job_core}
use Rattle.ka_cpu.proofs.ExecLaws.{by_test}

-- the quota of a job is told, where it is there
by_quota : (P : JobCores → Type 0) (requests : List Request) (k ac : ℕ) (j : Job) (cores : Cores) (o : Option ℕ)
    → ((w : ℕ) → P (record { job = skipping (with_ac j ac w); cores = cores })) → ((code : ℕ) → P (record { job = refusing j ac code; cores = cores }))
    → P (record { job = told_quota requests k ac j o; cores = cores })
by_quota P requests k ac j cores (Some quota) told refused = told _
by_quota P requests k ac j cores None told refused = refused _

-- it tells a quota in AC, is refused, lowers the quota, or stores status words
pub by_enqc : (P : JobCores → Type 0) (jobs : List (Option Job)) (requests : List Request) (n ac : ℕ) (j : Job) (cores : Cores)
    → ((w : ℕ) → P (record { job = skipping (with_ac j ac w); cores = cores })) → ((code : ℕ) → P (record { job = refusing j ac code; cores = cores }))
    → ((quota : ℕ) → P (record { job = skipping (record j { quota = quota }); cores = cores }))
    → P (with_job_core cores n (status_told requests n ac j (core_of cores n))) → P (enqc jobs requests n ac j cores)
by_enqc P jobs requests n ac j cores told refused lowered stored =
    by_test P (left_half (ac_of j ac) == 1) _ _
    (λ _. by_quota P requests (named_job n (right_half (ac_of j ac))) ac j cores (quota_at jobs (named_job n (right_half (ac_of j ac)))) told refused)
    (λ _. by_test P (left_half (ac_of j ac) == 2) _ _
    (λ _. by_test (λ (k : Job). P (record { job = k; cores = cores })) (nat_le (right_half (ac_of j ac)) j.quota)
    (skipping (record j { quota = right_half (ac_of j ac) })) (refusing j ac (code_of NoSuchQuota))
    (λ _. lowered (right_half (ac_of j ac))) (λ _. refused (code_of NoSuchQuota)))
    (λ _. stored))
