-- ENQC. 1 and 2: how many requests a job may have (this project's profile).
use Rattle.std.specs.Prelude.{ℕ, ◌==◌, nat_le, if◌then◌else◌, List, length, Option, Some, None}
use Rattle.std.specs.Option.{option_map}
use Rattle.word36.specs.Words.{joined, right_half}
use Rattle.lock_queue.specs.declared.refusal.Refusal.TheVariants.{NoSuchQuota}
use Rattle.lock_queue.specs.declared.request.Request.{Request}
use Rattle.lock_queue.specs.Queue.{requests_of}
use Rattle.lock_queue.specs.Refusals.{code_of}
use Rattle.job_sched.specs.declared.job.Job.{Job}
use Rattle.job_sched.specs.Tables.{job_at}
use Rattle.uuo_calls.specs.CallState.{ac_of, with_ac, skipping, refusing}

-- the job that job n names by a number: 0 names job n itself
abbrev pub named_job : ℕ → ℕ → ℕ
named_job n k = if k == 0 then n else k

-- the quota of a job, if it is there
abbrev pub quota_at : List (Option Job) → ℕ → Option ℕ
quota_at jobs k = option_map (λ j. j.quota) (job_at jobs k)

-- how many requests a job has, granted or not
abbrev pub count : List Request → ℕ → ℕ
count requests k = length (requests_of requests k)

-- AC gets `quota,,present requests` of job k, if it is there
abbrev pub told_quota : List Request → ℕ → ℕ → Job → Option ℕ → Job
told_quota requests k ac j (Some quota) = skipping (with_ac j ac (joined quota (count requests k)))
told_quota requests k ac j None = refusing j ac (code_of NoSuchQuota)

-- ENQC. 1 of job n: its AC is `1,,job`
abbrev pub quota_told : List (Option Job) → List Request → ℕ → ℕ → Job → Job
quota_told jobs requests n ac j =
    let k = named_job n (right_half (ac_of j ac)) in
    told_quota requests k ac j (quota_at jobs k)

-- ENQC. 2: its AC is `2,,quota`; the job's own quota becomes that, where it does not grow
abbrev pub quota_lowered : ℕ → Job → Job
quota_lowered ac j =
    if nat_le (right_half (ac_of j ac)) j.quota
    then skipping (record j { quota = right_half (ac_of j ac) })
    else refusing j ac (code_of NoSuchQuota)
