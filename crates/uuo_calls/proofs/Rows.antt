-- What a call makes of a world, by its row.
use Rattle.std.proofs.Common.{◌≡◌, ap, ℕ, zero, suc, List, [], ◌∷◌, Some, slice_index_or, slice_set, refl}
use Rattle.core_store.specs.Cores.{Cores, core_of, with_core}
use Rattle.job_sched.specs.Tables.{job_at}
use Rattle.job_sched.specs.declared.job.Job.{Job}
use Rattle.uuo_calls.specs.declared.call.MonitorCall.{MonitorCall}
use Rattle.uuo_calls.specs.Performed.{World, around, ended, performed, performed_by, row_of}
use Rattle.uuo_calls.specs.Laws.{service_in}

-- a call of a job that is there is its row
pub performs : (w : World) (time n : ℕ) (c : MonitorCall) (j : Job) → job_at w.table.jobs n ≡ Some j
    → performed w time n c ≡ ended w n (row_of (service_in c) time n c.ac c.e (around w j))
performs w time n c j there = ap (λ o. performed_by w time n o (service_in c) c.ac c.e) there

-- a place that is set to what stands there is as it was
pub set-same : {A : Type 0} (xs : List A) (n : ℕ) (d : A) → slice_set xs n (slice_index_or xs n d) ≡ xs
set-same [] n d = refl
set-same (x ∷ xs) zero d = refl
set-same (x ∷ xs) (suc n) d = ap (λ l. x ∷ l) (set-same xs n d)

pub core-same : (s : Cores) (n : ℕ) → with_core s n (core_of s n) ≡ s
core-same s n = ap (λ cores. record s { cores = cores }) (set-same s.cores n [])
