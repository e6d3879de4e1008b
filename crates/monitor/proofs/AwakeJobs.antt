-- A job that runs does not sleep.
use Rattle.std.proofs.Common.{◌≡◌, ◌<◌, ◌≤◌, ◌∙◌, sym, ℕ, Bool, false, List, length, Option, Some, None, slice_index_or, slice_set, arith}
use Rattle.word36.specs.declared.sizes.TheConstants.{JOBS}
use Rattle.job_sched.specs.Jobs.{is_sleep}
use Rattle.job_sched.specs.Tables.{IsTable}
use Rattle.job_sched.specs.declared.job.Job.{Job}
use Rattle.job_sched.proofs.Sleepers.{IsTable-changed, none-at}

none-some : (j : Job) → None ≡ Some j → ⊥
none-some j e = cc

pub IsTable-awake : (jobs : List (Option Job)) (n : ℕ) (d : Option Job) (j k : Job) (sleepers : Bool) (from : ℕ) → IsTable jobs sleepers from → n ≤ JOBS
    → slice_index_or jobs n d ≡ Some j → is_sleep k.wait ≡ false → IsTable (slice_set jobs n (Some k)) sleepers from
IsTable-awake jobs n d j k sleepers from h low there awake =
    let within : n < length jobs = omega (arith, h.slots, low) in
    IsTable-changed jobs n (Some k) sleepers sleepers from h (λ e. e) (λ _. awake)
    (λ none. absurd (none-some j (sym none ∙ sym (none-at jobs n d within) ∙ there)))
