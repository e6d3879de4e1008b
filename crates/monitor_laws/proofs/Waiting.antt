-- In a safe state a job has a blocking request that is not granted exactly where it waits for it.
use Rattle.std.proofs.Common.{◌≡◌, ◌∙◌, sym, ℕ, true, false, List, Option, Some, None, is_some, refl}
use Rattle.std.proofs.lemmas.Bool.{both_ways}
use Rattle.ka_cpu.proofs.ExecLaws.{by_test}
use Rattle.lock_queue.specs.Jobs.{is_waiting_job}
use Rattle.lock_queue.specs.declared.request.Request.{Request}
use Rattle.tty_lines.specs.Rings.{Rings}
use Rattle.lock_laws.proofs.WaitSteps.{has-waiting}
use Rattle.job_sched.specs.Ready.{holds}
use Rattle.job_sched.specs.Limits.{is_queue}
use Rattle.job_sched.specs.Tables.{job_at}
use Rattle.job_sched.specs.declared.job.Job.{Job}
use Rattle.job_sched.specs.declared.job.Wait.{Wait}
use Rattle.job_sched.specs.declared.job.Wait.TheVariants.{None as Nothing, Sleep, Char, Line, Room, Queue}
use Rattle.uuo_calls.specs.Performed.{World}
use Rattle.machine.specs.Machine.{S}
use Rattle.machine.specs.Safe.{Safe, wait_of}
use Rattle.machine.specs.Waits.{waiting_for, WaitsForGrants}

-- a wait for a grant holds while a blocking request is not granted
pub holds-grant : (lines : List Rings) (requests : List Request) (n line : ℕ) (v : Wait) → is_queue v ≡ true
    → holds lines requests n line v ≡ is_waiting_job requests n
holds-grant lines requests n line (Queue limit ac) grant = refl
holds-grant lines requests n line Nothing grant = absurd (both_ways false refl grant)
holds-grant lines requests n line (Sleep ticks) grant = absurd (both_ways false refl grant)
holds-grant lines requests n line Char grant = absurd (both_ways false refl grant)
holds-grant lines requests n line Line grant = absurd (both_ways false refl grant)
holds-grant lines requests n line (Room places) grant = absurd (both_ways false refl grant)

waits-then : (w : World) (n : ℕ) (o : Option Job) → is_some o ≡ true → is_queue (wait_of o) ≡ true → is_waiting_job w.requests n ≡ true
    → is_queue (waiting_for w n o) ≡ true
waits-then w n None there is waits = absurd (both_ways false refl there)
waits-then w n (Some j) there is waits =
    let held : holds w.lines w.requests n j.line j.wait ≡ true = holds-grant w.lines w.requests n j.line j.wait is ∙ waits in
    rw held is

waits-only : (w : World) (n : ℕ) (o : Option Job) → is_queue (waiting_for w n o) ≡ true → is_waiting_job w.requests n ≡ true
waits-only w n None = λ e. cc
waits-only w n (Some j) =
    by_test (λ (v : Wait). is_queue v ≡ true → is_waiting_job w.requests n ≡ true) (holds w.lines w.requests n j.line j.wait) j.wait Nothing
    (λ held is. sym (holds-grant w.lines w.requests n j.line j.wait is) ∙ held)
    (λ _ e. cc)

pub waits_for_grants : (s : S) → Safe s → WaitsForGrants s.world
waits_for_grants s h n = (
  λ waits. waits-then s.world n (job_at s.world.table.jobs n) (h.queued.live n (has-waiting s.world.requests n waits)) (h.queued.waiting n waits) waits,
  λ e. waits-only s.world n (job_at s.world.table.jobs n) e,
)
