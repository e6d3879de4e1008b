-- What a job's next instruction asks, by the call in the processor's outcome.
use Rattle.std.proofs.Common.{◌≡◌, ◌∙◌, ℕ, List, Option, Some, ap, sym}
use Rattle.ka_cpu.specs.Exec.{exec}
use Rattle.ka_cpu.specs.Next.{call_in, next_call}
use Rattle.ka_state.specs.declared.outcome.CallKind.{CallKind}
use Rattle.ka_state.specs.declared.outcome.Outcome.{Outcome}
use Rattle.ka_state.specs.declared.outcome.Outcome.TheVariants as outcome
use Rattle.core_store.specs.Cores.{Cores, core_of}
use Rattle.lock_queue.specs.declared.request.Request.{Request}
use Rattle.job_sched.specs.Tables.{job_at}
use Rattle.job_sched.specs.declared.job.Job.{Job}
use Rattle.uuo_calls.specs.Asked.{asked_if, asked_in, block_if, block_in, lock_service}
use Rattle.uuo_calls.specs.Performed.{World}
use Rattle.uuo_calls.specs.Services.{service_of}
use Rattle.uuo_calls.specs.declared.call.MonitorCall.{MonitorCall}
use Rattle.machine.specs.Next.{asked_next, block_next, call_next}
use Rattle.machine.specs.Told.{asked_by, block_before}
use Rattle.machine.specs.Turns.{concluded}

made-call : (o : Outcome) (j : Job) (cores : Cores) (requests : List Request) (kind : CallKind) (ac e : ℕ) → Some (kind, ac, e) ≡ call_in o
    → (concluded j cores requests o).call ≡ Some (record { kind = kind; ac = ac; e = e })
made-call outcome.Done j cores requests kind ac e h = cc
made-call (outcome.Stop r) j cores requests kind ac e h = cc
made-call (outcome.Call k a f) j cores requests kind ac e h =
    let p : (kind, ac, e) ≡ (k, a, f) = cc in
    let made : CallKind × ℕ × ℕ → Option MonitorCall = λ x. Some (record { kind = x.0; ac = x.1; e = x.2 }) in
    ap made (sym p)

call-found : (w : World) (n : ℕ) (j : Job) (core : List ℕ) (kind : CallKind) (ac e : ℕ) → job_at w.table.jobs n ≡ Some j → core_of w.cores n ≡ core
    → Some (kind, ac, e) ≡ next_call j.regs core → call_next w n ≡ Some (record { kind = kind; ac = ac; e = e })
call-found w n j core kind ac e there at h =
    let here : Some (kind, ac, e) ≡ call_in (exec j.regs (core_of w.cores n)).outcome = h ∙ ap (λ (l : List ℕ). next_call j.regs l) (sym at) in
    rw there (made-call (exec j.regs (core_of w.cores n)).outcome _ _ _ kind ac e here)

-- where the call that is asked by has these parts
pub asked-found : (w : World) (n : ℕ) (j : Job) (core : List ℕ) (kind k : CallKind) (ac a e f : ℕ) → job_at w.table.jobs n ≡ Some j
    → core_of w.cores n ≡ core → Some (kind, ac, e) ≡ next_call j.regs core → kind ≡ k → ac ≡ a → e ≡ f
    → asked_if a j (lock_service (service_of k a f)) ≡ asked_next w n
asked-found w n j core kind k ac a e f there at h x y z =
    rw (← x, ← y, ← z)
    (sym
    (ap (λ (c : Option MonitorCall). asked_by w n c) (call-found w n j core kind ac e there at h)
    ∙ ap (λ (o : Option Job). asked_in (record { kind = kind; ac = ac; e = e }) o) there))

pub block-found : (w : World) (n : ℕ) (j : Job) (core : List ℕ) (kind k : CallKind) (ac a e f : ℕ) → job_at w.table.jobs n ≡ Some j
    → core_of w.cores n ≡ core → Some (kind, ac, e) ≡ next_call j.regs core → kind ≡ k → ac ≡ a → e ≡ f
    → block_if n a j core (lock_service (service_of k a f)) ≡ block_next w n
block-found w n j core kind k ac a e f there at h x y z =
    rw (← x, ← y, ← z)
    (sym
    (ap (λ (c : Option MonitorCall). block_before w n c) (call-found w n j core kind ac e there at h)
    ∙ ap (λ (o : Option Job). block_in n (record { kind = kind; ac = ac; e = e }) w.cores o) there
    ∙ ap (λ (l : List ℕ). block_if n ac j l (lock_service (service_of kind ac e))) at))
