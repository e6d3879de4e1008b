-- What a step of one job leaves of another's core, and which events are no step.
use Rattle.std.proofs.Common.{◌≡◌, ◌≢◌, ◌∙◌, ap, ℕ, false, ◌&&◌, ◌==◌, nat_lt, nat_le, List, [], length, Option, Some, None, Result, Ok, Err, refl}
use Rattle.std.proofs.lemmas.List.{get_or-set_other}
use Rattle.std.specs.List.{list_any}
use Rattle.machine.specs.declared.sizes.TheConstants.{INTERRUPT_CHARACTER}
use Rattle.word36.specs.declared.sizes.TheConstants.{LINES, INPUT_RING}
use Rattle.ka_cpu.specs.Effects.{After}
use Rattle.ka_cpu.specs.Exec.{exec}
use Rattle.ka_state.specs.declared.outcome.Outcome.{Outcome}
use Rattle.ka_state.specs.declared.outcome.Outcome.TheVariants as outcome
use Rattle.ka_state.specs.declared.outcome.StopReason.TheVariants.{IllegalAddress}
use Rattle.ka_state.specs.Memory.{are_legal}
use Rattle.core_store.specs.Cores.{Cores, core_of, with_core}
use Rattle.lock_queue.specs.declared.request.Request.{Request}
use Rattle.tty_lines.specs.Rings.{input_of}
use Rattle.job_sched.specs.declared.job.Job.{Job}
use Rattle.job_sched.specs.Tables.{Table}
use Rattle.uuo_calls.specs.CallState.{stopped}
use Rattle.job_sched.specs.Tables.{job_at}
use Rattle.job_sched.specs.declared.job_error.JobError.{JobError}
use Rattle.uuo_calls.specs.Performed.{World}
use Rattle.machine.specs.Alone.{is_ran}
use Rattle.machine.specs.Images.{image_top, blocks_for}
use Rattle.job_sched.specs.Changes.{standing, chosen, free_number, is_at}
use Rattle.machine.specs.Machine.{S, Made, made_if, started, continued, killed, typed, taken, admitted, examined, logged_in}
use Rattle.machine.specs.Turns.{Turn, turned, concluded, notified_at, interrupted_at, done}
use Rattle.ka_cpu.proofs.ExecLaws.{by_test}

other-core : (cores : Cores) (n job : ℕ) (words : List ℕ) → job ≢ n → core_of (with_core cores n words) job ≡ core_of cores job
other-core cores n job words ne = get_or-set_other cores.cores n job words [] ne

cores-concluded : (j : Job) (cores : Cores) (requests : List Request) (o : Outcome) → (concluded j cores requests o).cores ≡ cores
cores-concluded j cores requests outcome.Done = refl
cores-concluded j cores requests (outcome.Stop reason) = refl
cores-concluded j cores requests (outcome.Call kind ac e) = refl

pub same-turned : (n job : ℕ) (j : Job) (cores : Cores) (requests : List Request) (o : Option (ℕ × ℕ)) → job ≢ n
    → core_of (turned n j cores requests o).cores job ≡ core_of cores job
same-turned n job j cores requests None ne =
    let r : After = exec j.regs (core_of cores n) in
    ap (λ c. core_of c job) (cores-concluded (record j { regs = r.regs }) (with_core cores n r.core) requests r.outcome) ∙ other-core cores n job r.core ne
same-turned n job j cores requests (Some x) ne =
    by_test (λ (t : Turn). core_of t.cores job ≡ core_of cores job) (are_legal (core_of cores n) x.0 4)
    (notified_at n cores requests (interrupted_at j (core_of cores n) x.0 x.1)) (done (stopped j IllegalAddress) cores requests)
    (λ _. other-core cores n job _ ne)
    (λ _. refl)

pub jobs-chosen : (t : Table) (n quantum : ℕ) → (chosen t n quantum).jobs ≡ t.jobs
jobs-chosen t n quantum =
    by_test (λ (u : Table). u.jobs ≡ t.jobs) ((t.current == n) && nat_lt 0 t.left) t (record t { current = n; left = quantum })
    (λ _. refl) (λ _. refl)

pub ran-killed : (s : S) (n job : ℕ) (o : Option Job) → is_ran job (killed s n o).answer ≡ false
ran-killed s n job None = refl
ran-killed s n job (Some j) = refl

pub ran-typed : (s : S) (line c job : ℕ) → is_ran job (typed s line c).answer ≡ false
ran-typed s line c job =
    by_test (λ (m : Made). is_ran job m.answer ≡ false) (nat_le LINES line) _ _ (λ _. refl)
    (λ _. by_test (λ (m : Made). is_ran job m.answer ≡ false) (c == INTERRUPT_CHARACTER) _ _ (λ _. refl)
    (λ _. by_test (λ (m : Made). is_ran job m.answer ≡ false) (nat_le INPUT_RING (length (input_of s.world.lines line))) _ _ (λ _. refl) (λ _. refl)))

pub ran-taken : (s : S) (line n job : ℕ) → is_ran job (taken s line n).answer ≡ false
ran-taken s line n job = by_test (λ (m : Made). is_ran job m.answer ≡ false) (nat_le LINES line) _ _ (λ _. refl) (λ _. refl)

pub ran-admitted : (s : S) (line : ℕ) (ws : List (ℕ × ℕ)) (start blocks : ℕ) (o : Option ℕ) (job : ℕ)
    → is_ran job (admitted s line ws start blocks o).answer ≡ false
ran-admitted s line ws start blocks None job = refl
ran-admitted s line ws start blocks (Some n) job =
    by_test (λ (m : Made). is_ran job m.answer ≡ false) (nat_le blocks s.world.cores.free) _ _ (λ _. refl) (λ _. refl)

pub ran-examined : (s : S) (line : ℕ) (ws : List (ℕ × ℕ)) (start : ℕ) (o : Option ℕ) (job : ℕ) → is_ran job (examined s line ws start o).answer ≡ false
ran-examined s line ws start None job = refl
ran-examined s line ws start (Some top) job = ran-admitted s line ws start (blocks_for top) (free_number s.world.table.jobs) job

pub ran-login : (s : S) (line : ℕ) (ws : List (ℕ × ℕ)) (start job : ℕ) → is_ran job (logged_in s line ws start).answer ≡ false
ran-login s line ws start job =
    by_test (λ (m : Made). is_ran job m.answer ≡ false) (nat_le LINES line) _ _ (λ _. refl)
    (λ _. by_test (λ (m : Made). is_ran job m.answer ≡ false) (list_any (is_at line) s.world.table.jobs) _ _ (λ _. refl)
    (λ _. ran-examined s line ws start (image_top ws start) job))

ran-made_if : (s : S) (w : World) (r : Result (Unit {0}) JobError) (job : ℕ) → is_ran job (made_if s w r).answer ≡ false
ran-made_if s w (Ok x) job = refl
ran-made_if s w (Err e) job = refl

pub ran-started : (s : S) (n job : ℕ) → is_ran job (started s n).answer ≡ false
ran-started s n job = ran-made_if s _ (standing (job_at s.world.table.jobs n)) job

pub ran-continued : (s : S) (n job : ℕ) → is_ran job (continued s n).answer ≡ false
ran-continued s n job = ran-made_if s _ (standing (job_at s.world.table.jobs n)) job
