-- The requests of a machine stay well-formed.
use Rattle.std.proofs.Common.{◌≡◌, ◌≤◌, ℕ, ◌==◌, ◌&&◌, nat_le, Bool, true, List, length, Option, Some, None, is_some, Result, Ok, Err, refl}
use Rattle.std.specs.Prelude.{IsTrue}
use Rattle.std.specs.List.{list_any}
use Rattle.std.proofs.lemmas.Bool.{and_from, le-leb}
use Rattle.word36.specs.declared.sizes.TheConstants.{LINES, INPUT_RING, JOBS, LOCKS_A_CALL}
use Rattle.word36.specs.Words.{left_half, right_half}
use Rattle.ka_cpu.specs.Exec.{exec}
use Rattle.ka_state.specs.Memory.{are_legal}
use Rattle.ka_state.specs.declared.outcome.Outcome.{Outcome}
use Rattle.ka_state.specs.declared.outcome.Outcome.TheVariants as outcome
use Rattle.ka_state.specs.declared.outcome.StopReason.TheVariants.{IllegalAddress}
use Rattle.ka_cpu.proofs.ExecLaws.{by_test}
use Rattle.core_store.specs.Cores.{Cores, core_of}
use Rattle.tty_lines.specs.Rings.{input_of}
use Rattle.lock_queue.specs.declared.call.LockCall.{LockCall}
use Rattle.lock_queue.specs.declared.refusal.Refusal.{Refusal}
use Rattle.lock_queue.specs.declared.refusal.Refusal.TheVariants.{NoFunction}
use Rattle.lock_queue.specs.declared.request.EnqueueKind.{EnqueueKind}
use Rattle.lock_queue.specs.declared.request.EnqueueKind.TheVariants.{Blocking, AtOnce, Interrupt}
use Rattle.lock_queue.specs.declared.request.Request.{Request}
use Rattle.lock_queue.specs.declared.terms.BlockUse.TheVariants as block_use
use Rattle.lock_queue.specs.Jobs.{is_one, pending}
use Rattle.lock_queue.specs.WellFormed.{are_well_formed, is_job, names_locks, all_share_rightly}
use Rattle.lock_laws.specs.Kept.{is_in_range_call}
use Rattle.lock_laws.proofs.WellLaws.{well_formedness_is_kept}
use Rattle.call_block.specs.declared.block.Block.{Block}
use Rattle.call_block.specs.Blocks.{block_at}
use Rattle.job_sched.specs.declared.job_error.JobError.{JobError}
use Rattle.job_sched.specs.Changes.{standing, chosen, free_number, is_at, ticked_table}
use Rattle.job_sched.specs.Limits.{expires}
use Rattle.job_sched.specs.Ready.{next_job}
use Rattle.job_sched.specs.Tables.{job_at}
use Rattle.job_sched.specs.declared.job.Job.{Job}
use Rattle.job_sched.proofs.Turns.{next-ready}
use Rattle.uuo_calls.specs.CallState.{CallState, ac_of, stopped}
use Rattle.uuo_calls.specs.LockRows.{asked, entering, changing, naming, enq_asks, deq_asks}
use Rattle.uuo_calls.specs.Performed.{World, row_of, around, performed_by, with_around, left_by}
use Rattle.uuo_calls.specs.Services.{service_of}
use Rattle.uuo_calls.specs.declared.call.CallOutcome.{CallOutcome}
use Rattle.uuo_calls.specs.declared.call.CallOutcome.TheVariants as ending
use Rattle.uuo_calls.specs.declared.call.MonitorCall.{MonitorCall}
use Rattle.uuo_calls.specs.declared.service.Service.{Service}
use Rattle.uuo_calls.specs.declared.service.Service.TheVariants.{Reset, Core, Exit, Monrt, Logout, Mstime, Pjob, Sleep, Piini, Pisys, Debrk, Enq, Deq, Enqc}
use Rattle.uuo_calls.specs.declared.service.Service.TheVariants.{Datrd, Datwr, Input, Outchr, Outstr, Clrbfi, Clrbfo, Skpin, Unlisted}
use Rattle.machine.specs.declared.event.Event.{Event}
use Rattle.machine.specs.declared.event.Event.TheVariants.{Step, Tick, Typed, Take, Login, Start, Continue, Kill, Restart}
use Rattle.machine.specs.declared.sizes.TheConstants.{INTERRUPT_CHARACTER}
use Rattle.machine.specs.Images.{image_top, blocks_for}
use Rattle.machine.specs.Machine.{S, Made, at_boot, made_if, started, continued, with_turn, called, awake, ran, stepped}
use Rattle.machine.specs.Machine.{killed, happens, typed, taken, admitted, examined, logged_in}
use Rattle.machine.specs.Safe.{Safe}
use Rattle.machine.specs.Turns.{Turn, turn_of, turned, due, concluded, done, notified_at, interrupted_at}
use Rattle.monitor_laws.proofs.Housing.{is_job as is_number}
use Rattle.progress_laws.specs.Wakes.{IsWellFormed}
use Rattle.progress_laws.proofs.Running.{ready-there}
use Rattle.progress_laws.proofs.Blocks.{OkHolds, IsBlock, right-block, some-block}

-- a call that can be made
record IsCall (call : LockCall) : Type 0 where
  right : (names_locks call && all_share_rightly call) ≡ true
  range : is_in_range_call call ≡ true

entering-call : (kind : EnqueueKind) (armed : Bool) (quota : ℕ) (b : Result Block Refusal) → OkHolds IsBlock b → OkHolds IsCall (entering kind armed quota b)
entering-call kind armed quota (Err refusal) h = tt
entering-call kind armed quota (Ok block) h = record {
  right = and_from _ _ (le-leb 1 (length block.wants.items) h.some) h.shares;
  range = and_from _ _ (le-leb (length block.wants.items) LOCKS_A_CALL h.few) h.range;
}

changing-call : (b : Result Block Refusal) → OkHolds (λ (block : Block). 1 ≤ length block.wants.items) b → OkHolds IsCall (changing b)
changing-call (Err refusal) h = tt
changing-call (Ok block) h = record { right = and_from _ _ (le-leb 1 (length block.wants.items) h) refl; range = refl }

naming-call : (b : Result Block Refusal) → OkHolds (λ (block : Block). 1 ≤ length block.wants.items) b → OkHolds IsCall (naming b)
naming-call (Err refusal) h = tt
naming-call (Ok block) h = record { right = and_from _ _ (le-leb 1 (length block.wants.items) h) refl; range = refl }

enq-call : (regs core : List ℕ) (n w : ℕ) (armed : Bool) (quota : ℕ) → OkHolds IsCall (enq_asks regs core n w armed quota)
enq-call regs core n w armed quota =
    by_test (OkHolds IsCall) (left_half w == 0) _ _
    (λ _. entering-call Blocking armed quota (block_at regs core (right_half w) n block_use.Blocking)
    (right-block regs core (right_half w) n block_use.Blocking tt))
    (λ _. by_test (OkHolds IsCall) (left_half w == 1) _ _
    (λ _. entering-call AtOnce armed quota (block_at regs core (right_half w) n block_use.Full)
    (right-block regs core (right_half w) n block_use.Full tt))
    (λ _. by_test (OkHolds IsCall) (left_half w == 2) _ _
    (λ _. entering-call Interrupt armed quota (block_at regs core (right_half w) n block_use.Full)
    (right-block regs core (right_half w) n block_use.Full tt))
    (λ _. by_test (OkHolds IsCall) (left_half w == 3) (changing (block_at regs core (right_half w) n block_use.Named))
    (Err NoFunction)
    (λ _. changing-call (block_at regs core (right_half w) n block_use.Named)
    (some-block regs core (right_half w) n block_use.Named))
    (λ _. tt))))

deq-call : (regs core : List ℕ) (n w : ℕ) → OkHolds IsCall (deq_asks regs core n w)
deq-call regs core n w =
    by_test (OkHolds IsCall) (left_half w == 0) _ _
    (λ _. naming-call (block_at regs core (right_half w) n block_use.Named)
    (some-block regs core (right_half w) n block_use.Named))
    (λ _. by_test (OkHolds IsCall) (left_half w == 1) _ _ (λ _. record { right = refl; range = refl })
    (λ _. by_test (OkHolds IsCall) (left_half w == 2) _ (Err NoFunction) (λ _. record { right = refl; range = refl }) (λ _. tt)))

-- well-formed requests
abbrev Well : List Request → Type 0
Well requests = IsTrue (are_well_formed requests)

well-asked : (size : ℕ) (requests : List Request) (n : ℕ) (r : Result LockCall Refusal) → is_job n ≡ true → OkHolds IsCall r
    → Well requests
    → Well (asked size requests n r).requests
well-asked size requests n (Err refusal) job h well = well
well-asked size requests n (Ok call) job h well = (well_formedness_is_kept size).by_calls requests n call (and_from _ _ job h.right) h.range well

-- every row of the table
well-row : (service : Service) (time n ac e : ℕ) (a : CallState) → is_job n ≡ true → Well a.requests → Well (row_of service time n ac e a).requests
well-row Reset time n ac e a job well = (well_formedness_is_kept a.size).by_releases a.requests n well
well-row Core time n ac e a job well = well
well-row Exit time n ac e a job well = (well_formedness_is_kept a.size).by_releases a.requests n well
well-row Monrt time n ac e a job well = well
well-row Logout time n ac e a job well = well
well-row Mstime time n ac e a job well = well
well-row Pjob time n ac e a job well = well
well-row Sleep time n ac e a job well = well
well-row Piini time n ac e a job well = well
well-row Pisys time n ac e a job well = well
well-row Debrk time n ac e a job well = well
well-row Enq time n ac e a job well =
    well-asked a.size a.requests n
    (enq_asks a.job.regs.ac (core_of a.cores n) n (ac_of a.job ac) (is_some a.job.interrupts.vector) a.job.quota) job
    (enq-call a.job.regs.ac (core_of a.cores n) n (ac_of a.job ac) (is_some a.job.interrupts.vector) a.job.quota) well
well-row Deq time n ac e a job well =
    well-asked a.size a.requests n (deq_asks a.job.regs.ac (core_of a.cores n) n (ac_of a.job ac)) job
    (deq-call a.job.regs.ac (core_of a.cores n) n (ac_of a.job ac)) well
well-row Enqc time n ac e a job well = well
well-row Datrd time n ac e a job well = well
well-row Datwr time n ac e a job well = well
well-row (Input unit skips) time n ac e a job well = well
well-row Outchr time n ac e a job well = well
well-row Outstr time n ac e a job well = well
well-row Clrbfi time n ac e a job well = well
well-row Clrbfo time n ac e a job well = well
well-row (Skpin unit) time n ac e a job well = well
well-row Unlisted time n ac e a job well = well

-- a call
well-left : (o : CallOutcome) (w : World) (n : ℕ) → Well w.requests → Well (left_by o w n).requests
well-left ending.Done w n well = well
well-left ending.Empty w n well = well
well-left ending.Gone w n well = (well_formedness_is_kept w.size).by_releases w.requests n well

well-performed : (w : World) (time n : ℕ) (service : Service) (ac e : ℕ) (o : Option Job) → is_job n ≡ true → Well w.requests
    → Well (performed_by w time n o service ac e).world.requests
well-performed w time n service ac e None job well = well
well-performed w time n service ac e (Some j) job well =
    let a : CallState = row_of service time n ac e (around w j) in
    well-left a.ending (with_around w n a) n (well-row service time n ac e (around w j) job well)

well-called : (w : World) (time n : ℕ) (c : Option MonitorCall) → is_job n ≡ true → Well w.requests → Well (called w time n c).requests
well-called w time n None job well = well
well-called w time n (Some c) job well = well-performed w time n (service_of c.kind c.ac c.e) c.ac c.e (job_at w.table.jobs n) job well

-- a turn
well-concluded : (j : Job) (cores : Cores) (requests : List Request) (o : Outcome) → Well requests → Well (concluded j cores requests o).requests
well-concluded j cores requests outcome.Done well = well
well-concluded j cores requests (outcome.Stop reason) well = well
well-concluded j cores requests (outcome.Call kind ac e) well = well

well-turned : (n : ℕ) (j : Job) (cores : Cores) (requests : List Request) (o : Option (ℕ × ℕ)) → Well requests → Well (turned n j cores requests o).requests
well-turned n j cores requests None well = well-concluded _ _ requests (exec j.regs (core_of cores n)).outcome well
well-turned n j cores requests (Some x) well =
    by_test (λ (t : Turn). Well t.requests) (are_legal (core_of cores n) x.0 4)
    (notified_at n cores requests (interrupted_at j (core_of cores n) x.0 x.1)) (done (stopped j IllegalAddress) cores requests)
    (λ _. (well_formedness_is_kept 0).by_notifying requests n well) (λ _. well)

well-ran : (w : World) (time n : ℕ) (o : Option Job) → is_job n ≡ true → Well w.requests → Well (ran w time n o).requests
well-ran w time n None job well = well
well-ran w time n (Some j) job well =
    let t : Turn = turn_of n (awake j) w.cores w.requests in
    well-called (with_turn w n t) time n t.call job (well-turned n (awake j) w.cores w.requests (due j.interrupts (pending w.requests n)) well)

well-stepped : (s : S) (o : Option ℕ) → ((n : ℕ) → o ≡ Some n → is_job n ≡ true) → Well s.world.requests → Well (stepped s o).state.world.requests
well-stepped s None job well = well
well-stepped s (Some n) job well =
    well-ran (record s.world { table = chosen s.world.table n s.quantum }) s.time n (job_at s.world.table.jobs n) (job n refl) well

-- events that are no step
well-killed : (s : S) (n : ℕ) (o : Option Job) → Well s.world.requests → Well (killed s n o).state.world.requests
well-killed s n None well = well
well-killed s n (Some j) well = (well_formedness_is_kept s.world.size).by_releases s.world.requests n well

well-typed : (s : S) (line c : ℕ) → Well s.world.requests → Well (typed s line c).state.world.requests
well-typed s line c well =
    by_test (λ (m : Made). Well m.state.world.requests) (nat_le LINES line) _ _ (λ _. well)
    (λ _. by_test (λ (m : Made). Well m.state.world.requests) (c == INTERRUPT_CHARACTER) _ _ (λ _. well)
    (λ _. by_test (λ (m : Made). Well m.state.world.requests) (nat_le INPUT_RING (length (input_of s.world.lines line))) _ _ (λ _. well) (λ _. well)))

well-taken : (s : S) (line n : ℕ) → Well s.world.requests → Well (taken s line n).state.world.requests
well-taken s line n well = by_test (λ (m : Made). Well m.state.world.requests) (nat_le LINES line) _ _ (λ _. well) (λ _. well)

well-made_if : (s : S) (w : World) (r : Result (Unit {0}) JobError) → Well s.world.requests → Well w.requests → Well (made_if s w r).state.world.requests
well-made_if s w (Ok x) well after = after
well-made_if s w (Err e) well after = well

well-started : (s : S) (n : ℕ) → Well s.world.requests → Well (started s n).state.world.requests
well-started s n well =
    well-made_if s _ (standing (job_at s.world.table.jobs n)) well
    ((well_formedness_is_kept s.world.size).by_withdrawals s.world.requests (is_one n) well)

well-continued : (s : S) (n : ℕ) → Well s.world.requests → Well (continued s n).state.world.requests
well-continued s n well = well-made_if s _ (standing (job_at s.world.table.jobs n)) well well

well-admitted : (s : S) (line : ℕ) (words : List (ℕ × ℕ)) (start blocks : ℕ) (o : Option ℕ) → Well s.world.requests
    → Well (admitted s line words start blocks o).state.world.requests
well-admitted s line words start blocks None well = well
well-admitted s line words start blocks (Some n) well =
    by_test (λ (m : Made). Well m.state.world.requests) (nat_le blocks s.world.cores.free) _ _ (λ _. well) (λ _. well)

well-examined : (s : S) (line : ℕ) (words : List (ℕ × ℕ)) (start : ℕ) (o : Option ℕ) → Well s.world.requests
    → Well (examined s line words start o).state.world.requests
well-examined s line words start None well = well
well-examined s line words start (Some top) well = well-admitted s line words start (blocks_for top) (free_number s.world.table.jobs) well

well-logged_in : (s : S) (line : ℕ) (words : List (ℕ × ℕ)) (start : ℕ) → Well s.world.requests → Well (logged_in s line words start).state.world.requests
well-logged_in s line words start well =
    by_test (λ (m : Made). Well m.state.world.requests) (nat_le LINES line) _ _ (λ _. well)
    (λ _. by_test (λ (m : Made). Well m.state.world.requests) (list_any (is_at line) s.world.table.jobs) _ _ (λ _. well)
    (λ _. well-examined s line words start (image_top words start) well))

-- the job that is next has a number
number-next : (s : S) → Safe s → (n : ℕ) → next_job s.world.table s.world.lines s.world.requests ≡ Some n → is_job n ≡ true
number-next s safe n next =
    let there = ready-there s.world.lines s.world.requests n (job_at s.world.table.jobs n) (next-ready s.world.table s.world.lines s.world.requests n next) in
    let number = is_number s.world.table.jobs s.world.cores n safe.housed there in
    and_from (nat_le 1 n) (nat_le n JOBS) (le-leb 1 n number.0) (le-leb n JOBS number.1)

pub well_at_boot : (size blocks quantum : ℕ) → IsWellFormed (at_boot size blocks quantum)
well_at_boot size blocks quantum = refl

pub well_is_kept : (s : S) (e : Event) → Safe s → IsWellFormed s → IsWellFormed (happens s e).state
well_is_kept s Step safe well = well-stepped s (next_job s.world.table s.world.lines s.world.requests) (number-next s safe) well
well_is_kept s Tick safe well =
    (well_formedness_is_kept s.world.size).by_withdrawals s.world.requests
    (expires s.world.requests (ticked_table s.world.table).jobs) well
well_is_kept s (Typed line c) safe well = well-typed s line c well
well_is_kept s (Take line n) safe well = well-taken s line n well
well_is_kept s (Login line image) safe well = well-logged_in s line image.now.words.items image.now.start well
well_is_kept s (Start n) safe well = well-started s n well
well_is_kept s (Continue n) safe well = well-continued s n well
well_is_kept s (Kill n) safe well = well-killed s n (job_at s.world.table.jobs n) well
well_is_kept s Restart safe well = refl
