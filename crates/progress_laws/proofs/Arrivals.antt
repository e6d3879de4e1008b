-- Nobody comes in front of a request over events and runs.
use Rattle.std.proofs.Common.{◌≡◌, sym, subst, ℕ, zero, suc, Bool, true, false, ◌&&◌, ◌==◌, cond, nat_le, List, [], ◌∷◌, length, Option}
use Rattle.std.proofs.Common.{Some, None, is_some, Result, Ok, Err, refl, slice_set, ◌⊎◌, inl, inr, ◌++◌, ap}
use Rattle.std.specs.List.{list_any}
use Rattle.word36.specs.declared.sizes.TheConstants.{LINES, INPUT_RING}
use Rattle.word36.specs.Words.{left_half, right_half}
use Rattle.ka_cpu.specs.Exec.{exec}
use Rattle.ka_state.specs.Memory.{are_legal}
use Rattle.ka_state.specs.declared.outcome.Outcome.{Outcome}
use Rattle.ka_state.specs.declared.outcome.Outcome.TheVariants as outcome
use Rattle.ka_state.specs.declared.outcome.StopReason.TheVariants.{IllegalAddress}
use Rattle.ka_cpu.proofs.ExecLaws.{by_test}
use Rattle.core_store.specs.Cores.{Cores, core_of}
use Rattle.tty_lines.specs.Rings.{input_of}
use Rattle.lock_queue.specs.declared.call.LockCall.{LockCall}
use Rattle.lock_queue.specs.declared.refusal.Refusal.{Refusal}
use Rattle.lock_queue.specs.declared.refusal.Refusal.TheVariants.{NoFunction}
use Rattle.lock_queue.specs.declared.request.EnqueueKind.{EnqueueKind}
use Rattle.lock_queue.specs.declared.request.EnqueueKind.TheVariants.{Blocking, AtOnce, Interrupt}
use Rattle.lock_queue.specs.declared.request.Request.{Request}
use Rattle.lock_queue.specs.declared.terms.BlockUse.TheVariants as block_use
use Rattle.lock_queue.specs.declared.want.Want.{Want}
use Rattle.lock_queue.specs.Jobs.{is_one, pending}
use Rattle.call_block.specs.declared.block.Block.{Block}
use Rattle.call_block.specs.Blocks.{block_at}
use Rattle.job_sched.specs.declared.job_error.JobError.{JobError}
use Rattle.job_sched.specs.Changes.{standing, chosen, free_number, is_at, ticked_table}
use Rattle.job_sched.specs.Limits.{expires}
use Rattle.job_sched.specs.Ready.{next_job}
use Rattle.job_sched.specs.Tables.{job_at}
use Rattle.job_sched.specs.declared.job.Job.{Job}
use Rattle.uuo_calls.specs.CallState.{CallState, ac_of, stopped}
use Rattle.uuo_calls.specs.LockRows.{asked, entering, changing, naming, enq_asks, deq_asks}
use Rattle.uuo_calls.specs.Performed.{World, row_of, around, performed_by, with_around, left_by}
use Rattle.uuo_calls.specs.Services.{service_of}
use Rattle.uuo_calls.specs.declared.call.CallOutcome.{CallOutcome}
use Rattle.uuo_calls.specs.declared.call.CallOutcome.TheVariants as ending
use Rattle.uuo_calls.specs.declared.call.MonitorCall.{MonitorCall}
use Rattle.uuo_calls.specs.declared.service.Service.{Service}
use Rattle.uuo_calls.specs.declared.service.Service.TheVariants.{Reset, Core, Exit, Monrt, Logout, Mstime, Pjob, Sleep, Piini, Pisys, Debrk, Enq, Deq, Enqc}
use Rattle.uuo_calls.specs.declared.service.Service.TheVariants.{Datrd, Datwr, Input, Outchr, Outstr, Clrbfi, Clrbfo, Skpin, Unlisted}
use Rattle.machine.specs.declared.event.Answer.TheVariants.{Ran}
use Rattle.machine.specs.declared.event.Event.{Event}
use Rattle.machine.specs.declared.event.Event.TheVariants.{Step, Tick, Typed, Take, Login, Start, Continue, Kill, Restart}
use Rattle.machine.specs.declared.sizes.TheConstants.{INTERRUPT_CHARACTER}
use Rattle.machine.specs.Images.{image_top, blocks_for}
use Rattle.machine.specs.Machine.{S, Made, made_if, started, continued, with_turn, after_turn, called, awake, ran, stepped}
use Rattle.machine.specs.Machine.{killed, happens, typed, taken, admitted, examined, logged_in}
use Rattle.machine.specs.Turns.{Turn, turn_of, turned, due, concluded, delivered, done, notified_at, interrupted_at}
use Rattle.progress_laws.specs.Arrivals.{is_enq, changes_wants, job_changes_wants, next_changes_wants}
use Rattle.progress_laws.specs.Arrivals.{is_change_of_wants, LeaveOrComeOver, InFrontOver, NobodyInFrontAlong}
use Rattle.lock_laws.specs.Owning.{is_dequeue}
use Rattle.progress_laws.specs.Fronts.{IsSame, IsSameButSharing, Remains, NobodyInFront, LeaveOrCome, is_change}
use Rattle.progress_laws.specs.Thinning.{Thinned}
use Rattle.progress_laws.specs.Thinning.Thinned.{none, leaves}
use Rattle.progress_laws.proofs.Fronts.{same-then, shared-then, remains-then, stay-same, front-same, front-one, front-then, thin-shared, nobody_comes_in_front}
use Rattle.progress_laws.proofs.Thinning.{thin-then}

-- a job that is put at a place is there, or the place is not
at-set : (jobs : List (Option Job)) (n : ℕ) (j : Job) → (job_at (slice_set jobs n (Some j)) n ≡ Some j) ⊎ (job_at (slice_set jobs n (Some j)) n ≡ None)
at-set [] n j = inr refl
at-set (x ∷ jobs) zero j = inl refl
at-set (x ∷ jobs) (suc n) j = at-set jobs n j

-- what is asked for is a DEQ.
abbrev AsksDequeue : Result LockCall Refusal → Type 0
AsksDequeue (Ok call) = is_dequeue call ≡ true
AsksDequeue (Err refusal) = Unit {0}

naming-deq : (b : Result Block Refusal) → AsksDequeue (naming b)
naming-deq (Ok block) = refl
naming-deq (Err refusal) = tt

deq-asked : (regs core : List ℕ) (n w : ℕ) → AsksDequeue (deq_asks regs core n w)
deq-asked regs core n w =
    by_test AsksDequeue (left_half w == 0) _ _ (λ _. naming-deq (block_at regs core (right_half w) n block_use.Named))
    (λ _. by_test AsksDequeue (left_half w == 1) _ _ (λ _. refl)
    (λ _. by_test AsksDequeue (left_half w == 2) _ (Err NoFunction) (λ _. refl) (λ _. tt)))

-- what is asked for is no ENQ. function 3
abbrev AsksNoChange : Result LockCall Refusal → Type 0
AsksNoChange (Ok call) = is_change call ≡ false
AsksNoChange (Err refusal) = Unit {0}

entering-no : (kind : EnqueueKind) (armed : Bool) (quota : ℕ) (b : Result Block Refusal) → AsksNoChange (entering kind armed quota b)
entering-no kind armed quota (Ok block) = refl
entering-no kind armed quota (Err refusal) = tt

enq-no : (regs core : List ℕ) (n w : ℕ) (armed : Bool) (quota : ℕ) → (left_half w == 3) ≡ false → AsksNoChange (enq_asks regs core n w armed quota)
enq-no regs core n w armed quota other =
    by_test AsksNoChange (left_half w == 0) _ _ (λ _. entering-no Blocking armed quota (block_at regs core (right_half w) n block_use.Blocking))
    (λ _. by_test AsksNoChange (left_half w == 1) _ _ (λ _. entering-no AtOnce armed quota (block_at regs core (right_half w) n block_use.Full))
    (λ _. by_test AsksNoChange (left_half w == 2) _ _ (λ _. entering-no Interrupt armed quota (block_at regs core (right_half w) n block_use.Full))
    (λ _. subst (λ (b : Bool). AsksNoChange (cond b (changing (block_at regs core (right_half w) n block_use.Named)) (Err NoFunction))) (sym other) tt)))

stay : (requests : List Request) → Thinned (Remains IsSame) requests requests
stay requests = stay-same IsSame (λ w. refl) requests

thin-asked : (size : ℕ) (requests : List Request) (n : ℕ) (r : Result LockCall Refusal) → AsksDequeue r
    → Thinned (Remains IsSame) requests (asked size requests n r).requests
thin-asked size requests n (Err refusal) h = stay requests
thin-asked size requests n (Ok call) h = (nobody_comes_in_front size).by_dequeues requests n call h

-- every row of the table but that of ENQ.
thin-row : (service : Service) (time n ac e : ℕ) (a : CallState) → is_enq service ≡ false
    → Thinned (Remains IsSame) a.requests (row_of service time n ac e a).requests
thin-row Reset time n ac e a other = (nobody_comes_in_front a.size).by_releases a.requests n
thin-row Core time n ac e a other = stay a.requests
thin-row Exit time n ac e a other = (nobody_comes_in_front a.size).by_releases a.requests n
thin-row Monrt time n ac e a other = stay a.requests
thin-row Logout time n ac e a other = stay a.requests
thin-row Mstime time n ac e a other = stay a.requests
thin-row Pjob time n ac e a other = stay a.requests
thin-row Sleep time n ac e a other = stay a.requests
thin-row Piini time n ac e a other = stay a.requests
thin-row Pisys time n ac e a other = stay a.requests
thin-row Debrk time n ac e a other = stay a.requests
thin-row Enq time n ac e a other = absurd (cc)
thin-row Deq time n ac e a other =
    thin-asked a.size a.requests n (deq_asks a.job.regs.ac (core_of a.cores n) n (ac_of a.job ac))
    (deq-asked a.job.regs.ac (core_of a.cores n) n (ac_of a.job ac))
thin-row Enqc time n ac e a other = stay a.requests
thin-row Datrd time n ac e a other = stay a.requests
thin-row Datwr time n ac e a other = stay a.requests
thin-row (Input unit skips) time n ac e a other = stay a.requests
thin-row Outchr time n ac e a other = stay a.requests
thin-row Outstr time n ac e a other = stay a.requests
thin-row Clrbfi time n ac e a other = stay a.requests
thin-row Clrbfo time n ac e a other = stay a.requests
thin-row (Skpin unit) time n ac e a other = stay a.requests
thin-row Unlisted time n ac e a other = stay a.requests

thin-left : (o : CallOutcome) (w : World) (n : ℕ) → Thinned (Remains IsSame) w.requests (left_by o w n).requests
thin-left ending.Done w n = stay w.requests
thin-left ending.Empty w n = stay w.requests
thin-left ending.Gone w n = (nobody_comes_in_front w.size).by_releases w.requests n

thin-performed : (w : World) (time n : ℕ) (service : Service) (ac e : ℕ) (j : Job) → is_enq service ≡ false
    → Thinned (Remains IsSame) w.requests (performed_by w time n (Some j) service ac e).world.requests
thin-performed w time n service ac e j other =
    let a : CallState = row_of service time n ac e (around w j) in
    thin-then (Remains IsSame) (Remains IsSame) (Remains IsSame) (remains-then IsSame IsSame IsSame same-then)
    (thin-row service time n ac e (around w j) other) (thin-left a.ending (with_around w n a) n)

leave-killed : (s : S) (n : ℕ) (o : Option Job) → Thinned (Remains IsSame) s.world.requests (killed s n o).state.world.requests
leave-killed s n None = stay s.world.requests
leave-killed s n (Some j) = (nobody_comes_in_front s.world.size).by_releases s.world.requests n

leave-typed : (s : S) (line c : ℕ) → Thinned (Remains IsSame) s.world.requests (typed s line c).state.world.requests
leave-typed s line c =
    by_test (λ (m : Made). Thinned (Remains IsSame) s.world.requests m.state.world.requests) (nat_le LINES line) _ _ (λ _. stay s.world.requests)
    (λ _. by_test (λ (m : Made). Thinned (Remains IsSame) s.world.requests m.state.world.requests) (c == INTERRUPT_CHARACTER) _ _ (λ _. stay s.world.requests)
    (λ _. by_test (λ (m : Made). Thinned (Remains IsSame) s.world.requests m.state.world.requests)
    (nat_le INPUT_RING (length (input_of s.world.lines line))) _ _
    (λ _. stay s.world.requests) (λ _. stay s.world.requests)))

leave-taken : (s : S) (line n : ℕ) → Thinned (Remains IsSame) s.world.requests (taken s line n).state.world.requests
leave-taken s line n =
    by_test (λ (m : Made). Thinned (Remains IsSame) s.world.requests m.state.world.requests) (nat_le LINES line) _ _
    (λ _. stay s.world.requests) (λ _. stay s.world.requests)

leave-made_if : (s : S) (w : World) (r : Result (Unit {0}) JobError) → Thinned (Remains IsSame) s.world.requests w.requests
    → Thinned (Remains IsSame) s.world.requests (made_if s w r).state.world.requests
leave-made_if s w (Ok x) h = h
leave-made_if s w (Err e) h = stay s.world.requests

leave-started : (s : S) (n : ℕ) → Thinned (Remains IsSame) s.world.requests (started s n).state.world.requests
leave-started s n = leave-made_if s _ (standing (job_at s.world.table.jobs n)) ((nobody_comes_in_front s.world.size).by_withdrawals s.world.requests (is_one n))

leave-continued : (s : S) (n : ℕ) → Thinned (Remains IsSame) s.world.requests (continued s n).state.world.requests
leave-continued s n = leave-made_if s _ (standing (job_at s.world.table.jobs n)) (stay s.world.requests)

leave-admitted : (s : S) (line : ℕ) (words : List (ℕ × ℕ)) (start blocks : ℕ) (o : Option ℕ)
    → Thinned (Remains IsSame) s.world.requests (admitted s line words start blocks o).state.world.requests
leave-admitted s line words start blocks None = stay s.world.requests
leave-admitted s line words start blocks (Some n) =
    by_test (λ (m : Made). Thinned (Remains IsSame) s.world.requests m.state.world.requests) (nat_le blocks s.world.cores.free) _ _
    (λ _. stay s.world.requests) (λ _. stay s.world.requests)

leave-examined : (s : S) (line : ℕ) (words : List (ℕ × ℕ)) (start : ℕ) (o : Option ℕ)
    → Thinned (Remains IsSame) s.world.requests (examined s line words start o).state.world.requests
leave-examined s line words start None = stay s.world.requests
leave-examined s line words start (Some top) = leave-admitted s line words start (blocks_for top) (free_number s.world.table.jobs)

leave-logged_in : (s : S) (line : ℕ) (words : List (ℕ × ℕ)) (start : ℕ)
    → Thinned (Remains IsSame) s.world.requests (logged_in s line words start).state.world.requests
leave-logged_in s line words start =
    by_test (λ (m : Made). Thinned (Remains IsSame) s.world.requests m.state.world.requests) (nat_le LINES line) _ _ (λ _. stay s.world.requests)
    (λ _. by_test (λ (m : Made). Thinned (Remains IsSame) s.world.requests m.state.world.requests)
    (list_any (is_at line) s.world.table.jobs) _ _ (λ _. stay s.world.requests)
    (λ _. leave-examined s line words start (image_top words start)))

all-leave : (requests : List Request) → Thinned (Remains IsSame) requests []
all-leave [] = none
all-leave (r ∷ rs) = leaves (all-leave rs)

module _ (P : Want → Want → Type 0) (from : (a b : List Request) → Thinned (Remains IsSame) a b → Thinned (Remains P) a b) where
  come-same : (n : ℕ) (requests : List Request) → LeaveOrCome P n requests requests
  come-same n requests = inl (from requests requests (stay requests))

  come-performed : (w : World) (time n : ℕ) (service : Service) (ac e : ℕ) (j : Job)
      → (is_enq service ≡ true
      → LeaveOrCome P n w.requests
      (asked w.size w.requests n (enq_asks j.regs.ac (core_of w.cores n) n (ac_of j ac) (is_some j.interrupts.vector) j.quota)).requests)
      → LeaveOrCome P n w.requests (performed_by w time n (Some j) service ac e).world.requests
  come-performed w time n Reset ac e j enq = inl (from w.requests _ (thin-performed w time n Reset ac e j refl))
  come-performed w time n Core ac e j enq = inl (from w.requests _ (thin-performed w time n Core ac e j refl))
  come-performed w time n Exit ac e j enq = inl (from w.requests _ (thin-performed w time n Exit ac e j refl))
  come-performed w time n Monrt ac e j enq = inl (from w.requests _ (thin-performed w time n Monrt ac e j refl))
  come-performed w time n Logout ac e j enq = inl (from w.requests _ (thin-performed w time n Logout ac e j refl))
  come-performed w time n Mstime ac e j enq = inl (from w.requests _ (thin-performed w time n Mstime ac e j refl))
  come-performed w time n Pjob ac e j enq = inl (from w.requests _ (thin-performed w time n Pjob ac e j refl))
  come-performed w time n Sleep ac e j enq = inl (from w.requests _ (thin-performed w time n Sleep ac e j refl))
  come-performed w time n Piini ac e j enq = inl (from w.requests _ (thin-performed w time n Piini ac e j refl))
  come-performed w time n Pisys ac e j enq = inl (from w.requests _ (thin-performed w time n Pisys ac e j refl))
  come-performed w time n Debrk ac e j enq = inl (from w.requests _ (thin-performed w time n Debrk ac e j refl))
  come-performed w time n Enq ac e j enq = enq refl
  come-performed w time n Deq ac e j enq = inl (from w.requests _ (thin-performed w time n Deq ac e j refl))
  come-performed w time n Enqc ac e j enq = inl (from w.requests _ (thin-performed w time n Enqc ac e j refl))
  come-performed w time n Datrd ac e j enq = inl (from w.requests _ (thin-performed w time n Datrd ac e j refl))
  come-performed w time n Datwr ac e j enq = inl (from w.requests _ (thin-performed w time n Datwr ac e j refl))
  come-performed w time n (Input unit skips) ac e j enq = inl (from w.requests _ (thin-performed w time n (Input unit skips) ac e j refl))
  come-performed w time n Outchr ac e j enq = inl (from w.requests _ (thin-performed w time n Outchr ac e j refl))
  come-performed w time n Outstr ac e j enq = inl (from w.requests _ (thin-performed w time n Outstr ac e j refl))
  come-performed w time n Clrbfi ac e j enq = inl (from w.requests _ (thin-performed w time n Clrbfi ac e j refl))
  come-performed w time n Clrbfo ac e j enq = inl (from w.requests _ (thin-performed w time n Clrbfo ac e j refl))
  come-performed w time n (Skpin unit) ac e j enq = inl (from w.requests _ (thin-performed w time n (Skpin unit) ac e j refl))
  come-performed w time n Unlisted ac e j enq = inl (from w.requests _ (thin-performed w time n Unlisted ac e j refl))

  -- a step, where ENQ. lets nobody in front
  module _ (Allowed : Job → Option MonitorCall → Type 0)
      (enq : (size : ℕ) (requests : List Request) (cores : Cores) (n : ℕ) (j : Job) (c : MonitorCall) → Allowed j (Some c)
      → is_enq (service_of c.kind c.ac c.e) ≡ true
      → LeaveOrCome P n requests
      (asked size requests n (enq_asks j.regs.ac (core_of cores n) n (ac_of j c.ac) (is_some j.interrupts.vector) j.quota)).requests)
    where
      come-made : (w : World) (time n : ℕ) (j : Job) (service : Service) (ac e : ℕ) (o : Option Job) → (o ≡ Some j) ⊎ (o ≡ None)
          → (is_enq service ≡ true
          → LeaveOrCome P n w.requests
          (asked w.size w.requests n
          (enq_asks j.regs.ac (core_of w.cores n) n (ac_of j ac) (is_some j.interrupts.vector) j.quota)).requests)
          → LeaveOrCome P n w.requests (performed_by w time n o service ac e).world.requests
      come-made w time n j service ac e o (inl is) asks =
          subst (λ (o : Option Job). LeaveOrCome P n w.requests (performed_by w time n o service ac e).world.requests) (sym is)
          (come-performed w time n service ac e j asks)
      come-made w time n j service ac e o (inr is) asks =
          subst (λ (o : Option Job). LeaveOrCome P n w.requests (performed_by w time n o service ac e).world.requests) (sym is) (come-same n w.requests)

      come-called : (w : World) (time n : ℕ) (j : Job) (c : Option MonitorCall) → Allowed j c
          → (job_at w.table.jobs n ≡ Some j) ⊎ (job_at w.table.jobs n ≡ None)
          → LeaveOrCome P n w.requests (called w time n c).requests
      come-called w time n j None allowed is = come-same n w.requests
      come-called w time n j (Some c) allowed is =
          come-made w time n j (service_of c.kind c.ac c.e) c.ac c.e (job_at w.table.jobs n) is (enq w.size w.requests w.cores n j c allowed)

      -- the requests are the same where an instruction is executed, and no call is made where an interrupt is delivered
      come-concluded : (w : World) (time n : ℕ) (j : Job) (cores : Cores) (o : Outcome)
          → Allowed (concluded j cores w.requests o).job (concluded j cores w.requests o).call
          → LeaveOrCome P n w.requests (after_turn w time n (concluded j cores w.requests o)).requests
      come-concluded w time n j cores outcome.Done allowed = come-same n w.requests
      come-concluded w time n j cores (outcome.Stop reason) allowed = come-same n w.requests
      come-concluded w time n j cores (outcome.Call kind ac e) allowed =
          let t : Turn = concluded j cores w.requests (outcome.Call kind ac e) in
          come-called (with_turn w n t) time n t.job t.call allowed (at-set w.table.jobs n t.job)

      come-delivered : (w : World) (time n : ℕ) (j : Job) (vector id : ℕ)
          → LeaveOrCome P n w.requests (after_turn w time n (delivered n j w.cores w.requests vector id)).requests
      come-delivered w time n j vector id =
          by_test (λ (t : Turn). LeaveOrCome P n w.requests (after_turn w time n t).requests) (are_legal (core_of w.cores n) vector 4)
          (notified_at n w.cores w.requests (interrupted_at j (core_of w.cores n) vector id)) (done (stopped j IllegalAddress) w.cores w.requests)
          (λ _. inl (from w.requests _ ((nobody_comes_in_front w.size).by_notifying w.requests n))) (λ _. come-same n w.requests)

      come-turn : (w : World) (time n : ℕ) (j : Job) (o : Option (ℕ × ℕ)) → Allowed (turned n j w.cores w.requests o).job (turned n j w.cores w.requests o).call
          → LeaveOrCome P n w.requests (after_turn w time n (turned n j w.cores w.requests o)).requests
      come-turn w time n j None allowed = come-concluded w time n _ _ (exec j.regs (core_of w.cores n)).outcome allowed
      come-turn w time n j (Some x) allowed = come-delivered w time n j x.0 x.1

      come-stepped : (s : S) (n : ℕ) (o : Option Job)
          → ((j : Job) → o ≡ Some j
          → Allowed (turn_of n (awake j) s.world.cores s.world.requests).job
          (turn_of n (awake j) s.world.cores s.world.requests).call)
          → LeaveOrCome P n s.world.requests (ran (record s.world { table = chosen s.world.table n s.quantum }) s.time n o).requests
      come-stepped s n None allowed = come-same n s.world.requests
      come-stepped s n (Some j) allowed =
          come-turn (record s.world { table = chosen s.world.table n s.quantum }) s.time n (awake j)
          (due j.interrupts (pending s.world.requests n)) (allowed j refl)

shared-from : (a b : List Request) → Thinned (Remains IsSame) a b → Thinned (Remains IsSameButSharing) a b
shared-from a b t = thin-shared t

-- whatever is asked for
any-enq : (size : ℕ) (requests : List Request) (n : ℕ) (r : Result LockCall Refusal)
    → LeaveOrCome IsSameButSharing n requests (asked size requests n r).requests
any-enq size requests n (Err refusal) = come-same IsSameButSharing shared-from n requests
any-enq size requests n (Ok call) = (nobody_comes_in_front size).by_calls requests n call

-- what a step of a job does, an event does
over-step : (P : Want → Want → Type 0) (s : S) (n : ℕ) → LeaveOrCome P n s.world.requests (stepped s (Some n)).state.world.requests
    → Thinned (Remains P) s.world.requests (stepped s (Some n)).state.world.requests
    ⊎ ((r : Request) × ((stepped s (Some n)).answer ≡ Ran r.job) × ((stepped s (Some n)).state.world.requests ≡ s.world.requests ++ r ∷ []))
over-step P s n (inl t) = inl t
over-step P s n (inr h) = inr (h.0, ap Ran (sym h.1), h.2)

abbrev Over : (Want → Want → Type 0) → S → Made → Type 0
Over P s m =
    Thinned (Remains P) s.world.requests m.state.world.requests
    ⊎ ((r : Request) × (m.answer ≡ Ran r.job) × (m.state.world.requests ≡ s.world.requests ++ r ∷ []))

any-step : (s : S) (o : Option ℕ) → Over IsSameButSharing s (stepped s o)
any-step s None = inl (thin-shared (stay s.world.requests))
any-step s (Some n) =
    over-step IsSameButSharing s n
    (come-stepped IsSameButSharing shared-from (λ j c. Unit {0})
    (λ size requests cores n j c allowed is. any-enq size requests n
    (enq_asks j.regs.ac (core_of cores n) n (ac_of j c.ac) (is_some j.interrupts.vector) j.quota))
    s n (job_at s.world.table.jobs n) (λ j is. tt))

-- where no wants are changed
other-asked : (size : ℕ) (requests : List Request) (n : ℕ) (r : Result LockCall Refusal) → AsksNoChange r
    → LeaveOrCome IsSame n requests (asked size requests n r).requests
other-asked size requests n (Err refusal) h = inl (stay requests)
other-asked size requests n (Ok call) h = (nobody_comes_in_front size).by_other_calls requests n call h

other-allowed : (a b : Bool) → (a && b) ≡ false → a ≡ true → b ≡ false
other-allowed true b bare h = bare
other-allowed false b bare h = absurd (cc)

other-enq : (size : ℕ) (requests : List Request) (cores : Cores) (n : ℕ) (j : Job) (c : MonitorCall)
    → changes_wants j (Some c) ≡ false
    → is_enq (service_of c.kind c.ac c.e) ≡ true
    → LeaveOrCome IsSame n requests
    (asked size requests n (enq_asks j.regs.ac (core_of cores n) n (ac_of j c.ac) (is_some j.interrupts.vector) j.quota)).requests
other-enq size requests cores n j c bare is =
    other-asked size requests n _
    (enq-no j.regs.ac (core_of cores n) n (ac_of j c.ac) (is_some j.interrupts.vector) j.quota
    (other-allowed (is_enq (service_of c.kind c.ac c.e)) (left_half (ac_of j c.ac) == 3) bare is))

other-step : (s : S) (o : Option ℕ) → next_changes_wants s.world o ≡ false → Over IsSame s (stepped s o)
other-step s None bare = inl (stay s.world.requests)
other-step s (Some n) bare =
    over-step IsSame s n
    (come-stepped IsSame (λ a b t. t) (λ j c. changes_wants j c ≡ false) other-enq s n (job_at s.world.table.jobs n)
    (λ j is. subst (λ (o : Option Job). job_changes_wants s.world n o ≡ false) is bare))

other-event : (s : S) (e : Event) → is_change_of_wants s e ≡ false → LeaveOrComeOver IsSame s e
other-event s Step bare = other-step s (next_job s.world.table s.world.lines s.world.requests) bare
other-event s Tick bare =
    inl
    ((nobody_comes_in_front s.world.size).by_withdrawals s.world.requests
    (expires s.world.requests (ticked_table s.world.table).jobs))
other-event s (Typed line c) bare = inl (leave-typed s line c)
other-event s (Take line n) bare = inl (leave-taken s line n)
other-event s (Login line image) bare = inl (leave-logged_in s line image.now.words.items image.now.start)
other-event s (Start n) bare = inl (leave-started s n)
other-event s (Continue n) bare = inl (leave-continued s n)
other-event s (Kill n) bare = inl (leave-killed s n (job_at s.world.table.jobs n))
other-event s Restart bare = inl (all-leave s.world.requests)

shared-over : (s : S) (e : Event) → LeaveOrComeOver IsSame s e → LeaveOrComeOver IsSameButSharing s e
shared-over s e (inl t) = inl (thin-shared t)
shared-over s e (inr h) = inr h

any-event : (s : S) (e : Event) → LeaveOrComeOver IsSameButSharing s e
any-event s Step = any-step s (next_job s.world.table s.world.lines s.world.requests)
any-event s Tick = shared-over s Tick (other-event s Tick refl)
any-event s (Typed line c) = shared-over s (Typed line c) (other-event s (Typed line c) refl)
any-event s (Take line n) = shared-over s (Take line n) (other-event s (Take line n) refl)
any-event s (Login line image) = shared-over s (Login line image) (other-event s (Login line image) refl)
any-event s (Start n) = shared-over s (Start n) (other-event s (Start n) refl)
any-event s (Continue n) = shared-over s (Continue n) (other-event s (Continue n) refl)
any-event s (Kill n) = shared-over s (Kill n) (other-event s (Kill n) refl)
any-event s Restart = shared-over s Restart (other-event s Restart refl)

pub in_front_over : (s : S) (e : Event) → InFrontOver s e
in_front_over s e = record { any = any-event s e; other = other-event s e }

over-one : (s : S) (e : Event) → LeaveOrComeOver IsSameButSharing s e → NobodyInFront IsSameButSharing s.world.requests (happens s e).state.world.requests
over-one s e (inl t) = front-one IsSameButSharing (λ w. refl) 0 s.world.requests (happens s e).state.world.requests (inl t)
over-one s e (inr h) = front-one IsSameButSharing (λ w. refl) h.0.job s.world.requests (happens s e).state.world.requests (inr (h.0, refl, h.2))

pub nobody_in_front_along : (s : S) (es : List Event) → NobodyInFrontAlong s es
nobody_in_front_along s [] = front-same IsSameButSharing (λ w. refl) s.world.requests
nobody_in_front_along s (e ∷ es) =
    front-then IsSameButSharing IsSameButSharing IsSameButSharing shared-then s.world.requests (happens s e).state.world.requests _
    (over-one s e (any-event s e)) (nobody_in_front_along (happens s e).state es)
