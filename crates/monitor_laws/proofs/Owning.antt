-- Each event keeps owners but for those that give up.
use Rattle.std.proofs.Common.{◌≡◌, sym, ap, subst, ℕ, Bool, true, false, ◌==◌, nat_le, length, List, [], ◌∷◌}
use Rattle.std.proofs.Common.{Option, Some, None, is_some, Result, Ok, Err, refl}
use Rattle.std.proofs.lemmas.Bool.{both_ways}
use Rattle.word36.specs.Words.{left_half, right_half}
use Rattle.ka_cpu.specs.Exec.{exec}
use Rattle.ka_state.specs.declared.outcome.Outcome.{Outcome}
use Rattle.ka_state.specs.declared.outcome.Outcome.TheVariants as outcome
use Rattle.ka_state.specs.declared.outcome.StopReason.TheVariants.{IllegalAddress}
use Rattle.core_store.specs.Cores.{Cores, core_of}
use Rattle.lock_queue.specs.declared.call.LockCall.{LockCall}
use Rattle.lock_queue.specs.declared.key.Key.{Key}
use Rattle.lock_queue.specs.declared.refusal.Refusal.{Refusal}
use Rattle.lock_queue.specs.declared.refusal.Refusal.TheVariants.{NoFunction}
use Rattle.lock_queue.specs.declared.request.EnqueueKind.{EnqueueKind}
use Rattle.lock_queue.specs.declared.request.EnqueueKind.TheVariants.{Blocking, AtOnce, Interrupt}
use Rattle.lock_queue.specs.declared.request.Request.{Request}
use Rattle.lock_queue.specs.Jobs.{is_one, pending, withdrawn, withdrawn_where}
use Rattle.call_block.specs.declared.block.Block.{Block}
use Rattle.ka_state.specs.Memory.{are_legal, word_below, is_legal}
use Rattle.lock_queue.specs.declared.terms.BlockUse.TheVariants.{Blocking as ForWaiting, Full, Named}
use Rattle.call_block.specs.Blocks.{block_at}
use Rattle.lock_laws.specs.Owning.{owns, is_dequeue}
use Rattle.lock_laws.proofs.EveryChange.{owners_are_kept}
use Rattle.job_sched.specs.Ready.{next_job}
use Rattle.job_sched.specs.Tables.{job_at}
use Rattle.job_sched.specs.declared.job.Job.{Job}
use Rattle.uuo_calls.specs.declared.service.Awaited.{Awaited}
use Rattle.uuo_calls.specs.declared.service.Service.{Service}
use Rattle.uuo_calls.specs.declared.service.Service.TheVariants.{Reset, Core, Exit, Monrt, Logout, Mstime, Pjob, Sleep, Piini, Pisys, Debrk, Enq, Deq, Enqc}
use Rattle.uuo_calls.specs.declared.service.Service.TheVariants.{Datrd, Datwr, Input, Outchr, Outstr, Clrbfi, Clrbfo, Skpin, Unlisted}
use Rattle.uuo_calls.specs.CallState.{CallState, ac_of, stopped}
use Rattle.uuo_calls.specs.LockRows.{asked, entering, changing, enq_asks, deq_asks}
use Rattle.uuo_calls.specs.Performed.{World, row_of, around, performed_by, with_around, left_by}
use Rattle.uuo_calls.specs.declared.call.CallOutcome.{CallOutcome}
use Rattle.uuo_calls.specs.declared.call.CallOutcome.TheVariants as ending
use Rattle.uuo_calls.specs.TerminalRows.{JobLines, JobInput, put_text, low_character, text_from, input_called, has_input, stored_input, no_input}
use Rattle.tty_lines.specs.Rings.{Rings, input_of, room_of}
use Rattle.word36.specs.declared.sizes.TheConstants.{LINES, INPUT_RING, OUTPUT_RING}
use Rattle.std.specs.List.{list_any}
use Rattle.machine.specs.declared.sizes.TheConstants.{INTERRUPT_CHARACTER}
use Rattle.job_sched.specs.declared.job_error.JobError.{JobError}
use Rattle.machine.specs.Images.{image_top, blocks_for}
use Rattle.uuo_calls.specs.Services.{service_of}
use Rattle.machine.specs.declared.event.Answer.TheVariants.{Ran}
use Rattle.machine.specs.declared.event.Event.{Event}
use Rattle.machine.specs.declared.event.Event.TheVariants.{Step, Tick, Typed, Take, Login, Start, Continue, Kill, Restart}
use Rattle.uuo_calls.specs.declared.call.MonitorCall.{MonitorCall}
use Rattle.job_sched.specs.Changes.{standing, chosen, free_number, is_at, ticked_table}
use Rattle.job_sched.specs.Limits.{expires}
use Rattle.machine.specs.Machine.{S, Made, made, made_if, started, continued, with_turn, called, awake, ran, stepped}
use Rattle.machine.specs.Machine.{killed, happens, typed, taken, admitted, examined, logged_in}
use Rattle.machine.specs.Along.{Along}
use Rattle.machine.specs.Owners.{is_release, releases, turn_releases, KeepsOwners}
use Rattle.machine.specs.Turns.{Turn, turn_of, turned, due, concluded, done, notified_at, interrupted_at}
use Rattle.ka_cpu.proofs.ExecLaws.{by_test}

-- an ENQ. asks for no dequeue
abbrev AsksNoDequeue : Result LockCall Refusal → Type 0
AsksNoDequeue (Ok call) = is_dequeue call ≡ false
AsksNoDequeue (Err refusal) = Unit {0}

entering-no : (kind : EnqueueKind) (armed : Bool) (quota : ℕ) (b : Result Block Refusal) → AsksNoDequeue (entering kind armed quota b)
entering-no kind armed quota (Ok block) = refl
entering-no kind armed quota (Err refusal) = tt

changing-no : (b : Result Block Refusal) → AsksNoDequeue (changing b)
changing-no (Ok block) = refl
changing-no (Err refusal) = tt

enq-no : (regs core : List ℕ) (n w : ℕ) (armed : Bool) (quota : ℕ) → AsksNoDequeue (enq_asks regs core n w armed quota)
enq-no regs core n w armed quota =
    by_test AsksNoDequeue (left_half w == 0) _ _ (λ _. entering-no Blocking armed quota (block_at regs core (right_half w) n ForWaiting))
    (λ _. by_test AsksNoDequeue (left_half w == 1) _ _ (λ _. entering-no AtOnce armed quota (block_at regs core (right_half w) n Full))
    (λ _. by_test AsksNoDequeue (left_half w == 2) _ _ (λ _. entering-no Interrupt armed quota (block_at regs core (right_half w) n Full))
    (λ _. by_test AsksNoDequeue (left_half w == 3) (changing (block_at regs core (right_half w) n Named)) (Err NoFunction)
    (λ _. changing-no (block_at regs core (right_half w) n Named))
    (λ _. tt))))

-- a job loses a key by what it asks for
owns-asked : (size : ℕ) (requests : List Request) (n job : ℕ) (key : Key) (r : Result LockCall Refusal) → owns requests job key ≡ true
    → owns (asked size requests n r).requests job key ≡ false → n ≡ job
owns-asked size requests n job key (Err refusal) h lost = absurd (both_ways (owns requests job key) lost h)
owns-asked size requests n job key (Ok call) h lost = ((owners_are_kept size).by_calls requests n call job key h lost).1

owns-asked-no : (size : ℕ) (requests : List Request) (n job : ℕ) (key : Key) (r : Result LockCall Refusal) → AsksNoDequeue r → owns requests job key ≡ true
    → owns (asked size requests n r).requests job key ≡ false → ⊥
owns-asked-no size requests n job key (Err refusal) free h lost = both_ways (owns requests job key) lost h
owns-asked-no size requests n job key (Ok call) free h lost =
    both_ways (is_dequeue call) free ((owners_are_kept size).by_calls requests n call job key h lost).0

owns-row : (service : Service) (time n ac e job : ℕ) (key : Key) (a : CallState) → owns a.requests job key ≡ true
    → owns (row_of service time n ac e a).requests job key ≡ false → (n ≡ job) × (is_release service ≡ true)
owns-row Reset time n ac e job key a h lost = ((owners_are_kept a.size).by_releases a.requests n job key h lost, refl)
owns-row Core time n ac e job key a h lost = absurd (both_ways (owns a.requests job key) lost h)
owns-row Exit time n ac e job key a h lost = ((owners_are_kept a.size).by_releases a.requests n job key h lost, refl)
owns-row Monrt time n ac e job key a h lost = absurd (both_ways (owns a.requests job key) lost h)
owns-row Logout time n ac e job key a h lost = absurd (both_ways (owns a.requests job key) lost h)
owns-row Mstime time n ac e job key a h lost = absurd (both_ways (owns a.requests job key) lost h)
owns-row Pjob time n ac e job key a h lost = absurd (both_ways (owns a.requests job key) lost h)
owns-row Sleep time n ac e job key a h lost = absurd (both_ways (owns a.requests job key) lost h)
owns-row Piini time n ac e job key a h lost = absurd (both_ways (owns a.requests job key) lost h)
owns-row Pisys time n ac e job key a h lost = absurd (both_ways (owns a.requests job key) lost h)
owns-row Debrk time n ac e job key a h lost = absurd (both_ways (owns a.requests job key) lost h)
owns-row Enq time n ac e job key a h lost =
    let r : Result LockCall Refusal = enq_asks a.job.regs.ac (core_of a.cores n) n (ac_of a.job ac) (is_some a.job.interrupts.vector) a.job.quota in
    absurd
    (owns-asked-no a.size a.requests n job key r
    (enq-no a.job.regs.ac (core_of a.cores n) n (ac_of a.job ac) (is_some a.job.interrupts.vector) a.job.quota) h lost)
owns-row Deq time n ac e job key a h lost =
    (owns-asked a.size a.requests n job key (deq_asks a.job.regs.ac (core_of a.cores n) n (ac_of a.job ac)) h lost, refl)
owns-row Enqc time n ac e job key a h lost = absurd (both_ways (owns a.requests job key) lost h)
owns-row Datrd time n ac e job key a h lost = absurd (both_ways (owns a.requests job key) lost h)
owns-row Datwr time n ac e job key a h lost = absurd (both_ways (owns a.requests job key) lost h)
owns-row (Input unit skips) time n ac e job key a h lost = absurd (both_ways (owns a.requests job key) lost h)
owns-row Outchr time n ac e job key a h lost = absurd (both_ways (owns a.requests job key) lost h)
owns-row Outstr time n ac e job key a h lost = absurd (both_ways (owns a.requests job key) lost h)
owns-row Clrbfi time n ac e job key a h lost = absurd (both_ways (owns a.requests job key) lost h)
owns-row Clrbfo time n ac e job key a h lost = absurd (both_ways (owns a.requests job key) lost h)
owns-row (Skpin unit) time n ac e job key a h lost = absurd (both_ways (owns a.requests job key) lost h)
owns-row Unlisted time n ac e job key a h lost = absurd (both_ways (owns a.requests job key) lost h)

-- a call that takes its job away
abbrev leaves : CallOutcome → Bool
leaves ending.Done = false
leaves ending.Empty = false
leaves ending.Gone = true

-- only LOGOUT is such a call
record Ends (service : Service) (o : CallOutcome) : Type 0 where
  releases : leaves o ≡ true → is_release service ≡ true

ends-put : (o : Option (List ℕ)) (j : Job) (lines : List Rings) → leaves (put_text o j lines).ending ≡ false
ends-put None j lines = refl
ends-put (Some text) j lines = by_test (λ (o : JobLines). leaves o.ending ≡ false) (nat_le (length text) (room_of lines j.line)) _ _ (λ _. refl) (λ _. refl)

ends-no_input : (unit : Awaited) (skips : Bool) (core : List ℕ) (j : Job) (lines : List Rings) → leaves (no_input unit skips core j lines).ending ≡ false
ends-no_input unit true core j lines = refl
ends-no_input unit false core j lines = refl

ends-input : (unit : Awaited) (skips : Bool) (e : ℕ) (core : List ℕ) (j : Job) (lines : List Rings)
    → leaves (input_called unit skips e core j lines).ending ≡ false
ends-input unit skips e core j lines =
    by_test (λ (o : JobInput). leaves o.ending ≡ false) (is_legal core e) _ _
    (λ _. by_test (λ (o : JobInput). leaves o.ending ≡ false) (has_input unit (input_of lines j.line))
    (stored_input skips e core j lines) (no_input unit skips core j lines)
    (λ _. refl) (λ _. ends-no_input unit skips core j lines))
    (λ _. refl)

ends-row : (service : Service) (time n ac e : ℕ) (a : CallState) → leaves a.ending ≡ false
    → leaves (row_of service time n ac e a).ending ≡ true
    → is_release service ≡ true
ends-row Reset time n ac e a d h = refl
ends-row Core time n ac e a d h = absurd (both_ways _ d h)
ends-row Exit time n ac e a d h = refl
ends-row Monrt time n ac e a d h = absurd (both_ways _ d h)
ends-row Logout time n ac e a d h = refl
ends-row Mstime time n ac e a d h = absurd (both_ways _ d h)
ends-row Pjob time n ac e a d h = absurd (both_ways _ d h)
ends-row Sleep time n ac e a d h = absurd (both_ways _ d h)
ends-row Piini time n ac e a d h = absurd (both_ways _ d h)
ends-row Pisys time n ac e a d h = absurd (both_ways _ d h)
ends-row Debrk time n ac e a d h = absurd (both_ways _ d h)
ends-row Enq time n ac e a d h = absurd (both_ways _ d h)
ends-row Deq time n ac e a d h = refl
ends-row Enqc time n ac e a d h = absurd (both_ways _ d h)
ends-row Datrd time n ac e a d h = absurd (both_ways _ d h)
ends-row Datwr time n ac e a d h = absurd (both_ways _ d h)
ends-row (Input unit skips) time n ac e a d h = absurd (both_ways _ (ends-input unit skips e (core_of a.cores n) a.job a.lines) h)
ends-row Outchr time n ac e a d h = absurd (both_ways _ (ends-put (low_character (word_below a.job.regs.ac (core_of a.cores n) e)) a.job a.lines) h)
ends-row Outstr time n ac e a d h = absurd (both_ways _ (ends-put (text_from a.job.regs.ac (core_of a.cores n) e [] OUTPUT_RING) a.job a.lines) h)
ends-row Clrbfi time n ac e a d h = absurd (both_ways _ d h)
ends-row Clrbfo time n ac e a d h = absurd (both_ways _ d h)
ends-row (Skpin unit) time n ac e a d h = absurd (both_ways _ d h)
ends-row Unlisted time n ac e a d h = absurd (both_ways _ d h)

owns-left : (o : CallOutcome) (w : World) (n job : ℕ) (key : Key) → owns w.requests job key ≡ true → owns (left_by o w n).requests job key ≡ false
    → (n ≡ job) × (leaves o ≡ true)
owns-left ending.Done w n job key h lost = absurd (both_ways (owns w.requests job key) lost h)
owns-left ending.Empty w n job key h lost = absurd (both_ways (owns w.requests job key) lost h)
owns-left ending.Gone w n job key h lost = ((owners_are_kept w.size).by_releases w.requests n job key h lost, refl)

owns-performed : (w : World) (time n : ℕ) (o : Option Job) (service : Service) (ac e job : ℕ) (key : Key) → owns w.requests job key ≡ true
    → owns (performed_by w time n o service ac e).world.requests job key ≡ false → (n ≡ job) × (is_release service ≡ true)
owns-performed w time n None service ac e job key h lost = absurd (both_ways (owns w.requests job key) lost h)
owns-performed w time n (Some j) service ac e job key h lost = go (owns a.requests job key) refl
  where
    a : CallState
    a = row_of service time n ac e (around w j)

    go : (b : Bool) → owns a.requests job key ≡ b → (n ≡ job) × (is_release service ≡ true)
    go false is = owns-row service time n ac e job key (around w j) h is
    go true is =
        let l = owns-left a.ending (with_around w n a) n job key is lost in
        (l.0, ends-row service time n ac e (around w j) refl l.1)

owns-called : (w : World) (time n : ℕ) (c : Option MonitorCall) (job : ℕ) (key : Key) → owns w.requests job key ≡ true
    → owns (called w time n c).requests job key ≡ false → (n ≡ job) × (releases c ≡ true)
owns-called w time n None job key h lost = absurd (both_ways (owns w.requests job key) lost h)
owns-called w time n (Some c) job key h lost = owns-performed w time n (job_at w.table.jobs n) (service_of c.kind c.ac c.e) c.ac c.e job key h lost

-- a turn takes no grant away
same-concluded : (j : Job) (cores : Cores) (requests : List Request) (o : Outcome) → (concluded j cores requests o).requests ≡ requests
same-concluded j cores requests outcome.Done = refl
same-concluded j cores requests (outcome.Stop reason) = refl
same-concluded j cores requests (outcome.Call kind ac e) = refl

owns-turned : (n : ℕ) (j : Job) (cores : Cores) (requests : List Request) (o : Option (ℕ × ℕ)) (job : ℕ) (key : Key) → owns requests job key ≡ true
    → owns (turned n j cores requests o).requests job key ≡ true
owns-turned n j cores requests None job key h =
    subst (λ l. owns l job key ≡ true) (sym (same-concluded _ _ requests (exec j.regs (core_of cores n)).outcome)) h
owns-turned n j cores requests (Some x) job key h =
    by_test (λ (t : Turn). owns t.requests job key ≡ true) (are_legal (core_of cores n) x.0 4)
    (notified_at n cores requests (interrupted_at j (core_of cores n) x.0 x.1)) (done (stopped j IllegalAddress) cores requests)
    (λ _. (owners_are_kept 0).by_notifying requests n job key h)
    (λ _. h)

owns-ran : (w : World) (time n : ℕ) (o : Option Job) (job : ℕ) (key : Key) → owns w.requests job key ≡ true
    → owns (ran w time n o).requests job key ≡ false → (n ≡ job) × (turn_releases w n o ≡ true)
owns-ran w time n None job key h lost = absurd (both_ways (owns w.requests job key) lost h)
owns-ran w time n (Some j) job key h lost =
    let t : Turn = turn_of n (awake j) w.cores w.requests in
    owns-called (with_turn w n t) time n t.call job key (owns-turned n (awake j) w.cores w.requests (due j.interrupts (pending w.requests n)) job key h) lost

owns-stepped : (s : S) (o : Option ℕ) (job : ℕ) (key : Key) → owns s.world.requests job key ≡ true
    → owns (stepped s o).state.world.requests job key ≡ false
    → ((stepped s o).answer ≡ Ran job) × (turn_releases s.world job (job_at s.world.table.jobs job) ≡ true)
owns-stepped s None job key h lost = absurd (both_ways (owns s.world.requests job key) lost h)
owns-stepped s (Some n) job key h lost =
    let r = owns-ran (record s.world { table = chosen s.world.table n s.quantum }) s.time n (job_at s.world.table.jobs n) job key h lost in
    let at : turn_releases s.world n (job_at s.world.table.jobs n) ≡ true = same-releases s n (job_at s.world.table.jobs n) r.1 in
    (ap Ran r.0, subst (λ m. turn_releases s.world m (job_at s.world.table.jobs m) ≡ true) r.0 at)
  where
    same-releases : (s : S) (n : ℕ) (o : Option Job) → turn_releases (record s.world { table = chosen s.world.table n s.quantum }) n o ≡ true
        → turn_releases s.world n o ≡ true
    same-releases s n None h = h
    same-releases s n (Some j) h = h

owns-killed : (s : S) (n : ℕ) (o : Option Job) (job : ℕ) (key : Key) → owns s.world.requests job key ≡ true
    → owns (killed s n o).state.world.requests job key ≡ false → n ≡ job
owns-killed s n None job key h lost = absurd (both_ways (owns s.world.requests job key) lost h)
owns-killed s n (Some j) job key h lost = (owners_are_kept s.world.size).by_releases s.world.requests n job key h lost

-- events that give up nothing
abbrev Loses : S → ℕ → Key → Made → Type 0
Loses s job key m = owns s.world.requests job key ≡ true → owns m.state.world.requests job key ≡ false → ⊥

nothing : (s : S) (job : ℕ) (key : Key) → owns s.world.requests job key ≡ true → owns s.world.requests job key ≡ false → ⊥
nothing s job key h lost = both_ways (owns s.world.requests job key) lost h

same-typed : (s : S) (line c job : ℕ) (key : Key) → Loses s job key (typed s line c)
same-typed s line c job key =
    by_test (Loses s job key) (nat_le LINES line) _ _ (λ _. nothing s job key)
    (λ _. by_test (Loses s job key) (c == INTERRUPT_CHARACTER) _ _ (λ _. nothing s job key)
    (λ _. by_test (Loses s job key) (nat_le INPUT_RING (length (input_of s.world.lines line))) _ _ (λ _. nothing s job key) (λ _. nothing s job key)))

same-taken : (s : S) (line n job : ℕ) (key : Key) → Loses s job key (taken s line n)
same-taken s line n job key = by_test (Loses s job key) (nat_le LINES line) _ _ (λ _. nothing s job key) (λ _. nothing s job key)

same-admitted : (s : S) (line : ℕ) (ws : List (ℕ × ℕ)) (start blocks : ℕ) (o : Option ℕ) (job : ℕ) (key : Key)
    → Loses s job key (admitted s line ws start blocks o)
same-admitted s line ws start blocks None job key = nothing s job key
same-admitted s line ws start blocks (Some n) job key =
    by_test (Loses s job key) (nat_le blocks s.world.cores.free) _ _ (λ _. nothing s job key) (λ _. nothing s job key)

same-examined : (s : S) (line : ℕ) (ws : List (ℕ × ℕ)) (start : ℕ) (o : Option ℕ) (job : ℕ) (key : Key) → Loses s job key (examined s line ws start o)
same-examined s line ws start None job key = nothing s job key
same-examined s line ws start (Some top) job key = same-admitted s line ws start (blocks_for top) (free_number s.world.table.jobs) job key

same-login : (s : S) (line : ℕ) (ws : List (ℕ × ℕ)) (start job : ℕ) (key : Key) → Loses s job key (logged_in s line ws start)
same-login s line ws start job key =
    by_test (Loses s job key) (nat_le LINES line) _ _ (λ _. nothing s job key)
    (λ _. by_test (Loses s job key) (list_any (is_at line) s.world.table.jobs) _ _ (λ _. nothing s job key)
    (λ _. same-examined s line ws start (image_top ws start) job key))

same-made_if : (s : S) (w : World) (r : Result (Unit {0}) JobError) (job : ℕ) (key : Key) → Loses s job key (made s w) → Loses s job key (made_if s w r)
same-made_if s w (Ok x) job key same = same
same-made_if s w (Err e) job key same = nothing s job key

same-started : (s : S) (n job : ℕ) (key : Key) → Loses s job key (started s n)
same-started s n job key =
    same-made_if s _ (standing (job_at s.world.table.jobs n)) job key
    (λ h lost. both_ways (owns (withdrawn s.world.requests n) job key) lost
    ((owners_are_kept s.world.size).by_withdrawals s.world.requests (is_one n) job key h))

same-continued : (s : S) (n job : ℕ) (key : Key) → Loses s job key (continued s n)
same-continued s n job key = same-made_if s _ (standing (job_at s.world.table.jobs n)) job key (nothing s job key)

pub keeps_owners : (s : S) (e : Event) → KeepsOwners s e
keeps_owners s Step job key h lost = owns-stepped s (next_job s.world.table s.world.lines s.world.requests) job key h lost
keeps_owners s Tick job key h lost =
    let gone : ℕ → Bool = expires s.world.requests (ticked_table s.world.table).jobs in
    both_ways (owns (withdrawn_where s.world.requests gone) job key) lost ((owners_are_kept s.world.size).by_withdrawals s.world.requests gone job key h)
keeps_owners s (Typed line c) job key h lost = same-typed s line c job key h lost
keeps_owners s (Take line n) job key h lost = same-taken s line n job key h lost
keeps_owners s (Login line image) job key h lost = same-login s line image.now.words.items image.now.start job key h lost
keeps_owners s (Start n) job key h lost = same-started s n job key h lost
keeps_owners s (Continue n) job key h lost = same-continued s n job key h lost
keeps_owners s Restart job key h lost = tt
keeps_owners s (Kill n) job key h lost = owns-killed s n (job_at s.world.table.jobs n) job key h lost

pub along_owners : (s : S) (es : List Event) → Along KeepsOwners s es
along_owners s [] = tt
along_owners s (e ∷ es) = (keeps_owners s e, along_owners (happens s e).state es)
