-- Every call and every turn leaves the numbers of a job in their ranges.
use Rattle.std.proofs.Common.{◌≡◌, ◌<◌, ◌∙◌, ℕ, zero, suc, ◌+◌, ◌-◌, ◌%◌, ◌^◌, nat_le, nat_lt, ◌==◌, ◌&&◌, Bool, true, false, is_none, is_some}
use Rattle.std.proofs.Common.{List, [], ◌∷◌, length, map, Option, Some, None, Result, Ok, Err, refl, arith, slice_index, slice_set, subst, sym}
use Rattle.std.proofs.lemmas.List.{length-set}
use Rattle.word36.specs.declared.sizes.TheConstants.{DATA_WORDS, OUTPUT_RING}
use Rattle.std.specs.Option.{option_map}
use Rattle.word36.specs.Words.{right_half}
use Rattle.ka_cpu.specs.Effects.{EndsAs}
use Rattle.ka_cpu.specs.Exec.{exec}
use Rattle.ka_state.specs.Registers.{pc_word}
use Rattle.ka_state.specs.Memory.{ac_with, is_legal, are_legal, word_below}
use Rattle.ka_state.specs.declared.outcome.Outcome.{Outcome}
use Rattle.ka_state.specs.declared.outcome.Outcome.TheVariants as outcome
use Rattle.ka_state.specs.declared.outcome.StopReason.TheVariants.{IllegalAddress}
use Rattle.ka_state.specs.declared.registers.Regs.{Regs}
use Rattle.core_store.specs.Cores.{Cores, core_of}
use Rattle.lock_queue.specs.declared.call.LockReply.{LockReply}
use Rattle.lock_queue.specs.declared.call.LockReply.TheVariants.{Granted, Queued, Done as DoneReply, Refused}
use Rattle.lock_queue.specs.declared.refusal.Refusal.{Refusal}
use Rattle.lock_queue.specs.declared.request.Request.{Request}
use Rattle.lock_queue.specs.declared.want.Want.{Want}
use Rattle.tty_lines.specs.Rings.{Rings, input_of, room_of}
use Rattle.lock_queue.specs.Jobs.{is_waiting_job}
use Rattle.lock_queue.specs.Refusals.{code_of}
use Rattle.lock_queue.specs.declared.refusal.Refusal.TheVariants.{TimedOut}
use Rattle.job_sched.specs.Limits.{at_error_return, limited_by, limited_job, limited_table}
use Rattle.job_sched.specs.Tables.{Table, job_at}
use Rattle.job_sched.proofs.Limits.{job-limited, limited-kept}
use Rattle.job_sched.specs.declared.job.Job.{Job}
use Rattle.job_sched.specs.declared.job.Wait.{Wait}
use Rattle.job_sched.specs.declared.job.Wait.TheVariants.{None as Nothing, Sleep as Asleep, Char, Line, Room, Queue}
use Rattle.uuo_calls.specs.declared.call.MonitorCall.{MonitorCall}
use Rattle.uuo_calls.specs.declared.service.Awaited.{Awaited}
use Rattle.uuo_calls.specs.declared.service.Awaited.TheVariants as awaited
use Rattle.uuo_calls.specs.declared.service.Service.{Service}
use Rattle.uuo_calls.specs.declared.service.Service.TheVariants.{Reset, Core, Exit, Monrt, Logout, Mstime, Pjob, Sleep, Piini, Pisys, Debrk, Enq, Deq, Enqc}
use Rattle.uuo_calls.specs.declared.service.Service.TheVariants.{Datrd, Datwr, Input, Outchr, Outstr, Clrbfi, Clrbfo, Skpin, Unlisted}
use Rattle.uuo_calls.specs.CallState.{CallState, ac_of, put_back, skipping, stopped, waiting, with_ac}
use Rattle.uuo_calls.specs.CoreRow.{JobCores, grown, blocks_asked, core_done}
use Rattle.uuo_calls.specs.DataRows.{JobData}
use Rattle.uuo_calls.specs.InterruptRows.{dismissed, dismissed_at, vector_in_progress}
use Rattle.uuo_calls.specs.JobRows.{ticks_of}
use Rattle.uuo_calls.specs.LockRows.{asked, answered, enq_asks, enq_limit, deq_asks}
use Rattle.uuo_calls.specs.Performed.{row_of}
use Rattle.uuo_calls.specs.StatusRow.{Memory, stored, stored_at, stored_or_refused, status_words, answers_at, with_room, enqc_asks}
use Rattle.uuo_calls.specs.TerminalRows.{JobLines, JobInput, put_text, low_character, text_from, input_called, has_input, stored_input, no_input}
use Rattle.uuo_calls.specs.TerminalRows.{first_of, input_wait, skipping_if}
use Rattle.job_sched.specs.Jobs.{ticked_job, ticked_wait, broken_job}
use Rattle.machine.specs.Machine.{awake}
use Rattle.machine.specs.Safe.{HasAccumulator, InRange}
use Rattle.machine.specs.Turns.{Turn, turned, concluded, noted, notified_at, interrupted_at, done}
use Rattle.ka_cpu.proofs.ExecLaws.{by_test, ends-exec, pc-exec, registers-exec}
use Rattle.monitor_laws.proofs.Enquiring.{by_enqc}

-- the numbers of a job that is there
abbrev pub Fits : Job → Type 0
Fits j = InRange (Some j)

pub ranges-set : (jobs : List (Option Job)) (n : ℕ) (o : Option Job) → InRange o → ((k : ℕ) → InRange (job_at jobs k)) → (k : ℕ)
    → InRange (job_at (slice_set jobs n o) k)
ranges-set [] n o f p k = p k
ranges-set (x ∷ jobs) zero o f p zero = f
ranges-set (x ∷ jobs) zero o f p (suc k) = p (suc k)
ranges-set (x ∷ jobs) (suc n) o f p zero = p zero
ranges-set (x ∷ jobs) (suc n) o f p (suc k) = ranges-set jobs n o f (λ i. p (suc i)) k

pub ranges-map : (change : Option Job → Option Job) (jobs : List (Option Job)) → ((o : Option Job) → InRange o → InRange (change o))
    → ((k : ℕ) → InRange (job_at jobs k)) → (k : ℕ) → InRange (job_at (map change jobs) k)
ranges-map change [] keeps p k = p k
ranges-map change (x ∷ jobs) keeps p zero = keeps x (p zero)
ranges-map change (x ∷ jobs) keeps p (suc k) = ranges-map change jobs keeps (λ i. p (suc i)) k

below : (n : ℕ) → n % 2 ^ 18 < 2 ^ 18
below n = omega arith

-- another word in an accumulator, and other accumulators
pub length-ac_with : (ac : List ℕ) (a w : ℕ) → length (ac_with ac a w) ≡ length ac
length-ac_with ac a w = by_test (λ (l : List ℕ). length l ≡ length ac) (nat_lt a 16) _ _ (λ _. length-set ac a w) (λ _. refl)

fits-accumulators : (j : Job) (ac : List ℕ) → length ac ≡ length j.regs.ac → Fits j → Fits (record j { regs = record j.regs { ac = ac } })
fits-accumulators j ac same h = (h.0, h.1, same ∙ h.2, h.3)

fits-ac : (j : Job) (k w : ℕ) → Fits j → Fits (with_ac j k w)
fits-ac j k w h = fits-accumulators j _ (length-set j.regs.ac k w) h

-- another wait
fits-wait : (j : Job) (wait : Wait) → HasAccumulator wait → Fits j → Fits (waiting j wait)
fits-wait j wait has h = (h.0, h.1, h.2, has)

pub fits-awake : (j : Job) → Fits j → Fits (awake j)
fits-awake j h = fits-wait j Nothing tt h

-- a skip
fits-skip : (j : Job) → Fits j → Fits (skipping j)
fits-skip j h = (below _, h.1, h.2, h.3)

fits-done : (ac : ℕ) (o : Option Cores) (j : Job) (cores : Cores) → Fits j → Fits (core_done ac o j cores).job
fits-done ac None j cores h = fits-ac j ac _ h
fits-done ac (Some new) j cores h = fits-ac (skipping j) ac _ (below _, h.1, h.2, h.3)

fits-answered : (j : Job) (ac limit : ℕ) (r : LockReply) → ac < 16 → Fits j → Fits (answered j ac limit r)
fits-answered j ac limit Granted low h = (below _, h.1, h.2, h.3)
fits-answered j ac limit Queued low h = fits-wait (skipping j) (Queue limit ac) low (below _, h.1, h.2, h.3)
fits-answered j ac limit DoneReply low h = (below _, h.1, h.2, h.3)
fits-answered j ac limit (Refused refusal) low h = fits-ac j ac _ h

registers-stored : (p : Memory) (a : ℕ) (ws : List ℕ) → length (stored p a ws).regs.ac ≡ length p.regs.ac
registers-stored p a [] = refl
registers-stored p a (w ∷ ws) = registers-stored (stored_at p a w) (a + 1) ws ∙ length-ac_with p.regs.ac a w

fits-told : (requests : List Request) (n ac to : ℕ) (j : Job) (core : List ℕ) (r : Result (List Want) Refusal) → Fits j
    → Fits (stored_or_refused requests n ac to j core r).job
fits-told requests n ac to j core (Err refusal) h = fits-ac j ac _ h
fits-told requests n ac to j core (Ok wants) h =
    (below _, h.1, registers-stored (record { regs = j.regs; core = core }) to (status_words requests n wants) ∙ h.2, h.3)

fits-dismissed : (j : Job) (o : Option ℕ) → Fits j → Fits (dismissed j o)
fits-dismissed j None h = (below _, h.1, h.2, h.3)
fits-dismissed j (Some w) h = (below _, h.1, h.2, h.3)

fits-dismissed_at : (core : List ℕ) (j : Job) (o : Option ℕ) → Fits j → Fits (dismissed_at core j o)
fits-dismissed_at core j None h = h
fits-dismissed_at core j (Some vector) h = fits-dismissed j _ h

fits-skipping : (b : Bool) (j : Job) → Fits j → Fits (skipping_if b j)
fits-skipping true j h = (below _, h.1, h.2, h.3)
fits-skipping false j h = h

fits-put : (o : Option (List ℕ)) (j : Job) (lines : List Rings) → Fits j → Fits (put_text o j lines).job
fits-put None j lines h = (below _, h.1, h.2, h.3)
fits-put (Some text) j lines h =
    by_test (λ (p : JobLines). Fits p.job) (nat_le (length text) (room_of lines j.line)) _ _ (λ _. h)
    (λ _. fits-wait (put_back j) (Room (length text)) tt (below _, h.1, h.2, h.3))

-- a wait for input has no accumulator
no-accumulator : (unit : Awaited) → HasAccumulator (input_wait unit)
no-accumulator awaited.Character = tt
no-accumulator awaited.Line = tt

fits-no_input : (unit : Awaited) (skips : Bool) (core : List ℕ) (j : Job) (lines : List Rings) → Fits j → Fits (no_input unit skips core j lines).job
fits-no_input unit true core j lines h = h
fits-no_input unit false core j lines h = fits-wait (put_back j) (input_wait unit) (no-accumulator unit) (below _, h.1, h.2, h.3)

fits-input : (unit : Awaited) (skips : Bool) (e : ℕ) (core : List ℕ) (j : Job) (lines : List Rings) → Fits j → Fits (input_called unit skips e core j lines).job
fits-input unit skips e core j lines h =
    by_test (λ (o : JobInput). Fits o.job) (is_legal core e) _ _
    (λ _. by_test (λ (o : JobInput). Fits o.job) (has_input unit (input_of lines j.line)) (stored_input skips e core j lines) (no_input unit skips core j lines)
    (λ _. fits-skipping skips _ (fits-accumulators j _ (length-ac_with j.regs.ac e (first_of (input_of lines j.line))) h))
    (λ _. fits-no_input unit skips core j lines h))
    (λ _. (below _, h.1, h.2, h.3))

pub fits-row : (service : Service) (time n ac e : ℕ) (a : CallState) → ac < 16 → Fits a.job → Fits (row_of service time n ac e a).job
fits-row Reset time n ac e a low h = h
fits-row Core time n ac e a low h = fits-done ac (grown a.cores n (blocks_asked (ac_of a.job ac))) a.job a.cores h
fits-row Exit time n ac e a low h = h
fits-row Monrt time n ac e a low h = h
fits-row Logout time n ac e a low h = h
fits-row Mstime time n ac e a low h = fits-ac a.job ac _ h
fits-row Pjob time n ac e a low h = fits-ac a.job ac n h
fits-row Sleep time n ac e a low h = fits-wait a.job (Asleep (ticks_of (right_half (ac_of a.job ac)))) tt h
fits-row Piini time n ac e a low h = by_test Fits (are_legal (core_of a.cores n) (right_half (ac_of a.job ac)) 4) _ _ (λ _. (below _, h.1, h.2, h.3)) (λ _. fits-ac a.job ac 1 h)
fits-row Pisys time n ac e a low h =
    by_test Fits (nat_le 2 (ac_of a.job ac)) _ _ (λ _. fits-ac a.job ac 1 h)
    (λ _. by_test Fits (is_none a.job.interrupts.vector) _ _ (λ _. fits-ac a.job ac 2 h) (λ _. (below _, h.1, h.2, h.3)))
fits-row Debrk time n ac e a low h =
    fits-dismissed_at (core_of a.cores n) a.job (vector_in_progress a.job.interrupts) h
fits-row Enq time n ac e a low h =
    fits-answered a.job ac (enq_limit a.job.regs.ac (core_of a.cores n) n (ac_of a.job ac))
    (asked a.size a.requests n (enq_asks a.job.regs.ac (core_of a.cores n) n (ac_of a.job ac) (is_some a.job.interrupts.vector) a.job.quota)).reply low h
fits-row Deq time n ac e a low h = fits-answered a.job ac 0 (asked a.size a.requests n (deq_asks a.job.regs.ac (core_of a.cores n) n (ac_of a.job ac))).reply low h
fits-row Enqc time n ac e a low h =
    by_enqc (λ (o : JobCores). Fits o.job) a.jobs a.requests n ac a.job a.cores
    (λ w. fits-skip (with_ac a.job ac w) (fits-ac a.job ac w h)) (λ code. fits-ac a.job ac code h) (λ quota. (below _, h.1, h.2, h.3))
    (fits-told a.requests n ac (answers_at a.job ac) a.job (core_of a.cores n)
    (with_room (core_of a.cores n) (answers_at a.job ac) (enqc_asks a.job.regs.ac (core_of a.cores n) n (ac_of a.job ac))) h)
fits-row Datrd time n ac e a low h =
    let word : ℕ = slice_index a.shared (right_half (ac_of a.job ac)) in
    by_test Fits (nat_lt (right_half (ac_of a.job ac)) DATA_WORDS) _ _
    (λ _. fits-skip (with_ac a.job ac word) (fits-ac a.job ac word h)) (λ _. fits-ac a.job ac 1 h)
fits-row Datwr time n ac e a low h =
    by_test (λ (o : JobData). Fits o.job) (nat_lt (right_half (ac_of a.job ac)) DATA_WORDS) _ _
    (λ _. (below _, h.1, h.2, h.3)) (λ _. fits-ac a.job ac 1 h)
fits-row (Input unit skips) time n ac e a low h = fits-input unit skips e (core_of a.cores n) a.job a.lines h
fits-row Outchr time n ac e a low h = fits-put (low_character (word_below a.job.regs.ac (core_of a.cores n) e)) a.job a.lines h
fits-row Outstr time n ac e a low h = fits-put (text_from a.job.regs.ac (core_of a.cores n) e [] OUTPUT_RING) a.job a.lines h
fits-row Clrbfi time n ac e a low h = h
fits-row Clrbfo time n ac e a low h = h
fits-row (Skpin unit) time n ac e a low h = fits-skipping (has_input unit (input_of a.lines a.job.line)) a.job h
fits-row Unlisted time n ac e a low h = (below _, h.1, h.2, h.3)

-- a turn
registers-noted : (g : Regs) (core : List ℕ) (vector id : ℕ) → length (noted g core vector id).regs.ac ≡ length g.ac
registers-noted g core vector id =
    length-ac_with (ac_with g.ac (vector + 1) (pc_word g.flags g.pc)) (vector + 3) id ∙ length-ac_with g.ac (vector + 1) (pc_word g.flags g.pc)

fits-concluded : (j : Job) (cores : Cores) (requests : List Request) (o : Outcome) → Fits j → Fits (concluded j cores requests o).job
fits-concluded j cores requests outcome.Done h = h
fits-concluded j cores requests (outcome.Stop reason) h = h
fits-concluded j cores requests (outcome.Call kind ac e) h = h

pub fits-turned : (n : ℕ) (j : Job) (cores : Cores) (requests : List Request) (o : Option (ℕ × ℕ)) → Fits j → Fits (turned n j cores requests o).job
fits-turned n j cores requests None h =
    fits-concluded _ _ requests (exec j.regs (core_of cores n)).outcome
    (pc-exec j.regs (core_of cores n) h.0, h.1, registers-exec j.regs (core_of cores n) ∙ h.2, h.3)
fits-turned n j cores requests (Some x) h =
    by_test (λ (t : Turn). Fits t.job) (are_legal (core_of cores n) x.0 4)
    (notified_at n cores requests (interrupted_at j (core_of cores n) x.0 x.1)) (done (stopped j IllegalAddress) cores requests)
    (λ _. (below _, h.1, registers-noted j.regs (core_of cores n) x.0 x.1 ∙ h.2, h.3)) (λ _. h)

-- the call that a turn makes has one of the accumulators
abbrev pub CallInRange : Option MonitorCall → Type 0
CallInRange (Some c) = c.ac < 16
CallInRange None = Unit {0}

call-concluded : (j : Job) (cores : Cores) (requests : List Request) (o : Outcome) (g h : Regs) (core rest : List ℕ) → EndsAs o g core h rest
    → CallInRange (concluded j cores requests o).call
call-concluded j cores requests outcome.Done g h core rest ends = tt
call-concluded j cores requests (outcome.Stop reason) g h core rest ends = tt
call-concluded j cores requests (outcome.Call kind ac e) g h core rest ends = ends.0

pub call-turned : (n : ℕ) (j : Job) (cores : Cores) (requests : List Request) (o : Option (ℕ × ℕ)) → CallInRange (turned n j cores requests o).call
call-turned n j cores requests None =
    let core = core_of cores n in
    call-concluded _ _ requests (exec j.regs core).outcome j.regs (exec j.regs core).regs core (exec j.regs core).core (ends-exec j.regs core)
call-turned n j cores requests (Some x) =
    by_test (λ (t : Turn). CallInRange t.call) (are_legal (core_of cores n) x.0 4)
    (notified_at n cores requests (interrupted_at j (core_of cores n) x.0 x.1)) (done (stopped j IllegalAddress) cores requests)
    (λ _. tt) (λ _. tt)

-- ticks, and CTRL-C
accumulator-ticked : (wait : Wait) → HasAccumulator wait → HasAccumulator (ticked_wait wait)
accumulator-ticked Nothing has = tt
accumulator-ticked (Asleep ticks) has = tt
accumulator-ticked Char has = tt
accumulator-ticked Line has = tt
accumulator-ticked (Room places) has = tt
accumulator-ticked (Queue limit ac) has = has

pub range-ticked : (o : Option Job) → InRange o → InRange (option_map ticked_job o)
range-ticked (Some j) h = fits-wait j (ticked_wait j.wait) (accumulator-ticked j.wait h.3) h
range-ticked None h = h

pub range-broken : (line : ℕ) (o : Option Job) → InRange o → InRange (option_map (broken_job line) o)
range-broken line (Some j) h = by_test Fits ((j.line == line) && is_none j.stop) _ _ (λ _. h) (λ _. h)
range-broken line None h = h

-- limits
accumulator-limited : (wait : Wait) (j : Job) → HasAccumulator wait → HasAccumulator j.wait → HasAccumulator (limited_by wait j).wait
accumulator-limited (Queue limit ac) j has kept =
    by_test (λ (k : Job). HasAccumulator k.wait) (limit == 1) (at_error_return (code_of TimedOut) ac j) (record j { wait = Queue (limit - 1) ac })
    (λ _. tt) (λ _. has)
accumulator-limited Nothing j has kept = kept
accumulator-limited (Asleep ticks) j has kept = kept
accumulator-limited Char j has kept = kept
accumulator-limited Line j has kept = kept
accumulator-limited (Room places) j has kept = kept

accumulator-late : (b : Bool) (j : Job) → HasAccumulator j.wait → HasAccumulator (limited_job b j).wait
accumulator-late true j has = accumulator-limited j.wait j has has
accumulator-late false j has = has

fits-limited : (b : Bool) (o : Option Job) → InRange o → InRange (option_map (limited_job b) o)
fits-limited b (Some j) h =
    let k = limited-kept b j in
    (k.below h.0, subst (λ a. a < 2 ^ 18) (sym k.start) h.1, k.accumulators ∙ h.2, accumulator-late b j h.3)
fits-limited b None h = h

pub ranges-limited : (t : Table) (requests : List Request) → ((k : ℕ) → InRange (job_at t.jobs k)) → (k : ℕ) → InRange (job_at (limited_table t requests).jobs k)
ranges-limited t requests p k = subst InRange (sym (job-limited t requests k)) (fits-limited (is_waiting_job requests k) (job_at t.jobs k) (p k))
