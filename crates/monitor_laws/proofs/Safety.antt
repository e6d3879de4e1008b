-- Every event keeps the state safe.
use Rattle.machine.specs.declared.sizes.TheConstants.{INTERRUPT_CHARACTER}
use Rattle.job_sched.specs.declared.job_error.JobError.{JobError}
use Rattle.std.proofs.Common.{◌^◌, ◌≡◌, ◌≢◌, ◌≤◌, ◌<◌, ◌∙◌, sym, ap, subst, ℕ, zero, suc, ◌+◌, ◌-◌, ◌*◌, ◌/◌, ◌%◌, ◌==◌, ◌&&◌, nat_lt, nat_le}
use Rattle.std.proofs.Common.{not, Bool, true, false, List, [], ◌∷◌, length, Option, Some, None, is_some, is_none, Result, Ok, Err, is_ok}
use Rattle.std.proofs.Common.{refl, arith, slice_set, slice_index_or, replicate, IsSome, rules, sum_by}
use Rattle.std.proofs.lemmas.Grind.{common_steps}
use Rattle.std.proofs.lemmas.Bool.{both_ways, and_parts, false_from_ne_true}
use Rattle.word36.specs.declared.sizes.TheConstants.{JOBS, BLOCK_WORDS, MOST_BLOCKS, LINES, INPUT_RING, DATA_WORDS}
use Rattle.word36.specs.Words.{left_half, right_half}
use Rattle.ka_cpu.specs.Effects.{After}
use Rattle.ka_cpu.specs.Exec.{exec}
use Rattle.ka_state.specs.declared.outcome.Outcome.{Outcome}
use Rattle.ka_state.specs.declared.outcome.Outcome.TheVariants as outcome
use Rattle.core_store.specs.Cores.{Cores, IsJob, IsWhole, core_of, blocks_of, with_core, resized, all_free}
use Rattle.lock_queue.specs.declared.call.LockCall.{LockCall}
use Rattle.lock_queue.specs.declared.refusal.Refusal.{Refusal}
use Rattle.lock_queue.specs.declared.request.Request.{Request}
use Rattle.lock_queue.specs.Jobs.{is_waiting_job, job_notified, pending}
use Rattle.tty_lines.specs.Rings.{Rings, all_clear}
use Rattle.job_sched.specs.Limits.{is_queue}
use Rattle.job_sched.specs.Ready.{holds, is_ready, is_ready_job, first_from, next_job, after}
use Rattle.job_sched.specs.Tables.{job_at, no_jobs}
use Rattle.job_sched.specs.declared.job.Job.{Job}
use Rattle.job_sched.specs.Tables.{Table}
use Rattle.uuo_calls.specs.declared.service.Service.{Service}
use Rattle.uuo_calls.specs.declared.service.Service.TheVariants.{Reset, Core, Exit, Monrt, Logout, Mstime, Pjob, Sleep, Piini, Pisys, Debrk, Enq, Deq, Enqc}
use Rattle.uuo_calls.specs.declared.service.Service.TheVariants.{Datrd, Datwr, Input, Outchr, Outstr, Clrbfi, Clrbfo, Skpin, Unlisted}
use Rattle.ka_state.specs.declared.outcome.StopReason.TheVariants.{IllegalAddress}
use Rattle.ka_state.specs.Memory.{are_legal}
use Rattle.uuo_calls.specs.CallState.{CallState, ac_of, stopped}
use Rattle.uuo_calls.specs.CoreRow.{JobCores, grown, blocks_asked, core_done, with_highest}
use Rattle.uuo_calls.specs.LockRows.{asked, answered, replied, enq_asks, enq_limit, deq_asks}
use Rattle.job_sched.specs.Changes.{standing, with_job}
use Rattle.uuo_calls.specs.Performed.{World, row_of, around, performed_by, with_around, left_by, without_job}
use Rattle.uuo_calls.specs.Services.{service_of}
use Rattle.uuo_calls.specs.StatusRow.{Memory, stored_at, status_told, enqc}
use Rattle.uuo_calls.specs.TerminalRows.{input_called}
use Rattle.uuo_calls.specs.declared.call.CallOutcome.{CallOutcome}
use Rattle.uuo_calls.specs.declared.call.CallOutcome.TheVariants as ending
use Rattle.lock_queue.specs.Jobs.{released, withdrawn}
use Rattle.tty_lines.specs.Rings.{input_of}
use Rattle.machine.specs.declared.event.Event.{Event}
use Rattle.machine.specs.declared.event.Event.TheVariants.{Step, Tick, Typed, Take, Login, Start, Continue, Kill, Restart}
use Rattle.uuo_calls.specs.declared.call.MonitorCall.{MonitorCall}
use Rattle.job_sched.specs.Changes.{chosen, free_number, first_free, is_at}
use Rattle.job_sched.specs.Jobs.{broken_job, started_job, going_on, ticked_job}
use Rattle.machine.specs.Machine.{S, made_if, with_turn, called, awake, ran, stepped, limited, ticked, first_quota, killed, happens, at_boot, Made}
use Rattle.machine.specs.Machine.{made, typed, broken, taken, started, continued, with_image, admitted, examined, logged_in}
use Rattle.job_sched.specs.Jobs.{new_job}
use Rattle.machine.specs.Images.{blocks_for, image_top, top_of, image_memory, loaded, fresh_regs}
use Rattle.machine.specs.Safe.{Safe, InRange, Housed, Queued, wait_of, line_of, LinesApart, LinesBelow}
use Rattle.machine.specs.Turns.{Turn, turn_of, turned, due, concluded, delivered, notified_at, interrupted_at, done}
use Rattle.lock_laws.specs.Circles.{NoPlainCircle}
use Rattle.lock_laws.proofs.EveryChange.{safe_jobs_make_no_circle}
use Rattle.lock_laws.proofs.AlongCalls.{always_safe}
use Rattle.lock_laws.proofs.Circling.{by_latest, waits-none}
use Rattle.monitor_laws.proofs.Housing.{there-set, is_job, housed-job, housed-core, housed-resized, housed-highest, housed-gone}
use Rattle.monitor_laws.proofs.Housing.{housed-taken, housed-same, mild-ticked, mild-broken, same-limited, same-mapped}
use Rattle.monitor_laws.proofs.Ranges.{CallInRange, call-turned, length-ac_with, ranges-set, ranges-map, range-ticked, range-broken, ranges-limited}
use Rattle.ka_cpu.proofs.ExecLaws.{by_test, length-core_with, length-exec}
use Rattle.monitor_laws.proofs.Turning.{length-noted}
use Rattle.monitor_laws.proofs.Enquiring.{by_enqc}
use Rattle.monitor_laws.proofs.Stored.{length-status, length-input}
use Rattle.monitor_laws.proofs.Queueing.{queued-job, queued-call, queued-notified, free-notified, queued-gone, queued-released}
use Rattle.monitor_laws.proofs.Queueing.{queued-started, queued-going_on, queued-new, queued-mapped, queued-limited}
use Rattle.std.proofs.lemmas.List.{length-set}
use Rattle.std.specs.List.{list_any}
use Rattle.std.specs.Option.{option_map}
use Rattle.monitor_laws.proofs.Waiting.{holds-grant}
use Rattle.job_sched.specs.declared.time_of_day.TheConstants.{TICKS_A_DAY}
use Rattle.job_sched.specs.Changes.{ticked_table}
use Rattle.monitor_laws.proofs.Keeping.{Kept, kept-refl, kept-row, kept-turned, kept-left, lines-set, apart-kept}
use Rattle.monitor_laws.proofs.Keeping.{words-taken, lines-same, apart-new, below-kept, below-new}

-- a job that is there and does not wait, in a safe state
pub record Free (size : ℕ) (jobs : List (Option Job)) (n : ℕ) (cores : Cores) (requests : List Request) : Type 0 where
  pub there : is_some (job_at jobs n) ≡ true
  pub free : is_waiting_job requests n ≡ false
  pub housed : Housed jobs cores
  pub queued : Queued size jobs requests

-- a safe state in which this is the job's
record Fine (size : ℕ) (jobs : List (Option Job)) (n : ℕ) (j : Job) (cores : Cores) (requests : List Request) : Type 0 where
  housed : Housed (slice_set jobs n (Some j)) cores
  queued : Queued size (slice_set jobs n (Some j)) requests

fine-job : (size : ℕ) (jobs : List (Option Job)) (n : ℕ) (j : Job) (cores : Cores) (requests : List Request)
    → Free size jobs n cores requests
    → Fine size jobs n j cores requests
fine-job size jobs n j cores requests f = record {
  housed = housed-job jobs cores n j f.there f.housed;
  queued = queued-job size jobs requests n j f.there f.free f.queued;
}

fine-core : (size : ℕ) (jobs : List (Option Job)) (n : ℕ) (j : Job) (cores : Cores) (requests : List Request) (words : List ℕ)
    → length words ≡ length (core_of cores n) → Free size jobs n cores requests → Fine size jobs n j (with_core cores n words) requests
fine-core size jobs n j cores requests words same f = record {
  housed = housed-job jobs _ n j f.there (housed-core jobs cores n words f.there same f.housed);
  queued = queued-job size jobs requests n j f.there f.free f.queued;
}

-- a lock call
fine-asked : (size : ℕ) (jobs : List (Option Job)) (n ac limit : ℕ) (a : CallState) (r : Result LockCall Refusal) → Free size jobs n a.cores a.requests
    → Fine size jobs n (replied a ac limit (asked size a.requests n r)).job a.cores (asked size a.requests n r).requests
fine-asked size jobs n ac limit a (Err refusal) f = fine-job size jobs n _ a.cores a.requests f
fine-asked size jobs n ac limit a (Ok call) f = record {
  housed = housed-job jobs a.cores n _ f.there f.housed;
  queued = queued-call size jobs a.requests n _ call f.there f.free (λ e. ap (λ r. is_queue (answered a.job ac limit r).wait) e) f.queued;
}

-- CORE
some_blocks : (w blocks : ℕ) → blocks_asked w ≡ Some blocks → 1 ≤ blocks
some_blocks w blocks =
    by_test (λ o. o ≡ Some blocks → 1 ≤ blocks) (left_half w == 0 && nat_lt 0 (right_half w)) (Some (right_half w / BLOCK_WORDS + 1)) None
    (λ _ e. let same : right_half w / BLOCK_WORDS + 1 ≡ blocks = cc in omega arith) (λ _ e. cc)

housed-grown : (jobs : List (Option Job)) (cores : Cores) (n : ℕ) (asks : Option ℕ) (new : Cores) → is_some (job_at jobs n) ≡ true
    → ((blocks : ℕ) → asks ≡ Some blocks → 1 ≤ blocks) → Housed jobs cores → grown cores n asks ≡ Some new → Housed jobs new
housed-grown jobs cores n None new there some h = λ e. cc
housed-grown jobs cores n (Some blocks) new there some h =
    by_test (λ o. o ≡ Some new → Housed jobs new) (nat_le blocks (cores.free + blocks_of cores n)) (Some (with_highest (resized cores n blocks) n blocks)) None
    (λ fits e.
    let same : with_highest (resized cores n blocks) n blocks ≡ new = cc in
    let room : blocks ≤ cores.free + blocks_of cores n = grind (arith, common_steps) in
    subst (λ c. Housed jobs c) same (housed-highest jobs _ n blocks there (housed-resized jobs cores n blocks there (some blocks refl) room h)))
    (λ _ e. cc)

fine-grown : (size : ℕ) (jobs : List (Option Job)) (n ac : ℕ) (j : Job) (cores : Cores) (requests : List Request)
    (o : Option Cores)
    → Free size jobs n cores requests
    → ((new : Cores) → o ≡ Some new → Housed jobs new)
    → Fine size jobs n (core_done ac o j cores).job (core_done ac o j cores).cores requests
fine-grown size jobs n ac j cores requests None f h = fine-job size jobs n _ cores requests f
fine-grown size jobs n ac j cores requests (Some new) f h = record {
  housed = housed-job jobs new n _ f.there (h new refl);
  queued = queued-job size jobs requests n _ f.there f.free f.queued;
}

-- ENQC.
fine-enqc : (size : ℕ) (jobs all : List (Option Job)) (n ac : ℕ) (j : Job) (cores : Cores) (requests : List Request) → Free size jobs n cores requests
    → Fine size jobs n (enqc all requests n ac j cores).job (enqc all requests n ac j cores).cores requests
fine-enqc size jobs all n ac j cores requests f =
    by_enqc (λ (o : JobCores). Fine size jobs n o.job o.cores requests) all requests n ac j cores
    (λ w. fine-job size jobs n _ cores requests f) (λ code. fine-job size jobs n _ cores requests f) (λ quota. fine-job size jobs n _ cores requests f)
    (fine-core size jobs n _ cores requests (status_told requests n ac j (core_of cores n)).core (length-status requests n ac j (core_of cores n)) f)

-- RESET
fine-released : (size : ℕ) (jobs : List (Option Job)) (n : ℕ) (j : Job) (cores : Cores) (requests : List Request) → Free size jobs n cores requests
    → Fine size jobs n j cores (released requests n)
fine-released size jobs n j cores requests f = record {
  housed = housed-job jobs cores n j f.there f.housed;
  queued = queued-released size jobs requests n j f.there f.queued;
}

-- every row of the table
fine-row : (service : Service) (jobs : List (Option Job)) (time n ac e : ℕ) (a : CallState) → Free a.size jobs n a.cores a.requests
    → Fine a.size jobs n (row_of service time n ac e a).job (row_of service time n ac e a).cores (row_of service time n ac e a).requests
fine-row Reset jobs time n ac e a f = fine-released a.size jobs n _ a.cores a.requests f
fine-row Core jobs time n ac e a f =
    fine-grown a.size jobs n ac a.job a.cores a.requests (grown a.cores n (blocks_asked (ac_of a.job ac))) f
    (λ new is. housed-grown jobs a.cores n _ new f.there (some_blocks (ac_of a.job ac)) f.housed is)
fine-row Exit jobs time n ac e a f = fine-released a.size jobs n _ a.cores a.requests f
fine-row Monrt jobs time n ac e a f = fine-job a.size jobs n _ a.cores a.requests f
fine-row Logout jobs time n ac e a f = fine-job a.size jobs n _ a.cores a.requests f
fine-row Mstime jobs time n ac e a f = fine-job a.size jobs n _ a.cores a.requests f
fine-row Pjob jobs time n ac e a f = fine-job a.size jobs n _ a.cores a.requests f
fine-row Sleep jobs time n ac e a f = fine-job a.size jobs n _ a.cores a.requests f
fine-row Piini jobs time n ac e a f = fine-job a.size jobs n _ a.cores a.requests f
fine-row Pisys jobs time n ac e a f = fine-job a.size jobs n _ a.cores a.requests f
fine-row Debrk jobs time n ac e a f = fine-job a.size jobs n _ a.cores a.requests f
fine-row Enq jobs time n ac e a f =
    fine-asked a.size jobs n ac (enq_limit a.job.regs.ac (core_of a.cores n) n (ac_of a.job ac)) a
    (enq_asks a.job.regs.ac (core_of a.cores n) n (ac_of a.job ac) (is_some a.job.interrupts.vector) a.job.quota) f
fine-row Deq jobs time n ac e a f = fine-asked a.size jobs n ac 0 a (deq_asks a.job.regs.ac (core_of a.cores n) n (ac_of a.job ac)) f
fine-row Enqc jobs time n ac e a f = fine-enqc a.size jobs a.jobs n ac a.job a.cores a.requests f
fine-row Datrd jobs time n ac e a f = fine-job a.size jobs n _ a.cores a.requests f
fine-row Datwr jobs time n ac e a f = fine-job a.size jobs n _ a.cores a.requests f
fine-row (Input unit skips) jobs time n ac e a f =
    fine-core a.size jobs n _ a.cores a.requests (input_called unit skips e (core_of a.cores n) a.job a.lines).core
    (length-input unit skips e (core_of a.cores n) a.job a.lines) f
fine-row Outchr jobs time n ac e a f = fine-job a.size jobs n _ a.cores a.requests f
fine-row Outstr jobs time n ac e a f = fine-job a.size jobs n _ a.cores a.requests f
fine-row Clrbfi jobs time n ac e a f = fine-job a.size jobs n _ a.cores a.requests f
fine-row Clrbfo jobs time n ac e a f = fine-job a.size jobs n _ a.cores a.requests f
fine-row (Skpin unit) jobs time n ac e a f = fine-job a.size jobs n _ a.cores a.requests f
fine-row Unlisted jobs time n ac e a f = fine-job a.size jobs n _ a.cores a.requests f

-- a turn
record Turned (size : ℕ) (jobs : List (Option Job)) (n : ℕ) (t : Turn) : Type 0 where
  fine : Fine size jobs n t.job t.cores t.requests
  free : is_waiting_job t.requests n ≡ false

turned-concluded : (size : ℕ) (jobs : List (Option Job)) (n : ℕ) (j : Job) (cores : Cores) (requests : List Request) (words : List ℕ) (o : Outcome)
    → length words ≡ length (core_of cores n) → Free size jobs n cores requests
    → Turned size jobs n (concluded j (with_core cores n words) requests o)
turned-concluded size jobs n j cores requests words outcome.Done same f = record { fine = fine-core size jobs n _ cores requests words same f; free = f.free }
turned-concluded size jobs n j cores requests words (outcome.Stop reason) same f = record {
  fine = fine-core size jobs n _ cores requests words same f;
  free = f.free;
}
turned-concluded size jobs n j cores requests words (outcome.Call kind ac e) same f = record {
  fine = fine-core size jobs n _ cores requests words same f;
  free = f.free;
}

turned-delivered : (size : ℕ) (jobs : List (Option Job)) (n : ℕ) (j : Job) (cores : Cores) (requests : List Request)
    (vector id : ℕ)
    → Free size jobs n cores requests
    → Turned size jobs n (delivered n j cores requests vector id)
turned-delivered size jobs n j cores requests vector id f =
    by_test (Turned size jobs n) (are_legal (core_of cores n) vector 4)
    (notified_at n cores requests (interrupted_at j (core_of cores n) vector id)) (done (stopped j IllegalAddress) cores requests)
    (λ _. record {
      fine = record {
        housed = housed-job jobs _ n _ f.there (housed-core jobs cores n _ f.there (length-noted j.regs (core_of cores n) vector id) f.housed);
        queued = queued-job size jobs (job_notified requests n) n _ f.there (free-notified requests n n f.free) (queued-notified size jobs requests n f.queued);
      };
      free = free-notified requests n n f.free;
    })
    (λ _. record { fine = fine-job size jobs n (stopped j IllegalAddress) cores requests f; free = f.free })

turned-turned : (size : ℕ) (jobs : List (Option Job)) (n : ℕ) (j : Job) (cores : Cores) (requests : List Request)
    (o : Option (ℕ × ℕ))
    → Free size jobs n cores requests
    → Turned size jobs n (turned n j cores requests o)
turned-turned size jobs n j cores requests (Some x) f = turned-delivered size jobs n j cores requests x.0 x.1 f
turned-turned size jobs n j cores requests None f =
    let r : After = exec j.regs (core_of cores n) in
    turned-concluded size jobs n (record j { regs = r.regs }) cores requests r.core r.outcome (length-exec j.regs (core_of cores n)) f

-- the jobs, core and requests of a world
record Sound (w : World) : Type 0 where
  housed : Housed w.table.jobs w.cores
  queued : Queued w.size w.table.jobs w.requests

-- a job that is gone
sound-gone : (w : World) (n : ℕ) → is_some (job_at w.table.jobs n) ≡ true → Sound w → Sound (without_job w n)
sound-gone w n there h = record {
  housed = housed-gone w.table.jobs w.cores n there h.housed;
  queued = queued-gone w.size w.table.jobs w.requests n h.queued;
}

sound-left : (o : CallOutcome) (w : World) (n : ℕ) → is_some (job_at w.table.jobs n) ≡ true → Sound w → Sound (left_by o w n)
sound-left ending.Done w n there h = h
sound-left ending.Empty w n there h = h
sound-left ending.Gone w n there h = sound-gone w n there h

sound-performed : (w : World) (time n : ℕ) (o : Option Job) (service : Service) (ac e : ℕ) → Free w.size w.table.jobs n w.cores w.requests
    → Sound (performed_by w time n o service ac e).world
sound-performed w time n None service ac e f = record { housed = f.housed; queued = f.queued }
sound-performed w time n (Some j) service ac e f =
    let a : CallState = row_of service time n ac e (around w j) in
    let r = fine-row service w.table.jobs time n ac e (around w j) f in
    sound-left a.ending (with_around w n a) n (there-set w.table.jobs n n a.job f.there ∙ f.there) (record { housed = r.housed; queued = r.queued })

sound-called : (w : World) (time n : ℕ) (c : Option MonitorCall) → Free w.size w.table.jobs n w.cores w.requests → Sound (called w time n c)
sound-called w time n None f = record { housed = f.housed; queued = f.queued }
sound-called w time n (Some c) f = sound-performed w time n (job_at w.table.jobs n) (service_of c.kind c.ac c.e) c.ac c.e f

free-turn : (w : World) (n : ℕ) (t : Turn) → is_some (job_at w.table.jobs n) ≡ true → Turned w.size w.table.jobs n t
    → Free w.size (with_turn w n t).table.jobs n (with_turn w n t).cores (with_turn w n t).requests
free-turn w n t there h = record {
  there = there-set w.table.jobs n n t.job there ∙ there;
  free = h.free;
  housed = h.fine.housed;
  queued = h.fine.queued;
}

sound-ran : (w : World) (time n : ℕ) (o : Option Job) → Free w.size w.table.jobs n w.cores w.requests → Sound (ran w time n o)
sound-ran w time n None f = record { housed = f.housed; queued = f.queued }
sound-ran w time n (Some j) f =
    let t : Turn = turn_of n (awake j) w.cores w.requests in
    sound-called (with_turn w n t) time n t.call
    (free-turn w n t f.there (turned-turned w.size w.table.jobs n (awake j) w.cores w.requests (due j.interrupts _) f))

-- lines and all words
kept-performed : (w : World) (time n : ℕ) (o : Option Job) (service : Service) (ac e : ℕ) → ac < 16 → job_at w.table.jobs n ≡ o
    → Free w.size w.table.jobs n w.cores w.requests
    → Kept w (performed_by w time n o service ac e).world
kept-performed w time n None service ac e low is f = kept-refl w
kept-performed w time n (Some j) service ac e low is f =
    let a : CallState = row_of service time n ac e (around w j) in
    let r = fine-row service w.table.jobs time n ac e (around w j) f in
    kept-left a.ending w (with_around w n a) n (there-set w.table.jobs n n a.job f.there ∙ f.there) r.housed
    (kept-row service w time n ac e j low is f.there f.housed)

kept-called : (w : World) (time n : ℕ) (c : Option MonitorCall) → CallInRange c → Free w.size w.table.jobs n w.cores w.requests
    → Kept w (called w time n c)
kept-called w time n None low f = kept-refl w
kept-called w time n (Some c) low f = kept-performed w time n (job_at w.table.jobs n) (service_of c.kind c.ac c.e) c.ac c.e low refl f

kept-ran : (w : World) (time n : ℕ) (o : Option Job) → job_at w.table.jobs n ≡ o → Free w.size w.table.jobs n w.cores w.requests → Kept w (ran w time n o)
kept-ran w time n None is f = kept-refl w
kept-ran w time n (Some j) is f =
    let t : Turn = turn_of n (awake j) w.cores w.requests in
    let g = free-turn w n t f.there (turned-turned w.size w.table.jobs n (awake j) w.cores w.requests (due j.interrupts _) f) in
    let before = kept-turned w n j is f.there f.housed in
    let later = kept-called (with_turn w n t) time n t.call (call-turned n (awake j) w.cores w.requests (due j.interrupts (pending w.requests n))) g in
    record {
      lines = λ k line e. before.lines k line (later.lines k line e);
      words = later.words ∙ before.words;
      rings = later.rings ∙ before.rings;
      ranges = λ p. later.ranges (before.ranges p);
    }

-- the job that runs is ready
ready-first : (test : ℕ → Bool) (k n m : ℕ) → first_from test k n ≡ Some m → test m ≡ true
unfolding first_from
ready-first test zero n m = λ e. cc
ready-first test (suc k) n m =
    by_test (λ o. o ≡ Some m → test m ≡ true) (test n) (Some n) (first_from test k (after n))
    (λ t e. let same : n ≡ m = cc in subst (λ i. test i ≡ true) same t)
    (λ _ e. ready-first test k (after n) m e)

pub next-ready : (t : Table) (lines : List Rings) (requests : List Request) (n : ℕ) → next_job t lines requests ≡ Some n
    → is_ready t.jobs lines requests n ≡ true
next-ready t lines requests n =
    by_test (λ o. o ≡ Some n → is_ready t.jobs lines requests n ≡ true) (nat_lt 0 t.left && is_ready t.jobs lines requests t.current) (Some t.current) _
    (λ h e. let same : t.current ≡ n = cc in subst (λ i. is_ready t.jobs lines requests i ≡ true) same (and_parts _ _ h).1)
    (λ _ e. ready-first (is_ready t.jobs lines requests) JOBS (after t.current) n e)

-- a ready job is there and does not wait
ready-there : (lines : List Rings) (requests : List Request) (n : ℕ) (o : Option Job) → is_ready_job lines requests n o ≡ true → is_some o ≡ true
ready-there lines requests n None h = cc
ready-there lines requests n (Some j) h = refl

ready-free : (lines : List Rings) (requests : List Request) (n : ℕ) (o : Option Job) → is_ready_job lines requests n o ≡ true
    → (is_waiting_job requests n ≡ true → is_queue (wait_of o) ≡ true) → is_waiting_job requests n ≡ false
ready-free lines requests n None h q = cc
ready-free lines requests n (Some j) h q =
    false_from_ne_true _ (λ waits.
    let held : not (holds lines requests n j.line j.wait) ≡ true = (and_parts (is_none j.stop) _ h).1 in
    let is : holds lines requests n j.line j.wait ≡ true = holds-grant lines requests n j.line j.wait (q waits) ∙ waits in
    both_ways (not (holds lines requests n j.line j.wait)) (ap not is) held)

pub free-next : (s : S) (n : ℕ) → Safe s → is_ready s.world.table.jobs s.world.lines s.world.requests n ≡ true
    → Free s.world.size s.world.table.jobs n s.world.cores s.world.requests
free-next s n h ready = record {
  there = ready-there s.world.lines s.world.requests n (job_at s.world.table.jobs n) ready;
  free = ready-free s.world.lines s.world.requests n (job_at s.world.table.jobs n) ready (h.queued.waiting n);
  housed = h.housed;
  queued = h.queued;
}

jobs-chosen : (t : Table) (n quantum : ℕ) → (chosen t n quantum).jobs ≡ t.jobs
jobs-chosen t n quantum = by_test (λ (u : Table). u.jobs ≡ t.jobs) ((t.current == n) && nat_lt 0 t.left) _ _ (λ _. refl) (λ _. refl)

safe-stepped : (s : S) (o : Option ℕ) → Safe s → ((n : ℕ) → o ≡ Some n → is_ready s.world.table.jobs s.world.lines s.world.requests n ≡ true)
    → Safe (stepped s o).state
safe-stepped s None h ready = h
safe-stepped s (Some n) h ready =
    let f = free-next s n h (ready n refl) in
    let w : World = record s.world { table = chosen s.world.table n s.quantum } in
    let jobs = jobs-chosen s.world.table n s.quantum in
    let g : Free w.size w.table.jobs n w.cores w.requests = subst (λ jobs. Free s.world.size jobs n s.world.cores s.world.requests) (sym jobs) f in
    let r = sound-ran w s.time n (job_at s.world.table.jobs n) g in
    let k = kept-ran w s.time n (job_at s.world.table.jobs n) (ap (λ l. job_at l n) jobs) g in
    record {
      housed = r.housed;
      queued = r.queued;
      apart = apart-kept w.table.jobs _ k.lines (subst LinesApart (sym jobs) h.apart);
      total = k.words ∙ h.total;
      most = h.most;
      rings = k.rings ∙ h.rings;
      numbers = below-kept w.table.jobs _ k.lines (subst LinesBelow (sym jobs) h.numbers);
      ranges = k.ranges (λ m. subst (λ l. InRange (job_at l m)) (sym jobs) (h.ranges m));
    }

-- events that put a world in the place of another
safe-made : (s : S) (w : World) → Safe s → Sound w → Kept s.world w → Safe (made s w).state
safe-made s w h r k = record {
  housed = r.housed;
  queued = r.queued;
  apart = apart-kept s.world.table.jobs w.table.jobs k.lines h.apart;
  total = k.words ∙ h.total;
  most = h.most;
  rings = k.rings ∙ h.rings;
  numbers = below-kept s.world.table.jobs w.table.jobs k.lines h.numbers;
  ranges = k.ranges h.ranges;
}

safe-killed : (s : S) (n : ℕ) (o : Option Job) → Safe s → job_at s.world.table.jobs n ≡ o → Safe (killed s n o).state
safe-killed s n None h e = h
safe-killed s n (Some j) h e =
    let there = ap is_some e in
    safe-made s (without_job s.world n) h (sound-gone s.world n there (record { housed = h.housed; queued = h.queued }))
    (kept-left ending.Gone s.world s.world n there h.housed (kept-refl s.world))

-- a tick: first sleeps and the quantum, and then limits
safe-slept : (s : S) → Safe s → Safe (record s { world = record s.world { table = ticked_table s.world.table } })
safe-slept s h =
    let same = same-mapped (option_map ticked_job) s.world.table.jobs mild-ticked in
    record {
      housed = housed-same s.world.table.jobs _ s.world.cores same h.housed;
      queued = queued-mapped s.world.size (option_map ticked_job) s.world.table.jobs s.world.requests mild-ticked h.queued;
      apart = apart-kept s.world.table.jobs _ (lines-same s.world.table.jobs _ same) h.apart;
      total = h.total;
      most = h.most;
      rings = h.rings;
      numbers = below-kept s.world.table.jobs _ (lines-same s.world.table.jobs _ same) h.numbers;
      ranges = ranges-map (option_map ticked_job) s.world.table.jobs range-ticked h.ranges;
    }

safe-limited : (s : S) (time : ℕ) → Safe s → Safe (record s { world = limited s.world; time = time })
safe-limited s time h =
    let same = same-limited s.world.table s.world.requests in
    record {
      housed = housed-same s.world.table.jobs _ s.world.cores same h.housed;
      queued = queued-limited s.world.size s.world.table s.world.requests h.queued;
      apart = apart-kept s.world.table.jobs _ (lines-same s.world.table.jobs _ same) h.apart;
      total = h.total;
      most = h.most;
      rings = h.rings;
      numbers = below-kept s.world.table.jobs _ (lines-same s.world.table.jobs _ same) h.numbers;
      ranges = ranges-limited s.world.table s.world.requests h.ranges;
    }

safe-ticked : (s : S) → Safe s → Safe (ticked s).state
safe-ticked s h = safe-limited (record s { world = record s.world { table = ticked_table s.world.table } }) ((s.time + 1) % TICKS_A_DAY) (safe-slept s h)

safe-broken : (s : S) (line : ℕ) → Safe s → Safe (made s (broken s.world line)).state
safe-broken s line h =
    let same = same-mapped (option_map (broken_job line)) s.world.table.jobs (mild-broken line) in
    record {
      housed = housed-same s.world.table.jobs _ s.world.cores same h.housed;
      queued = queued-mapped s.world.size (option_map (broken_job line)) s.world.table.jobs s.world.requests (mild-broken line) h.queued;
      apart = apart-kept s.world.table.jobs _ (lines-same s.world.table.jobs _ same) h.apart;
      total = h.total;
      most = h.most;
      rings = h.rings;
      numbers = below-kept s.world.table.jobs _ (lines-same s.world.table.jobs _ same) h.numbers;
      ranges = ranges-map (option_map (broken_job line)) s.world.table.jobs (range-broken line) h.ranges;
    }

-- lines alone
safe-lines : (s : S) (lines : List Rings) → length lines ≡ length s.world.lines → Safe s → Safe (record s { world = record s.world { lines = lines } })
safe-lines s lines same h = record {
  housed = h.housed;
  queued = h.queued;
  apart = h.apart;
  total = h.total;
  most = h.most;
  rings = same ∙ h.rings;
  numbers = h.numbers;
  ranges = h.ranges;
}

safe-typed : (s : S) (line c : ℕ) → Safe s → Safe (typed s line c).state
safe-typed s line c h =
    by_test (λ (m : Made). Safe m.state) (nat_le LINES line) _ _ (λ _. h)
    (λ _. by_test (λ (m : Made). Safe m.state) (c == INTERRUPT_CHARACTER) _ _ (λ _. safe-broken s line h)
    (λ _. by_test (λ (m : Made). Safe m.state) (nat_le INPUT_RING (length (input_of s.world.lines line))) _ _ (λ _. h)
    (λ _. safe-lines s _ (length-set s.world.lines line _) h)))

safe-taken : (s : S) (line n : ℕ) → Safe s → Safe (taken s line n).state
safe-taken s line n h = by_test (λ (m : Made). Safe m.state) (nat_le LINES line) _ _ (λ _. h) (λ _. safe-lines s _ (length-set s.world.lines line _) h)

-- a job starts or goes on
safe-set : (s : S) (n : ℕ) (j k : Job) (requests : List Request) → Safe s → job_at s.world.table.jobs n ≡ Some j → k.line ≡ j.line
    → InRange (Some k) → Queued s.world.size (slice_set s.world.table.jobs n (Some k)) requests
    → Safe (made s (record s.world { table = with_job s.world.table n (Some k); requests = requests })).state
safe-set s n j k requests h is same fits q = record {
  housed = housed-job s.world.table.jobs s.world.cores n k (ap is_some is) h.housed;
  queued = q;
  apart = apart-kept s.world.table.jobs _ (lines-set s.world.table.jobs n k (ap is_some is) (ap line_of is ∙ ap Some (sym same))) h.apart;
  total = h.total;
  most = h.most;
  rings = h.rings;
  numbers = below-kept s.world.table.jobs _ (lines-set s.world.table.jobs n k (ap is_some is) (ap line_of is ∙ ap Some (sym same))) h.numbers;
  ranges = ranges-set s.world.table.jobs n (Some k) fits h.ranges;
}

start-fits : (j : Job) → InRange (Some j) → InRange (Some (started_job j))
start-fits j h = (h.1, h.1, h.2, tt)

safe-made_if : (s : S) (w : World) (r : Result (Unit {0}) JobError) → Safe s → (is_ok r ≡ true → Safe (made s w).state) → Safe (made_if s w r).state
safe-made_if s w (Ok x) h made_safe = made_safe refl
safe-made_if s w (Err e) h made_safe = h

-- a job that can start or go on is there
standing-there : (o : Option Job) → is_ok (standing o) ≡ true → (j : Job) × (o ≡ Some j)
standing-there None ok = absurd (both_ways false refl ok)
standing-there (Some j) ok = (j, refl)

safe-started : (s : S) (n : ℕ) → Safe s → Safe (started s n).state
safe-started s n h =
    safe-made_if s _ (standing (job_at s.world.table.jobs n)) h (λ ok.
    let p = standing-there (job_at s.world.table.jobs n) ok in
    subst
    (λ o. Safe
    (made s
    (record s.world { table = with_job s.world.table n (option_map started_job o); requests = withdrawn s.world.requests n })).state)
    (sym p.1)
    (safe-set s n p.0 (started_job p.0) (withdrawn s.world.requests n) h p.1 refl (start-fits p.0 (subst InRange p.1 (h.ranges n)))
    (queued-started s.world.size s.world.table.jobs s.world.requests n (started_job p.0) (ap is_some p.1) h.queued)))

safe-continued : (s : S) (n : ℕ) → Safe s → Safe (continued s n).state
safe-continued s n h =
    safe-made_if s _ (standing (job_at s.world.table.jobs n)) h (λ ok.
    let p = standing-there (job_at s.world.table.jobs n) ok in
    subst (λ o. Safe (made s (record s.world { table = with_job s.world.table n (option_map going_on o) })).state) (sym p.1)
    (safe-set s n p.0 (going_on p.0) s.world.requests h p.1 refl (subst InRange p.1 (h.ranges n))
    (queued-going_on s.world.size s.world.table.jobs s.world.requests n (going_on p.0) (ap is_some p.1) (ap wait_of p.1) h.queued)))

-- a job begins
length-loaded : (p : Memory) (ws : List (ℕ × ℕ)) → length (loaded p ws).core ≡ length p.core
length-loaded p [] = refl
length-loaded p (w ∷ ws) = length-loaded (stored_at p w.0 w.1) ws ∙ length-core_with p.core w.0 w.1

length-image : (ws : List (ℕ × ℕ)) (start blocks : ℕ) → length (image_memory ws start blocks).core ≡ blocks * BLOCK_WORDS
length-image ws start blocks =
    let p : Memory = record { regs = fresh_regs start; core = replicate (blocks * BLOCK_WORDS) 0 } in
    let zeros : length (replicate {A = ℕ} (blocks * BLOCK_WORDS) 0) ≡ blocks * BLOCK_WORDS = grind (arith, common_steps) in
    length-set (loaded p ws).core 0o44 (blocks * BLOCK_WORDS - 1) ∙ length-loaded p ws ∙ zeros

-- a number that no job has
pub record IsFree (jobs : List (Option Job)) (n : ℕ) : Type 0 where
  pub least : 1 ≤ n
  pub below : n < length jobs
  pub none : job_at jobs n ≡ None

free-first : (k n : ℕ) (jobs : List (Option Job)) → first_free k jobs ≡ Some n → (k ≤ n) × ((n < k + length jobs) × (job_at jobs (n - k) ≡ None))
free-first k n [] = λ e. cc
free-first k n (None ∷ jobs) = λ e. let same : k ≡ n = cc in rw (← same) (omega arith, (omega arith, let z : k - k ≡ 0 = omega arith in rw z refl))
free-first k n (Some j ∷ jobs) = λ e.
    let r = free-first (k + 1) n jobs e in
    let step : n - k ≡ suc (n - (k + 1)) = omega arith in
    (omega arith, (omega arith, rw step r.1.1))

pub free-number : (jobs : List (Option Job)) (n : ℕ) → free_number jobs ≡ Some n → IsFree jobs n
free-number [] n e = cc
free-number (x ∷ jobs) n e =
    let r = free-first 1 n jobs e in
    let step : n ≡ suc (n - 1) = omega arith in
    record { least = r.0; below = omega arith; none = rw step r.1.1 }

-- a line that no job has
free-line : (jobs : List (Option Job)) (line k : ℕ) → list_any (is_at line) jobs ≡ false → line_of (job_at jobs k) ≡ Some line → ⊥
free-line [] line k none e = cc
free-line (x ∷ jobs) line zero none e = grind (arith, common_steps)
free-line (x ∷ jobs) line (suc k) none e = free-line jobs line k (grind (arith, common_steps)) e

pc-loaded : (p : Memory) (ws : List (ℕ × ℕ)) → (loaded p ws).regs.pc ≡ p.regs.pc
pc-loaded p [] = refl
pc-loaded p (w ∷ ws) = pc-loaded (stored_at p w.0 w.1) ws

registers-loaded : (p : Memory) (ws : List (ℕ × ℕ)) → length (loaded p ws).regs.ac ≡ length p.regs.ac
registers-loaded p [] = refl
registers-loaded p (w ∷ ws) = registers-loaded (stored_at p w.0 w.1) ws ∙ length-ac_with p.regs.ac w.0 w.1

safe-image : (s : S) (n line : ℕ) (ws : List (ℕ × ℕ)) (start blocks : ℕ) → start < 2 ^ 18 → 1 ≤ blocks
    → blocks ≤ s.world.cores.free
    → IsFree s.world.table.jobs n
    → line < LINES → list_any (is_at line) s.world.table.jobs ≡ false → Safe s
    → Safe (record s { world = with_image s.world n line ws start blocks })
safe-image s n line ws start blocks low some room free fits none h =
    let number : IsJob n = (free.least, omega (arith, h.housed.slots, free.below)) in
    let q : Memory = record { regs = fresh_regs start; core = replicate (blocks * BLOCK_WORDS) 0 } in
    let p : Memory = image_memory ws start blocks in
    record {
      housed =
          housed-taken s.world.table.jobs s.world.cores n blocks (new_job line p.regs start (first_quota s.world.size)) p.core
          number free.none some room (length-image ws start blocks) h.housed;
      queued = queued-new s.world.size s.world.table.jobs s.world.requests n (new_job line p.regs start (first_quota s.world.size)) free.none h.queued;
      apart =
          apart-new s.world.table.jobs n (new_job line p.regs start (first_quota s.world.size)) free.below
          (λ k e. free-line s.world.table.jobs line k none e) h.apart;
      total = words-taken s.world.cores n blocks p.core number room h.housed.store (h.housed.bare n free.none) (length-image ws start blocks) ∙ h.total;
      most = h.most;
      rings = h.rings;
      numbers = below-new s.world.table.jobs n (new_job line p.regs start (first_quota s.world.size)) free.below fits h.numbers;
      ranges =
          ranges-set s.world.table.jobs n (Some (new_job line p.regs start (first_quota s.world.size)))
          (subst (λ pc. pc < 2 ^ 18) (sym (pc-loaded q ws)) low, low, registers-loaded q ws, tt) h.ranges;
    }

safe-admitted : (s : S) (line : ℕ) (ws : List (ℕ × ℕ)) (start blocks : ℕ) (o : Option ℕ) → start < 2 ^ 18 → 1 ≤ blocks
    → ((n : ℕ) → o ≡ Some n → IsFree s.world.table.jobs n)
    → line < LINES → list_any (is_at line) s.world.table.jobs ≡ false → Safe s → Safe (admitted s line ws start blocks o).state
safe-admitted s line ws start blocks None low some free fits none h = h
safe-admitted s line ws start blocks (Some n) low some free fits none h =
    by_test (λ (m : Made). Safe m.state) (nat_le blocks s.world.cores.free) _ _
    (λ room. safe-image s n line ws start blocks low some (grind (arith, common_steps)) (free n refl) fits none h) (λ _. h)

-- the start of an image that is right
start-below : (ws : List (ℕ × ℕ)) (start top : ℕ) → image_top ws start ≡ Some top → start < 2 ^ 18
start-below ws start top =
    by_test (λ o. o ≡ Some top → start < 2 ^ 18) (nat_lt start (2 ^ 18)) (top_of ws) None (λ low _. grind (arith, common_steps)) (λ _ e. cc)

safe-examined : (s : S) (line : ℕ) (ws : List (ℕ × ℕ)) (start : ℕ) (o : Option ℕ) → image_top ws start ≡ o
    → line < LINES → list_any (is_at line) s.world.table.jobs ≡ false → Safe s → Safe (examined s line ws start o).state
safe-examined s line ws start None is fits none h = h
safe-examined s line ws start (Some top) is fits none h =
    safe-admitted s line ws start (blocks_for top) (free_number s.world.table.jobs) (start-below ws start top is) (omega arith)
    (free-number s.world.table.jobs) fits none h

safe-logged_in : (s : S) (line : ℕ) (ws : List (ℕ × ℕ)) (start : ℕ) → Safe s → Safe (logged_in s line ws start).state
safe-logged_in s line ws start h =
    by_test (λ (m : Made). Safe m.state) (nat_le LINES line) _ _ (λ _. h)
    (λ fits. by_test (λ (m : Made). Safe m.state) (list_any (is_at line) s.world.table.jobs) _ _ (λ _. h)
    (λ none. safe-examined s line ws start (image_top ws start) refl (grind (arith, common_steps)) none h))

-- at boot
none-replicate : (k n : ℕ) → job_at (replicate k None) n ≡ None
none-replicate zero n = refl
none-replicate (suc k) zero = refl
none-replicate (suc k) (suc n) = none-replicate k n

no-core : (k n free : ℕ) → core_of (record { cores = replicate k []; free = free }) n ≡ []
no-core zero n free = refl
no-core (suc k) zero free = refl
no-core (suc k) (suc n) free = no-core k n free

whole-replicate : (k i : ℕ) (d : List ℕ) → i < length (replicate {A = List ℕ} k []) → IsWhole (slice_index_or (replicate k []) i d)
whole-replicate zero i d low = absurd (omega arith)
whole-replicate (suc k) zero d low = refl
whole-replicate (suc k) (suc i) d low = whole-replicate k i d (omega arith)

sum-replicate : (k : ℕ) → sum_by (λ (words : List ℕ). length words) (replicate k []) ≡ 0
sum-replicate zero = refl
sum-replicate (suc k) = sum-replicate k

safe-empty : (size blocks : ℕ) (shared : List ℕ) (time quantum : ℕ) → blocks ≤ MOST_BLOCKS
    → Safe (record {
      world = record { size = size; table = no_jobs; lines = all_clear; requests = []; cores = all_free blocks; shared = shared };
      time = time;
      quantum = quantum;
      blocks = blocks;
    })
safe-empty size blocks shared time quantum few =
    let none = sum-replicate (JOBS + 1) in
    record {
      housed = record {
        slots = refl;
        none_0 = refl;
        store = record {
          jobs = refl;
          whole = λ i d low. whole-replicate (JOBS + 1) i d low;
          most = omega arith;
        };
        core = λ n h. absurd (both_ways (is_some (job_at (replicate (JOBS + 1) None) n)) (ap is_some (none-replicate (JOBS + 1) n)) h);
        bare = λ n h. no-core (JOBS + 1) n blocks;
      };
      queued = record {
        safe = always_safe size [] 0 (omega arith);
        live = λ n h. cc;
        waiting = λ n h. cc;
        latest = by_latest [] waits-none;
      };
      apart = λ a b line e f. absurd (no-line a line (sym (ap line_of (none-replicate (JOBS + 1) a)) ∙ e));
      total = omega arith;
      most = few;
      rings = refl;
      ranges = λ n. subst InRange (sym (none-replicate (JOBS + 1) n)) tt;
      numbers = λ a line e. absurd (no-line a line (sym (ap line_of (none-replicate (JOBS + 1) a)) ∙ e));
    }
  where
    no-line : (a line : ℕ) → line_of None ≡ Some line → ⊥
    no-line a line e = cc

pub safe-at_boot : (size blocks quantum : ℕ) → blocks ≤ MOST_BLOCKS → Safe (at_boot size blocks quantum)
safe-at_boot size blocks quantum few = safe-empty size blocks (replicate DATA_WORDS 0) 0 quantum few

pub safe-happens : (s : S) (e : Event) → Safe s → Safe (happens s e).state
safe-happens s Step h = safe-stepped s _ h (λ n e. next-ready s.world.table s.world.lines s.world.requests n e)
safe-happens s Tick h = safe-ticked s h
safe-happens s (Typed line c) h = safe-typed s line c h
safe-happens s (Take line n) h = safe-taken s line n h
safe-happens s (Login line image) h = safe-logged_in s line image.now.words.items image.now.start h
safe-happens s (Start n) h = safe-started s n h
safe-happens s (Continue n) h = safe-continued s n h
safe-happens s (Kill n) h = safe-killed s n _ h refl
safe-happens s Restart h = safe-empty s.world.size s.blocks s.world.shared s.time s.quantum h.most

-- the job that is next may run
pub record Runs (s : S) (n : ℕ) : Type 0 where
  pub number : IsJob n
  pub there : IsSome (job_at s.world.table.jobs n)
  pub chosen : IsSome (job_at (chosen s.world.table n s.quantum).jobs n)
  pub core : core_of s.world.cores n ≢ []

some-IsSome : (o : Option Job) → is_some o ≡ true → IsSome o
some-IsSome (Some j) h = search rules
some-IsSome None h = cc

pub runs-next : (s : S) (n : ℕ) → Safe s → next_job s.world.table s.world.lines s.world.requests ≡ Some n → Runs s n
runs-next s n h e =
    let f = free-next s n h (next-ready s.world.table s.world.lines s.world.requests n e) in
    record {
      number = is_job s.world.table.jobs s.world.cores n f.housed f.there;
      there = some-IsSome _ f.there;
      chosen = subst (λ jobs. IsSome (job_at jobs n)) (sym (jobs-chosen s.world.table n s.quantum)) (some-IsSome _ f.there);
      core = f.housed.core n f.there;
    }

pub no-circle : (s : S) → Safe s → NoPlainCircle s.world.requests
no-circle s h = safe_jobs_make_no_circle s.world.size s.world.requests h.queued.safe h.queued.latest
