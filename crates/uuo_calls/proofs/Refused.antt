-- Calls that answer in AC: what they answer, and what they leave where they are refused.
use Rattle.std.proofs.Common.{◌≡◌, ◌<◌, ◌∙◌, sym, ap, subst, ℕ, ◌+◌, ◌*◌, ◌/◌, ◌%◌, ◌^◌, ◌==◌, ◌⊎◌, inl, inr, Bool, true, false, List, [], ◌∷◌, ◌++◌}
use Rattle.std.proofs.Common.{length, Option, Some, None, is_none, is_some, slice_index, slice_set, refl, nat_le, nat_lt, cond, arith}
use Rattle.std.specs.Prelude.{Result, Ok, Err}
use Rattle.std.specs.List.{list_any}
use Rattle.std.proofs.lemmas.Bool.Decides.{nat_tests}
use Rattle.std.proofs.lemmas.List.{get_or-set_same}
use Rattle.arrayvec.specs.ArrayVec.{ArrayVec}
use Rattle.ka_state.specs.Memory.{are_legal}
use Rattle.word36.specs.declared.sizes.TheConstants.{DATA_WORDS}
use Rattle.word36.specs.Words.{left_half, right_half}
use Rattle.core_store.specs.Cores.{Cores, core_of, with_core}
use Rattle.call_block.specs.declared.block.Block.{Block}
use Rattle.lock_queue.specs.declared.call.Asking.{Asking}
use Rattle.lock_queue.specs.declared.call.LockCall.{LockCall}
use Rattle.lock_queue.specs.declared.call.LockCall.TheVariants.{Enqueue, Modify, DequeueNamed, DequeueAll, DequeueId}
use Rattle.lock_queue.specs.declared.call.LockReply.{LockReply}
use Rattle.lock_queue.specs.declared.call.LockReply.TheVariants.{Granted, Queued, Done as DoneReply, Refused}
use Rattle.lock_queue.specs.declared.refusal.Refusal.{Refusal}
use Rattle.lock_queue.specs.declared.refusal.Refusal.TheVariants.{NoSuchQuota}
use Rattle.lock_queue.specs.declared.request.EnqueueKind.{EnqueueKind}
use Rattle.lock_queue.specs.declared.request.EnqueueKind.TheVariants.{Blocking, AtOnce, Interrupt}
use Rattle.lock_queue.specs.declared.request.Request.{Request}
use Rattle.lock_queue.specs.declared.want.Want.{Want}
use Rattle.lock_queue.specs.Calls.{outcome_of}
use Rattle.lock_queue.specs.Changes.{with_changes}
use Rattle.lock_queue.specs.Dequeues.{dequeue_where, has_id, is_of_job, without_named}
use Rattle.lock_queue.specs.Enqueues.{arrival, enqueue_refusal, not_granted, request_of, with_arrival}
use Rattle.lock_queue.specs.Jobs.{is_interrupt}
use Rattle.lock_queue.specs.Queue.{granted}
use Rattle.lock_queue.specs.Outcomes.{Outcome, outcome, unless_refused}
use Rattle.lock_queue.specs.Refusals.{code_of}
use Rattle.job_sched.specs.declared.job.Job.{Job}
use Rattle.job_sched.specs.Tables.{job_at}
use Rattle.uuo_calls.specs.declared.service.Service.{Service}
use Rattle.uuo_calls.specs.declared.service.Service.TheVariants.{Reset, Core, Exit, Monrt, Logout, Mstime, Pjob, Sleep, Piini, Pisys, Debrk, Enq, Deq, Enqc}
use Rattle.uuo_calls.specs.declared.service.Service.TheVariants.{Datrd, Datwr, Input, Outchr, Outstr, Clrbfi, Clrbfo, Skpin, Unlisted}
use Rattle.uuo_calls.specs.CallState.{ac_of, skipping, with_ac}
use Rattle.uuo_calls.specs.CoreRow.{JobCores, blocks_asked, core_done, grown}
use Rattle.uuo_calls.specs.DataRows.{JobData}
use Rattle.uuo_calls.specs.InterruptRows.{armed_at}
use Rattle.uuo_calls.specs.Laws.{CoreAnswersFreeBlocks, HasSkipped, MstimeAnswersMilliseconds, RefusalsChangeAcAlone, service_in, skips_when_done, with_new_job}
use Rattle.uuo_calls.specs.LockRows.{answered, asked, changing, deq_asks, enq_asks, enq_limit, entering, naming, replied}
use Rattle.uuo_calls.specs.Performed.{Performed, World, around, ended, row_of, with_around}
use Rattle.uuo_calls.specs.QuotaRows.{named_job, quota_at, told_quota}
use Rattle.uuo_calls.specs.StatusRow.{Memory, answers_at, enqc, enqc_asks, status_words, stored, stored_at, stored_or_refused, with_room}
use Rattle.uuo_calls.proofs.Rows.{core-same, performs}
use Rattle.uuo_calls.proofs.Tests.{by_test}

-- job n has this word in an AC
abbrev pub Has : ℕ → ℕ → Performed → (Performed → ℕ) → Type 0
Has n ac p word = (k : Job) × (job_at p.world.table.jobs n ≡ Some k) × (ac_of k ac ≡ word p)

has-ac : (w : World) (n ac word : ℕ) (j k : Job) → n < length w.table.jobs → ac < length k.regs.ac
    → (m : Job) × (job_at (slice_set w.table.jobs n (Some (with_ac k ac word))) n ≡ Some m) × (ac_of m ac ≡ word)
has-ac w n ac word j k low within = (
  with_ac k ac word,
  get_or-set_same w.table.jobs n (Some (with_ac k ac word)) None low,
  get_or-set_same k.regs.ac ac word 0 within,
)

core-answer : (w : World) (n ac : ℕ) (j : Job) (o : Option Cores) → n < length w.table.jobs → ac < length j.regs.ac
    → (k : Job) × (job_at (slice_set w.table.jobs n (Some (core_done ac o j w.cores).job)) n ≡ Some k) × (ac_of k ac ≡ (core_done ac o j w.cores).cores.free)
core-answer w n ac j None low within = has-ac w n ac w.cores.free j j low within
core-answer w n ac j (Some new) low within = has-ac w n ac new.free j (skipping j) low within

pub core-answers : CoreAnswersFreeBlocks
core-answers w time n c j there low within is =
    let at = performs w time n c j there ∙ ap (λ s. ended w n (row_of s time n c.ac c.e (around w j))) is in
    let P : Performed → Type 0 = λ p. Has n c.ac p (λ q. q.world.cores.free) in
    subst P (sym at) (core-answer w n c.ac j (grown w.cores n (blocks_asked (ac_of j c.ac))) low within)

pub mstime-answers : MstimeAnswersMilliseconds
mstime-answers w time n c j there low within is =
    let at = performs w time n c j there ∙ ap (λ s. ended w n (row_of s time n c.ac c.e (around w j))) is in
    let P : Performed → Type 0 = λ p. Has n c.ac p (λ q. time * 50 / 3) in
    subst P (sym at) (has-ac w n c.ac (time * 50 / 3) j j low within)

-- AC alone is changed
abbrev pub AcAlone : World → ℕ → ℕ → Job → World → Type 0
AcAlone w n ac j new = (code : ℕ) × (new ≡ with_new_job w n (with_ac j ac code))

-- a request is left beside code 1 in AC
abbrev pub RequestStays : World → ℕ → ℕ → Job → World → Type 0
RequestStays w n ac j new = (request : Request) × (new ≡ record (with_new_job w n (with_ac j ac 1)) { requests = w.requests ++ request ∷ [] })

-- a call skips, or is refused
abbrev pub Comes : World → ℕ → ℕ → Job → Type 0 → World → Type 0
Comes w n ac j Two new = HasSkipped j new n ⊎ (AcAlone w n ac j new ⊎ (Two × RequestStays w n ac j new))

skipped : (w : World) (n : ℕ) (j k : Job) → n < length w.table.jobs → k.regs.pc ≡ (j.regs.pc + 1) % 2 ^ 18
    → (m : Job) × (job_at (slice_set w.table.jobs n (Some k)) n ≡ Some m) × (m.regs.pc ≡ (j.regs.pc + 1) % 2 ^ 18)
skipped w n j k low pc = (k, get_or-set_same w.table.jobs n (Some k) None low, pc)

abbrev pub with_job_of : World → ℕ → Job → World
with_job_of w n k = with_around w n (record (around w k) { job = k })

-- how a job alone comes out of a call
comes-job : (w : World) (n ac : ℕ) (j : Job) (b : Bool) (k : Job) (code : ℕ) (Two : Type 0) → n < length w.table.jobs → k.regs.pc ≡ (j.regs.pc + 1) % 2 ^ 18
    → Comes w n ac j Two (with_job_of w n (cond b k (with_ac j ac code)))
comes-job w n ac j true k code Two low pc = inl (skipped w n j k low pc)
comes-job w n ac j false k code Two low pc = inr (inl (code, refl))

comes-switch : (w : World) (n ac : ℕ) (j : Job) (bad bare : Bool) (k : Job) (Two : Type 0) → n < length w.table.jobs → k.regs.pc ≡ (j.regs.pc + 1) % 2 ^ 18
    → Comes w n ac j Two (with_job_of w n (cond bad (with_ac j ac 1) (cond bare (with_ac j ac 2) k)))
comes-switch w n ac j true bare k Two low pc = inr (inl (1, refl))
comes-switch w n ac j false true k Two low pc = inr (inl (2, refl))
comes-switch w n ac j false false k Two low pc = inl (skipped w n j k low pc)

comes-core : (w : World) (n ac : ℕ) (j : Job) (o : Option Cores) (Two : Type 0) → n < length w.table.jobs
    → Comes w n ac j Two (with_around w n (record (around w j) { job = (core_done ac o j w.cores).job; cores = (core_done ac o j w.cores).cores }))
comes-core w n ac j None Two low = inr (inl (w.cores.free, refl))
comes-core w n ac j (Some new) Two low = inl (skipped w n j (with_ac (skipping j) ac new.free) low refl)

comes-write : (w : World) (n ac : ℕ) (j : Job) (b : Bool) (words : List ℕ) (Two : Type 0) → n < length w.table.jobs
    → Comes w n ac j Two
    (with_around w n (record (around w j) {
      job =
          (cond {A = JobData} b (record { job = skipping j; shared = words }) (record { job = with_ac j ac 1; shared = w.shared })).job;
      shared =
          (cond {A = JobData} b (record { job = skipping j; shared = words }) (record { job = with_ac j ac 1; shared = w.shared })).shared;
    }))
comes-write w n ac j true words Two low = inl (skipped w n j (skipping j) low refl)
comes-write w n ac j false words Two low = inr (inl (1, refl))

-- words that are stored leave the PC
pc-stored : (p : Memory) (a : ℕ) (words : List ℕ) → (stored p a words).regs.pc ≡ p.regs.pc
pc-stored p a [] = refl
pc-stored p a (x ∷ words) = pc-stored (stored_at p a x) (a + 1) words

comes-told : (w : World) (n ac to : ℕ) (j : Job) (r : Result (List Want) Refusal) (Two : Type 0) → n < length w.table.jobs
    → Comes w n ac j Two
    (with_around w n (record (around w j) {
      job = (stored_or_refused w.requests n ac to j (core_of w.cores n) r).job;
      cores = with_core w.cores n (stored_or_refused w.requests n ac to j (core_of w.cores n) r).core;
    }))
comes-told w n ac to j (Err refusal) Two low =
    inr (inl (code_of refusal, ap (λ (s : Cores). record (with_new_job w n (with_ac j ac (code_of refusal))) { cores = s }) (core-same w.cores n)))
comes-told w n ac to j (Ok wants) Two low =
    inl
    (skipped w n j (stored_or_refused w.requests n ac to j (core_of w.cores n) (Ok wants)).job low
    (ap (λ pc. (pc + 1) % 2 ^ 18)
    (pc-stored (record { regs = j.regs; core = core_of w.cores n }) to (status_words w.requests n wants))))

-- what a refused lock call leaves of the requests
abbrev pub KeepsRequests : List Request → Type 0 → Outcome → Type 0
KeepsRequests requests Two o =
    (r : Refusal) → o.reply ≡ Refused r → (o.requests ≡ requests) ⊎ (Two × (code_of r ≡ 1) × ((request : Request) × (o.requests ≡ requests ++ request ∷ [])))

keeps-unless : (requests : List Request) (refusal : Option Refusal) (o : Outcome) (Two : Type 0) → KeepsRequests requests Two o
    → KeepsRequests requests Two (unless_refused requests refusal o)
keeps-unless requests (Some refusal) o Two h = λ r e. inl refl
keeps-unless requests None o Two h = h

keeps-not_granted : (requests : List Request) (request : Request) (kind : EnqueueKind) (Two : Type 0)
    → (is_interrupt kind ≡ true → Two)
    → KeepsRequests requests Two (not_granted requests (requests ++ request ∷ []) kind)
keeps-not_granted requests request Blocking Two two = λ r e. cc
keeps-not_granted requests request AtOnce Two two = λ r e. inl refl
keeps-not_granted requests request Interrupt Two two = λ r e. inr (two refl, (cc), (request, refl))

keeps-arrival : (requests : List Request) (n : ℕ) (asking : Asking) (wants : ArrayVec Want) (Two : Type 0)
    → (is_interrupt asking.kind ≡ true → Two)
    → KeepsRequests requests Two (arrival requests n asking wants)
keeps-arrival requests n asking wants Two two =
    by_test (KeepsRequests requests Two) (granted (with_arrival requests n asking false wants) (length requests)) _ _
    (λ _ r e. cc) (λ _. keeps-not_granted requests (request_of n asking false wants) asking.kind Two two)

keeps-where : (requests : List Request) (test : Request → Bool) (Two : Type 0) → KeepsRequests requests Two (dequeue_where requests test)
keeps-where requests test Two = by_test (KeepsRequests requests Two) (list_any test requests) _ _ (λ _ r e. cc) (λ _ r e. inl refl)

-- whether a call asks for an interrupt
abbrev pub is_interrupting : LockCall → Bool
is_interrupting (Enqueue asking wants) = is_interrupt asking.kind
is_interrupting (Modify wants) = false
is_interrupting (DequeueNamed wants) = false
is_interrupting DequeueAll = false
is_interrupting (DequeueId id) = false

keeps-call : (size : ℕ) (requests : List Request) (n : ℕ) (call : LockCall) (Two : Type 0) → (is_interrupting call ≡ true → Two)
    → KeepsRequests requests Two (outcome_of size requests n call)
keeps-call size requests n (Enqueue asking wants) Two two =
    keeps-unless requests (enqueue_refusal size requests n asking wants.items) (arrival requests n asking wants) Two
    (keeps-arrival requests n asking wants Two two)
keeps-call size requests n (Modify wants) Two two = keeps-unless requests _ (outcome (with_changes requests n wants.items) DoneReply) Two (λ r e. cc)
keeps-call size requests n (DequeueNamed wants) Two two = keeps-unless requests _ (outcome (without_named requests n wants.items) DoneReply) Two (λ r e. cc)
keeps-call size requests n DequeueAll Two two = keeps-where requests (is_of_job n) Two
keeps-call size requests n (DequeueId id) Two two = keeps-where requests (has_id n id) Two

abbrev pub is_interrupting_ask : Result LockCall Refusal → Bool
is_interrupting_ask (Ok call) = is_interrupting call
is_interrupting_ask (Err refusal) = false

keeps-asked : (size : ℕ) (requests : List Request) (n : ℕ) (asks : Result LockCall Refusal) (Two : Type 0)
    → (is_interrupting_ask asks ≡ true → Two)
    → KeepsRequests requests Two (asked size requests n asks)
keeps-asked size requests n (Ok call) Two two = keeps-call size requests n call Two two
keeps-asked size requests n (Err refusal) Two two = λ r e. inl refl

comes-refused : (w : World) (n ac : ℕ) (j : Job) (r : Refusal) (requests : List Request) (Two : Type 0)
    → (requests ≡ w.requests) ⊎ (Two × (code_of r ≡ 1) × ((request : Request) × (requests ≡ w.requests ++ request ∷ [])))
    → Comes w n ac j Two (with_around w n (record (around w j) { job = with_ac j ac (code_of r); requests = requests }))
comes-refused w n ac j r requests Two (inl same) = inr (inl (code_of r, ap (λ l. record (with_new_job w n (with_ac j ac (code_of r))) { requests = l }) same))
comes-refused w n ac j r requests Two (inr (two, one, kept)) =
    inr (inr (two, (kept.0, rw (one, kept.1) refl)))

comes-replied : (w : World) (n ac limit : ℕ) (j : Job) (reply : LockReply) (requests : List Request) (Two : Type 0)
    → n < length w.table.jobs
    → KeepsRequests w.requests Two (outcome requests reply)
    → Comes w n ac j Two (with_around w n (replied (around w j) ac limit (outcome requests reply)))
comes-replied w n ac limit j Granted requests Two low keeps = inl (skipped w n j (skipping j) low refl)
comes-replied w n ac limit j Queued requests Two low keeps = inl (skipped w n j (answered j ac limit Queued) low refl)
comes-replied w n ac limit j DoneReply requests Two low keeps = inl (skipped w n j (skipping j) low refl)
comes-replied w n ac limit j (Refused r) requests Two low keeps = comes-refused w n ac j r requests Two (keeps r refl)

comes-asked : (w : World) (n ac limit : ℕ) (j : Job) (asks : Result LockCall Refusal) (Two : Type 0) → n < length w.table.jobs
    → (is_interrupting_ask asks ≡ true → Two)
    → Comes w n ac j Two (with_around w n (replied (around w j) ac limit (asked w.size w.requests n asks)))
comes-asked w n ac limit j asks Two low two =
    let o = asked w.size w.requests n asks in
    comes-replied w n ac limit j o.reply o.requests Two low (keeps-asked w.size w.requests n asks Two two)

no-interrupt : (kind : EnqueueKind) (armed : Bool) (quota : ℕ) (r : Result Block Refusal) → is_interrupt kind ≡ false
    → is_interrupting_ask (entering kind armed quota r) ≡ false
no-interrupt kind armed quota (Ok block) e = e
no-interrupt kind armed quota (Err refusal) e = refl

no-change : (r : Result Block Refusal) → is_interrupting_ask (changing r) ≡ false
no-change (Ok block) = refl
no-change (Err refusal) = refl

no-naming : (r : Result Block Refusal) → is_interrupting_ask (naming r) ≡ false
no-naming (Ok block) = refl
no-naming (Err refusal) = refl

never : (b : Bool) (Two : Type 0) → b ≡ false → b ≡ true → Two
never b Two f t = absurd (cc)

-- ENQ. asks for an interrupt by its function 2 alone
asks-two : (regs core : List ℕ) (n word : ℕ) (armed : Bool) (quota : ℕ)
    → is_interrupting_ask (enq_asks regs core n word armed quota) ≡ true
    → left_half word ≡ 2
asks-two regs core n word armed quota =
    let P : Result LockCall Refusal → Type 0 = λ asks. is_interrupting_ask asks ≡ true → left_half word ≡ 2 in
    by_test P (left_half word == 0) _ _ (λ _. never _ _ (no-interrupt Blocking armed quota _ refl))
    (λ _. by_test P (left_half word == 1) _ _ (λ _. never _ _ (no-interrupt AtOnce armed quota _ refl))
    (λ _. by_test P (left_half word == 2) _ _ (λ is _. grind (arith, nat_tests))
    (λ _. by_test P (left_half word == 3) _ _ (λ _. never _ _ (no-change _)) (λ _ e. cc))))

asks-none : (regs core : List ℕ) (n word : ℕ) → is_interrupting_ask (deq_asks regs core n word) ≡ false
asks-none regs core n word =
    let P : Result LockCall Refusal → Type 0 = λ asks. is_interrupting_ask asks ≡ false in
    by_test P (left_half word == 0) _ _ (λ _. no-naming _)
    (λ _. by_test P (left_half word == 1) _ _ (λ _. refl) (λ _. by_test P (left_half word == 2) _ _ (λ _. refl) (λ _. refl)))

comes-quota : (w : World) (n ac k : ℕ) (j : Job) (quota : Option ℕ) (Two : Type 0) → n < length w.table.jobs
    → Comes w n ac j Two (with_job_of w n (told_quota w.requests k ac j quota))
comes-quota w n ac k j (Some quota) Two low = inl (skipped w n j (told_quota w.requests k ac j (Some quota)) low refl)
comes-quota w n ac k j None Two low = inr (inl (code_of NoSuchQuota, refl))

comes-enqc : (w : World) (n ac : ℕ) (j : Job) (Two : Type 0) → n < length w.table.jobs
    → Comes w n ac j Two
    (with_around w n (record (around w j) {
      job = (enqc w.table.jobs w.requests n ac j w.cores).job;
      cores = (enqc w.table.jobs w.requests n ac j w.cores).cores;
    }))
comes-enqc w n ac j Two low =
    let P : JobCores → Type 0 = λ o. Comes w n ac j Two (with_around w n (record (around w j) { job = o.job; cores = o.cores })) in
    let word = ac_of j ac in
    let k = named_job n (right_half word) in
    by_test P (left_half word == 1) _ _ (λ _. comes-quota w n ac k j (quota_at w.table.jobs k) Two low)
    (λ _. by_test P (left_half word == 2) _ _
    (λ _. comes-job w n ac j (nat_le (right_half word) j.quota) (skipping (record j { quota = right_half word })) (code_of NoSuchQuota) Two low refl)
    (λ _. comes-told w n ac (answers_at j ac) j (with_room (core_of w.cores n) (answers_at j ac) (enqc_asks j.regs.ac (core_of w.cores n) n word)) Two low))

comes-row : (s : Service) (w : World) (time n ac e : ℕ) (j : Job) → n < length w.table.jobs → skips_when_done s ≡ true
    → Comes w n ac j ((left_half (ac_of j ac) ≡ 2) × (s ≡ Enq)) (ended w n (row_of s time n ac e (around w j))).world
comes-row Core w time n ac e j low done = comes-core w n ac j (grown w.cores n (blocks_asked (ac_of j ac))) _ low
comes-row Piini w time n ac e j low done =
    comes-job w n ac j (are_legal (core_of w.cores n) (right_half (ac_of j ac)) 4)
    (skipping (armed_at j (right_half (ac_of j ac)))) 1 _ low refl
comes-row Pisys w time n ac e j low done = comes-switch w n ac j (nat_le 2 (ac_of j ac)) (is_none j.interrupts.vector) _ _ low refl
comes-row Enq w time n ac e j low done =
    comes-asked w n ac (enq_limit j.regs.ac (core_of w.cores n) n (ac_of j ac)) j
    (enq_asks j.regs.ac (core_of w.cores n) n (ac_of j ac) (is_some j.interrupts.vector) j.quota) _ low
    (λ i. (asks-two j.regs.ac (core_of w.cores n) n (ac_of j ac) (is_some j.interrupts.vector) j.quota i, refl))
comes-row Deq w time n ac e j low done =
    comes-asked w n ac 0 j (deq_asks j.regs.ac (core_of w.cores n) n (ac_of j ac)) _ low (never _ _ (asks-none j.regs.ac (core_of w.cores n) n (ac_of j ac)))
comes-row Enqc w time n ac e j low done = comes-enqc w n ac j _ low
comes-row Datrd w time n ac e j low done =
    comes-job w n ac j (nat_lt (right_half (ac_of j ac)) DATA_WORDS) (skipping (with_ac j ac (slice_index w.shared (right_half (ac_of j ac))))) 1 _ low refl
comes-row Datwr w time n ac e j low done = comes-write w n ac j (nat_lt (right_half (ac_of j ac)) DATA_WORDS) _ _ low
comes-row Reset w time n ac e j low done = absurd (cc)
comes-row Exit w time n ac e j low done = absurd (cc)
comes-row Monrt w time n ac e j low done = absurd (cc)
comes-row Logout w time n ac e j low done = absurd (cc)
comes-row Mstime w time n ac e j low done = absurd (cc)
comes-row Pjob w time n ac e j low done = absurd (cc)
comes-row Sleep w time n ac e j low done = absurd (cc)
comes-row Debrk w time n ac e j low done = absurd (cc)
comes-row (Input unit skips) w time n ac e j low done = absurd (cc)
comes-row Outchr w time n ac e j low done = absurd (cc)
comes-row Outstr w time n ac e j low done = absurd (cc)
comes-row Clrbfi w time n ac e j low done = absurd (cc)
comes-row Clrbfo w time n ac e j low done = absurd (cc)
comes-row (Skpin unit) w time n ac e j low done = absurd (cc)
comes-row Unlisted w time n ac e j low done = absurd (cc)

pub refusals : RefusalsChangeAcAlone
refusals w time n c j there low done =
    let P : Performed → Type 0 = λ p. Comes w n c.ac j ((left_half (ac_of j c.ac) ≡ 2) × (service_in c ≡ Enq)) p.world in
    subst P (sym (performs w time n c j there)) (comes-row (service_in c) w time n c.ac c.e j low done)
