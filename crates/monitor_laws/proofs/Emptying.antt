-- A call that leaves its job waiting for the terminal puts the PC back and changes nothing else.
use Rattle.std.proofs.Common.{◌≡◌, ◌<◌, ℕ, nat_le, nat_lt, Bool, true, false, is_none, is_some, List, [], length, Option, Some, None, Result, Ok, Err, refl}
use Rattle.std.proofs.lemmas.Bool.{both_ways}
use Rattle.std.proofs.lemmas.List.{get_or-set_same}
use Rattle.word36.specs.declared.sizes.TheConstants.{DATA_WORDS, OUTPUT_RING}
use Rattle.word36.specs.Words.{right_half}
use Rattle.ka_state.specs.Memory.{is_legal, are_legal, word_below}
use Rattle.core_store.specs.Cores.{Cores, core_of, with_core}
use Rattle.lock_queue.specs.declared.call.LockReply.{LockReply}
use Rattle.lock_queue.specs.declared.call.LockReply.TheVariants.{Granted, Queued, Done as DoneReply, Refused}
use Rattle.lock_queue.specs.declared.refusal.Refusal.{Refusal}
use Rattle.lock_queue.specs.declared.request.Request.{Request}
use Rattle.lock_queue.specs.declared.want.Want.{Want}
use Rattle.tty_lines.specs.Rings.{input_of, room_of}
use Rattle.job_sched.specs.declared.job.Job.{Job}
use Rattle.uuo_calls.specs.declared.service.Awaited.{Awaited}
use Rattle.uuo_calls.specs.declared.service.Service.{Service}
use Rattle.uuo_calls.specs.declared.service.Service.TheVariants.{Reset, Core, Exit, Monrt, Logout, Mstime, Pjob, Sleep, Piini, Pisys, Debrk, Enq, Deq, Enqc}
use Rattle.uuo_calls.specs.declared.service.Service.TheVariants.{Datrd, Datwr, Input, Outchr, Outstr, Clrbfi, Clrbfo, Skpin, Unlisted}
use Rattle.uuo_calls.specs.CallState.{CallState, ac_of, put_back}
use Rattle.uuo_calls.specs.CoreRow.{JobCores, grown, blocks_asked, core_done}
use Rattle.uuo_calls.specs.DataRows.{JobData}
use Rattle.uuo_calls.specs.InterruptRows.{dismissed, dismissed_at, vector_in_progress}
use Rattle.uuo_calls.specs.LockRows.{asked, answered, enq_asks, enq_limit, deq_asks}
use Rattle.uuo_calls.specs.Performed.{row_of}
use Rattle.uuo_calls.specs.StatusRow.{stored_or_refused, answers_at, with_room, enqc_asks}
use Rattle.uuo_calls.specs.TerminalRows.{JobLines, JobInput, put_text, low_character, text_from, input_called, has_input, stored_input, no_input, skipping_if}
use Rattle.uuo_calls.specs.Laws.{is_terminal_wait}
use Rattle.ka_cpu.proofs.ExecLaws.{by_test}
use Rattle.monitor_laws.proofs.Enquiring.{by_enqc}

-- a job does not wait for its terminal
abbrev pub Calm : Job → Type 0
Calm j = is_terminal_wait j.wait ≡ false

calm-done : (ac : ℕ) (o : Option Cores) (j : Job) (cores : Cores) → Calm j → Calm (core_done ac o j cores).job
calm-done ac None j cores h = h
calm-done ac (Some new) j cores h = h

calm-answered : (j : Job) (ac limit : ℕ) (r : LockReply) → Calm j → Calm (answered j ac limit r)
calm-answered j ac limit Granted h = h
calm-answered j ac limit Queued h = refl
calm-answered j ac limit DoneReply h = h
calm-answered j ac limit (Refused refusal) h = h

calm-told : (requests : List Request) (n ac to : ℕ) (j : Job) (core : List ℕ) (r : Result (List Want) Refusal) → Calm j
    → Calm (stored_or_refused requests n ac to j core r).job
calm-told requests n ac to j core (Err refusal) h = h
calm-told requests n ac to j core (Ok wants) h = h

calm-dismissed : (j : Job) (o : Option ℕ) → Calm j → Calm (dismissed j o)
calm-dismissed j None h = h
calm-dismissed j (Some w) h = h

calm-dismissed_at : (core : List ℕ) (j : Job) (o : Option ℕ) → Calm j → Calm (dismissed_at core j o)
calm-dismissed_at core j None h = h
calm-dismissed_at core j (Some vector) h = calm-dismissed j _ h

calm-skipping : (b : Bool) (j : Job) → Calm j → Calm (skipping_if b j)
calm-skipping true j h = h
calm-skipping false j h = h

-- what a call leaves that puts the PC back and changes nothing else
pub record Leaves (n : ℕ) (a b : CallState) : Type 0 where
  pub regs : b.job.regs ≡ (put_back a.job).regs
  pub line : b.job.line ≡ a.job.line
  pub off : b.job.interrupts ≡ a.job.interrupts
  pub lines : b.lines ≡ a.lines
  pub core : core_of b.cores n ≡ core_of a.cores n

-- OUTCHR and OUTSTR
leaves-put : (n : ℕ) (a : CallState) (o : Option (List ℕ)) → Calm a.job → is_terminal_wait (put_text o a.job a.lines).job.wait ≡ true
    → Leaves n a (record a { job = (put_text o a.job a.lines).job; lines = (put_text o a.job a.lines).lines; ending = (put_text o a.job a.lines).ending })
leaves-put n a None d = λ h. absurd (both_ways (is_terminal_wait a.job.wait) d h)
leaves-put n a (Some text) d =
    by_test (λ (p : JobLines). is_terminal_wait p.job.wait ≡ true → Leaves n a (record a { job = p.job; lines = p.lines; ending = p.ending }))
    (nat_le (length text) (room_of a.lines a.job.line)) _ _
    (λ _ h. absurd (both_ways (is_terminal_wait a.job.wait) d h))
    (λ _ h. record { regs = refl; line = refl; off = refl; lines = refl; core = refl })

-- INCHRW and INCHWL
same-core : (cores : Cores) (n : ℕ) → n < length cores.cores → core_of (with_core cores n (core_of cores n)) n ≡ core_of cores n
same-core cores n low = get_or-set_same cores.cores n (core_of cores n) [] low

leaves-no_input : (unit : Awaited) (skips : Bool) (n : ℕ) (a : CallState) → n < length a.cores.cores → Calm a.job
    → is_terminal_wait (no_input unit skips (core_of a.cores n) a.job a.lines).job.wait ≡ true
    → Leaves n a (record a {
      job = (no_input unit skips (core_of a.cores n) a.job a.lines).job;
      cores = with_core a.cores n (no_input unit skips (core_of a.cores n) a.job a.lines).core;
      lines = (no_input unit skips (core_of a.cores n) a.job a.lines).lines;
      ending = (no_input unit skips (core_of a.cores n) a.job a.lines).ending;
    })
leaves-no_input unit true n a low d h = absurd (both_ways (is_terminal_wait a.job.wait) d h)
leaves-no_input unit false n a low d h = record { regs = refl; line = refl; off = refl; lines = refl; core = same-core a.cores n low }

leaves-input : (unit : Awaited) (skips : Bool) (n e : ℕ) (a : CallState) → n < length a.cores.cores → Calm a.job
    → is_terminal_wait (input_called unit skips e (core_of a.cores n) a.job a.lines).job.wait ≡ true
    → Leaves n a (record a {
      job = (input_called unit skips e (core_of a.cores n) a.job a.lines).job;
      cores = with_core a.cores n (input_called unit skips e (core_of a.cores n) a.job a.lines).core;
      lines = (input_called unit skips e (core_of a.cores n) a.job a.lines).lines;
      ending = (input_called unit skips e (core_of a.cores n) a.job a.lines).ending;
    })
leaves-input unit skips n e a low d =
    by_test
    (λ (o : JobInput). is_terminal_wait o.job.wait ≡ true
    → Leaves n a (record a { job = o.job; cores = with_core a.cores n o.core; lines = o.lines; ending = o.ending }))
    (is_legal (core_of a.cores n) e) _ _
    (λ _. by_test
    (λ (o : JobInput). is_terminal_wait o.job.wait ≡ true
    → Leaves n a (record a { job = o.job; cores = with_core a.cores n o.core; lines = o.lines; ending = o.ending }))
    (has_input unit (input_of a.lines a.job.line)) (stored_input skips e (core_of a.cores n) a.job a.lines)
    (no_input unit skips (core_of a.cores n) a.job a.lines)
    (λ _ h. absurd (both_ways _ (calm-skipping skips _ d) h))
    (λ _ h. leaves-no_input unit skips n a low d h))
    (λ _ h. absurd (both_ways (is_terminal_wait a.job.wait) d h))

pub empty-row : (service : Service) (time n ac e : ℕ) (a : CallState) → n < length a.cores.cores → Calm a.job
    → is_terminal_wait (row_of service time n ac e a).job.wait ≡ true → Leaves n a (row_of service time n ac e a)
empty-row Reset time n ac e a low d h = absurd (both_ways _ d h)
empty-row Core time n ac e a low d h = absurd (both_ways _ (calm-done ac (grown a.cores n (blocks_asked (ac_of a.job ac))) a.job a.cores d) h)
empty-row Exit time n ac e a low d h = absurd (both_ways _ d h)
empty-row Monrt time n ac e a low d h = absurd (both_ways _ d h)
empty-row Logout time n ac e a low d h = absurd (both_ways _ d h)
empty-row Mstime time n ac e a low d h = absurd (both_ways _ d h)
empty-row Pjob time n ac e a low d h = absurd (both_ways _ d h)
empty-row Sleep time n ac e a low d h = absurd (both_ways false refl h)
empty-row Piini time n ac e a low d h =
    absurd (both_ways _ (by_test Calm (are_legal (core_of a.cores n) (right_half (ac_of a.job ac)) 4) _ _ (λ _. d) (λ _. d)) h)
empty-row Pisys time n ac e a low d h =
    absurd (both_ways _ (by_test Calm (nat_le 2 (ac_of a.job ac)) _ _ (λ _. d) (λ _. by_test Calm (is_none a.job.interrupts.vector) _ _ (λ _. d) (λ _. d))) h)
empty-row Debrk time n ac e a low d h =
    absurd (both_ways _ (calm-dismissed_at (core_of a.cores n) a.job (vector_in_progress a.job.interrupts) d) h)
empty-row Enq time n ac e a low d h =
    absurd (both_ways _ (calm-answered a.job ac (enq_limit a.job.regs.ac (core_of a.cores n) n (ac_of a.job ac))
    (asked a.size a.requests n (enq_asks a.job.regs.ac (core_of a.cores n) n (ac_of a.job ac) (is_some a.job.interrupts.vector) a.job.quota)).reply d) h)
empty-row Deq time n ac e a low d h =
    absurd (both_ways _ (calm-answered a.job ac 0 (asked a.size a.requests n (deq_asks a.job.regs.ac (core_of a.cores n) n (ac_of a.job ac))).reply d) h)
empty-row Enqc time n ac e a low d h =
    absurd (both_ways _ (by_enqc (λ (o : JobCores). Calm o.job) a.jobs a.requests n ac a.job a.cores (λ w. d) (λ code. d) (λ quota. d)
    (calm-told a.requests n ac (answers_at a.job ac) a.job (core_of a.cores n)
    (with_room (core_of a.cores n) (answers_at a.job ac) (enqc_asks a.job.regs.ac (core_of a.cores n) n (ac_of a.job ac)))
    d)) h)
empty-row Datrd time n ac e a low d h =
    absurd (both_ways _ (by_test Calm (nat_lt (right_half (ac_of a.job ac)) DATA_WORDS) _ _ (λ _. d) (λ _. d)) h)
empty-row Datwr time n ac e a low d h =
    absurd (both_ways _ (by_test (λ (o : JobData). Calm o.job) (nat_lt (right_half (ac_of a.job ac)) DATA_WORDS) _ _ (λ _. d) (λ _. d)) h)
empty-row (Input unit skips) time n ac e a low d h = leaves-input unit skips n e a low d h
empty-row Outchr time n ac e a low d h = leaves-put n a (low_character (word_below a.job.regs.ac (core_of a.cores n) e)) d h
empty-row Outstr time n ac e a low d h = leaves-put n a (text_from a.job.regs.ac (core_of a.cores n) e [] OUTPUT_RING) d h
empty-row Clrbfi time n ac e a low d h = absurd (both_ways _ d h)
empty-row Clrbfo time n ac e a low d h = absurd (both_ways _ d h)
empty-row (Skpin unit) time n ac e a low d h = absurd (both_ways _ (calm-skipping (has_input unit (input_of a.lines a.job.line)) a.job d) h)
empty-row Unlisted time n ac e a low d h = absurd (both_ways _ d h)
