-- No event but a login gives a job a line, and all words stay as many.
use Rattle.std.proofs.Common.{◌≡◌, ◌≢◌, ◌≤◌, ◌<◌, ◌∙◌, sym, ap, subst, ℕ, ◌+◌, ◌-◌, ◌*◌, nat_lt, nat_le, Bool, true, false, List, [], length, Option}
use Rattle.std.proofs.Common.{Some, None, is_some, is_none, Result, Ok, Err, refl, arith, slice_set, replicate, sum_by, inl, inr}
use Rattle.std.proofs.lemmas.Grind.{common_steps}
use Rattle.std.proofs.lemmas.Bool.{cases_eq}
use Rattle.std.proofs.lemmas.List.{get_or-set_same, get_or-set_other, length-set}
use Rattle.std.proofs.lemmas.List.Sums.{sum_by-set}
use Rattle.word36.specs.declared.sizes.TheConstants.{BLOCK_WORDS, DATA_WORDS, OUTPUT_RING, LINES}
use Rattle.word36.specs.Words.{right_half}
use Rattle.ka_cpu.specs.Effects.{After}
use Rattle.ka_cpu.specs.Exec.{exec}
use Rattle.ka_state.specs.Memory.{is_legal, are_legal, word_below}
use Rattle.ka_state.specs.declared.outcome.Outcome.{Outcome}
use Rattle.ka_state.specs.declared.outcome.Outcome.TheVariants as outcome
use Rattle.ka_state.specs.declared.outcome.StopReason.TheVariants.{IllegalAddress}
use Rattle.core_store.specs.Cores.{Cores, IsJob, IsStore, IsWhole, core_of, blocks_of, with_core, taken, resized, resized_words, given}
use Rattle.core_store.proofs.StoreLemmas.{IsWhole-core_of}
use Rattle.lock_queue.specs.declared.call.LockReply.{LockReply}
use Rattle.lock_queue.specs.declared.call.LockReply.TheVariants.{Granted, Queued as QueuedReply, Done as DoneReply, Refused as RefusedReply}
use Rattle.lock_queue.specs.declared.refusal.Refusal.{Refusal}
use Rattle.lock_queue.specs.declared.request.Request.{Request}
use Rattle.lock_queue.specs.declared.want.Want.{Want}
use Rattle.lock_queue.specs.Jobs.{pending}
use Rattle.tty_lines.specs.Rings.{Rings, input_of, room_of}
use Rattle.job_sched.specs.Tables.{job_at}
use Rattle.job_sched.specs.declared.job.Job.{Job}
use Rattle.uuo_calls.specs.declared.call.CallOutcome.{CallOutcome}
use Rattle.uuo_calls.specs.declared.call.CallOutcome.TheVariants as ending
use Rattle.uuo_calls.specs.declared.service.Awaited.{Awaited}
use Rattle.uuo_calls.specs.declared.service.Service.{Service}
use Rattle.uuo_calls.specs.declared.service.Service.TheVariants.{Reset, Core, Exit, Monrt, Logout, Mstime, Pjob, Sleep, Piini, Pisys, Debrk, Enq, Deq, Enqc}
use Rattle.uuo_calls.specs.declared.service.Service.TheVariants.{Datrd, Datwr, Input, Outchr, Outstr, Clrbfi, Clrbfo, Skpin, Unlisted}
use Rattle.uuo_calls.specs.CallState.{CallState, ac_of, stopped}
use Rattle.uuo_calls.specs.CoreRow.{JobCores, grown, blocks_asked, core_done, with_highest}
use Rattle.uuo_calls.specs.DataRows.{JobData}
use Rattle.uuo_calls.specs.InterruptRows.{dismissed, dismissed_at, vector_in_progress}
use Rattle.uuo_calls.specs.LockRows.{asked, answered, enq_asks, enq_limit, deq_asks}
use Rattle.uuo_calls.specs.Performed.{World, row_of, around, with_around, left_by}
use Rattle.uuo_calls.specs.StatusRow.{stored_or_refused, answers_at, with_room, enqc_asks, status_told}
use Rattle.uuo_calls.specs.TerminalRows.{JobLines, JobInput, put_text, text_from, low_character, has_input, stored_input, no_input, input_called, skipping_if}
use Rattle.machine.specs.Machine.{with_turn, awake}
use Rattle.machine.specs.Safe.{InRange, Housed, line_of, LinesApart, LinesBelow, all_words}
use Rattle.machine.specs.Turns.{Turn, turn_of, turned, due, concluded, done, notified_at, interrupted_at}
use Rattle.monitor_laws.proofs.Housing.{SameJobs, there-below, is_job}
use Rattle.monitor_laws.proofs.Ranges.{ranges-set, fits-awake, fits-row, fits-turned}
use Rattle.ka_cpu.proofs.ExecLaws.{by_test, length-exec}
use Rattle.monitor_laws.proofs.Turning.{length-noted}
use Rattle.monitor_laws.proofs.Enquiring.{by_enqc}
use Rattle.monitor_laws.proofs.Stored.{length-status, length-input}

-- a job has a line only if it had it
abbrev pub KeepsLines : List (Option Job) → List (Option Job) → Type 0
KeepsLines old new = (k line : ℕ) → line_of (job_at new k) ≡ Some line → line_of (job_at old k) ≡ Some line

pub apart-kept : (old new : List (Option Job)) → KeepsLines old new → LinesApart old → LinesApart new
apart-kept old new keeps apart a b line e f = apart a b line (keeps a line e) (keeps b line f)

pub lines-set : (jobs : List (Option Job)) (n : ℕ) (j : Job) → is_some (job_at jobs n) ≡ true → line_of (job_at jobs n) ≡ Some j.line
    → KeepsLines jobs (slice_set jobs n (Some j))
lines-set jobs n j there same k line e = elim (cases_eq k n) [
  | inl is ↦ subst (λ m. line_of (job_at jobs m) ≡ Some line) (sym is)
      (same ∙ sym (ap line_of (get_or-set_same jobs n (Some j) None (there-below jobs n there)))
      ∙ subst (λ m. line_of (job_at (slice_set jobs n (Some j)) m) ≡ Some line) is e)
  | inr other ↦ sym (ap line_of (get_or-set_other jobs n k (Some j) None other)) ∙ e
]

pub below-kept : (old new : List (Option Job)) → KeepsLines old new → LinesBelow old → LinesBelow new
below-kept old new keeps below a line e = below a line (keeps a line e)

pub below-new : (jobs : List (Option Job)) (n : ℕ) (j : Job) → n < length jobs → j.line < LINES → LinesBelow jobs → LinesBelow (slice_set jobs n (Some j))
below-new jobs n j low fits below a line e = elim (cases_eq a n) [
  | inl at ↦ (
      let same : Some j.line ≡ Some line =
      sym (ap line_of (get_or-set_same jobs n (Some j) None low))
      ∙ subst (λ m. line_of (job_at (slice_set jobs n (Some j)) m) ≡ Some line) at e in
      let is : j.line ≡ line = cc in
      subst (λ l. l < LINES) is fits)
  | inr ao ↦ below a line (sym (ap line_of (get_or-set_other jobs n a (Some j) None ao)) ∙ e)
]

none-line : (line : ℕ) → line_of None ≡ Some line → ⊥
none-line line e = cc

pub lines-gone : (jobs : List (Option Job)) (n : ℕ) → is_some (job_at jobs n) ≡ true → KeepsLines jobs (slice_set jobs n None)
lines-gone jobs n there k line e = elim (cases_eq k n) [
  | inl is ↦
      absurd
      (none-line line
      (sym (ap line_of (get_or-set_same jobs n None None (there-below jobs n there)))
      ∙ subst (λ m. line_of (job_at (slice_set jobs n None) m) ≡ Some line) is e))
  | inr other ↦ sym (ap line_of (get_or-set_other jobs n k None None other)) ∙ e
]

pub lines-same : (old new : List (Option Job)) → SameJobs old new → KeepsLines old new
lines-same old new m k line e = sym (m.line k) ∙ e

-- a job that begins at a line that no job has
pub apart-new : (jobs : List (Option Job)) (n : ℕ) (j : Job) → n < length jobs → ((k : ℕ) → line_of (job_at jobs k) ≡ Some j.line → ⊥)
    → LinesApart jobs → LinesApart (slice_set jobs n (Some j))
apart-new jobs n j low none apart a b line e f = elim (cases_eq a n) [
  | inl at ↦ elim (cases_eq b n) [
    | inl bt ↦ at ∙ sym bt
    | inr bo ↦ absurd (none b (before b bo line f ∙ sym (own a at line e)))
  ]
  | inr ao ↦ elim (cases_eq b n) [
    | inl bt ↦ absurd (none a (before a ao line e ∙ sym (own b bt line f)))
    | inr bo ↦ apart a b line (before a ao line e) (before b bo line f)
  ]
]
  where
    own : (k : ℕ) → k ≡ n → (line : ℕ) → line_of (job_at (slice_set jobs n (Some j)) k) ≡ Some line → Some j.line ≡ Some line
    own k is line e = sym (ap line_of (get_or-set_same jobs n (Some j) None low)) ∙ subst (λ m. line_of (job_at (slice_set jobs n (Some j)) m) ≡ Some line) is e

    before : (k : ℕ) → k ≢ n → (line : ℕ) → line_of (job_at (slice_set jobs n (Some j)) k) ≡ Some line → line_of (job_at jobs k) ≡ Some line
    before k other line e = sym (ap line_of (get_or-set_other jobs n k (Some j) None other)) ∙ e

-- all words where one job's change
words-set : (s : Cores) (n free : ℕ) (words : List ℕ) → n < length s.cores → length words + free * BLOCK_WORDS ≡ length (core_of s n) + s.free * BLOCK_WORDS
    → all_words (record { cores = slice_set s.cores n words; free = free }) ≡ all_words s
words-set s n free words low same =
    let total : sum_by (λ ws. length ws) (slice_set s.cores n words) + length (core_of s n)
    ≡ sum_by (λ ws. length ws) s.cores + length words = sum_by-set (λ ws. length ws) s.cores n words [] low in
    omega arith

pub words-core : (s : Cores) (n : ℕ) (words : List ℕ) → n < length s.cores → length words ≡ length (core_of s n) → all_words (with_core s n words) ≡ all_words s
words-core s n words low same = words-set s n s.free words low (omega arith)

pub words-given : (s : Cores) (n : ℕ) → IsStore s → IsJob n → all_words (given s n) ≡ all_words s
words-given s n store number =
    let whole : IsWhole (core_of s n) = IsWhole-core_of s n store number in
    words-set s n (s.free + blocks_of s n) [] (omega (arith, store.jobs, number.1)) (omega arith)

words-resized : (s : Cores) (n blocks : ℕ) → IsStore s → IsJob n → blocks ≤ s.free + blocks_of s n → all_words (resized s n blocks) ≡ all_words s
words-resized s n blocks store number room =
    let whole : IsWhole (core_of s n) = IsWhole-core_of s n store number in
    let long : length (resized_words (core_of s n) blocks) ≡ blocks * BLOCK_WORDS = grind (arith, common_steps) in
    words-set s n (s.free + blocks_of s n - blocks) (resized_words (core_of s n) blocks) (omega (arith, store.jobs, number.1)) (omega arith)

pub words-taken : (s : Cores) (n blocks : ℕ) (words : List ℕ) → IsJob n → blocks ≤ s.free → IsStore s → core_of s n ≡ [] → length words ≡ blocks * BLOCK_WORDS
    → all_words (with_core (taken s n blocks) n words) ≡ all_words s
words-taken s n blocks words number room store bare long =
    let low : n < length s.cores = omega (arith, store.jobs, number.1) in
    let zeros : length (replicate {A = ℕ} (blocks * BLOCK_WORDS) 0) ≡ blocks * BLOCK_WORDS = grind (arith, common_steps) in
    let none : length (core_of s n) ≡ 0 = ap length bare in
    let at : core_of (taken s n blocks) n ≡ replicate (blocks * BLOCK_WORDS) 0 = get_or-set_same s.cores n (replicate (blocks * BLOCK_WORDS) 0) [] low in
    words-core (taken s n blocks) n words (omega (arith, length-set s.cores n (replicate (blocks * BLOCK_WORDS) 0))) (long ∙ sym zeros ∙ sym (ap length at))
    ∙ words-set s n (s.free - blocks) (replicate (blocks * BLOCK_WORDS) 0) low (omega arith)

-- what one event leaves of lines and words
pub record Kept (v w : World) : Type 0 where
  pub lines : KeepsLines v.table.jobs w.table.jobs
  pub words : all_words w.cores ≡ all_words v.cores
  pub rings : length w.lines ≡ length v.lines
  pub ranges : ((n : ℕ) → InRange (job_at v.table.jobs n)) → (n : ℕ) → InRange (job_at w.table.jobs n)

pub kept-refl : (w : World) → Kept w w
kept-refl w = record { lines = λ k line e. e; words = refl; rings = refl; ranges = λ p. p }

-- CORE
words-grown : (cores new : Cores) (n : ℕ) (asks : Option ℕ) → IsStore cores → IsJob n → grown cores n asks ≡ Some new → all_words new ≡ all_words cores
words-grown cores new n None store number = λ e. cc
words-grown cores new n (Some blocks) store number =
    by_test (λ o. o ≡ Some new → all_words new ≡ all_words cores) (nat_le blocks (cores.free + blocks_of cores n))
    (Some (with_highest (resized cores n blocks) n blocks)) None
    (λ fits e.
    let same : with_highest (resized cores n blocks) n blocks ≡ new = cc in
    let room : blocks ≤ cores.free + blocks_of cores n = grind (arith, common_steps) in
    let low : n < length (resized cores n blocks).cores =
    omega (arith, store.jobs, number.1, length-set cores.cores n (resized_words (core_of cores n) blocks)) in
    subst (λ c. all_words c ≡ all_words cores) same
    (words-core (resized cores n blocks) n _ low
    (length-set (core_of (resized cores n blocks) n) 0o44 (blocks * BLOCK_WORDS - 1))
    ∙ words-resized cores n blocks store number room))
    (λ _ e. cc)

words-done : (ac : ℕ) (o : Option Cores) (j : Job) (cores : Cores) → ((new : Cores) → o ≡ Some new → all_words new ≡ all_words cores)
    → all_words (core_done ac o j cores).cores ≡ all_words cores
words-done ac None j cores h = refl
words-done ac (Some new) j cores h = h new refl

words-row : (service : Service) (time n ac e : ℕ) (a : CallState) → IsStore a.cores → IsJob n → all_words (row_of service time n ac e a).cores ≡ all_words a.cores
words-row Reset time n ac e a store number = refl
words-row Core time n ac e a store number =
    words-done ac (grown a.cores n (blocks_asked (ac_of a.job ac))) a.job a.cores
    (λ new is. words-grown a.cores new n (blocks_asked (ac_of a.job ac)) store number is)
words-row Exit time n ac e a store number = refl
words-row Monrt time n ac e a store number = refl
words-row Logout time n ac e a store number = refl
words-row Mstime time n ac e a store number = refl
words-row Pjob time n ac e a store number = refl
words-row Sleep time n ac e a store number = refl
words-row Piini time n ac e a store number = refl
words-row Pisys time n ac e a store number = refl
words-row Debrk time n ac e a store number = refl
words-row Enq time n ac e a store number = refl
words-row Deq time n ac e a store number = refl
words-row Enqc time n ac e a store number =
    by_enqc (λ (o : JobCores). all_words o.cores ≡ all_words a.cores) a.jobs a.requests n ac a.job a.cores (λ w. refl) (λ code. refl) (λ quota. refl)
    (words-core a.cores n (status_told a.requests n ac a.job (core_of a.cores n)).core (omega (arith, store.jobs, number.1))
    (length-status a.requests n ac a.job (core_of a.cores n)))
words-row Datrd time n ac e a store number = refl
words-row Datwr time n ac e a store number = refl
words-row (Input unit skips) time n ac e a store number =
    words-core a.cores n (input_called unit skips e (core_of a.cores n) a.job a.lines).core (omega (arith, store.jobs, number.1))
    (length-input unit skips e (core_of a.cores n) a.job a.lines)
words-row Outchr time n ac e a store number = refl
words-row Outstr time n ac e a store number = refl
words-row Clrbfi time n ac e a store number = refl
words-row Clrbfo time n ac e a store number = refl
words-row (Skpin unit) time n ac e a store number = refl
words-row Unlisted time n ac e a store number = refl

-- a job keeps its line
line-done : (ac : ℕ) (o : Option Cores) (j : Job) (cores : Cores) → (core_done ac o j cores).job.line ≡ j.line
line-done ac None j cores = refl
line-done ac (Some new) j cores = refl

line-answered : (j : Job) (ac limit : ℕ) (r : LockReply) → (answered j ac limit r).line ≡ j.line
line-answered j ac limit Granted = refl
line-answered j ac limit QueuedReply = refl
line-answered j ac limit DoneReply = refl
line-answered j ac limit (RefusedReply refusal) = refl

line-told : (requests : List Request) (n ac to : ℕ) (j : Job) (core : List ℕ) (r : Result (List Want) Refusal)
    → (stored_or_refused requests n ac to j core r).job.line ≡ j.line
line-told requests n ac to j core (Err refusal) = refl
line-told requests n ac to j core (Ok wants) = refl

line-dismissed : (j : Job) (o : Option ℕ) → (dismissed j o).line ≡ j.line
line-dismissed j None = refl
line-dismissed j (Some w) = refl

line-dismissed_at : (core : List ℕ) (j : Job) (o : Option ℕ) → (dismissed_at core j o).line ≡ j.line
line-dismissed_at core j None = refl
line-dismissed_at core j (Some vector) = line-dismissed j _

line-put : (o : Option (List ℕ)) (j : Job) (lines : List Rings) → (put_text o j lines).job.line ≡ j.line
line-put None j lines = refl
line-put (Some text) j lines = by_test (λ (o : JobLines). o.job.line ≡ j.line) (nat_le (length text) (room_of lines j.line)) _ _ (λ _. refl) (λ _. refl)

line-skipping : (b : Bool) (j : Job) → (skipping_if b j).line ≡ j.line
line-skipping true j = refl
line-skipping false j = refl

line-no_input : (unit : Awaited) (skips : Bool) (core : List ℕ) (j : Job) (lines : List Rings) → (no_input unit skips core j lines).job.line ≡ j.line
line-no_input unit true core j lines = refl
line-no_input unit false core j lines = refl

line-input : (unit : Awaited) (skips : Bool) (e : ℕ) (core : List ℕ) (j : Job) (lines : List Rings) → (input_called unit skips e core j lines).job.line ≡ j.line
line-input unit skips e core j lines =
    by_test (λ (o : JobInput). o.job.line ≡ j.line) (is_legal core e) _ _
    (λ _. by_test (λ (o : JobInput). o.job.line ≡ j.line) (has_input unit (input_of lines j.line))
    (stored_input skips e core j lines) (no_input unit skips core j lines)
    (λ _. line-skipping skips _) (λ _. line-no_input unit skips core j lines))
    (λ _. refl)

line-row : (service : Service) (time n ac e : ℕ) (a : CallState) → (row_of service time n ac e a).job.line ≡ a.job.line
line-row Reset time n ac e a = refl
line-row Core time n ac e a = line-done ac (grown a.cores n (blocks_asked (ac_of a.job ac))) a.job a.cores
line-row Exit time n ac e a = refl
line-row Monrt time n ac e a = refl
line-row Logout time n ac e a = refl
line-row Mstime time n ac e a = refl
line-row Pjob time n ac e a = refl
line-row Sleep time n ac e a = refl
line-row Piini time n ac e a =
    by_test (λ (j : Job). j.line ≡ a.job.line) (are_legal (core_of a.cores n) (right_half (ac_of a.job ac)) 4) _ _ (λ _. refl)
    (λ _. refl)
line-row Pisys time n ac e a =
    by_test (λ (j : Job). j.line ≡ a.job.line) (nat_le 2 (ac_of a.job ac)) _ _ (λ _. refl)
    (λ _. by_test (λ (j : Job). j.line ≡ a.job.line) (is_none a.job.interrupts.vector) _ _ (λ _. refl) (λ _. refl))
line-row Debrk time n ac e a = line-dismissed_at (core_of a.cores n) a.job (vector_in_progress a.job.interrupts)
line-row Enq time n ac e a =
    line-answered a.job ac (enq_limit a.job.regs.ac (core_of a.cores n) n (ac_of a.job ac))
    (asked a.size a.requests n (enq_asks a.job.regs.ac (core_of a.cores n) n (ac_of a.job ac) (is_some a.job.interrupts.vector) a.job.quota)).reply
line-row Deq time n ac e a = line-answered a.job ac 0 (asked a.size a.requests n (deq_asks a.job.regs.ac (core_of a.cores n) n (ac_of a.job ac))).reply
line-row Enqc time n ac e a =
    by_enqc (λ (o : JobCores). o.job.line ≡ a.job.line) a.jobs a.requests n ac a.job a.cores (λ w. refl) (λ code. refl) (λ quota. refl)
    (line-told a.requests n ac (answers_at a.job ac) a.job (core_of a.cores n)
    (with_room (core_of a.cores n) (answers_at a.job ac) (enqc_asks a.job.regs.ac (core_of a.cores n) n (ac_of a.job ac))))
line-row Datrd time n ac e a = by_test (λ (j : Job). j.line ≡ a.job.line) (nat_lt (right_half (ac_of a.job ac)) DATA_WORDS) _ _ (λ _. refl) (λ _. refl)
line-row Datwr time n ac e a = by_test (λ (o : JobData). o.job.line ≡ a.job.line) (nat_lt (right_half (ac_of a.job ac)) DATA_WORDS) _ _ (λ _. refl) (λ _. refl)
line-row (Input unit skips) time n ac e a = line-input unit skips e (core_of a.cores n) a.job a.lines
line-row Outchr time n ac e a = line-put (low_character (word_below a.job.regs.ac (core_of a.cores n) e)) a.job a.lines
line-row Outstr time n ac e a = line-put (text_from a.job.regs.ac (core_of a.cores n) e [] OUTPUT_RING) a.job a.lines
line-row Clrbfi time n ac e a = refl
line-row Clrbfo time n ac e a = refl
line-row (Skpin unit) time n ac e a = line-skipping (has_input unit (input_of a.lines a.job.line)) a.job
line-row Unlisted time n ac e a = refl

-- there are as many lines as before
rings-put : (o : Option (List ℕ)) (j : Job) (lines : List Rings) → length (put_text o j lines).lines ≡ length lines
rings-put None j lines = refl
rings-put (Some text) j lines =
    by_test (λ (o : JobLines). length o.lines ≡ length lines) (nat_le (length text) (room_of lines j.line)) _ _
    (λ _. length-set lines j.line _) (λ _. refl)

rings-no_input : (unit : Awaited) (skips : Bool) (core : List ℕ) (j : Job) (lines : List Rings) → length (no_input unit skips core j lines).lines ≡ length lines
rings-no_input unit true core j lines = refl
rings-no_input unit false core j lines = refl

rings-input : (unit : Awaited) (skips : Bool) (e : ℕ) (core : List ℕ) (j : Job) (lines : List Rings)
    → length (input_called unit skips e core j lines).lines ≡ length lines
rings-input unit skips e core j lines =
    by_test (λ (o : JobInput). length o.lines ≡ length lines) (is_legal core e) _ _
    (λ _. by_test (λ (o : JobInput). length o.lines ≡ length lines) (has_input unit (input_of lines j.line))
    (stored_input skips e core j lines) (no_input unit skips core j lines)
    (λ _. length-set lines j.line _) (λ _. rings-no_input unit skips core j lines))
    (λ _. refl)

rings-row : (service : Service) (time n ac e : ℕ) (a : CallState) → length (row_of service time n ac e a).lines ≡ length a.lines
rings-row Reset time n ac e a = refl
rings-row Core time n ac e a = refl
rings-row Exit time n ac e a = refl
rings-row Monrt time n ac e a = refl
rings-row Logout time n ac e a = refl
rings-row Mstime time n ac e a = refl
rings-row Pjob time n ac e a = refl
rings-row Sleep time n ac e a = refl
rings-row Piini time n ac e a = refl
rings-row Pisys time n ac e a = refl
rings-row Debrk time n ac e a = refl
rings-row Enq time n ac e a = refl
rings-row Deq time n ac e a = refl
rings-row Enqc time n ac e a = refl
rings-row Datrd time n ac e a = refl
rings-row Datwr time n ac e a = refl
rings-row (Input unit skips) time n ac e a = rings-input unit skips e (core_of a.cores n) a.job a.lines
rings-row Outchr time n ac e a = rings-put (low_character (word_below a.job.regs.ac (core_of a.cores n) e)) a.job a.lines
rings-row Outstr time n ac e a = rings-put (text_from a.job.regs.ac (core_of a.cores n) e [] OUTPUT_RING) a.job a.lines
rings-row Clrbfi time n ac e a = length-set a.lines a.job.line _
rings-row Clrbfo time n ac e a = length-set a.lines a.job.line _
rings-row (Skpin unit) time n ac e a = refl
rings-row Unlisted time n ac e a = refl

pub kept-row : (service : Service) (w : World) (time n ac e : ℕ) (j : Job) → ac < 16 → job_at w.table.jobs n ≡ Some j → is_some (job_at w.table.jobs n) ≡ true
    → Housed w.table.jobs w.cores → Kept w (with_around w n (row_of service time n ac e (around w j)))
kept-row service w time n ac e j low is there h = record {
  lines =
      lines-set w.table.jobs n (row_of service time n ac e (around w j)).job there
      (ap line_of is ∙ ap Some (sym (line-row service time n ac e (around w j))));
  words = words-row service time n ac e (around w j) h.store (is_job w.table.jobs w.cores n h there);
  rings = rings-row service time n ac e (around w j);
  ranges = λ p. ranges-set w.table.jobs n _ (fits-row service time n ac e (around w j) low (subst InRange is (p n))) p;
}

-- a call that may take its job away
pub kept-left : (o : CallOutcome) (v w : World) (n : ℕ) → is_some (job_at w.table.jobs n) ≡ true → Housed w.table.jobs w.cores
    → Kept v w
    → Kept v (left_by o w n)
kept-left ending.Done v w n there h k = k
kept-left ending.Empty v w n there h k = k
kept-left ending.Gone v w n there h k = record {
  lines = λ m line e. k.lines m line (lines-gone w.table.jobs n there m line e);
  words = words-given w.cores n h.store (is_job w.table.jobs w.cores n h there) ∙ k.words;
  rings = k.rings;
  ranges = λ p. ranges-set w.table.jobs n None tt (k.ranges p);
}

-- a turn
line-concluded : (j : Job) (cores : Cores) (requests : List Request) (o : Outcome) → (concluded j cores requests o).job.line ≡ j.line
line-concluded j cores requests outcome.Done = refl
line-concluded j cores requests (outcome.Stop reason) = refl
line-concluded j cores requests (outcome.Call kind ac e) = refl

words-concluded : (j : Job) (cores : Cores) (requests : List Request) (o : Outcome) → all_words (concluded j cores requests o).cores ≡ all_words cores
words-concluded j cores requests outcome.Done = refl
words-concluded j cores requests (outcome.Stop reason) = refl
words-concluded j cores requests (outcome.Call kind ac e) = refl

line-turned : (n : ℕ) (j : Job) (cores : Cores) (requests : List Request) (o : Option (ℕ × ℕ)) → (turned n j cores requests o).job.line ≡ j.line
line-turned n j cores requests None = line-concluded _ _ requests (exec j.regs (core_of cores n)).outcome
line-turned n j cores requests (Some x) =
    by_test (λ (t : Turn). t.job.line ≡ j.line) (are_legal (core_of cores n) x.0 4)
    (notified_at n cores requests (interrupted_at j (core_of cores n) x.0 x.1)) (done (stopped j IllegalAddress) cores requests) (λ _. refl) (λ _. refl)

words-turned : (n : ℕ) (j : Job) (cores : Cores) (requests : List Request) (o : Option (ℕ × ℕ)) → n < length cores.cores
    → all_words (turned n j cores requests o).cores ≡ all_words cores
words-turned n j cores requests None low =
    let r : After = exec j.regs (core_of cores n) in
    words-concluded (record j { regs = r.regs }) (with_core cores n r.core) requests r.outcome
    ∙ words-core cores n r.core low (length-exec j.regs (core_of cores n))
words-turned n j cores requests (Some x) low =
    by_test (λ (t : Turn). all_words t.cores ≡ all_words cores) (are_legal (core_of cores n) x.0 4)
    (notified_at n cores requests (interrupted_at j (core_of cores n) x.0 x.1)) (done (stopped j IllegalAddress) cores requests)
    (λ _. words-core cores n _ low (length-noted j.regs (core_of cores n) x.0 x.1)) (λ _. refl)

pub kept-turned : (w : World) (n : ℕ) (j : Job) → job_at w.table.jobs n ≡ Some j → is_some (job_at w.table.jobs n) ≡ true → Housed w.table.jobs w.cores
    → Kept w (with_turn w n (turn_of n (awake j) w.cores w.requests))
kept-turned w n j is there h =
    let t : Turn = turn_of n (awake j) w.cores w.requests in
    let number = is_job w.table.jobs w.cores n h there in
    record {
      lines =
          lines-set w.table.jobs n t.job there
          (ap line_of is ∙ ap Some (sym (line-turned n (awake j) w.cores w.requests (due j.interrupts (pending w.requests n)))));
      words = words-turned n (awake j) w.cores w.requests (due j.interrupts (pending w.requests n)) (omega (arith, h.store.jobs, number.1));
      rings = refl;
      ranges =
          λ p. ranges-set w.table.jobs n _
          (fits-turned n (awake j) w.cores w.requests (due j.interrupts (pending w.requests n)) (fits-awake j (subst InRange is (p n)))) p;
    }
