-- Which calls leave a job that waits for its terminal.
use Rattle.std.proofs.Common.{◌≡◌, ◌<◌, ◌∙◌, sym, ap, subst, ℕ, ◌+◌, ◌==◌, Bool, true, false, List, [], length, Option}
use Rattle.std.proofs.Common.{Some, None, is_none, is_some, nat_le, nat_lt, slice_set, refl, arith}
use Rattle.std.specs.Prelude.{Result, Ok, Err}
use Rattle.std.proofs.lemmas.Bool.{both_ways}
use Rattle.std.proofs.lemmas.List.{get_or-set_same}
use Rattle.std.proofs.Math.ListN.{length-set}
use Rattle.word36.specs.declared.sizes.TheConstants.{DATA_WORDS, OUTPUT_RING}
use Rattle.word36.specs.Words.{left_half, right_half}
use Rattle.ka_state.specs.Memory.{are_legal, is_legal, word_below}
use Rattle.core_store.specs.Cores.{Cores, core_of, with_core}
use Rattle.tty_lines.specs.Rings.{input_of, room_of}
use Rattle.lock_queue.specs.declared.call.LockReply.{LockReply}
use Rattle.lock_queue.specs.declared.call.LockReply.TheVariants.{Granted, Queued, Done as DoneReply, Refused}
use Rattle.lock_queue.specs.declared.refusal.Refusal.{Refusal}
use Rattle.lock_queue.specs.declared.want.Want.{Want}
use Rattle.job_sched.specs.Tables.{job_at}
use Rattle.job_sched.specs.declared.job.Job.{Job}
use Rattle.uuo_calls.specs.CallState.{CallState, ac_of}
use Rattle.uuo_calls.specs.CoreRow.{blocks_asked, core_done, grown}
use Rattle.uuo_calls.specs.DataRows.{JobData}
use Rattle.uuo_calls.specs.InterruptRows.{dismissed, dismissed_at, vector_in_progress}
use Rattle.uuo_calls.specs.Laws.{is_terminal_wait, service_in}
use Rattle.uuo_calls.specs.LockRows.{answered, asked, deq_asks, enq_asks, enq_limit}
use Rattle.uuo_calls.specs.Performed.{Performed, World, around, ended, row_of}
use Rattle.uuo_calls.specs.QuotaRows.{named_job, quota_at, told_quota}
use Rattle.uuo_calls.specs.StatusRow.{answers_at, enqc, enqc_asks, stored_or_refused, with_room}
use Rattle.uuo_calls.specs.CoreRow.{JobCores}
use Rattle.uuo_calls.specs.TerminalRows.{JobInput, JobLines, has_input, input_called, low_character, no_input, put_text, skipping_if, stored_input, text_from}
use Rattle.uuo_calls.specs.declared.call.CallOutcome.TheVariants.{Done, Empty}
use Rattle.uuo_calls.specs.declared.service.Awaited.{Awaited}
use Rattle.uuo_calls.specs.declared.service.Service.{Service}
use Rattle.uuo_calls.specs.declared.service.Service.TheVariants.{Reset, Core, Exit, Monrt, Logout, Mstime, Pjob, Sleep, Piini, Pisys, Debrk, Enq, Deq, Enqc}
use Rattle.uuo_calls.specs.declared.service.Service.TheVariants.{Datrd, Datwr, Input, Outchr, Outstr, Clrbfi, Clrbfo, Skpin, Unlisted}
use Rattle.uuo_calls.proofs.Rows.{performs}
use Rattle.uuo_calls.proofs.Tests.{by_test}
use Rattle.call_laws.specs.TerminalWaits.{WhoWaitsForItsTerminalMadeAnEmptyStep}

-- a job that does not wait for its terminal
abbrev Is : Job → Type 0
Is k = is_terminal_wait k.wait ≡ false

no-some : (k : Job) → None ≡ Some k → ⊥
no-some k e = cc

module _ (w : World) (n : ℕ) (j : Job) (low : n < length w.table.jobs) (calm : Is j) where
  -- a job that waits so after this has made an empty step
  record Fine (a : CallState) : Type 0 where
    it : (k : Job) → job_at (ended w n a).world.table.jobs n ≡ Some k → is_terminal_wait k.wait ≡ true → a.ending ≡ Empty

  empty : (a : CallState) → a.ending ≡ Empty → Fine a
  empty a is = record { it = λ k there waits. is }

  -- a row that is done
  done : (a : CallState) → a.ending ≡ Done → Is a.job → Fine a
  done a is calm = record {
    it = λ k there waits.
        let left : job_at (ended w n a).world.table.jobs n ≡ Some a.job =
        ap (λ e. job_at (ended w n (record a { ending = e })).world.table.jobs n) is ∙ get_or-set_same w.table.jobs n (Some a.job) None low in
        let same : a.job ≡ k = let e : Some a.job ≡ Some k = sym left ∙ there in cc in
        absurd (both_ways (is_terminal_wait k.wait) (subst Is same calm) waits);
  }

  core-calm : (ac : ℕ) (o : Option Cores) → Is (core_done ac o j w.cores).job
  core-calm ac None = calm
  core-calm ac (Some new) = calm

  debrk-calm : (core : List ℕ) (o : Option ℕ) → Is (dismissed_at core j o)
  debrk-calm core None = calm
  debrk-calm core (Some vector) = word (word_below j.regs.ac core (vector + 1))
    where
      word : (o : Option ℕ) → Is (dismissed j o)
      word None = calm
      word (Some x) = calm

  answered-calm : (ac limit : ℕ) (r : LockReply) → Is (answered j ac limit r)
  answered-calm ac limit Granted = calm
  answered-calm ac limit Queued = refl
  answered-calm ac limit DoneReply = calm
  answered-calm ac limit (Refused refusal) = calm

  quota-calm : (k ac : ℕ) (o : Option ℕ) → Is (told_quota w.requests k ac j o)
  quota-calm k ac (Some quota) = calm
  quota-calm k ac None = calm

  told-calm : (ac to : ℕ) (core : List ℕ) (r : Result (List Want) Refusal) → Is (stored_or_refused w.requests n ac to j core r).job
  told-calm ac to core (Err refusal) = calm
  told-calm ac to core (Ok wants) = calm

  enqc-calm : (ac : ℕ) → Is (enqc w.table.jobs w.requests n ac j w.cores).job
  enqc-calm ac =
      by_test (λ (o : JobCores). Is o.job) (left_half (ac_of j ac) == 1) _ _
      (λ _. quota-calm (named_job n (right_half (ac_of j ac))) ac (quota_at w.table.jobs (named_job n (right_half (ac_of j ac)))))
      (λ _. by_test (λ (o : JobCores). Is o.job) (left_half (ac_of j ac) == 2) _ _
      (λ _. by_test Is (nat_le (right_half (ac_of j ac)) j.quota) _ _ (λ _. calm) (λ _. calm))
      (λ _. told-calm ac (answers_at j ac) (core_of w.cores n)
      (with_room (core_of w.cores n) (answers_at j ac) (enqc_asks j.regs.ac (core_of w.cores n) n (ac_of j ac)))))

  skips-calm : (skips : Bool) → Is (skipping_if skips j)
  skips-calm true = calm
  skips-calm false = calm

  put-fine : (o : Option (List ℕ)) → Fine (let p = put_text o j w.lines in record (around w j) { job = p.job; lines = p.lines; ending = p.ending })
  put-fine None = done _ refl calm
  put-fine (Some text) =
      by_test (λ (p : JobLines). Fine (record (around w j) { job = p.job; lines = p.lines; ending = p.ending }))
      (nat_le (length text) (room_of w.lines j.line)) _ _ (λ _. done _ refl calm) (λ _. empty _ refl)

  abbrev with_input_of : JobInput → CallState
  with_input_of o = record (around w j) { job = o.job; cores = with_core w.cores n o.core; lines = o.lines; ending = o.ending }

  none-fine : (unit : Awaited) (skips : Bool) (core : List ℕ) → Fine (with_input_of (no_input unit skips core j w.lines))
  none-fine unit true core = done _ refl calm
  none-fine unit false core = empty _ refl

  stored-fine : (skips : Bool) (e : ℕ) (core : List ℕ) → Fine (with_input_of (stored_input skips e core j w.lines))
  stored-fine true e core = done _ refl calm
  stored-fine false e core = done _ refl calm

  input-fine : (unit : Awaited) (skips : Bool) (e : ℕ) (core : List ℕ) → Fine (with_input_of (input_called unit skips e core j w.lines))
  input-fine unit skips e core =
      by_test (λ (o : JobInput). Fine (with_input_of o)) (is_legal core e) _ _
      (λ _. by_test (λ (o : JobInput). Fine (with_input_of o)) (has_input unit (input_of w.lines j.line))
      (stored_input skips e core j w.lines) (no_input unit skips core j w.lines)
      (λ _. stored-fine skips e core) (λ _. none-fine unit skips core))
      (λ _. done _ refl calm)

  row-fine : (s : Service) (time ac e : ℕ) → Fine (row_of s time n ac e (around w j))
  row-fine Reset time ac e = done _ refl calm
  row-fine Core time ac e = done _ refl (core-calm ac (grown w.cores n (blocks_asked (ac_of j ac))))
  row-fine Exit time ac e = done _ refl calm
  row-fine Monrt time ac e = done _ refl calm
  row-fine Logout time ac e = record {
    it = λ k there waits.
        let long : n < length (slice_set w.table.jobs n (Some j)) = omega (arith, length-set w.table.jobs n (Some j)) in
        absurd (no-some k (sym (get_or-set_same (slice_set w.table.jobs n (Some j)) n None None long) ∙ there));
  }
  row-fine Mstime time ac e = done _ refl calm
  row-fine Pjob time ac e = done _ refl calm
  row-fine Sleep time ac e = done _ refl refl
  row-fine Piini time ac e =
      done _ refl (by_test Is (are_legal (core_of w.cores n) (right_half (ac_of j ac)) 4) _ _ (λ _. calm) (λ _. calm))
  row-fine Pisys time ac e =
      done _ refl (by_test Is (nat_le 2 (ac_of j ac)) _ _ (λ _. calm) (λ _. by_test Is (is_none j.interrupts.vector) _ _ (λ _. calm) (λ _. calm)))
  row-fine Debrk time ac e = done _ refl (debrk-calm (core_of w.cores n) (vector_in_progress j.interrupts))
  row-fine Enq time ac e =
      done _ refl (answered-calm ac (enq_limit j.regs.ac (core_of w.cores n) n (ac_of j ac))
      (asked w.size w.requests n (enq_asks j.regs.ac (core_of w.cores n) n (ac_of j ac) (is_some j.interrupts.vector) j.quota)).reply)
  row-fine Deq time ac e =
      done _ refl (answered-calm ac 0 (asked w.size w.requests n (deq_asks j.regs.ac (core_of w.cores n) n (ac_of j ac))).reply)
  row-fine Enqc time ac e = done _ refl (enqc-calm ac)
  row-fine Datrd time ac e = done _ refl (by_test Is (nat_lt (right_half (ac_of j ac)) DATA_WORDS) _ _ (λ _. calm) (λ _. calm))
  row-fine Datwr time ac e =
      done _ refl (by_test (λ (o : JobData). Is o.job) (nat_lt (right_half (ac_of j ac)) DATA_WORDS) _ _ (λ _. calm) (λ _. calm))
  row-fine (Input unit skips) time ac e = input-fine unit skips e (core_of w.cores n)
  row-fine Outchr time ac e = put-fine (low_character (word_below j.regs.ac (core_of w.cores n) e))
  row-fine Outstr time ac e = put-fine (text_from j.regs.ac (core_of w.cores n) e [] OUTPUT_RING)
  row-fine Clrbfi time ac e = done _ refl calm
  row-fine Clrbfo time ac e = done _ refl calm
  row-fine (Skpin unit) time ac e = done _ refl (skips-calm (has_input unit (input_of w.lines j.line)))
  row-fine Unlisted time ac e = done _ refl calm

pub who_waits_made_an_empty_step : WhoWaitsForItsTerminalMadeAnEmptyStep
who_waits_made_an_empty_step w time n c j k there low calm after waits =
    let row = performs w time n c j there in
    ap (λ (p : Performed). p.outcome) row
    ∙ (row-fine w n j low calm (service_in c) time c.ac c.e).it k (ap (λ (p : Performed). job_at p.world.table.jobs n) (sym row) ∙ after) waits
