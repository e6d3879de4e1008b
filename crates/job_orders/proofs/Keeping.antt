-- What a turn keeps: no characters come to the lines but those that its job puts out, and there are as many shared words.
use Rattle.std.proofs.Common.{◌≡◌, ◌≢◌, ◌≤◌, ◌<◌, ◌∙◌, ◌⊎◌, inl, inr, sym, ap, subst, ℕ, ◌+◌, ◌%◌, nat_le, nat_lt, Bool, List, [], length, drop, Option, Some, None, refl, arith}
use Rattle.std.proofs.Common.{slice_set}
use Rattle.std.proofs.lemmas.Bool.{cases_eq, cases_lt}
use Rattle.std.proofs.lemmas.List.{ext_get_or, get_or-replicate, get_or-set_other, get_or-set_same, get_or_past, length-replicate, length-set}
use Rattle.word36.specs.Words.{right_half}
use Rattle.word36.specs.declared.sizes.TheConstants.{DATA_WORDS, LINES, OUTPUT_RING}
use Rattle.ka_cpu.specs.Exec.{exec}
use Rattle.ka_state.specs.Memory.{are_legal, is_legal, word_below}
use Rattle.ka_state.specs.declared.outcome.Outcome.{Outcome}
use Rattle.ka_state.specs.declared.outcome.Outcome.TheVariants as outcome
use Rattle.ka_state.specs.declared.outcome.StopReason.TheVariants.{IllegalAddress}
use Rattle.core_store.specs.Cores.{Cores, core_of}
use Rattle.lock_queue.specs.Jobs.{pending}
use Rattle.lock_queue.specs.declared.request.Request.{Request}
use Rattle.tty_lines.specs.Rings.{Rings, all_clear, input_of, no_characters, output_of, room_of, with_output}
use Rattle.job_sched.specs.Tables.{job_at}
use Rattle.job_sched.specs.declared.job.Job.{Job}
use Rattle.uuo_calls.specs.CallState.{CallState, ac_of, stopped}
use Rattle.uuo_calls.specs.DataRows.{JobData}
use Rattle.uuo_calls.specs.Laws.{service_in}
use Rattle.uuo_calls.specs.Performed.{Performed, World, around, left_by, performed, row_of, with_around}
use Rattle.uuo_calls.specs.TerminalRows.{JobInput, JobLines, has_input, input_called, low_character, put_text, text_from}
use Rattle.uuo_calls.specs.declared.call.CallOutcome.{CallOutcome}
use Rattle.uuo_calls.specs.declared.call.CallOutcome.TheVariants as ending
use Rattle.uuo_calls.specs.declared.call.MonitorCall.{MonitorCall}
use Rattle.uuo_calls.specs.declared.service.Awaited.{Awaited}
use Rattle.uuo_calls.specs.declared.service.Service.{Service}
use Rattle.uuo_calls.specs.declared.service.Service.TheVariants.{Reset, Core, Exit, Monrt, Logout, Mstime, Pjob, Sleep, Piini, Pisys, Debrk, Enq, Deq, Enqc}
use Rattle.uuo_calls.specs.declared.service.Service.TheVariants.{Datrd, Datwr, Input, Outchr, Outstr, Clrbfi, Clrbfo, Skpin, Unlisted}
use Rattle.uuo_calls.proofs.Rows.{performs}
use Rattle.uuo_calls.proofs.Tests.{by_test}
use Rattle.machine.specs.Machine.{after_turn, awake, called, ran, with_turn}
use Rattle.machine.specs.Turns.{Turn, concluded, done, due, interrupted_at, notified_at, turned}
use Rattle.job_order_laws.specs.Places.{rings_of, turn}

-- nobody typed, and no line but one has output
pub record Clear (line : ℕ) (lines : List Rings) : Type 0 where
  pub count : length lines ≡ LINES
  pub inputs : (l : ℕ) → input_of lines l ≡ []
  pub others : (l : ℕ) → l ≢ line → output_of lines l ≡ []

clear-line : (l : ℕ) → rings_of all_clear l ≡ no_characters
clear-line l = elim (cases_lt l LINES) [
  | inl low ↦ get_or-replicate LINES l no_characters no_characters low
  | inr high ↦
      let long : length all_clear ≡ LINES = length-replicate LINES no_characters in
      get_or_past all_clear l no_characters (omega (arith, long, high))
]

pub clear-all : (line : ℕ) → Clear line all_clear
clear-all line = record {
  count = length-replicate LINES no_characters;
  inputs = λ l. ap (λ (r : Rings). r.input) (clear-line l);
  others = λ l ne. ap (λ (r : Rings). r.output) (clear-line l);
}

-- other characters at the line
clear-set : (line : ℕ) (lines : List Rings) (r : Rings) → r.input ≡ [] → Clear line lines → Clear line (slice_set lines line r)
clear-set line lines r none h = record {
  count = length-set lines line r ∙ h.count;
  inputs = λ l. elim (cases_eq l line) [
    | inl is ↦ subst (λ m. input_of (slice_set lines line r) m ≡ []) (sym is) (own (cases_lt line (length lines)))
    | inr ne ↦ ap (λ (x : Rings). x.input) (get_or-set_other lines line l r no_characters ne) ∙ h.inputs l
  ];
  others = λ l ne. ap (λ (x : Rings). x.output) (get_or-set_other lines line l r no_characters ne) ∙ h.others l ne;
}
  where
    own : (line < length lines) ⊎ (length lines ≤ line) → input_of (slice_set lines line r) line ≡ []
    own (inl low) = ap (λ (x : Rings). x.input) (get_or-set_same lines line r no_characters low) ∙ none
    own (inr high) =
        let long : length (slice_set lines line r) ≡ length lines = length-set lines line r in
        ap (λ (x : Rings). x.input) (get_or_past (slice_set lines line r) line no_characters (omega (arith, long, high)))

-- when the output of the line is taken none has characters
pub all-taken : (line : ℕ) (lines : List Rings) → Clear line lines → with_output lines line [] ≡ all_clear
all-taken line lines h =
    let r : Rings = record { input = input_of lines line; output = [] } in
    let long : length (slice_set lines line r) ≡ LINES = length-set lines line r ∙ h.count in
    ext_get_or no_characters (slice_set lines line r) all_clear (long ∙ sym (length-replicate LINES no_characters)) (λ k low.
    elim (cases_eq k line) [
      | inl is ↦
          let there : line < length lines = omega (arith, is, low, long, h.count) in
          let own : rings_of (slice_set lines line r) line ≡ no_characters =
          get_or-set_same lines line r no_characters there ∙ (λ i. record { input = h.inputs line i; output = [] }) in
          subst (λ m. rings_of (slice_set lines line r) m ≡ rings_of all_clear m) (sym is) (own ∙ sym (clear-line line))
      | inr ne ↦
          get_or-set_other lines line k r no_characters ne
          ∙ (λ i. record { input = h.inputs k i; output = h.others k ne i }) ∙ sym (clear-line k)
    ])

-- what a call keeps
pub record KeepsCall (a b : CallState) : Type 0 where
  pub size : b.size ≡ a.size
  pub shared : length b.shared ≡ length a.shared
  pub clear : Clear a.job.line a.lines → Clear a.job.line b.lines

put-keeps : (o : Option (List ℕ)) (j : Job) (lines : List Rings) → Clear j.line lines → Clear j.line (put_text o j lines).lines
put-keeps None j lines h = h
put-keeps (Some text) j lines h =
    by_test (λ (x : JobLines). Clear j.line x.lines) (nat_le (length text) (room_of lines j.line)) _ _
    (λ _. clear-set j.line lines _ (h.inputs j.line) h) (λ _. h)

nothing-left : (xs : List ℕ) → xs ≡ [] → drop 1 xs ≡ []
nothing-left xs e = ap (drop 1) e

read-keeps : (unit : Awaited) (skips : Bool) (e : ℕ) (core : List ℕ) (j : Job) (lines : List Rings) → Clear j.line lines
    → Clear j.line (input_called unit skips e core j lines).lines
read-keeps unit skips e core j lines h =
    by_test (λ (x : JobInput). Clear j.line x.lines) (is_legal core e) _ _
    (λ _. by_test (λ (x : JobInput). Clear j.line x.lines) (has_input unit (input_of lines j.line)) _ _
    (λ _. clear-set j.line lines _ (nothing-left (input_of lines j.line) (h.inputs j.line)) h)
    (λ _. by_test (λ (x : JobInput). Clear j.line x.lines) skips _ _ (λ _. h) (λ _. h)))
    (λ _. h)

same-call : (a b : CallState) → b.size ≡ a.size → b.shared ≡ a.shared → b.lines ≡ a.lines → KeepsCall a b
same-call a b size shared lines = record {
  size = size;
  shared = ap length shared;
  clear = λ h. subst (Clear a.job.line) (sym lines) h;
}

pub row-keeps : (s : Service) (time n ac e : ℕ) (a : CallState) → KeepsCall a (row_of s time n ac e a)
row-keeps Reset time n ac e a = same-call a (row_of Reset time n ac e a) refl refl refl
row-keeps Core time n ac e a = same-call a (row_of Core time n ac e a) refl refl refl
row-keeps Exit time n ac e a = same-call a (row_of Exit time n ac e a) refl refl refl
row-keeps Monrt time n ac e a = same-call a (row_of Monrt time n ac e a) refl refl refl
row-keeps Logout time n ac e a = same-call a (row_of Logout time n ac e a) refl refl refl
row-keeps Mstime time n ac e a = same-call a (row_of Mstime time n ac e a) refl refl refl
row-keeps Pjob time n ac e a = same-call a (row_of Pjob time n ac e a) refl refl refl
row-keeps Sleep time n ac e a = same-call a (row_of Sleep time n ac e a) refl refl refl
row-keeps Piini time n ac e a = same-call a (row_of Piini time n ac e a) refl refl refl
row-keeps Pisys time n ac e a = same-call a (row_of Pisys time n ac e a) refl refl refl
row-keeps Debrk time n ac e a = same-call a (row_of Debrk time n ac e a) refl refl refl
row-keeps Enq time n ac e a = same-call a (row_of Enq time n ac e a) refl refl refl
row-keeps Deq time n ac e a = same-call a (row_of Deq time n ac e a) refl refl refl
row-keeps Enqc time n ac e a = same-call a (row_of Enqc time n ac e a) refl refl refl
row-keeps Datrd time n ac e a = same-call a (row_of Datrd time n ac e a) refl refl refl
row-keeps Datwr time n ac e a = record {
  size = refl;
  shared = by_test (λ (x : JobData). length x.shared ≡ length a.shared) (nat_lt (right_half (ac_of a.job ac)) DATA_WORDS) _ _
      (λ _. length-set a.shared (right_half (ac_of a.job ac)) (ac_of a.job ((ac + 1) % 16))) (λ _. refl);
  clear = λ h. h;
}
row-keeps (Input unit skips) time n ac e a = record {
  size = refl;
  shared = refl;
  clear = read-keeps unit skips e (core_of a.cores n) a.job a.lines;
}
row-keeps Outchr time n ac e a = record {
  size = refl;
  shared = refl;
  clear = put-keeps (low_character (word_below a.job.regs.ac (core_of a.cores n) e)) a.job a.lines;
}
row-keeps Outstr time n ac e a = record {
  size = refl;
  shared = refl;
  clear = put-keeps (text_from a.job.regs.ac (core_of a.cores n) e [] OUTPUT_RING) a.job a.lines;
}
row-keeps Clrbfi time n ac e a = record {
  size = refl;
  shared = refl;
  clear = λ h. clear-set a.job.line a.lines _ refl h;
}
row-keeps Clrbfo time n ac e a = record {
  size = refl;
  shared = refl;
  clear = λ h. clear-set a.job.line a.lines _ (h.inputs a.job.line) h;
}
row-keeps (Skpin unit) time n ac e a = same-call a (row_of (Skpin unit) time n ac e a) refl refl refl
row-keeps Unlisted time n ac e a = same-call a (row_of Unlisted time n ac e a) refl refl refl

-- ---- a turn

pub record KeepsWorld (line : ℕ) (w x : World) : Type 0 where
  pub size : x.size ≡ w.size
  pub shared : length x.shared ≡ length w.shared
  pub clear : Clear line w.lines → Clear line x.lines

left-keeps : (line : ℕ) (e : CallOutcome) (v w : World) (n : ℕ) → KeepsWorld line v w → KeepsWorld line v (left_by e w n)
left-keeps line ending.Done v w n h = h
left-keeps line ending.Empty v w n h = h
left-keeps line ending.Gone v w n h = record { size = h.size; shared = h.shared; clear = h.clear }

line-concluded : (j : Job) (cores : Cores) (rs : List Request) (o : Outcome) → (concluded j cores rs o).job.line ≡ j.line
line-concluded j cores rs outcome.Done = refl
line-concluded j cores rs (outcome.Stop reason) = refl
line-concluded j cores rs (outcome.Call kind ac e) = refl

line-turned : (n : ℕ) (j : Job) (cores : Cores) (rs : List Request) (o : Option (ℕ × ℕ)) → (turned n j cores rs o).job.line ≡ j.line
line-turned n j cores rs None = line-concluded _ _ rs (exec j.regs (core_of cores n)).outcome
line-turned n j cores rs (Some x) =
    by_test (λ (t : Turn). t.job.line ≡ j.line) (are_legal (core_of cores n) x.0 4)
    (notified_at n cores rs (interrupted_at j (core_of cores n) x.0 x.1)) (done (stopped j IllegalAddress) cores rs) (λ _. refl) (λ _. refl)

pub turn-keeps : (w : World) (time n : ℕ) (j : Job) → job_at w.table.jobs n ≡ Some j → n < length w.table.jobs → KeepsWorld j.line w (turn w time n)
turn-keeps w time n j at low =
    let t : Turn = turned n (awake j) w.cores w.requests (due j.interrupts (pending w.requests n)) in
    let p : turn w time n ≡ after_turn w time n t = ap (λ o. ran w time n o) at in
    subst (KeepsWorld j.line w) (sym p)
    (by_call t t.call (line-turned n (awake j) w.cores w.requests (due j.interrupts (pending w.requests n))))
  where
    by_call : (t : Turn) (o : Option MonitorCall) → t.job.line ≡ j.line → KeepsWorld j.line w (called (with_turn w n t) time n o)
    by_call t None line = record { size = refl; shared = refl; clear = λ h. h }
    by_call t (Some c) line =
        let w1 : World = with_turn w n t in
        let at1 : job_at w1.table.jobs n ≡ Some t.job = get_or-set_same w.table.jobs n (Some t.job) None low in
        let a : CallState = around w1 t.job in
        let r : CallState = row_of (service_in c) time n c.ac c.e a in
        let k : KeepsCall a r = row-keeps (service_in c) time n c.ac c.e a in
        let p : (performed w1 time n c).world ≡ left_by r.ending (with_around w1 n r) n = ap (λ (x : Performed). x.world) (performs w1 time n c t.job at1) in
        subst (KeepsWorld j.line w) (sym p) (left-keeps j.line r.ending w (with_around w1 n r) n (record {
          size = refl;
          shared = k.shared;
          clear = subst (λ l. Clear l w.lines → Clear l r.lines) line k.clear;
        }))
