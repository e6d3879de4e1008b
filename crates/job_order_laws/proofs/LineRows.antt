-- What a call leaves where more stands in the output of the lines: the same, or its job waits for room.
use Rattle.std.proofs.Common.{◌≡◌, ◌≢◌, ◌≤◌, ◌<◌, ◌∙◌, sym, ap, subst, ℕ, zero, suc, ◌+◌, ◌-◌, ◌==◌, ◌%◌, ◌^◌, ◌/◌, nat_le, nat_lt, Bool, true, false, cond, List, [], ◌∷◌, ◌++◌, length, drop, Option, Some, None, ◌⊎◌, inl, inr, is_none, is_some, refl, arith}
use Rattle.std.proofs.Common.{slice_set, slice_index}
use Rattle.std.specs.Prelude.{if◌then◌else◌, Result, Ok, Err}
use Rattle.std.proofs.lemmas.Bool.{cases_eq, le-leb, leb-true}
use Rattle.std.proofs.lemmas.List.{append-nil, length-append, length-set}
use Rattle.word36.specs.Words.{right_half}
use Rattle.word36.specs.declared.sizes.TheConstants.{DATA_WORDS, OUTPUT_RING}
use Rattle.ka_state.specs.Memory.{ac_with, are_legal, core_with, is_legal, word_below}
use Rattle.ka_state.specs.declared.outcome.StopReason.TheVariants.{IllegalAddress}
use Rattle.core_store.specs.Cores.{Cores, core_of, with_core}
use Rattle.lock_queue.specs.declared.call.LockReply.{LockReply}
use Rattle.lock_queue.specs.declared.call.LockReply.TheVariants.{Granted, Queued, Done as DoneReply, Refused}
use Rattle.lock_queue.specs.declared.refusal.Refusal.{Refusal}
use Rattle.lock_queue.specs.declared.want.Want.{Want}
use Rattle.lock_queue.specs.declared.request.Request.{Request}
use Rattle.tty_lines.specs.Rings.{Rings, input_of, output_of, room_of, with_input, with_output}
use Rattle.job_sched.specs.declared.job.Job.{Job}
use Rattle.job_sched.specs.declared.job.Wait.{Wait}
use Rattle.job_sched.specs.declared.job.Wait.TheVariants.{Room}
use Rattle.uuo_calls.specs.CallState.{CallState, ac_of, put_back, skipping, stopped_at, waiting, with_ac}
use Rattle.uuo_calls.specs.CoreRow.{JobCores, blocks_asked, core_done, grown}
use Rattle.uuo_calls.specs.DataRows.{JobData}
use Rattle.uuo_calls.specs.InterruptRows.{dismissed, dismissed_at, vector_in_progress}
use Rattle.uuo_calls.specs.LockRows.{answered, asked, deq_asks, enq_asks, enq_limit}
use Rattle.uuo_calls.specs.Performed.{row_of}
use Rattle.uuo_calls.specs.StatusRow.{answers_at, enqc_asks, stored_or_refused, with_room}
use Rattle.uuo_calls.specs.TerminalRows.{JobInput, JobLines, behind, character, first_of, has_input, input_called, low_character, no_input, put_text, skipping_if, text_from}
use Rattle.uuo_calls.specs.declared.call.CallOutcome.TheVariants.{Done, Empty}
use Rattle.uuo_calls.specs.declared.service.Awaited.{Awaited}
use Rattle.uuo_calls.specs.declared.service.Awaited.TheVariants as awaited
use Rattle.uuo_calls.specs.declared.service.Service.{Service}
use Rattle.uuo_calls.specs.declared.service.Service.TheVariants.{Reset, Core, Exit, Monrt, Logout, Mstime, Pjob, Sleep, Piini, Pisys, Debrk, Enq, Deq, Enqc}
use Rattle.uuo_calls.specs.declared.service.Service.TheVariants.{Datrd, Datwr, Input, Outchr, Outstr, Clrbfi, Clrbfo, Skpin, Unlisted}
use Rattle.uuo_calls.proofs.Tests.{by_test}
use Rattle.monitor_laws.proofs.Enquiring.{by_enqc}
use Rattle.job_order_laws.specs.Events.{lifted_stop}
use Rattle.job_order_laws.specs.Places.{rings_of}
use Rattle.job_order_laws.proofs.OtherRows.{rings-other}
use Rattle.job_order_laws.proofs.OwnRows.{rings-set}

-- Two lists of lines with the same input before a call, and two after it. In the first of each the output of the job's line is taken.
pub record KeptLines (line : ℕ) (old full new more : List Rings) : Type 0 where
  pub inputs : (l : ℕ) → input_of more l ≡ input_of new l
  pub others : (l : ℕ) → l ≢ line → rings_of new l ≡ rings_of old l
  pub rest : (l : ℕ) → l ≢ line → rings_of more l ≡ rings_of full l
  pub own : (output_of more line ≡ output_of full line ++ output_of new line) ⊎ ((output_of more line ≡ []) × (output_of new line ≡ []))
  pub fits : output_of full line ≡ [] → length (output_of more line) ≤ OUTPUT_RING
  pub count : length new ≡ length old
  pub many : length more ≡ length full

-- what is known before it
pub record Given (line : ℕ) (old full : List Rings) : Type 0 where
  pub inputs : (l : ℕ) → input_of full l ≡ input_of old l
  pub empty : output_of old line ≡ []
  pub low : line < length old
  pub high : line < length full

-- a job at a line that CTRL-C did not stop, and that does not wait for room
abbrev pub is_room : Wait → Bool
is_room (Room places) = true
is_room _ = false

abbrev pub Fine : ℕ → Job → Type 0
Fine line j = (lifted_stop j.stop ≡ j.stop) × (is_room j.wait ≡ false) × (j.line ≡ line)

none-fits : (xs : List ℕ) → xs ≡ [] → length xs ≤ OUTPUT_RING
none-fits xs e = let none : length xs ≡ length {A = ℕ} [] = ap length e in omega arith

pub lines-kept : (line : ℕ) (old full : List Rings) → Given line old full → KeptLines line old full old full
lines-kept line old full g = record {
  inputs = g.inputs;
  others = λ l ne. refl;
  rest = λ l ne. refl;
  own = inl (sym (append-nil (output_of full line)) ∙ ap (λ x. output_of full line ++ x) (sym g.empty));
  fits = λ e. none-fits (output_of full line) e;
  count = refl;
  many = refl;
}

-- other characters at the line
pub lines-set : (line : ℕ) (old full : List Rings) (r q : Rings) → Given line old full → q.input ≡ r.input
    → (q.output ≡ output_of full line ++ r.output) ⊎ ((q.output ≡ []) × (r.output ≡ []))
    → (output_of full line ≡ [] → length q.output ≤ OUTPUT_RING)
    → KeptLines line old full (slice_set old line r) (slice_set full line q)
lines-set line old full r q g same own fits =
    let at_r : rings_of (slice_set old line r) line ≡ r = rings-set old line r g.low in
    let at_q : rings_of (slice_set full line q) line ≡ q = rings-set full line q g.high in
    record {
      inputs = λ l. elim (cases_eq l line) [
        | inl is ↦ subst (λ m. input_of (slice_set full line q) m ≡ input_of (slice_set old line r) m) (sym is)
            (ap (λ (x : Rings). x.input) at_q ∙ same ∙ sym (ap (λ (x : Rings). x.input) at_r))
        | inr ne ↦ ap (λ (x : Rings). x.input) (rings-other full line l q ne) ∙ g.inputs l ∙ sym (ap (λ (x : Rings). x.input) (rings-other old line l r ne))
      ];
      others = λ l ne. rings-other old line l r ne;
      rest = λ l ne. rings-other full line l q ne;
      own = elim own [
        | inl put ↦ inl (ap (λ (x : Rings). x.output) at_q ∙ put ∙ ap (λ (x : Rings). output_of full line ++ x.output) (sym at_r))
        | inr clear ↦ inr (ap (λ (x : Rings). x.output) at_q ∙ clear.0, ap (λ (x : Rings). x.output) at_r ∙ clear.1)
      ];
      fits = λ e. subst (λ (x : Rings). length x.output ≤ OUTPUT_RING) (sym at_q) (fits e);
      count = length-set old line r;
      many = length-set full line q;
    }

-- jobs stay fine
fine-done : (line ac : ℕ) (o : Option Cores) (j : Job) (cores : Cores) → Fine line j → Fine line (core_done ac o j cores).job
fine-done line ac None j cores h = h
fine-done line ac (Some new) j cores h = h

fine-answered : (line : ℕ) (j : Job) (ac limit : ℕ) (r : LockReply) → Fine line j → Fine line (answered j ac limit r)
fine-answered line j ac limit Granted h = h
fine-answered line j ac limit Queued h = (h.0, refl, h.2)
fine-answered line j ac limit DoneReply h = h
fine-answered line j ac limit (Refused refusal) h = h

fine-told : (line : ℕ) (requests : List Request) (n ac to : ℕ) (j : Job) (core : List ℕ) (r : Result (List Want) Refusal) → Fine line j
    → Fine line (stored_or_refused requests n ac to j core r).job
fine-told line requests n ac to j core (Err refusal) h = h
fine-told line requests n ac to j core (Ok wants) h = h

fine-dismissed : (line : ℕ) (core : List ℕ) (j : Job) (o : Option ℕ) → Fine line j → Fine line (dismissed_at core j o)
fine-dismissed line core j None h = h
fine-dismissed line core j (Some vector) h = by_word (word_below j.regs.ac core (vector + 1))
  where
    by_word : (w : Option ℕ) → Fine line (dismissed j w)
    by_word None = (refl, h.1, h.2)
    by_word (Some w) = h

fine-skipping : (line : ℕ) (b : Bool) (j : Job) → Fine line j → Fine line (skipping_if b j)
fine-skipping line true j h = h
fine-skipping line false j h = h

-- a text that goes out
abbrev IsPut : ℕ → List Rings → List Rings → Job → JobLines → JobLines → Type 0
IsPut line old full j p q =
    ((more : List Rings) × (q ≡ record { job = p.job; lines = more; ending = p.ending }) × KeptLines line old full p.lines more × Fine line p.job)
    ⊎ ((places : ℕ) × (q ≡ record { job = waiting (put_back j) (Room places); lines = full; ending = Empty })
    × (places ≤ OUTPUT_RING) × (nat_le places (room_of full line) ≡ false))

put-lines : (o : Option (List ℕ)) (j : Job) (old full : List Rings) → Given j.line old full → Fine j.line j
    → ((text : List ℕ) → o ≡ Some text → length text ≤ OUTPUT_RING) → IsPut j.line old full j (put_text o j old) (put_text o j full)
put-lines None j old full g h short = inl (full, refl, lines-kept j.line old full g, (refl, h.1, h.2))
put-lines (Some text) j old full g h short = by_room (nat_le (length text) (room_of full j.line)) refl
  where
    by_room : (b : Bool) → nat_le (length text) (room_of full j.line) ≡ b
        → IsPut j.line old full j (put_text (Some text) j old)
        (cond b (record { job = j; lines = with_output full j.line (output_of full j.line ++ text); ending = Done })
        (record { job = waiting (put_back j) (Room (length text)); lines = full; ending = Empty }))
    by_room false is = inr (length text, refl, short text refl, is)
    by_room true is =
        let low : length text ≤ OUTPUT_RING - length (output_of full j.line) = leb-true _ _ is in
        let none : length (output_of old j.line) ≡ length {A = ℕ} [] = ap length g.empty in
        let room : nat_le (length text) (OUTPUT_RING - length (output_of old j.line)) ≡ true = le-leb _ _ (omega arith) in
        let p : JobLines = record { job = j; lines = with_output old j.line (output_of old j.line ++ text); ending = Done } in
        let q : JobLines = record { job = j; lines = with_output full j.line (output_of full j.line ++ text); ending = Done } in
        let nothing : output_of old j.line ++ text ≡ text = ap (λ (x : List ℕ). x ++ text) g.empty in
        subst (λ b. IsPut j.line old full j (cond b p (record { job = waiting (put_back j) (Room (length text)); lines = old; ending = Empty })) q) (sym room)
        (inl (
          q.lines,
          refl,
          lines-set j.line old full (record { input = input_of old j.line; output = output_of old j.line ++ text })
              (record { input = input_of full j.line; output = output_of full j.line ++ text }) g (g.inputs j.line)
              (inl (ap (λ x. output_of full j.line ++ x) (sym nothing)))
              (λ e. let long = length-append (output_of full j.line) text in let full_none : length (output_of full j.line) ≡ length {A = ℕ} [] = ap length e in omega arith),
          h,
        ))

-- a text is no longer than the ring
short-behind : (o : Option ℕ) (k n : ℕ) (text out : List ℕ) (more : ℕ → Option (List ℕ))
    → ((c : ℕ) → more c ≡ Some out → length out ≤ length (text ++ c ∷ []) + n) → behind o k text more ≡ Some out → length out ≤ length text + suc n
short-behind None k n text out more later is = cc
short-behind (Some w) k n text out more later is =
    by_test (λ (x : Option (List ℕ)). x ≡ Some out → length out ≤ length text + suc n) (character k w == 0) (Some text) (more (character k w))
    (λ _ e. let same : text ≡ out = cc in let long : length text ≡ length out = ap length same in omega arith)
    (λ _ e. let rest = later (character k w) e in let long = length-append text (character k w ∷ []) in omega arith)
    is

text-short : (ac core : List ℕ) (e : ℕ) (text out : List ℕ) (n : ℕ) → text_from ac core e text n ≡ Some out → length out ≤ length text + n
unfolding text_from
text-short ac core e text out zero is = let same : text ≡ out = cc in let long : length text ≡ length out = ap length same in omega arith
text-short ac core e text out (suc n) is =
    short-behind (word_below ac core (e + length text / 5)) (length text % 5) n text out (λ c. text_from ac core e (text ++ c ∷ []) n)
    (λ c more. text-short ac core e (text ++ c ∷ []) out n more) is

ring-short : (ac core : List ℕ) (e : ℕ) (out : List ℕ) → text_from ac core e [] OUTPUT_RING ≡ Some out → length out ≤ OUTPUT_RING
ring-short ac core e out is = let low = text-short ac core e [] out OUTPUT_RING is in omega arith

one-short : (o : Option ℕ) (out : List ℕ) → low_character o ≡ Some out → length out ≤ OUTPUT_RING
one-short None out is = cc
one-short (Some w) out is = let same : w % 2 ^ 7 ∷ [] ≡ out = cc in let long : length (w % 2 ^ 7 ∷ []) ≡ length out = ap length same in omega arith

-- what is read
abbrev IsRead : ℕ → List Rings → List Rings → JobInput → JobInput → Type 0
IsRead line old full p q =
    (more : List Rings) × (q ≡ record { job = p.job; core = p.core; lines = more; ending = p.ending }) × KeptLines line old full p.lines more × Fine line p.job

pub by_pair : {X : Type 0} (P : X → X → Type 0) (b : Bool) (x y u v : X) → P x u → P y v → P (cond b x y) (cond b u v)
by_pair P true x y u v p q = p
by_pair P false x y u v p q = q

none-lines : (unit : Awaited) (skips : Bool) (core : List ℕ) (j : Job) (old full : List Rings) → Given j.line old full → Fine j.line j
    → IsRead j.line old full (no_input unit skips core j old) (no_input unit skips core j full)
none-lines unit true core j old full g h = (full, refl, lines-kept j.line old full g, h)
none-lines awaited.Character false core j old full g h = (full, refl, lines-kept j.line old full g, (h.0, refl, h.2))
none-lines awaited.Line false core j old full g h = (full, refl, lines-kept j.line old full g, (h.0, refl, h.2))

-- input at lines, where this stands in the input of the job's line
abbrev read_from : Awaited → Bool → ℕ → List ℕ → Job → List Rings → List ℕ → JobInput
read_from unit skips e core j lines input =
    if is_legal core e then
    (if has_input unit input
    then record {
      job = skipping_if skips (record j { regs = record j.regs { ac = ac_with j.regs.ac e (first_of input) } });
      core = core_with core e (first_of input);
      lines = with_input lines j.line (drop 1 input);
      ending = Done;
    }
    else no_input unit skips core j lines)
    else record { job = stopped_at j IllegalAddress; core = core; lines = lines; ending = Done }

read-lines : (unit : Awaited) (skips : Bool) (e : ℕ) (core : List ℕ) (j : Job) (old full : List Rings) → Given j.line old full → Fine j.line j
    → IsRead j.line old full (input_called unit skips e core j old) (input_called unit skips e core j full)
read-lines unit skips e core j old full g h =
    let input : List ℕ = input_of old j.line in
    let p : List Rings → JobInput = λ lines. record {
      job = skipping_if skips (record j { regs = record j.regs { ac = ac_with j.regs.ac e (first_of input) } });
      core = core_with core e (first_of input);
      lines = with_input lines j.line (drop 1 input);
      ending = Done;
    } in
    subst (λ (i : List ℕ). IsRead j.line old full (input_called unit skips e core j old) (read_from unit skips e core j full i)) (sym (g.inputs j.line))
    (by_pair (IsRead j.line old full) (is_legal core e) _ _ _ _
    (by_pair (IsRead j.line old full) (has_input unit input) (p old) (no_input unit skips core j old) (p full) (no_input unit skips core j full) (
      with_input full j.line (drop 1 input),
      refl,
      lines-set j.line old full (record { input = drop 1 input; output = output_of old j.line })
          (record { input = drop 1 input; output = output_of full j.line }) g refl
          (inl (sym (append-nil (output_of full j.line)) ∙ ap (λ x. output_of full j.line ++ x) (sym g.empty)))
          (λ none. none-fits (output_of full j.line) none),
      fine-skipping j.line skips (record j { regs = record j.regs { ac = ac_with j.regs.ac e (first_of input) } }) h,
    )
    (none-lines unit skips core j old full g h))
    (full, refl, lines-kept j.line old full g, (refl, h.1, h.2)))

-- a call with these lines does what it did, or its job waits for room
pub record SameRow (full : List Rings) (a r q : CallState) : Type 0 where
  pub lines : List Rings
  pub is : q ≡ record r { lines = lines }
  pub kept : KeptLines a.job.line a.lines full r.lines lines
  pub fine : Fine a.job.line r.job

pub record FullRow (full : List Rings) (a q : CallState) : Type 0 where
  pub places : ℕ
  pub is : q ≡ record a { lines = full; job = waiting (put_back a.job) (Room places); ending = Empty }
  pub few : places ≤ OUTPUT_RING
  pub none : nat_le places (room_of full a.job.line) ≡ false

-- a call that does not use its line
calm-row : (full : List Rings) (a r : CallState) → Given a.job.line a.lines full → a.lines ≡ r.lines → Fine a.job.line r.job
    → SameRow full a r (record r { lines = full }) ⊎ FullRow full a (record r { lines = full })
calm-row full a r g same fine = inl (record {
  lines = full;
  is = refl;
  kept = subst (λ ls. KeptLines a.job.line a.lines full ls full) same (lines-kept a.job.line a.lines full g);
  fine = fine;
})

put-row : (full : List Rings) (a : CallState) (p q : JobLines) → IsPut a.job.line a.lines full a.job p q
    → SameRow full a (record a { job = p.job; lines = p.lines; ending = p.ending }) (record a { job = q.job; lines = q.lines; ending = q.ending })
    ⊎ FullRow full a (record a { job = q.job; lines = q.lines; ending = q.ending })
put-row full a p q put = elim put [
  | inl x ↦ inl (record {
    lines = x.0;
    is = ap (λ (o : JobLines). record a { job = o.job; lines = o.lines; ending = o.ending }) x.1;
    kept = x.2;
    fine = x.3;
  })
  | inr x ↦ inr (record {
    places = x.0;
    is = ap (λ (o : JobLines). record a { job = o.job; lines = o.lines; ending = o.ending }) x.1;
    few = x.2;
    none = x.3;
  })
]

pub row-lines : (s : Service) (time n ac e : ℕ) (full : List Rings) (a : CallState) → Given a.job.line a.lines full → Fine a.job.line a.job
    → SameRow full a (row_of s time n ac e a) (row_of s time n ac e (record a { lines = full }))
    ⊎ FullRow full a (row_of s time n ac e (record a { lines = full }))
row-lines Reset time n ac e full a g h = calm-row full a (row_of Reset time n ac e a) g refl h
row-lines Core time n ac e full a g h =
    calm-row full a (row_of Core time n ac e a) g refl (fine-done a.job.line ac (grown a.cores n (blocks_asked (ac_of a.job ac))) a.job a.cores h)
row-lines Exit time n ac e full a g h = calm-row full a (row_of Exit time n ac e a) g refl (refl, h.1, h.2)
row-lines Monrt time n ac e full a g h = calm-row full a (row_of Monrt time n ac e a) g refl (refl, h.1, h.2)
row-lines Logout time n ac e full a g h = calm-row full a (row_of Logout time n ac e a) g refl h
row-lines Mstime time n ac e full a g h = calm-row full a (row_of Mstime time n ac e a) g refl h
row-lines Pjob time n ac e full a g h = calm-row full a (row_of Pjob time n ac e a) g refl h
row-lines Sleep time n ac e full a g h = calm-row full a (row_of Sleep time n ac e a) g refl (h.0, refl, h.2)
row-lines Piini time n ac e full a g h =
    calm-row full a (row_of Piini time n ac e a) g refl
    (by_test (Fine a.job.line) (are_legal (core_of a.cores n) (right_half (ac_of a.job ac)) 4) _ _ (λ _. h) (λ _. h))
row-lines Pisys time n ac e full a g h =
    calm-row full a (row_of Pisys time n ac e a) g refl
    (by_test (Fine a.job.line) (nat_le 2 (ac_of a.job ac)) _ _ (λ _. h)
    (λ _. by_test (Fine a.job.line) (is_none a.job.interrupts.vector) _ _ (λ _. h) (λ _. h)))
row-lines Debrk time n ac e full a g h =
    calm-row full a (row_of Debrk time n ac e a) g refl
    (fine-dismissed a.job.line (core_of a.cores n) a.job (vector_in_progress a.job.interrupts) h)
row-lines Enq time n ac e full a g h =
    calm-row full a (row_of Enq time n ac e a) g refl
    (fine-answered a.job.line a.job ac (enq_limit a.job.regs.ac (core_of a.cores n) n (ac_of a.job ac))
    (asked a.size a.requests n (enq_asks a.job.regs.ac (core_of a.cores n) n (ac_of a.job ac) (is_some a.job.interrupts.vector) a.job.quota)).reply h)
row-lines Deq time n ac e full a g h =
    calm-row full a (row_of Deq time n ac e a) g refl
    (fine-answered a.job.line a.job ac 0 (asked a.size a.requests n (deq_asks a.job.regs.ac (core_of a.cores n) n (ac_of a.job ac))).reply h)
row-lines Enqc time n ac e full a g h =
    calm-row full a (row_of Enqc time n ac e a) g refl
    (by_enqc (λ (o : JobCores). Fine a.job.line o.job) a.jobs a.requests n ac a.job a.cores (λ w. h) (λ code. h) (λ quota. h)
    (fine-told a.job.line a.requests n ac (answers_at a.job ac) a.job (core_of a.cores n)
    (with_room (core_of a.cores n) (answers_at a.job ac) (enqc_asks a.job.regs.ac (core_of a.cores n) n (ac_of a.job ac))) h))
row-lines Datrd time n ac e full a g h =
    let word : ℕ = slice_index a.shared (right_half (ac_of a.job ac)) in
    calm-row full a (row_of Datrd time n ac e a) g refl
    (by_test (Fine a.job.line) (nat_lt (right_half (ac_of a.job ac)) DATA_WORDS) (skipping (with_ac a.job ac word)) (with_ac a.job ac 1) (λ _. h) (λ _. h))
row-lines Datwr time n ac e full a g h =
    calm-row full a (row_of Datwr time n ac e a) g refl
    (by_test (λ (o : JobData). Fine a.job.line o.job) (nat_lt (right_half (ac_of a.job ac)) DATA_WORDS) _ _ (λ _. h) (λ _. h))
row-lines (Input unit skips) time n ac e full a g h =
    let x = read-lines unit skips e (core_of a.cores n) a.job a.lines full g h in
    inl (record {
      lines = x.0;
      is = ap (λ (o : JobInput). record a { job = o.job; cores = with_core a.cores n o.core; lines = o.lines; ending = o.ending }) x.1;
      kept = x.2;
      fine = x.3;
    })
row-lines Outchr time n ac e full a g h =
    let o : Option (List ℕ) = low_character (word_below a.job.regs.ac (core_of a.cores n) e) in
    put-row full a (put_text o a.job a.lines) (put_text o a.job full)
    (put-lines o a.job a.lines full g h (λ text is. one-short (word_below a.job.regs.ac (core_of a.cores n) e) text is))
row-lines Outstr time n ac e full a g h =
    let o : Option (List ℕ) = text_from a.job.regs.ac (core_of a.cores n) e [] OUTPUT_RING in
    put-row full a (put_text o a.job a.lines) (put_text o a.job full)
    (put-lines o a.job a.lines full g h (λ text is. ring-short a.job.regs.ac (core_of a.cores n) e text is))
row-lines Clrbfi time n ac e full a g h = inl (record {
  lines = with_input full a.job.line [];
  is = refl;
  kept = lines-set a.job.line a.lines full (record { input = []; output = output_of a.lines a.job.line })
      (record { input = []; output = output_of full a.job.line }) g refl
      (inl (sym (append-nil (output_of full a.job.line)) ∙ ap (λ x. output_of full a.job.line ++ x) (sym g.empty)))
      (λ none. none-fits (output_of full a.job.line) none);
  fine = h;
})
row-lines Clrbfo time n ac e full a g h = inl (record {
  lines = with_output full a.job.line [];
  is = refl;
  kept = lines-set a.job.line a.lines full (record { input = input_of a.lines a.job.line; output = [] })
      (record { input = input_of full a.job.line; output = [] }) g (g.inputs a.job.line) (inr (refl, refl)) (λ none. none-fits [] refl);
  fine = h;
})
row-lines (Skpin unit) time n ac e full a g h =
    let put : List ℕ → CallState = λ input. record a { lines = full; job = skipping_if (has_input unit input) a.job } in
    inl (record {
      lines = full;
      is = ap put (g.inputs a.job.line);
      kept = lines-kept a.job.line a.lines full g;
      fine = fine-skipping a.job.line (has_input unit (input_of a.lines a.job.line)) a.job h;
    })
row-lines Unlisted time n ac e full a g h = calm-row full a (row_of Unlisted time n ac e a) g refl (refl, h.1, h.2)
