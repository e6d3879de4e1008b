-- The script of a run leads where the run leads.
use Rattle.std.proofs.Common.{◌≡◌, ◌≢◌, ◌≤◌, ◌<◌, ◌∙◌, sym, ap, subst, ℕ, zero, suc, ◌+◌, ◌-◌, ◌*◌, ◌/◌, ◌%◌, ◌==◌, ◌&&◌, ◌||◌, not, nat_le, nat_lt, Bool, true, false, cond, List, [], ◌∷◌, ◌++◌, drop, map, replicate, length, Option, Some, None, Result, Ok, Err, is_none, is_some, inl, inr, refl, arith}
use Rattle.std.specs.Prelude.{unwrap_or}
use Rattle.std.specs.List.{list_any}
use Rattle.std.specs.Option.{option_map}
use Rattle.std.proofs.lemmas.Bool.{both_ways, cases_eq, eq-eqb, eqb-true, false_from_ne_true, le-leb, leb-false, leb-true}
use Rattle.std.proofs.lemmas.List.{get_or-set_other, get_or-set_same, length-drop}
use Rattle.word36.specs.declared.sizes.TheConstants.{JOBS, LINES, OUTPUT_RING, TAKEN_AT_ONCE}
use Rattle.core_store.specs.Cores.{IsJob}
use Rattle.lock_queue.specs.Jobs.{is_waiting_job}
use Rattle.lock_queue.specs.Waits.{numbers_from}
use Rattle.lock_queue.specs.declared.request.Request.{Request}
use Rattle.tty_lines.specs.Rings.{Rings, holds_line, output_of, with_output}
use Rattle.job_sched.proofs.Circle.{at, at-is}
use Rattle.job_sched.proofs.Limits.{limited-kept}
use Rattle.job_sched.specs.Changes.{standing, with_change}
use Rattle.job_sched.specs.Jobs.{broken_job, going_on, halted, ticked_job, ticked_wait}
use Rattle.job_sched.specs.Limits.{at_error_return, limited_job}
use Rattle.job_sched.specs.Ready.{after as after_number, first_from, holds, is_ready, is_ready_job, next_job}
use Rattle.job_sched.specs.Tables.{Table, job_at}
use Rattle.job_sched.specs.declared.job.Job.{Job}
use Rattle.job_sched.specs.declared.job.Stop.TheVariants as stop
use Rattle.job_sched.specs.declared.job_error.JobError.{JobError}
use Rattle.job_sched.specs.declared.job_error.JobError.TheVariants.{NotStopped}
use Rattle.job_sched.specs.declared.time_of_day.TheConstants.{TICKS_A_DAY}
use Rattle.job_sched.specs.declared.job.Wait.{Wait}
use Rattle.job_sched.specs.declared.job.Wait.TheVariants.{None as Nothing, Sleep, Char, Line, Room, Queue}
use Rattle.uuo_calls.specs.Performed.{World}
use Rattle.uuo_calls.proofs.Tests.{by_test}
use Rattle.machine.specs.declared.event.Event.{Event}
use Rattle.machine.specs.declared.event.Event.TheVariants.{Step, Tick, Typed, Take, Continue}
use Rattle.machine.specs.declared.event.RefusedEvent.TheVariants.{NoLine}
use Rattle.machine.specs.declared.sizes.TheConstants.{INTERRUPT_CHARACTER}
use Rattle.machine.specs.Machine.{Made, S, after, broken, continued, happens, made, made_if, refused, stepped, taken, ticked}
use Rattle.machine.specs.Safe.{Safe, line_of}
use Rattle.monitor_laws.proofs.Housing.{at-mapped, is_job}
use Rattle.monitor_laws.proofs.Safety.{next-ready, safe-happens}
use Rattle.job_order_laws.specs.Choices.{choice, ticked_on}
use Rattle.job_order_laws.specs.Events.{IsLike, IsLikeWait, IsSteered, ScriptsDo, choice_events, goes_on, line_in, run_events, turn_events}
use Rattle.job_order_laws.specs.Orders.{IsRun}
use Rattle.job_order_laws.specs.Places.{turn}
use Rattle.job_order_laws.specs.Ticked.{tick}
use Rattle.job_order_laws.specs.Turned.{IsSound, V, can_run, steered, turned}
use Rattle.job_order_laws.proofs.Choosing.{Ran as DidRun, choice-tick, choice-turn, did-tick, ran as did-turn, sound-choice}
use Rattle.job_order_laws.proofs.Eventing.{like-broken, like-going, like-output}
use Rattle.job_order_laws.proofs.Likeness.{Going, Mirrored, and-first, like-steered, like-turn, mirrored, no-stop, requests-like}
use Rattle.job_order_laws.proofs.LikeTicks.{like-ticked}
use Rattle.job_order_laws.proofs.LineRows.{Fine, is_room}
use Rattle.job_order_laws.proofs.LineTurns.{FineSlot}
use Rattle.job_order_laws.proofs.OtherRows.{rings-other}
use Rattle.job_order_laws.proofs.OwnRows.{rings-set}
use Rattle.job_order_laws.proofs.Returning.{any-number, slot-ticked}
use Rattle.job_order_laws.proofs.Scheduling.{step-turn}
use Rattle.job_order_laws.proofs.TickTurns.{not-held}
use Rattle.job_order_laws.proofs.Turning.{there, turns_are_sound}

-- the only job that is ready is next
first-none : (test : ℕ → Bool) (k n i : ℕ) → first_from test k n ≡ None → i < k → test (at n i) ≡ false
unfolding first_from at
first-none test zero n i none low = absurd (omega arith)
first-none test (suc k) n zero none low =
    by_test (λ (o : Option ℕ). o ≡ None → test n ≡ false) (test n) (Some n) (first_from test k (after_number n)) (λ _ e. cc) (λ fails _. fails) none
first-none test (suc k) n (suc i) none low =
    by_test (λ (o : Option ℕ). o ≡ None → test (at (after_number n) i) ≡ false) (test n) (Some n) (first_from test k (after_number n)) (λ _ e. cc)
    (λ _ e. first-none test k (after_number n) i e (omega arith)) none

place-of : (c n : ℕ) → 1 ≤ c → c ≤ JOBS → IsJob n → (i : ℕ) × (i < JOBS) × (at c i ≡ n)
place-of c n some most number = by_side (nat_le c n) refl
  where
    by_side : (b : Bool) → nat_le c n ≡ b → (i : ℕ) × (i < JOBS) × (at c i ≡ n)
    by_side true is =
        let low : c ≤ n = leb-true c n is in
        (n - c, omega (arith, number.0, number.1), at-is c (n - c) some most ∙ omega (arith, number.0, number.1))
    by_side false is =
        let high : n < c = leb-false c n is in
        (n + JOBS - c, omega (arith, number.0, number.1), at-is c (n + JOBS - c) some most ∙ omega (arith, number.0, number.1))

only-next : (t : Table) (lines : List Rings) (rs : List Request) (n : ℕ) → IsJob n → is_ready t.jobs lines rs n ≡ true
    → ((m : ℕ) → is_ready t.jobs lines rs m ≡ true → m ≡ n) → next_job t lines rs ≡ Some n
only-next t lines rs n number ready only = by_next (next_job t lines rs) refl
  where
    by_next : (o : Option ℕ) → next_job t lines rs ≡ o → next_job t lines rs ≡ Some n
    by_next (Some m) is = is ∙ ap Some (only m (next-ready t lines rs m is))
    by_next None is =
        let place = place-of (after_number t.current) n (omega arith) (omega arith) number in
        absurd (by_test (λ (o : Option ℕ). o ≡ None → ⊥) (nat_lt 0 t.left && is_ready t.jobs lines rs t.current) (Some t.current)
        (first_from (is_ready t.jobs lines rs) JOBS (after_number t.current)) (λ _ e. cc)
        (λ _ e. both_ways (is_ready t.jobs lines rs n)
        (subst (λ m. is_ready t.jobs lines rs m ≡ false) place.2 (first-none (is_ready t.jobs lines rs) JOBS (after_number t.current) place.0 e place.1)) ready)
        is)

-- a machine and a run that keep step
record Near (s : S) (v : V) : Type 0 where
  safe : Safe s
  sound : IsSound v
  like : IsLike s v
  time : s.time ≡ v.machine.time
  rooms : (n places : ℕ) (i : Job) → job_at s.world.table.jobs n ≡ Some i → i.wait ≡ Room places → nat_lt OUTPUT_RING places ≡ false

abbrev AllStopped : S → Type 0
AllStopped s = (n : ℕ) (i : Job) → job_at s.world.table.jobs n ≡ Some i → is_none i.stop ≡ false

abbrev AllTaken : S → Type 0
AllTaken s = (line : ℕ) → output_of s.world.lines line ≡ []

record Held (s : S) (v : V) : Type 0 where
  near : Near s v
  stopped : AllStopped s
  taken_all : AllTaken s

-- events that lead there
record Leads (s : S) (es : List Event) (v : V) : Type 0 where
  events : IsSteered s es
  held : Held (after es s) v

after-append : (es fs : List Event) (s : S) → after (es ++ fs) s ≡ after fs (after es s)
after-append [] fs s = refl
after-append (e ∷ es) fs s = after-append es fs (happens s e).state

steered-append : (es fs : List Event) (s : S) → IsSteered s es → IsSteered (after es s) fs → IsSteered s (es ++ fs)
steered-append [] fs s p q = q
steered-append (e ∷ es) fs s p q = (p.0, steered-append es fs (happens s e).state p.1 q)

-- CTRL-C at a line
interrupts : (INTERRUPT_CHARACTER == INTERRUPT_CHARACTER) ≡ true
interrupts = eq-eqb INTERRUPT_CHARACTER INTERRUPT_CHARACTER refl

by-typed : (P : S → Type 0) (s : S) (line : ℕ) → (LINES ≤ line → P s) → (line < LINES → P (record s { world = broken s.world line }))
    → P (happens s (Typed line INTERRUPT_CHARACTER)).state
by-typed P s line none there =
    by_test (λ (m : Made). P m.state) (nat_le LINES line) (refused s NoLine) (made s (broken s.world line)) (λ high. none (leb-true LINES line high))
    (λ low. there (leb-false LINES line low))

elsewhere : (a b : Bool) → a && b ≡ false → b ≡ true → a ≡ false
elsewhere true b off e = absurd (both_ways b off e)
elsewhere false b off e = refl

-- what CTRL-C leaves of a job
record Broken (s : S) (line n : ℕ) (j : Job) : Type 0 where
  job : Job
  at_slot : job_at s.world.table.jobs n ≡ Some job
  line_is : j.line ≡ job.line
  wait : j.wait ≡ job.wait
  running : is_none j.stop ≡ true → (is_none job.stop ≡ true) × ((job.line == line) ≡ false)

broken-slot : (s : S) (line n : ℕ) (j : Job) → job_at (broken s.world line).table.jobs n ≡ Some j → Broken s line n j
broken-slot s line n j is =
    by_slot (job_at s.world.table.jobs n) refl (sym (at-mapped (option_map (broken_job line)) s.world.table.jobs n refl) ∙ is)
  where
    by_slot : (o : Option Job) → job_at s.world.table.jobs n ≡ o → option_map (broken_job line) o ≡ Some j → Broken s line n j
    by_slot None at e = cc
    by_slot (Some i) at e = let same : broken_job line i ≡ j = cc in record {
      job = i;
      at_slot = at;
      line_is = subst (λ (k : Job). k.line ≡ i.line) same (by_test (λ (k : Job). k.line ≡ i.line) ((i.line == line) && is_none i.stop) (halted i stop.Typed) i (λ _. refl) (λ _. refl));
      wait = subst (λ (k : Job). k.wait ≡ i.wait) same (by_test (λ (k : Job). k.wait ≡ i.wait) ((i.line == line) && is_none i.stop) (halted i stop.Typed) i (λ _. refl) (λ _. refl));
      running = subst (λ (k : Job). is_none k.stop ≡ true → (is_none i.stop ≡ true) × ((i.line == line) ≡ false)) same
          (by_test (λ (k : Job). is_none k.stop ≡ true → (is_none i.stop ≡ true) × ((i.line == line) ≡ false)) ((i.line == line) && is_none i.stop)
          (halted i stop.Typed) i (λ _ e. absurd (both_ways false refl e)) (λ off e. (e, elsewhere (i.line == line) (is_none i.stop) off e)));
    }

typed-is : (s : S) (line : ℕ) → line < LINES → (happens s (Typed line INTERRUPT_CHARACTER)).state ≡ record s { world = broken s.world line }
typed-is s line low =
    by-typed (λ t. t ≡ record s { world = broken s.world line }) s line (λ high. absurd (omega (arith, low, high))) (λ _. refl)

near-broken : (s : S) (v : V) (line : ℕ) → line < LINES → Near s v → Near (record s { world = broken s.world line }) v
near-broken s v line low h = record {
  safe = subst Safe (typed-is s line low) (safe-happens s (Typed line INTERRUPT_CHARACTER) h.safe);
  sound = h.sound;
  like = like-broken s v line h.like;
  time = h.time;
  rooms = λ n places i at room. (let b : Broken s line n i = broken-slot s line n i at in h.rooms n places b.job b.at_slot (sym b.wait ∙ room));
}

-- all jobs are stopped, line after line
abbrev interrupts_at : List ℕ → List Event
interrupts_at lines = map (λ line. Typed line INTERRUPT_CHARACTER) lines

abbrev is_at_one : List ℕ → ℕ → Bool
is_at_one lines l = list_any (λ line. l == line) lines

-- a job that is not stopped is at one of these lines
abbrev StoppedBut : S → List ℕ → Type 0
StoppedBut s lines = (n : ℕ) (i : Job) → job_at s.world.table.jobs n ≡ Some i → is_none i.stop ≡ true → is_at_one lines i.line ≡ true

or-rest : (a b : Bool) → a || b ≡ true → a ≡ false → b ≡ true
or-rest true b h e = absurd (both_ways true e refl)
or-rest false b h e = h

stop-lines : (lines : List ℕ) (s : S) (v : V) → Near s v → AllTaken s → StoppedBut s lines → Leads s (interrupts_at lines) v
stop-lines [] s v h clear but = record {
  events = tt;
  held = record { near = h; stopped = λ n i at. false_from_ne_true _ (λ e. both_ways false refl (but n i at e)); taken_all = clear };
}
stop-lines (line ∷ lines) s v h clear but =
    let rest : Leads (happens s (Typed line INTERRUPT_CHARACTER)).state (interrupts_at lines) v =
    by-typed (λ t. Leads t (interrupts_at lines) v) s line
    (λ high. stop-lines lines s v h clear
    (λ n i at e. or-rest (i.line == line) (is_at_one lines i.line) (but n i at e)
    (false_from_ne_true _ (λ same.
    let low : i.line < LINES = h.safe.numbers n i.line (ap line_of at) in
    let here : i.line ≡ line = eqb-true i.line line same in absurd (omega (arith, low, high, here))))))
    (λ low. stop-lines lines (record s { world = broken s.world line }) v (near-broken s v line low h) clear
    (λ n i at e.
    let b : Broken s line n i = broken-slot s line n i at in
    let was = b.running e in
    subst (λ l. is_at_one lines l ≡ true) (sym b.line_is) (or-rest (b.job.line == line) (is_at_one lines b.job.line) (but n b.job b.at_slot was.0) was.1))) in
    record { events = (interrupts, rest.events); held = rest.held }

stop-all : (s : S) (v : V) → Near s v → AllTaken s → Leads s (interrupts_at (numbers_from 0 LINES)) v
stop-all s v h clear =
    stop-lines (numbers_from 0 LINES) s v h clear
    (λ n i at e. any-number (λ line. i.line == line) 0 LINES i.line (omega arith)
    (let low = h.safe.numbers n i.line (ap line_of at) in omega (arith, low)) (eq-eqb i.line i.line refl))

-- a tick
room-ticked : (b : Bool) (i : Job) (places : ℕ) → (limited_job b (ticked_job i)).wait ≡ Room places → i.wait ≡ Room places
room-ticked b i places e = by_wait b i.wait e
  where
    by_wait : (b : Bool) (wait : Wait) → (limited_job b (record i { wait = ticked_wait wait })).wait ≡ Room places → wait ≡ Room places
    by_wait false Nothing e = e
    by_wait true Nothing e = e
    by_wait false (Sleep ticks) e = cc
    by_wait true (Sleep ticks) e = cc
    by_wait false Char e = e
    by_wait true Char e = e
    by_wait false Line e = e
    by_wait true Line e = e
    by_wait false (Room more) e = e
    by_wait true (Room more) e = e
    by_wait false (Queue limit ac) e = e
    by_wait true (Queue limit ac) e =
        by_test (λ (j : Job). j.wait ≡ Room places → Queue limit ac ≡ Room places) (limit == 1) (at_error_return 17 ac (record i { wait = Queue limit ac }))
        (record i { wait = Queue (limit - 1) ac }) (λ _ x. cc) (λ _ x. cc) e

-- the job from which a tick made one
record Earlier (s : S) (n : ℕ) (j : Job) : Type 0 where
  job : Job
  at_slot : job_at s.world.table.jobs n ≡ Some job
  stop_is : j.stop ≡ job.stop
  room : (places : ℕ) → j.wait ≡ Room places → job.wait ≡ Room places

earlier : (s : S) (n : ℕ) (j : Job) → job_at (tick s.world).table.jobs n ≡ Some j → Earlier s n j
earlier s n j is = by_slot (job_at s.world.table.jobs n) refl (sym (slot-ticked s.world n) ∙ is)
  where
    by_slot : (o : Option Job) → job_at s.world.table.jobs n ≡ o
        → option_map (limited_job (is_waiting_job s.world.requests n)) (option_map ticked_job o) ≡ Some j → Earlier s n j
    by_slot None at e = cc
    by_slot (Some i) at e =
        let b : Bool = is_waiting_job s.world.requests n in
        let same : limited_job b (ticked_job i) ≡ j = cc in
        record {
          job = i;
          at_slot = at;
          stop_is = ap (λ (k : Job). k.stop) (sym same) ∙ (limited-kept b (ticked_job i)).stop;
          room = λ places e. room-ticked b i places (ap (λ (k : Job). k.wait) same ∙ e);
        }

held-ticked : (s : S) (v : V) → IsSound (ticked_on v) → Held s v → Held (ticked s).state (ticked_on v)
held-ticked s v sound h = record {
  near = record {
    safe = safe-happens s Tick h.near.safe;
    sound = sound;
    like = like-ticked s v h.near.like;
    time = ap (λ t. (t + 1) % TICKS_A_DAY) h.near.time;
    rooms = λ n places i at room. (let b : Earlier s n i = earlier s n i at in h.near.rooms n places b.job b.at_slot (b.room places room));
  };
  stopped = λ n i at. (let b : Earlier s n i = earlier s n i at in ap (λ o. is_none o) b.stop_is ∙ h.stopped n b.job b.at_slot);
  taken_all = h.taken_all;
}

-- what is put out is taken
abbrev takes : ℕ → ℕ → List Event
takes count line = replicate count (Take line TAKEN_AT_ONCE)

taken-is : (s : S) (line : ℕ) → line < LINES
    → (taken s line TAKEN_AT_ONCE).state ≡ record s { world = record s.world { lines = with_output s.world.lines line (drop TAKEN_AT_ONCE (output_of s.world.lines line)) } }
taken-is s line low =
    by_test (λ (m : Made). m.state ≡ record s { world = record s.world { lines = with_output s.world.lines line (drop TAKEN_AT_ONCE (output_of s.world.lines line)) } })
    (nat_le LINES line) (refused s NoLine) _ (λ high. absurd (omega (arith, low, leb-true LINES line high))) (λ _. refl)

nothing-left : (xs : List ℕ) → length xs ≤ 0 → xs ≡ []
nothing-left [] h = refl
nothing-left (x ∷ xs) h = absurd (omega arith)

take-line : (count : ℕ) (s : S) (v : V) (line : ℕ) → line < LINES → Near s v → AllStopped s
    → ((l : ℕ) → l ≢ line → output_of s.world.lines l ≡ []) → length (output_of s.world.lines line) ≤ count * TAKEN_AT_ONCE
    → Leads s (takes count line) v
take-line zero s v line low h stopped others few = record {
  events = tt;
  held = record {
    near = h;
    stopped = stopped;
    taken_all = λ l. elim (cases_eq l line) [
      | inl is ↦ subst (λ m. output_of s.world.lines m ≡ []) (sym is) (nothing-left (output_of s.world.lines line) (omega (arith, few)))
      | inr ne ↦ others l ne
    ];
  };
}
take-line (suc count) s v line low h stopped others few =
    let left : List ℕ = drop TAKEN_AT_ONCE (output_of s.world.lines line) in
    let t : S = record s { world = record s.world { lines = with_output s.world.lines line left } } in
    let within : line < length s.world.lines = omega (arith, low, h.safe.rings) in
    let is : (taken s line TAKEN_AT_ONCE).state ≡ t = taken-is s line low in
    let near : Near t v = record {
      safe = subst Safe is (safe-happens s (Take line TAKEN_AT_ONCE) h.safe);
      sound = h.sound;
      like = like-output s v line left within h.like;
      time = h.time;
      rooms = h.rooms;
    } in
    let here : output_of t.world.lines line ≡ left = ap (λ (r : Rings). r.output) (rings-set s.world.lines line _ within) in
    let fewer : length (output_of t.world.lines line) ≤ count * TAKEN_AT_ONCE =
    (let e : length (output_of t.world.lines line) ≡ length left = ap length here in
    let d : length left ≡ length (output_of s.world.lines line) - TAKEN_AT_ONCE = length-drop TAKEN_AT_ONCE (output_of s.world.lines line) in
    omega (arith, few, e, d)) in
    let rest : Leads t (takes count line) v =
    take-line count t v line low near stopped (λ l ne. ap (λ (r : Rings). r.output) (rings-other s.world.lines line l _ ne) ∙ others l ne) fewer in
    let moved : Leads (taken s line TAKEN_AT_ONCE).state (takes count line) v = subst (λ u. Leads u (takes count line) v) (sym is) rest in
    record { events = (refl, moved.events); held = moved.held }

-- a job goes on: the machine in which it alone can run
abbrev going : S → ℕ → S
going s n = record s { world = record s.world { table = with_change s.world.table n going_on } }

continued-is : (s : S) (n : ℕ) (i : Job) → job_at s.world.table.jobs n ≡ Some i → is_none i.stop ≡ false → (continued s n).state ≡ going s n
continued-is s n i at stopped =
    ap (λ o. (made_if s (going s n).world (standing o)).state) at
    ∙ by_test (λ (r : Result (Unit {0}) JobError). (made_if s (going s n).world r).state ≡ going s n) (is_none i.stop) (Err NotStopped) (Ok tt)
    (λ e. absurd (both_ways (is_none i.stop) stopped e)) (λ _. refl)

-- a wait that is over in the run is over in the machine, where all output is taken
over-like : (s : S) (v : V) (n line : ℕ) (held wait : Wait) → IsLike s v → AllTaken s → ((places : ℕ) → held ≡ Room places → nat_lt OUTPUT_RING places ≡ false)
    → IsLikeWait v.machine.world n line held wait → holds v.machine.world.lines v.machine.world.requests n line wait ≡ false
    → holds s.world.lines s.world.requests n line held ≡ false
over-like s v n line held wait h clear rooms = by_wait held rooms
  where
    by_wait : (held : Wait) → ((places : ℕ) → held ≡ Room places → nat_lt OUTPUT_RING places ≡ false) → IsLikeWait v.machine.world n line held wait
        → holds v.machine.world.lines v.machine.world.requests n line wait ≡ false → holds s.world.lines s.world.requests n line held ≡ false
    by_wait Nothing rooms e free = refl
    by_wait (Sleep ticks) rooms e free = sym (ap (λ x. holds v.machine.world.lines v.machine.world.requests n line x) e) ∙ free
    by_wait Char rooms e free =
        ap (λ (cs : List ℕ). not (nat_lt 0 (length cs))) (h.inputs line) ∙ sym (ap (λ x. holds v.machine.world.lines v.machine.world.requests n line x) e) ∙ free
    by_wait Line rooms e free =
        ap (λ (cs : List ℕ). not (holds_line cs)) (h.inputs line) ∙ sym (ap (λ x. holds v.machine.world.lines v.machine.world.requests n line x) e) ∙ free
    by_wait (Room places) rooms e free = ap (λ (cs : List ℕ). nat_lt (OUTPUT_RING - length cs) places) (clear line) ∙ rooms places refl
    by_wait (Queue limit ac) rooms e free =
        ap (λ rs. is_waiting_job rs n) (sym (requests-like s v h)) ∙ sym (ap (λ x. holds v.machine.world.lines v.machine.world.requests n line x) e) ∙ free

-- the job that goes on is the only one that can run
record Alone (s : S) (v : V) (n : ℕ) (j : Job) : Type 0 where
  mirror : Mirrored s v n j
  goes : goes_on (job_at s.world.table.jobs n) ≡ true
  is : (continued s n).state ≡ going s n
  safe : Safe (going s n)
  like : IsLike (going s n) v
  ready : can_run (going s n).world n ≡ true
  slot : job_at (going s n).world.table.jobs n ≡ Some (going_on mirror.job)
  next : next_job (going s n).world.table (going s n).world.lines (going s n).world.requests ≡ Some n

alone : (s : S) (v : V) (n : ℕ) (j : Job) → Held s v → job_at v.machine.world.table.jobs n ≡ Some j → can_run v.machine.world n ≡ true → Alone s v n j
alone s v n j h at runs =
    let x : World = v.machine.world in
    let slots : List (Option Job) = s.world.table.jobs in
    let m : Mirrored s v n j = mirrored s v n j h.near.like at in
    let i : Job = m.job in
    let ready_j : is_ready_job x.lines x.requests n (Some j) ≡ true = sym (ap (is_ready_job x.lines x.requests n) at) ∙ runs in
    let none_j : j.stop ≡ None = no-stop j.stop (and-first (is_none j.stop) _ ready_j) in
    let goes : goes_on (job_at slots n) ≡ true = ap goes_on m.at ∙ ap is_none (sym m.stop ∙ none_j) in
    let is : (continued s n).state ≡ going s n = continued-is s n i m.at (h.stopped n i m.at) in
    let number : IsJob n = is_job slots s.world.cores n h.near.safe.housed (ap is_some m.at) in
    let low : n < length slots = omega (arith, number.1, h.near.safe.housed.slots) in
    let slot : job_at (going s n).world.table.jobs n ≡ Some (going_on i) =
    get_or-set_same slots n (option_map going_on (job_at slots n)) None low ∙ ap (option_map going_on) m.at in
    let free_j : holds x.lines x.requests n i.line j.wait ≡ false =
    subst (λ l. holds x.lines x.requests n l j.wait ≡ false) m.line (not-held x.lines x.requests n j ready_j) in
    let free : holds s.world.lines s.world.requests n i.line i.wait ≡ false =
    over-like s v n i.line i.wait j.wait h.near.like h.taken_all (λ places room. h.near.rooms n places i m.at room) m.like.wait free_j in
    let ready : can_run (going s n).world n ≡ true = ap (is_ready_job s.world.lines s.world.requests n) slot ∙ ap not free in
    record {
      mirror = m;
      goes = goes;
      is = is;
      safe = subst Safe is (safe-happens s (Continue n) h.near.safe);
      like = like-going s v n h.near.like goes low;
      ready = ready;
      slot = slot;
      next = only-next (going s n).world.table s.world.lines s.world.requests n number ready
          (λ k can. elim (cases_eq k n) [
            | inl same ↦ same
            | inr ne ↦ (
                let here = there s.world.lines s.world.requests k (job_at (going s n).world.table.jobs k) can in
                let other : job_at slots k ≡ Some here.0 = sym (get_or-set_other slots n k (option_map going_on (job_at slots n)) None ne) ∙ here.1 in
                absurd (both_ways (is_none here.0.stop) (h.stopped k here.0 other)
                (and-first (is_none here.0.stop) _ (sym (ap (is_ready_job s.world.lines s.world.requests k) here.1) ∙ can))))
          ]);
    }

-- what its step leaves, as the run has it
record AfterStep (s : S) (v a : V) (n line : ℕ) : Type 0 where
  current : ℕ
  left : ℕ
  is : (happens (going s n) Step).state ≡ record s { world = steered current left (turn (going s n).world s.time n) }
  near : Near (record s { world = steered current left (turn (going s n).world s.time n) }) a
  fine : FineSlot line (job_at (turn (going s n).world s.time n).table.jobs n)
  others : (m : ℕ) → m ≢ n → job_at (turn (going s n).world s.time n).table.jobs m ≡ job_at s.world.table.jobs m
  clear : (l : ℕ) → l ≢ line → output_of (turn (going s n).world s.time n).lines l ≡ []
  few : length (output_of (turn (going s n).world s.time n).lines line) ≤ OUTPUT_RING

stepped-alone : (s : S) (v a : V) (n : ℕ) (r : DidRun v a n) → Held s v → turned v n ≡ Some a → Alone s v n r.job → AfterStep s v a n r.job.line
stepped-alone s v a n r h e x =
    let t : S = going s n in
    let y : World = turn t.world s.time n in
    let moved = step-turn t n in
    let is : (happens t Step).state ≡ record s { world = steered moved.0 moved.1 y } = ap (λ o. (stepped t o).state) x.next ∙ moved.2 in
    let g : Going t v n = like-turn t v n x.safe h.near.sound x.like x.ready (ap (λ c. turn t.world c n) h.near.time) in
    elim g.goes [
      | inl k ↦ (
          let same : k.state ≡ a = (let both : Some k.state ≡ Some a = sym k.step ∙ e in cc) in
          let job : g.running.job ≡ going_on x.mirror.job = (let both : Some g.running.job ≡ Some (going_on x.mirror.job) = sym g.running.at ∙ x.slot in cc) in
          let run : g.running.liked.job ≡ r.job = (let both : Some g.running.liked.job ≡ Some r.job = sym g.running.liked.at ∙ r.at in cc) in
          let line : g.running.job.line ≡ r.job.line = ap (λ (i : Job). i.line) job ∙ sym x.mirror.line in
          let fine : FineSlot r.job.line (job_at y.table.jobs n) = subst (λ l. FineSlot l (job_at y.table.jobs n)) line k.fine in
          let others : (m : ℕ) → m ≢ n → job_at y.table.jobs m ≡ job_at s.world.table.jobs m = λ m ne.
          ap (λ l. job_at l m) k.jobs ∙ get_or-set_other t.world.table.jobs n m _ None ne ∙ get_or-set_other s.world.table.jobs n m _ None ne in
          record {
            current = moved.0;
            left = moved.1;
            is = is;
            near = record {
              safe = subst Safe is (safe-happens t Step x.safe);
              sound = turns_are_sound v a n h.near.sound e;
              like = subst (λ u. IsLike (record s { world = steered moved.0 moved.1 y }) u) same (like-steered t y k.state moved.0 moved.1 k.like);
              time = h.near.time ∙ sym (ap (λ (u : V). u.machine.time) r.is);
              rooms = λ m places i at room. elim (cases_eq m n) [
                | inl here ↦ (
                    let own : Fine r.job.line i = subst (λ o. FineSlot r.job.line o) (subst (λ q. job_at y.table.jobs q ≡ Some i) here at) fine in
                    absurd (both_ways (is_room i.wait) own.1 (ap is_room room)))
                | inr ne ↦ h.near.rooms m places i (sym (others m ne) ∙ at) room
              ];
            };
            fine = fine;
            others = others;
            clear = λ l ne. ap (λ (q : Rings). q.output) (k.kept.rest l (λ same_line. ne (same_line ∙ ap (λ (i : Job). i.line) run))) ∙ h.taken_all l;
            few = subst (λ (i : Job). length (output_of y.lines i.line) ≤ OUTPUT_RING) run (k.kept.fits (h.taken_all g.running.liked.job.line));
          })
      | inr k ↦ absurd (both_ways (nat_le k.places OUTPUT_RING)
          (sym (ap (λ (cs : List ℕ). nat_le k.places (OUTPUT_RING - length cs)) (h.taken_all g.running.liked.job.line)) ∙ k.none)
          (le-leb k.places OUTPUT_RING k.few))
    ]

turn-leads : (s : S) (v a : V) (n : ℕ) → Held s v → turned v n ≡ Some a → Leads s (turn_events n (line_in (job_at v.machine.world.table.jobs n))) a
turn-leads s v a n h e =
    let r : DidRun v a n = did-turn v a n e in
    let line : ℕ = r.job.line in
    let x : Alone s v n r.job = alone s v n r.job h r.at r.runs in
    let k : AfterStep s v a n line = stepped-alone s v a n r h e x in
    let low : line < LINES = h.near.sound.numbers n line (ap line_of r.at) in
    let t : S = record s { world = steered k.current k.left (turn (going s n).world s.time n) } in
    let q : S = record t { world = broken t.world line } in
    let count : ℕ = OUTPUT_RING / TAKEN_AT_ONCE in
    let stopped : AllStopped q = λ m i at. false_from_ne_true _ (λ run.
    let b : Broken t line m i = broken-slot t line m i at in
    let was = b.running run in
    elim (cases_eq m n) [
      | inl here ↦ (
          let own : Fine line b.job = subst (λ o. FineSlot line o) (subst (λ z. job_at t.world.table.jobs z ≡ Some b.job) here b.at_slot) k.fine in
          both_ways (b.job.line == line) was.1 (eq-eqb b.job.line line own.2))
      | inr ne ↦ both_ways (is_none b.job.stop) (h.stopped m b.job (sym (k.others m ne) ∙ b.at_slot)) was.0
    ]) in
    let few : length (output_of q.world.lines line) ≤ count * TAKEN_AT_ONCE = (let most = k.few in omega arith) in
    let last : Leads q (takes count line) a = take-line count q a line low (near-broken t a line low k.near) stopped k.clear few in
    let behind : Leads (happens t (Typed line INTERRUPT_CHARACTER)).state (takes count line) a = subst (λ u. Leads u (takes count line) a) (sym (typed-is t line low)) last in
    let from_t : Leads t (Typed line INTERRUPT_CHARACTER ∷ takes count line) a = record { events = (interrupts, behind.events); held = behind.held } in
    let after_step : Leads (happens (going s n) Step).state (Typed line INTERRUPT_CHARACTER ∷ takes count line) a =
    subst (λ u. Leads u (Typed line INTERRUPT_CHARACTER ∷ takes count line) a) (sym k.is) from_t in
    let from_going : Leads (going s n) (Step ∷ Typed line INTERRUPT_CHARACTER ∷ takes count line) a = record { events = (refl, after_step.events); held = after_step.held } in
    let after_continue : Leads (continued s n).state (Step ∷ Typed line INTERRUPT_CHARACTER ∷ takes count line) a =
    subst (λ u. Leads u (Step ∷ Typed line INTERRUPT_CHARACTER ∷ takes count line) a) (sym x.is) from_going in
    let all : Leads s (turn_events n line) a = record { events = (x.goes, after_continue.events); held = after_continue.held } in
    subst (λ l. Leads s (turn_events n l) a) (sym (ap line_in r.at)) all

choice-leads : (s : S) (v a : V) (k : ℕ) → Held s v → choice v k ≡ Some a → Leads s (choice_events v k) a
choice-leads s v a k h e = by_kind (k == 0) refl
  where
    by_kind : (t : Bool) → (k == 0) ≡ t → Leads s (cond t (Tick ∷ []) (turn_events k (line_in (job_at v.machine.world.table.jobs k)))) a
    by_kind false is = turn-leads s v a k h (sym (choice-turn v k is) ∙ e)
    by_kind true is =
        let did = did-tick v a (sym (choice-tick v k is) ∙ e) in
        let sound : IsSound a = sound-choice v a k h.near.sound e true is in
        subst (λ u. Leads s (Tick ∷ []) u) did.1
        (record { events = (refl, tt); held = held-ticked s v (subst IsSound (sym did.1) sound) h })

joined : (s : S) (es fs : List Event) (v w : V) → Leads s es v → Leads (after es s) fs w → Leads s (es ++ fs) w
joined s es fs v w p q = record {
  events = steered-append es fs s p.events q.events;
  held = subst (λ t. Held t w) (sym (after-append es fs s)) q.held;
}

run-leads : (s : S) (v w : V) (ks : List ℕ) → Held s v → IsRun choice v ks w → Leads s (run_events v ks) w
run-leads s v w [] h run = subst (λ u. Leads s [] u) run (record { events = tt; held = h })
run-leads s v w (k ∷ ks) h (a, by_k, run) =
    let first : Leads s (choice_events v k) a = choice-leads s v a k h by_k in
    subst (λ o. Leads s (choice_events v k ++ run_events (unwrap_or o v) ks) w) (sym by_k)
    (joined s (choice_events v k) (run_events a ks) a w first (run-leads (after (choice_events v k) s) a w ks first.held run))

-- at first nobody waits for room in vain
first-rooms : (v : V) → IsLike v.machine v → (n places : ℕ) (i : Job) → job_at v.machine.world.table.jobs n ≡ Some i → i.wait ≡ Room places
    → nat_lt OUTPUT_RING places ≡ false
first-rooms v h n places i at room =
    let x : World = v.machine.world in
    let m : Mirrored v.machine v n i = mirrored v.machine v n i h at in
    let same : m.job ≡ i = (let both : Some m.job ≡ Some i = sym m.at ∙ at in cc) in
    let wait : IsLikeWait x n i.line i.wait i.wait = subst (λ (k : Job). IsLikeWait x n k.line k.wait i.wait) same m.like.wait in
    let free : holds x.lines x.requests n i.line i.wait ≡ false = subst (λ (held : Wait). IsLikeWait x n i.line held i.wait) room wait in
    sym (ap (λ (cs : List ℕ). nat_lt (OUTPUT_RING - length cs) places) (h.outputs i.line))
    ∙ subst (λ (held : Wait). holds x.lines x.requests n i.line held ≡ false) room free

pub scripts_do : ScriptsDo
scripts_do v w ks sound h run =
    let near : Near v.machine v = record { safe = sound; sound = sound; like = h; time = refl; rooms = first-rooms v h } in
    let stops : Leads v.machine (interrupts_at (numbers_from 0 LINES)) v = stop-all v.machine v near h.outputs in
    let all : Leads v.machine (interrupts_at (numbers_from 0 LINES) ++ run_events v ks) w =
    joined v.machine (interrupts_at (numbers_from 0 LINES)) (run_events v ks) v w stops
    (run-leads (after (interrupts_at (numbers_from 0 LINES)) v.machine) v w ks stops.held run) in
    record { steered = all.events; like = all.held.near.like; time = all.held.near.time }
