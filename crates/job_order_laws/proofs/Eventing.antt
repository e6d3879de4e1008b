-- Each event that steers jobs is a step of a run, or none.
use Rattle.std.proofs.Common.{◌≡◌, ◌<◌, ◌∙◌, sym, ap, subst, ℕ, zero, suc, ◌==◌, ◌&&◌, not, nat_le, nat_lt, Bool, true, false, cond, List, [], ◌∷◌, ◌++◌, append_assoc, drop, min, map, length, Option, Some, None, Result, Ok, Err, is_none, is_some, inl, inr, refl, arith}
use Rattle.std.proofs.Common.{slice_index_or, slice_set}
use Rattle.std.proofs.lemmas.Bool.{both_ways, cases_eq, leb-false}
use Rattle.std.proofs.lemmas.List.{get_or-set_other, get_or-set_same, length-map}
use Rattle.std.specs.Option.{option_map}
use Rattle.word36.specs.declared.sizes.TheConstants.{LINES, TAKEN_AT_ONCE}
use Rattle.tty_lines.specs.Rings.{Rings, holds_line, input_of, output_of, with_output}
use Rattle.lock_queue.specs.Jobs.{is_waiting_job}
use Rattle.lock_queue.specs.Waits.{jobs}
use Rattle.job_sched.specs.Changes.{standing, with_change}
use Rattle.job_sched.specs.Jobs.{broken_job, going_on, halted, is_sleep}
use Rattle.job_sched.specs.Limits.{is_queue}
use Rattle.job_sched.specs.Ready.{holds, is_ready_job, next_job}
use Rattle.job_sched.specs.Tables.{job_at}
use Rattle.job_sched.specs.declared.job.Job.{Job}
use Rattle.job_sched.specs.declared.job.Stop.{Stop}
use Rattle.job_sched.specs.declared.job.Stop.TheVariants as stop
use Rattle.job_sched.specs.declared.job.Wait.{Wait}
use Rattle.job_sched.specs.declared.job.Wait.TheVariants.{None as Nothing, Sleep, Char, Line, Room, Queue}
use Rattle.job_sched.specs.declared.job_error.JobError.{JobError}
use Rattle.job_sched.specs.declared.job_error.JobError.TheVariants.{NotStopped as Runs}
use Rattle.uuo_calls.specs.Performed.{World}
use Rattle.uuo_calls.proofs.Tests.{by_test}
use Rattle.machine.specs.declared.event.Answer.TheVariants.{Ran, Refused}
use Rattle.machine.specs.declared.event.Event.{Event}
use Rattle.machine.specs.declared.event.Event.TheVariants.{Step, Tick, Typed, Take, Login, Start, Continue, Kill, Restart}
use Rattle.machine.specs.declared.event.RefusedEvent.TheVariants.{NoLine}
use Rattle.machine.specs.declared.sizes.TheConstants.{INTERRUPT_CHARACTER}
use Rattle.machine.specs.Alone.{taken_by, taken_from, text_in}
use Rattle.machine.specs.Machine.{Made, S, after, broken, continued, happens, made, made_if, refused, stepped, taken, ticked, typed}
use Rattle.machine.specs.Safe.{HasAccumulator, InRange, Safe, line_of, wait_of}
use Rattle.monitor_laws.proofs.Housing.{Mild, SameJobs, at-mapped, housed-same, is_job, same-mapped}
use Rattle.monitor_laws.proofs.Keeping.{apart-kept, below-kept, lines-same}
use Rattle.monitor_laws.proofs.Queueing.{queued-mapped}
use Rattle.monitor_laws.proofs.Ranges.{ranges-map}
use Rattle.monitor_laws.proofs.Safety.{next-ready, safe-happens}
use Rattle.job_order_laws.specs.Choices.{choice, is_counted, is_counted_of, is_timed, ticked_on}
use Rattle.job_order_laws.specs.Erased.{asks_time}
use Rattle.job_order_laws.specs.Events.{EndsAreLike, EventsAreRuns, IsLike, IsLikeJob, IsLikeSlot, IsLikeWait, IsSteered, IsTimeless, KeepOutput, KeepsOutput}
use Rattle.job_order_laws.specs.Events.{MachinesAreLike, drained, goes_on, is_steering, lifted, lifted_job, lifted_stop, roomy_wait}
use Rattle.job_order_laws.specs.Orders.{IsEnd, IsRun}
use Rattle.job_order_laws.specs.Places.{rings_of, turn}
use Rattle.job_order_laws.specs.Turned.{IsSound, V, can_run, steered, stepped_on}
use Rattle.job_order_laws.proofs.Choosing.{Ran as DidRun, any-alike, choice-tick, choice-turn, did-tick, ran as did-turn, sound-choice}
use Rattle.job_order_laws.proofs.Erasing.{clock-free}
use Rattle.job_order_laws.proofs.Likeness.{Going, like-steered, like-turn, no-stop, requests-like}
use Rattle.job_order_laws.proofs.LikeTicks.{like-still, like-ticked}
use Rattle.job_order_laws.proofs.OtherRows.{rings-other}
use Rattle.job_order_laws.proofs.OwnRows.{rings-set}
use Rattle.job_order_laws.proofs.Returning.{not-zero, run-append}
use Rattle.job_order_laws.proofs.Texting.{Tells, broken-lines, going-lines, stayed-lines, tells-still, tells-taken, tells-took, ticked-lines}
use Rattle.job_order_laws.proofs.Scheduling.{step-turn}
use Rattle.job_order_laws.proofs.Turning.{there, turns_are_sound}

-- a run that leads where an event leads
record Reached (s : S) (v : V) (e : Event) : Type 0 where
  state : V
  by : List ℕ
  run : IsRun choice v by state
  sound : IsSound state
  like : IsLike (happens s e).state state
  tells : KeepsOutput s e → (n line : ℕ) (text : List ℕ) → Tells s v n line text
      → Tells (happens s e).state state n line (text ++ taken_by line e (happens s e).answer)

-- a step
record Turned (s t : S) (v : V) : Type 0 where
  state : V
  by : List ℕ
  run : IsRun choice v by state
  sound : IsSound state
  like : IsLike t state
  tells : ((line : ℕ) → (more : List ℕ) × (output_of t.world.lines line ≡ output_of s.world.lines line ++ more))
      → (n line : ℕ) (text : List ℕ) → Tells s v n line text → Tells t state n line (text ++ [])

step-turned : (s : S) (v : V) → Safe s → IsSound v → IsLike s v → ((n : ℕ) → (happens s Step).answer ≡ Ran n → asks_time s.world n ≡ false)
    → Turned s (happens s Step).state v
step-turned s v safe sound h timeless =
    by_next (next_job s.world.table s.world.lines s.world.requests) (λ n e. next-ready s.world.table s.world.lines s.world.requests n e) timeless
  where
    by_next : (o : Option ℕ) → ((n : ℕ) → o ≡ Some n → can_run s.world n ≡ true) → ((n : ℕ) → (stepped s o).answer ≡ Ran n → asks_time s.world n ≡ false)
        → Turned s (stepped s o).state v
    by_next None ready timeless = record {
      state = v;
      by = [];
      run = refl;
      sound = sound;
      like = h;
      tells = λ keeps n line text t. tells-still s s v n line text (λ m l e. e) refl t;
    }
    by_next (Some n) ready timeless =
        let here = there s.world.lines s.world.requests n (job_at s.world.table.jobs n) (ready n refl) in
        let calm : turn s.world s.time n ≡ turn s.world v.machine.time n =
        clock-free s.world s.time v.machine.time n here.0 here.1 (timeless n refl) in
        let g : Going s v n = like-turn s v n safe sound h (ready n refl) calm in
        let i : Job = g.running.job in
        let j : Job = g.running.liked.job in
        let moved = step-turn s n in
        let t : S = record s { world = steered moved.0 moved.1 (turn s.world s.time n) } in
        let number = is_job s.world.table.jobs s.world.cores n safe.housed (ap is_some here.1) in
        let low : n < length s.world.table.jobs = omega (arith, number.1, safe.housed.slots) in
        subst (λ u. Turned s u v) (sym moved.2)
        (elim g.goes [
          | inl x ↦ record {
            state = x.state;
            by = n ∷ [];
            run = (x.state, choice-turn v n (not-zero n number) ∙ x.step, refl);
            sound = turns_are_sound v x.state n sound x.step;
            like = like-steered s (turn s.world s.time n) x.state moved.0 moved.1 x.like;
            tells = λ keeps m line text told. tells-took s v n m line moved.0 moved.1 i j text x low g.running.at g.running.liked.at g.running.liked.line (keeps line) told;
          }
          | inr x ↦ record {
            state = v;
            by = [];
            run = refl;
            sound = sound;
            like = like-steered s (turn s.world s.time n) v moved.0 moved.1 x.like;
            tells = λ keeps m line text told. tells-still s t v m line text (stayed-lines s v n moved.0 moved.1 i j x low g.running.at g.running.liked.line) x.lines told;
          }
        ])

step-reached : (s : S) (v : V) → Safe s → IsSound v → IsLike s v → ((n : ℕ) → (happens s Step).answer ≡ Ran n → asks_time s.world n ≡ false)
    → Reached s v Step
step-reached s v safe sound h timeless =
    let x : Turned s (happens s Step).state v = step-turned s v safe sound h timeless in
    record { state = x.state; by = x.by; run = x.run; sound = x.sound; like = x.like; tells = x.tells }

-- a tick
tick-reached : (s : S) (v : V) → IsSound v → IsLike s v → Reached s v Tick
tick-reached s v sound h = by_time (is_timed v.machine.world) refl
  where
    told : (u : V) → u.texts ≡ v.texts → (n line : ℕ) (text : List ℕ) → Tells s v n line text → Tells (ticked s).state u n line (text ++ [])
    told u same n line text t =
        let x : Tells (ticked s).state v n line (text ++ []) =
        tells-still s (ticked s).state v n line text (λ m l e. ticked-lines s.world m l e) refl t in
        record {
          owns = x.owns;
          place = subst (λ (l : List (List ℕ)). n < length l) (sym same) x.place;
          text_is = ap (λ (l : List (List ℕ)). slice_index_or l n []) same ∙ x.text_is;
        }

    by_time : (b : Bool) → is_timed v.machine.world ≡ b → Reached s v Tick
    by_time false is = record { state = v; by = []; run = refl; sound = sound; like = like-still s v sound h is; tells = λ keeps n line text t. told v refl n line text t }
    by_time true is =
        let step : choice v 0 ≡ Some (ticked_on v) = ap (λ b. cond b (Some (ticked_on v)) None) is in
        record {
          state = ticked_on v;
          by = 0 ∷ [];
          run = (ticked_on v, step, refl);
          sound = sound-choice v (ticked_on v) 0 sound step true refl;
          like = like-ticked s v h;
          tells = λ keeps n line text t. told (ticked_on v) refl n line text t;
        }

-- CTRL-C
lifted-none : (o : Option Stop) → is_none o ≡ true → lifted_stop o ≡ None
lifted-none None h = refl
lifted-none (Some x) h = absurd (both_ways false refl h)

and-second : (a b : Bool) → a && b ≡ true → b ≡ true
and-second true b e = e
and-second false b e = absurd (both_ways false refl e)

broken-job-like : (w : World) (n line : ℕ) (i j : Job) → IsLikeJob w n i j → IsLikeJob w n (broken_job line i) j
broken-job-like w n line i j h =
    by_test (λ (k : Job). IsLikeJob w n k j) ((i.line == line) && is_none i.stop) (halted i stop.Typed) i
    (λ stops. record {
      same = h.same ∙ ap (λ o. record i { stop = o; wait = j.wait }) (lifted-none i.stop (and-second (i.line == line) (is_none i.stop) stops));
      wait = h.wait;
    })
    (λ _. h)

broken-slot-like : (w : World) (n line : ℕ) (o p : Option Job) → IsLikeSlot w n o p → IsLikeSlot w n (option_map (broken_job line) o) p
broken-slot-like w n line None None h = h
broken-slot-like w n line None (Some j) h = h
broken-slot-like w n line (Some i) None h = h
broken-slot-like w n line (Some i) (Some j) h = broken-job-like w n line i j h

pub like-broken : (s : S) (v : V) (line : ℕ) → IsLike s v → IsLike (record s { world = broken s.world line }) v
like-broken s v line h = record {
  jobs = λ n. subst (λ o. IsLikeSlot v.machine.world n o (job_at v.machine.world.table.jobs n))
      (sym (at-mapped (option_map (broken_job line)) s.world.table.jobs n refl))
      (broken-slot-like v.machine.world n line (job_at s.world.table.jobs n) (job_at v.machine.world.table.jobs n) (h.jobs n));
  inputs = h.inputs;
  outputs = h.outputs;
  rest = h.rest;
}

pub like-typed : (s : S) (v : V) (line c : ℕ) → IsLike s v → (c == INTERRUPT_CHARACTER) ≡ true → IsLike (typed s line c).state v
like-typed s v line c h is =
    by_test (λ (m : Made). IsLike m.state v) (nat_le LINES line) (refused s NoLine) _ (λ _. h)
    (λ _. by_test (λ (m : Made). IsLike m.state v) (c == INTERRUPT_CHARACTER) (made s (broken s.world line)) _ (λ _. like-broken s v line h)
    (λ other. absurd (both_ways (c == INTERRUPT_CHARACTER) other is)))

-- CONTINUE
pub like-going : (s : S) (v : V) (n : ℕ) → IsLike s v → goes_on (job_at s.world.table.jobs n) ≡ true → n < length s.world.table.jobs
    → IsLike (record s { world = record s.world { table = with_change s.world.table n going_on } }) v
like-going s v n h goes low =
    let slots : List (Option Job) = s.world.table.jobs in
    record {
      jobs = λ m. elim (cases_eq m n) [
        | inl is ↦ subst (λ k. IsLikeSlot v.machine.world k (job_at (slice_set slots n (option_map going_on (job_at slots n))) k) (job_at v.machine.world.table.jobs k)) (sym is)
            (subst (λ o. IsLikeSlot v.machine.world n o (job_at v.machine.world.table.jobs n)) (sym (get_or-set_same slots n (option_map going_on (job_at slots n)) None low))
            (by_slots (job_at slots n) (job_at v.machine.world.table.jobs n) goes (h.jobs n)))
        | inr ne ↦ subst (λ o. IsLikeSlot v.machine.world m o (job_at v.machine.world.table.jobs m))
            (sym (get_or-set_other slots n m (option_map going_on (job_at slots n)) None ne)) (h.jobs m)
      ];
      inputs = h.inputs;
      outputs = h.outputs;
      rest = h.rest;
    }
  where
    by_slots : (o p : Option Job) → goes_on o ≡ true → IsLikeSlot v.machine.world n o p → IsLikeSlot v.machine.world n (option_map going_on o) p
    by_slots None None goes e = e
    by_slots None (Some j) goes e = e
    by_slots (Some i) None goes e = e
    by_slots (Some i) (Some j) goes e =
        record { same = e.same ∙ ap (λ o. record i { stop = o; wait = j.wait }) (no-stop (lifted_stop i.stop) goes); wait = e.wait }

like-continued : (s : S) (v : V) (n : ℕ) → Safe s → IsLike s v → goes_on (job_at s.world.table.jobs n) ≡ true → IsLike (continued s n).state v
like-continued s v n safe h goes = by_slot (job_at s.world.table.jobs n) refl
  where
    by_slot : (o : Option Job) → job_at s.world.table.jobs n ≡ o
        → IsLike (made_if s (record s.world { table = with_change s.world.table n going_on }) (standing o)).state v
    by_slot None is = h
    by_slot (Some i) is =
        let number = is_job s.world.table.jobs s.world.cores n safe.housed (ap is_some is) in
        let low : n < length s.world.table.jobs = omega (arith, number.1, safe.housed.slots) in
        by_test (λ (r : Result (Unit {0}) JobError). IsLike (made_if s (record s.world { table = with_change s.world.table n going_on }) r).state v) (is_none i.stop) (Err Runs) (Ok tt) (λ _. h) (λ _. like-going s v n h goes low)

-- output that is taken
pub like-output : (s : S) (v : V) (line : ℕ) (cs : List ℕ) → line < length s.world.lines → IsLike s v
    → IsLike (record s { world = record s.world { lines = with_output s.world.lines line cs } }) v
like-output s v line cs low h = record {
  jobs = h.jobs;
  inputs = λ l. elim (cases_eq l line) [
    | inl is ↦ subst (λ m. input_of (with_output s.world.lines line cs) m ≡ input_of v.machine.world.lines m) (sym is)
        (ap (λ (r : Rings). r.input) (rings-set s.world.lines line _ low) ∙ h.inputs line)
    | inr ne ↦ ap (λ (r : Rings). r.input) (rings-other s.world.lines line l _ ne) ∙ h.inputs l
  ];
  outputs = h.outputs;
  rest = h.rest;
}

pub like-taken : (s : S) (v : V) (line n : ℕ) → Safe s → IsLike s v → IsLike (taken s line n).state v
like-taken s v line n safe h =
    by_test (λ (m : Made). IsLike m.state v) (nat_le LINES line) (refused s NoLine) _ (λ _. h)
    (λ low. like-output s v line (drop (min n TAKEN_AT_ONCE) (output_of s.world.lines line)) (omega (arith, leb-false LINES line low, safe.rings)) h)

typed-tells : (s : S) (v : V) (l c n line : ℕ) (text : List ℕ) → (c == INTERRUPT_CHARACTER) ≡ true → Tells s v n line text
    → Tells (typed s l c).state v n line (text ++ [])
typed-tells s v l c n line text is t =
    by_test (λ (m : Made). Tells m.state v n line (text ++ [])) (nat_le LINES l) (refused s NoLine) _ (λ _. tells-still s s v n line text (λ m k e. e) refl t)
    (λ _. by_test (λ (m : Made). Tells m.state v n line (text ++ [])) (c == INTERRUPT_CHARACTER) (made s (broken s.world l)) _
    (λ _. tells-still s (record s { world = broken s.world l }) v n line text (broken-lines s l) refl t)
    (λ other. absurd (both_ways (c == INTERRUPT_CHARACTER) other is)))

continued-tells : (s : S) (v : V) (k n line : ℕ) (text : List ℕ) → Safe s → Tells s v n line text → Tells (continued s k).state v n line (text ++ [])
continued-tells s v k n line text safe t = by_slot (job_at s.world.table.jobs k) refl
  where
    by_slot : (o : Option Job) → job_at s.world.table.jobs k ≡ o
        → Tells (made_if s (record s.world { table = with_change s.world.table k going_on }) (standing o)).state v n line (text ++ [])
    by_slot None is = tells-still s s v n line text (λ m l e. e) refl t
    by_slot (Some i) is =
        let number = is_job s.world.table.jobs s.world.cores k safe.housed (ap is_some is) in
        let low : k < length s.world.table.jobs = omega (arith, number.1, safe.housed.slots) in
        by_test (λ (r : Result (Unit {0}) JobError). Tells (made_if s (record s.world { table = with_change s.world.table k going_on }) r).state v n line (text ++ []))
        (is_none i.stop) (Err Runs) (Ok tt) (λ _. tells-still s s v n line text (λ m l e. e) refl t)
        (λ _. tells-still s (record s { world = record s.world { table = with_change s.world.table k going_on } }) v n line text (going-lines s k low) refl t)

taken-tells : (s : S) (v : V) (l k n line : ℕ) (text : List ℕ) → Safe s → Tells s v n line text
    → Tells (taken s l k).state v n line (text ++ taken_by line (Take l k) (taken s l k).answer)
taken-tells s v l k n line text safe t =
    by_test (λ (m : Made). Tells m.state v n line (text ++ taken_by line (Take l k) m.answer)) (nat_le LINES l) (refused s NoLine) _
    (λ _. subst (λ x. Tells s v n line (text ++ x)) (sym (none-taken (l == line))) (tells-still s s v n line text (λ m j e. e) refl t))
    (λ low. tells-taken s v n line l (min k TAKEN_AT_ONCE) text (omega (arith, leb-false LINES l low, safe.rings)) t)
  where
    none-taken : (b : Bool) → cond b (text_in (Refused NoLine)) [] ≡ []
    none-taken true = refl
    none-taken false = refl

-- an event
quiet-event : (s : S) (v : V) (e : Event) → IsSound v → IsLike (happens s e).state v
    → ((n line : ℕ) (text : List ℕ) → Tells s v n line text → Tells (happens s e).state v n line (text ++ taken_by line e (happens s e).answer))
    → Reached s v e
quiet-event s v e sound h tells = record { state = v; by = []; run = refl; sound = sound; like = h; tells = λ keeps. tells }

event-reached : (s : S) (v : V) (e : Event) → Safe s → IsSound v → IsLike s v → is_steering s e ≡ true
    → ((n : ℕ) → (happens s e).answer ≡ Ran n → asks_time s.world n ≡ false) → Reached s v e
event-reached s v Step safe sound h steers timeless = step-reached s v safe sound h timeless
event-reached s v Tick safe sound h steers timeless = tick-reached s v sound h
event-reached s v (Typed line c) safe sound h steers timeless =
    quiet-event s v (Typed line c) sound (like-typed s v line c h steers) (λ n l text t. typed-tells s v line c n l text steers t)
event-reached s v (Take line k) safe sound h steers timeless =
    quiet-event s v (Take line k) sound (like-taken s v line k safe h) (λ n l text t. taken-tells s v line k n l text safe t)
event-reached s v (Continue k) safe sound h steers timeless =
    quiet-event s v (Continue k) sound (like-continued s v k safe h steers) (λ n l text t. continued-tells s v k n l text safe t)
event-reached s v (Login line image) safe sound h steers timeless = absurd (both_ways false refl steers)
event-reached s v (Start n) safe sound h steers timeless = absurd (both_ways false refl steers)
event-reached s v (Kill n) safe sound h steers timeless = absurd (both_ways false refl steers)
event-reached s v Restart safe sound h steers timeless = absurd (both_ways false refl steers)

-- events one after the other
record AllReached (s : S) (v : V) (es : List Event) : Type 0 where
  state : V
  by : List ℕ
  run : IsRun choice v by state
  sound : IsSound state
  like : IsLike (after es s) state
  tells : KeepOutput s es → (n line : ℕ) (text : List ℕ) → Tells s v n line text → Tells (after es s) state n line (text ++ taken_from line s es)

all-reached : (s : S) (v : V) (es : List Event) → Safe s → IsSound v → IsLike s v → IsSteered s es → IsTimeless s es → AllReached s v es
all-reached s v [] safe sound h steers timeless =
    record { state = v; by = []; run = refl; sound = sound; like = h; tells = λ keeps n line text t. tells-still s s v n line text (λ m l e. e) refl t }
all-reached s v (e ∷ es) safe sound h steers timeless =
    let u : S = (happens s e).state in
    let x : Reached s v e = event-reached s v e safe sound h steers.0 timeless.0 in
    let y : AllReached u x.state es = all-reached u x.state es (safe-happens s e safe) x.sound x.like steers.1 timeless.1 in
    record {
      state = y.state;
      by = x.by ++ y.by;
      run = run-append v x.state y.state x.by y.by x.run y.run;
      sound = y.sound;
      like = y.like;
      tells = λ keeps n line text t.
          subst (λ q. Tells (after es u) y.state n line q) (append_assoc text (taken_by line e (happens s e).answer) (taken_from line u es))
          (y.tells keeps.1 n line (text ++ taken_by line e (happens s e).answer) (x.tells keeps.0 n line text t));
    }

pub events_are_runs : EventsAreRuns
events_are_runs s v es safe sound h steers timeless =
    let x : AllReached s v es = all-reached s v es safe sound h steers timeless in
    record {
      state = x.state;
      by = x.by;
      run = x.run;
      sound = x.sound;
      like = x.like;
      texts = λ keeps n j before at place is.
          let first : Tells s v n j.line before = record {
            owns = record {
              mine = λ l e. (let same : Some j.line ≡ Some l = sym (ap line_of at) ∙ e in cc);
              only = λ m e. safe.apart m n j.line e (ap line_of at);
            };
            place = place;
            text_is = is;
          } in
          (x.tells keeps n j.line before first).text_is ∙ append_assoc before (taken_from j.line s es) (output_of (after es s).world.lines j.line);
    }

-- the state that a machine is like
roomy-queue : (wait : Wait) → is_queue wait ≡ true → is_queue (roomy_wait wait) ≡ true
roomy-queue Nothing h = h
roomy-queue (Sleep ticks) h = h
roomy-queue Char h = h
roomy-queue Line h = h
roomy-queue (Room places) h = absurd (both_ways false refl h)
roomy-queue (Queue limit ac) h = h

roomy-ac : (wait : Wait) → HasAccumulator wait → HasAccumulator (roomy_wait wait)
roomy-ac Nothing h = h
roomy-ac (Sleep ticks) h = h
roomy-ac Char h = h
roomy-ac Line h = h
roomy-ac (Room places) h = tt
roomy-ac (Queue limit ac) h = h

abbrev L : Option Job → Option Job
L o = option_map lifted_job o

mild-lifted : Mild L
mild-lifted = record { none = refl; some = by_some; wait = by_wait; line = by_line }
  where
    by_some : (o : Option Job) → is_some (L o) ≡ is_some o
    by_some None = refl
    by_some (Some j) = refl

    by_wait : (o : Option Job) → is_queue (wait_of o) ≡ true → is_queue (wait_of (L o)) ≡ true
    by_wait None h = h
    by_wait (Some j) h = roomy-queue j.wait h

    by_line : (o : Option Job) → line_of (L o) ≡ line_of o
    by_line None = refl
    by_line (Some j) = refl

lifted-range : (o : Option Job) → InRange o → InRange (L o)
lifted-range None h = h
lifted-range (Some j) h = (h.0, h.1, h.2, roomy-ac j.wait h.3)

drained-at : (lines : List Rings) (line : ℕ) → rings_of (map drained lines) line ≡ drained (rings_of lines line)
drained-at [] line = refl
drained-at (r ∷ lines) zero = refl
drained-at (r ∷ lines) (suc line) = drained-at lines line

safe-lifted : (s : S) → Safe s → IsSound (lifted s)
safe-lifted s h =
    let w : World = s.world in
    let same : SameJobs w.table.jobs (map L w.table.jobs) = same-mapped L w.table.jobs mild-lifted in
    record {
      housed = housed-same w.table.jobs (map L w.table.jobs) w.cores same h.housed;
      queued = queued-mapped w.size L w.table.jobs w.requests mild-lifted h.queued;
      apart = apart-kept w.table.jobs (map L w.table.jobs) (lines-same w.table.jobs (map L w.table.jobs) same) h.apart;
      total = h.total;
      most = h.most;
      rings = length-map w.lines drained ∙ h.rings;
      numbers = below-kept w.table.jobs (map L w.table.jobs) (lines-same w.table.jobs (map L w.table.jobs) same) h.numbers;
      ranges = ranges-map L w.table.jobs lifted-range h.ranges;
    }

like-lifted : (s : S) → IsLike s (lifted s)
like-lifted s = record {
  jobs = λ n. subst (λ o. IsLikeSlot (lifted s).machine.world n (job_at s.world.table.jobs n) o) (sym (at-mapped L s.world.table.jobs n refl))
      (by_slot n (job_at s.world.table.jobs n));
  inputs = λ line. sym (ap (λ (r : Rings). r.input) (drained-at s.world.lines line));
  outputs = λ line. ap (λ (r : Rings). r.output) (drained-at s.world.lines line);
  rest = refl;
}
  where
    by_wait : (n line : ℕ) (wait : Wait) → IsLikeWait (lifted s).machine.world n line wait (roomy_wait wait)
    by_wait n line Nothing = refl
    by_wait n line (Sleep ticks) = refl
    by_wait n line Char = refl
    by_wait n line Line = refl
    by_wait n line (Room places) = refl
    by_wait n line (Queue limit ac) = refl

    by_slot : (n : ℕ) (o : Option Job) → IsLikeSlot (lifted s).machine.world n o (L o)
    by_slot n None = tt
    by_slot n (Some i) = record { same = refl; wait = by_wait n i.line i.wait }

pub machines_are_like : MachinesAreLike
machines_are_like s h = (safe-lifted s h, like-lifted s)

-- what can happen in a run, as the machine shows it
abbrev shown_holds : S → ℕ → Job → Bool
shown_holds s n i = holds s.world.lines s.world.requests n i.line (roomy_wait i.wait)

abbrev shown_ready : S → ℕ → Option Job → Bool
shown_ready s n (Some i) = is_none (lifted_stop i.stop) && not (shown_holds s n i)
shown_ready s n None = false

abbrev shown_counted : S → ℕ → Option Job → Bool
shown_counted s n (Some i) = is_sleep (cond (shown_holds s n i) (roomy_wait i.wait) Nothing)
shown_counted s n None = false

record Shows (s : S) (v : V) (n : ℕ) (i j : Job) : Type 0 where
  holds_are : holds v.machine.world.lines v.machine.world.requests n i.line j.wait ≡ shown_holds s n i
  counts_are : is_sleep (cond (holds v.machine.world.lines v.machine.world.requests n i.line j.wait) j.wait Nothing) ≡ shown_counted s n (Some i)

shows : (s : S) (v : V) (n : ℕ) (i j : Job) → IsLike s v → IsLikeWait v.machine.world n i.line i.wait j.wait → Shows s v n i j
shows s v n i j h e = record { holds_are = by_wait i.wait e; counts_are = by_count i.wait e }
  where
    by_wait : (held : Wait) → IsLikeWait v.machine.world n i.line held j.wait
        → holds v.machine.world.lines v.machine.world.requests n i.line j.wait ≡ holds s.world.lines s.world.requests n i.line (roomy_wait held)
    by_wait Nothing e = ap (λ wait. holds v.machine.world.lines v.machine.world.requests n i.line wait) e
    by_wait (Sleep ticks) e = ap (λ wait. holds v.machine.world.lines v.machine.world.requests n i.line wait) e
    by_wait Char e =
        ap (λ wait. holds v.machine.world.lines v.machine.world.requests n i.line wait) e
        ∙ ap (λ (cs : List ℕ). not (nat_lt 0 (length cs))) (sym (h.inputs i.line))
    by_wait Line e =
        ap (λ wait. holds v.machine.world.lines v.machine.world.requests n i.line wait) e ∙ ap (λ (cs : List ℕ). not (holds_line cs)) (sym (h.inputs i.line))
    by_wait (Room places) e = e
    by_wait (Queue limit ac) e =
        ap (λ wait. holds v.machine.world.lines v.machine.world.requests n i.line wait) e ∙ ap (λ rs. is_waiting_job rs n) (requests-like s v h)

    awake : (b : Bool) (wait : Wait) → is_sleep wait ≡ false → is_sleep (cond b wait Nothing) ≡ false
    awake true wait e = e
    awake false wait e = refl

    by_count : (held : Wait) → IsLikeWait v.machine.world n i.line held j.wait
        → is_sleep (cond (holds v.machine.world.lines v.machine.world.requests n i.line j.wait) j.wait Nothing)
        ≡ is_sleep (cond (holds s.world.lines s.world.requests n i.line (roomy_wait held)) (roomy_wait held) Nothing)
    by_count Nothing e = ap (λ wait. is_sleep (cond (holds v.machine.world.lines v.machine.world.requests n i.line wait) wait Nothing)) e
    by_count (Sleep ticks) e = ap (λ wait. is_sleep (cond (holds v.machine.world.lines v.machine.world.requests n i.line wait) wait Nothing)) e
    by_count Char e =
        ap (λ wait. is_sleep (cond (holds v.machine.world.lines v.machine.world.requests n i.line wait) wait Nothing)) e
        ∙ awake (holds v.machine.world.lines v.machine.world.requests n i.line Char) Char refl
        ∙ sym (awake (holds s.world.lines s.world.requests n i.line Char) Char refl)
    by_count Line e =
        ap (λ wait. is_sleep (cond (holds v.machine.world.lines v.machine.world.requests n i.line wait) wait Nothing)) e
        ∙ awake (holds v.machine.world.lines v.machine.world.requests n i.line Line) Line refl
        ∙ sym (awake (holds s.world.lines s.world.requests n i.line Line) Line refl)
    by_count (Room places) e = ap (λ b. is_sleep (cond b j.wait Nothing)) e
    by_count (Queue limit ac) e =
        ap (λ wait. is_sleep (cond (holds v.machine.world.lines v.machine.world.requests n i.line wait) wait Nothing)) e
        ∙ ap (λ rs. is_sleep (cond (is_waiting_job rs n) (Queue limit ac) Nothing)) (requests-like s v h)

ready-shown : (s : S) (v : V) (n : ℕ) → IsLike s v → can_run v.machine.world n ≡ shown_ready s n (job_at s.world.table.jobs n)
ready-shown s v n h = by_slots (job_at s.world.table.jobs n) (job_at v.machine.world.table.jobs n) (h.jobs n)
  where
    by_slots : (o p : Option Job) → IsLikeSlot v.machine.world n o p
        → is_ready_job v.machine.world.lines v.machine.world.requests n p ≡ shown_ready s n o
    by_slots None None e = refl
    by_slots None (Some j) e = absurd e
    by_slots (Some i) None e = absurd e
    by_slots (Some i) (Some j) e =
        ap (λ line. is_none j.stop && not (holds v.machine.world.lines v.machine.world.requests n line j.wait)) (ap (λ (k : Job). k.line) e.same)
        ∙ ap (λ o. is_none o && not (holds v.machine.world.lines v.machine.world.requests n i.line j.wait)) (ap (λ (k : Job). k.stop) e.same)
        ∙ ap (λ b. is_none (lifted_stop i.stop) && not b) (shows s v n i j h e.wait).holds_are

counted-shown : (s : S) (v : V) (n : ℕ) → IsLike s v → is_counted v.machine.world n ≡ shown_counted s n (job_at s.world.table.jobs n)
counted-shown s v n h = by_slots (job_at s.world.table.jobs n) (job_at v.machine.world.table.jobs n) (h.jobs n)
  where
    by_slots : (o p : Option Job) → IsLikeSlot v.machine.world n o p → is_counted_of v.machine.world n p ≡ shown_counted s n o
    by_slots None None e = refl
    by_slots None (Some j) e = absurd e
    by_slots (Some i) None e = absurd e
    by_slots (Some i) (Some j) e =
        ap (λ line. is_sleep (cond (holds v.machine.world.lines v.machine.world.requests n line j.wait) j.wait Nothing)) (ap (λ (k : Job). k.line) e.same)
        ∙ (shows s v n i j h e.wait).counts_are

-- two states that a machine is like end together
pub same-end : (s : S) (v w : V) → IsLike s v → IsLike s w → IsEnd choice w → IsEnd choice v
same-end s v w h g ends k a e = by_kind (k == 0) refl
  where
    timed : is_timed v.machine.world ≡ is_timed w.machine.world
    timed = any-alike (is_counted v.machine.world) (is_counted w.machine.world) (λ m. counted-shown s v m h ∙ sym (counted-shown s w m g)) jobs

    by_kind : (t : Bool) → (k == 0) ≡ t → ⊥
    by_kind true is =
        let did = did-tick v a (sym (choice-tick v k is) ∙ e) in
        ends 0 (ticked_on w) (ap (λ b. cond b (Some (ticked_on w)) None) (sym timed ∙ did.0))
    by_kind false is =
        let r : DidRun v a k = did-turn v a k (sym (choice-turn v k is) ∙ e) in
        let ready : can_run w.machine.world k ≡ true = ready-shown s w k g ∙ sym (ready-shown s v k h) ∙ r.runs in
        ends k (stepped_on w k) (choice-turn w k is ∙ ap (λ b. cond b (Some (stepped_on w k)) None) ready)

pub ends_are_like : EndsAreLike
ends_are_like s v safe sound h ends = same-end s v (lifted s) h (like-lifted s) ends
