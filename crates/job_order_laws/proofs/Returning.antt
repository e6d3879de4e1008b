-- Runs of turns at once, and runs of turns and ticks: each is the other, and so are their ends.
use Rattle.std.proofs.Common.{◌≡◌, ◌≤◌, ◌<◌, ◌+◌, ◌-◌, ◌∙◌, sym, ap, subst, ℕ, zero, suc, ◌==◌, ◌&&◌, ◌||◌, not, nat_lt, Bool, true, false, cond, List, [], ◌∷◌, ◌++◌, map, Option, Some, None, is_none, is_some, inl, inr, refl, arith}
use Rattle.std.specs.Prelude.{unwrap_or}
use Rattle.std.proofs.lemmas.Bool.{both_ways, cases_eq, eqb-true, false_from_ne_true, lt-ltb}
use Rattle.std.specs.List.{list_any}
use Rattle.std.specs.Option.{option_map}
use Rattle.word36.specs.declared.sizes.TheConstants.{JOBS}
use Rattle.core_store.specs.Cores.{IsJob}
use Rattle.lock_queue.specs.Jobs.{is_waiting_job}
use Rattle.lock_queue.specs.Waits.{jobs, numbers_from}
use Rattle.lock_queue.specs.declared.request.Request.{Request}
use Rattle.tty_lines.specs.Rings.{Rings}
use Rattle.job_sched.specs.Changes.{ticked_table}
use Rattle.job_sched.specs.Jobs.{is_sleep, ticked_job, ticked_wait}
use Rattle.job_sched.specs.Limits.{at_error_return, limit_of, limited_job}
use Rattle.job_sched.specs.Ready.{holds, is_ready_job}
use Rattle.job_sched.specs.Tables.{job_at}
use Rattle.job_sched.specs.declared.job.Job.{Job}
use Rattle.job_sched.specs.declared.job.Wait.{Wait}
use Rattle.job_sched.specs.declared.job.Wait.TheVariants.{None as Nothing, Sleep, Char, Line, Room, Queue}
use Rattle.job_sched.proofs.Limits.{job-limited}
use Rattle.lock_queue.specs.Refusals.{code_of}
use Rattle.lock_queue.specs.declared.refusal.Refusal.TheVariants.{TimedOut}
use Rattle.uuo_calls.specs.Performed.{World}
use Rattle.uuo_calls.proofs.Tests.{by_test}
use Rattle.monitor_laws.proofs.Housing.{at-mapped, at-ticked, is_job}
use Rattle.job_order_laws.specs.Choices.{choice, is_counted, is_counted_of, is_loud, is_timed, ticked_on}
use Rattle.job_order_laws.specs.Erased.{ErasedEndsAreEnds, ErasedRunsAreRuns, IsPlain, IsTimedRun, NoLimits, PlainEndsAreErased, PlainRunsAreErased}
use Rattle.job_order_laws.specs.Erased.{asks_time, asks_time_of, erased, erased_world, limit_in, rested, rested_wait, turned_at_once, turns_in}
use Rattle.job_order_laws.specs.Orders.{IsEnd, IsRun}
use Rattle.job_order_laws.specs.Places.{turn}
use Rattle.job_order_laws.specs.Ticked.{tick}
use Rattle.job_order_laws.specs.Turned.{IsSound, V, can_run, stepped_on, turned}
use Rattle.job_order_laws.proofs.AtOnce.{Made, made}
use Rattle.job_order_laws.proofs.Choosing.{Ran, choice-tick, choice-turn, choices-system, did-tick, ran as did-turn, sound-choice}
use Rattle.job_order_laws.proofs.Erasing.{R, clock-free, ready-rested, step-erased, tick-erased}
use Rattle.job_order_laws.proofs.Following.{run-sound}
use Rattle.job_order_laws.proofs.Turning.{turns_are_sound}

-- what hangs on no sleep
limits-rested : (w : World) (m : ℕ) → limit_in (job_at (map R w.table.jobs) m) ≡ limit_in (job_at w.table.jobs m)
limits-rested w m = ap limit_in (at-mapped R w.table.jobs m refl) ∙ by_slot (job_at w.table.jobs m)
  where
    by_wait : (wait : Wait) → limit_of (rested_wait wait) ≡ limit_of wait
    by_wait Nothing = refl
    by_wait (Sleep ticks) = refl
    by_wait Char = refl
    by_wait Line = refl
    by_wait (Room places) = refl
    by_wait (Queue limit ac) = refl

    by_slot : (o : Option Job) → limit_in (R o) ≡ limit_in o
    by_slot None = refl
    by_slot (Some j) = by_wait j.wait

limits-erased : (w : World) → NoLimits w → NoLimits (erased_world w)
limits-erased w none m = ap (λ l. is_waiting_job w.requests m && nat_lt 0 l) (limits-rested w m) ∙ none m

limits-back : (w : World) → NoLimits (erased_world w) → NoLimits w
limits-back w none m = ap (λ l. is_waiting_job w.requests m && nat_lt 0 l) (sym (limits-rested w m)) ∙ none m

time-erased : (w : World) (n : ℕ) → asks_time (erased_world w) n ≡ asks_time w n
time-erased w n = ap (asks_time_of (erased_world w) n) (at-mapped R w.table.jobs n refl) ∙ by_slot (job_at w.table.jobs n)
  where
    by_slot : (o : Option Job) → asks_time_of (erased_world w) n (R o) ≡ asks_time_of w n o
    by_slot None = refl
    by_slot (Some j) = refl

same-tick : (v : V) → NoLimits v.machine.world → erased (ticked_on v) ≡ erased v
same-tick v none = ap (λ z. record v { machine = record v.machine { world = z; time = 0 } }) (tick-erased v.machine.world none)

-- from turns and ticks to turns at once
pub plain_runs_are_erased : PlainRunsAreErased
plain_runs_are_erased v w [] h plain run = (ap erased run, tt)
plain_runs_are_erased v w (k ∷ ks) h plain (a, by_k, run) =
    let sound : IsSound a = sound-choice v a k h by_k (k == 0) refl in
    let later : IsPlain choice a ks = subst (λ o. IsPlain choice (unwrap_or o v) ks) by_k plain.2 in
    by_kind (k == 0) refl (plain_runs_are_erased a w ks sound later run)
  where
    calm : turned v k ≡ Some a → turn v.machine.world 0 k ≡ turn v.machine.world v.machine.time k
    calm e = let r : Ran v a k = did-turn v a k e in clock-free v.machine.world 0 v.machine.time k r.job r.at plain.1

    by_kind : (t : Bool) → (k == 0) ≡ t → IsRun turned_at_once (erased a) (turns_in ks) (erased w) × IsPlain turned_at_once (erased a) (turns_in ks)
        → IsRun turned_at_once (erased v) (cond t (turns_in ks) (k ∷ turns_in ks)) (erased w)
        × IsPlain turned_at_once (erased v) (cond t (turns_in ks) (k ∷ turns_in ks))
    by_kind false is rest =
        let step : turned_at_once (erased v) k ≡ Some (erased a) =
        step-erased v a k h (calm (sym (choice-turn v k is) ∙ by_k)) (sym (choice-turn v k is) ∙ by_k) in (
          (erased a, step, rest.0),
          (
            limits-erased v.machine.world plain.0,
            time-erased v.machine.world k ∙ plain.1,
            subst (λ o. IsPlain turned_at_once (unwrap_or o (erased v)) (turns_in ks)) (sym step) rest.1,
          ),
        )
    by_kind true is rest =
        let did = did-tick v a (sym (choice-tick v k is) ∙ by_k) in
        let same : erased a ≡ erased v = ap erased (sym did.1) ∙ same-tick v plain.0 in (
          subst (λ u. IsRun turned_at_once u (turns_in ks) (erased w)) same rest.0,
          subst (λ u. IsPlain turned_at_once u (turns_in ks)) same rest.1,
        )

-- tests of the jobs' numbers
or-true : (a b : Bool) → b ≡ true → a || b ≡ true
or-true true b h = refl
or-true false b h = h

pub any-number : (p : ℕ → Bool) (first count n : ℕ) → first ≤ n → n < first + count → p n ≡ true → list_any p (numbers_from first count) ≡ true
unfolding numbers_from
any-number p first zero n low high h = absurd (omega arith)
any-number p first (suc count) n low high h = elim (cases_eq n first) [
  | inl is ↦ (let here : p first ≡ true = subst (λ m. p m ≡ true) is h in rw here refl)
  | inr ne ↦ or-true (p first) _ (any-number p (first + 1) count n (omega arith) (omega arith) h)
]

pub any-job : (p : ℕ → Bool) (n : ℕ) → IsJob n → p n ≡ true → list_any p jobs ≡ true
unfolding jobs
any-job p n number h = any-number p 1 JOBS n number.0 (omega (arith, number.1)) h

pub none-any : (p : ℕ → Bool) (ns : List ℕ) → ((n : ℕ) → p n ≡ false) → list_any p ns ≡ false
none-any p [] none = refl
none-any p (n ∷ ns) none = rw (none n) (none-any p ns none)

pub not-zero : (n : ℕ) → IsJob n → (n == 0) ≡ false
not-zero n number = false_from_ne_true _ (λ e. let zero_is : n ≡ 0 = eqb-true n 0 e in absurd (omega (arith, number.0)))

-- how many ticks a sleep has left
abbrev left_of : Wait → ℕ
left_of (Sleep ticks) = ticks
left_of _ = 0

abbrev left_in : Option Job → ℕ
left_in (Some j) = left_of j.wait
left_in None = 0

ready-over : (lines : List Rings) (rs : List Request) (n : ℕ) (j : Job) → is_ready_job lines rs n (Some (rested j)) ≡ true → left_of j.wait ≡ 0
    → is_ready_job lines rs n (Some j) ≡ true
ready-over lines rs n j ready over = by_wait j.wait ready over
  where
    by_wait : (wait : Wait) → is_none j.stop && not (holds lines rs n j.line (rested_wait wait)) ≡ true → left_of wait ≡ 0
        → is_none j.stop && not (holds lines rs n j.line wait) ≡ true
    by_wait Nothing h e = h
    by_wait (Sleep ticks) h e = subst (λ t. is_none j.stop && not (nat_lt 0 t) ≡ true) (sym e) h
    by_wait Char h e = h
    by_wait Line h e = h
    by_wait (Room places) h e = h
    by_wait (Queue limit ac) h e = h

sleep-counts : (w : World) (n t : ℕ) (j : Job) → job_at w.table.jobs n ≡ Some j → left_of j.wait ≡ suc t → is_counted w n ≡ true
sleep-counts w n t j at e = ap (is_counted_of w n) at ∙ by_wait j.wait e
  where
    by_wait : (wait : Wait) → left_of wait ≡ suc t → is_sleep (cond (holds w.lines w.requests n j.line wait) wait Nothing) ≡ true
    by_wait (Sleep ticks) e =
        let more : nat_lt 0 ticks ≡ true = lt-ltb 0 ticks (omega (arith, e)) in ap (λ b. is_sleep (cond b (Sleep ticks) Nothing)) more ∙ more
    by_wait Nothing e = absurd (omega arith)
    by_wait Char e = absurd (omega arith)
    by_wait Line e = absurd (omega arith)
    by_wait (Room places) e = absurd (omega arith)
    by_wait (Queue limit ac) e = absurd (omega arith)

-- a tick, where a job sleeps
pub ticks-on : (v : V) (n : ℕ) → IsJob n → is_counted v.machine.world n ≡ true → choice v 0 ≡ Some (ticked_on v)
ticks-on v n number counts = ap (λ b. cond b (Some (ticked_on v)) None) (any-job (is_counted v.machine.world) n number counts)

pub slot-ticked : (w : World) (n : ℕ) → job_at (tick w).table.jobs n ≡ option_map (limited_job (is_waiting_job w.requests n)) (option_map ticked_job (job_at w.table.jobs n))
slot-ticked w n =
    job-limited (ticked_table w.table) w.requests n ∙ ap (option_map (limited_job (is_waiting_job w.requests n))) (at-ticked w.table.jobs n)

left-ticked : (b : Bool) (j : Job) (wait : Wait) → left_of (limited_job b (record j { wait = ticked_wait wait })).wait ≡ left_of wait - 1
left-ticked false j Nothing = refl
left-ticked false j (Sleep ticks) = refl
left-ticked false j Char = refl
left-ticked false j Line = refl
left-ticked false j (Room places) = refl
left-ticked false j (Queue limit ac) = refl
left-ticked true j Nothing = refl
left-ticked true j (Sleep ticks) = refl
left-ticked true j Char = refl
left-ticked true j Line = refl
left-ticked true j (Room places) = refl
left-ticked true j (Queue limit ac) =
    by_test (λ (i : Job). left_of i.wait ≡ 0) (limit == 1) (at_error_return (code_of TimedOut) ac (record j { wait = Queue limit ac }))
    (record j { wait = Queue (limit - 1) ac }) (λ _. refl) (λ _. refl)

-- a job that can run where no sleep counts
record Roused (v : V) (n : ℕ) : Type 0 where
  job : Job
  at : job_at v.machine.world.table.jobs n ≡ Some job
  number : IsJob n
  ready : is_ready_job v.machine.world.lines v.machine.world.requests n (Some (rested job)) ≡ true

roused : (v : V) (n : ℕ) → IsSound v → can_run (erased v).machine.world n ≡ true → Roused v n
roused v n h ready = by_slot (job_at v.machine.world.table.jobs n) refl (sym (ap (is_ready_job v.machine.world.lines v.machine.world.requests n) (at-mapped R v.machine.world.table.jobs n refl)) ∙ ready)
  where
    by_slot : (o : Option Job) → job_at v.machine.world.table.jobs n ≡ o
        → is_ready_job v.machine.world.lines v.machine.world.requests n (R o) ≡ true → Roused v n
    by_slot None is h = absurd (both_ways false refl h)
    by_slot (Some j) is ready =
        record { job = j; at = is; number = is_job v.machine.world.table.jobs v.machine.world.cores n h.housed (ap is_some is); ready = ready }

roused-by : (v a : V) (n : ℕ) → IsSound v → turned_at_once (erased v) n ≡ Some a → Roused v n
roused-by v a n h e = let m : Made (erased v) a n = made (erased v) a n e in let r : Ran (erased v) m.state n = did-turn (erased v) m.state n m.turn in roused v n h r.runs

ready-now : (v : V) (n : ℕ) (r : Roused v n) → left_of r.job.wait ≡ 0 → can_run v.machine.world n ≡ true
ready-now v n r over =
    let w : World = v.machine.world in
    ap (is_ready_job w.lines w.requests n) r.at ∙ ready-over w.lines w.requests n r.job r.ready over

can-turn : (v : V) (n : ℕ) → IsJob n → can_run v.machine.world n ≡ true → choice v n ≡ Some (stepped_on v n)
can-turn v n number ready = choice-turn v n (not-zero n number) ∙ ap (λ b. cond b (Some (stepped_on v n)) None) ready

-- an end is an end of turns at once
end-erased : (v : V) → IsSound v → IsEnd choice v → IsEnd turned_at_once (erased v)
end-erased v h ends n a e = let r : Roused v n = roused-by v a n h e in by_left r (left_of r.job.wait) refl
  where
    by_left : (r : Roused v n) (t : ℕ) → left_of r.job.wait ≡ t → ⊥
    by_left r zero is = ends n (stepped_on v n) (can-turn v n r.number (ready-now v n r is))
    by_left r (suc t) is = ends 0 (ticked_on v) (ticks-on v n r.number (sleep-counts v.machine.world n t r.job r.at is))

pub plain_ends_are_erased : PlainEndsAreErased
plain_ends_are_erased v w ks h run ends = end-erased w (run-sound choice is_loud choices-system v w ks h run) ends

-- ticks before a turn, until its job sleeps no longer
woken : (t : ℕ) (v a e : V) (n : ℕ) (ns : List ℕ) → IsSound v → (r : Roused v n) → left_of r.job.wait ≡ t → NoLimits v.machine.world
    → asks_time v.machine.world n ≡ false → turned_at_once (erased v) n ≡ Some a
    → ((u : V) → IsSound u → erased u ≡ a → IsTimedRun u ns e) → IsTimedRun v (n ∷ ns) e
woken zero v a e n ns h r over none calm by_n rest =
    let u : V = stepped_on v n in
    let ready : can_run v.machine.world n ≡ true = ready-now v n r over in
    let step : turned v n ≡ Some u = ap (λ b. cond b (Some u) None) ready in
    let chosen : choice v n ≡ Some u = can-turn v n r.number ready in
    let erases : turned_at_once (erased v) n ≡ Some (erased u) =
    step-erased v u n h (clock-free v.machine.world 0 v.machine.time n r.job r.at calm) step in
    let same : Some (erased u) ≡ Some a = sym erases ∙ by_n in
    let is : erased u ≡ a = cc in
    let x : IsTimedRun u ns e = rest u (turns_are_sound v u n h step) is in
    record {
      state = x.state;
      by = n ∷ x.by;
      run = (u, chosen, x.run);
      plain = (none, calm, subst (λ o. IsPlain choice (unwrap_or o v) x.by) (sym chosen) x.plain);
      same_turns = ap (λ b. cond b (turns_in x.by) (n ∷ turns_in x.by)) (not-zero n r.number) ∙ ap (λ l. n ∷ l) x.same_turns;
      same_state = x.same_state;
    }
woken (suc t) v a e n ns h r over none calm by_n rest =
    let w : World = v.machine.world in
    let u : V = ticked_on v in
    let chosen : choice v 0 ≡ Some u = ticks-on v n r.number (sleep-counts w n t r.job r.at over) in
    let sound : IsSound u = sound-choice v u 0 h chosen true refl in
    let same : erased u ≡ erased v = same-tick v none in
    let again : turned_at_once (erased u) n ≡ Some a = subst (λ x. turned_at_once x n ≡ Some a) (sym same) by_n in
    let q : Roused u n = roused-by u a n sound again in
    let there : Some q.job ≡ Some (limited_job (is_waiting_job w.requests n) (ticked_job r.job)) =
    sym q.at ∙ slot-ticked w n ∙ ap (λ o. option_map (limited_job (is_waiting_job w.requests n)) (option_map ticked_job o)) r.at in
    let less : left_of q.job.wait ≡ t = ap left_in there ∙ left-ticked (is_waiting_job w.requests n) r.job r.job.wait ∙ omega (arith, over) in
    let x : IsTimedRun u (n ∷ ns) e = woken t u a e n ns sound q less
    (limits-back (tick w) (subst (λ y. NoLimits y.machine.world) (sym same) (limits-erased w none)))
    (sym (time-erased (tick w) n) ∙ ap (λ y. asks_time y.machine.world n) same ∙ time-erased w n ∙ calm) again rest in
    record {
      state = x.state;
      by = 0 ∷ x.by;
      run = (u, chosen, x.run);
      plain = (none, ap (asks_time_of w 0) h.housed.none_0, subst (λ o. IsPlain choice (unwrap_or o v) x.by) (sym chosen) x.plain);
      same_turns = x.same_turns;
      same_state = x.same_state;
    }

pub erased_runs_are_runs : ErasedRunsAreRuns
erased_runs_are_runs v t [] h plain run = record { state = v; by = []; run = refl; plain = tt; same_turns = refl; same_state = run }
erased_runs_are_runs v t (n ∷ ns) h plain (a, by_n, run) =
    let w : World = v.machine.world in
    let r : Roused v n = roused-by v a n h by_n in
    let later : IsPlain turned_at_once a ns = subst (λ o. IsPlain turned_at_once (unwrap_or o (erased v)) ns) by_n plain.2 in
    woken (left_of r.job.wait) v a t n ns h r refl (limits-back w plain.0) (sym (time-erased w n) ∙ plain.1) by_n
    (λ u sound same. erased_runs_are_runs u t ns sound (subst (λ x. IsPlain turned_at_once x ns) (sym same) later)
    (subst (λ x. IsRun turned_at_once x ns t) (sym same) run))

-- ticks at the end, until no job sleeps
record Rested (v : V) : Type 0 where
  state : V
  by : List ℕ
  run : IsRun choice v by state
  plain : IsPlain choice v by
  none : turns_in by ≡ []
  same : erased state ≡ erased v
  ends : IsEnd choice state

ends-untimed : (v : V) → IsSound v → is_timed v.machine.world ≡ false → IsEnd turned_at_once (erased v) → IsEnd choice v
ends-untimed v h still ends k a e = by_kind (k == 0) refl
  where
    by_kind : (t : Bool) → (k == 0) ≡ t → ⊥
    by_kind true is = let did = did-tick v a (sym (choice-tick v k is) ∙ e) in both_ways (is_timed v.machine.world) still did.0
    by_kind false is =
        let w : World = v.machine.world in
        let r : Ran v a k = did-turn v a k (sym (choice-turn v k is) ∙ e) in
        let runs : can_run (erased_world w) k ≡ true =
        ap (is_ready_job w.lines w.requests k) (at-mapped R w.table.jobs k refl ∙ ap R r.at)
        ∙ ready-rested w.lines w.requests k r.job (sym (ap (is_ready_job w.lines w.requests k) r.at) ∙ r.runs) in
        ends k (erased (stepped_on (erased v) k)) (ap (λ b. option_map erased (cond b (Some (stepped_on (erased v) k)) None)) runs)

none-counted : (w : World) → NoLimits w → ((m : ℕ) → left_in (job_at w.table.jobs m) ≡ 0) → is_timed w ≡ false
none-counted w none over = none-any (is_counted w) jobs (λ m. by_slot m (job_at w.table.jobs m) (none m) (over m))
  where
    if-held : (b : Bool) (wait : Wait) → is_sleep wait ≡ false → is_sleep (cond b wait Nothing) ≡ false
    if-held true wait h = h
    if-held false wait h = refl

    if-waits : (b : Bool) (limit ac : ℕ) → b && nat_lt 0 limit ≡ false → is_sleep (cond b (Queue limit ac) Nothing) ≡ false
    if-waits true limit ac h = h
    if-waits false limit ac h = refl

    by_wait : (m line : ℕ) (wait : Wait) → is_waiting_job w.requests m && nat_lt 0 (limit_of wait) ≡ false → left_of wait ≡ 0
        → is_sleep (cond (holds w.lines w.requests m line wait) wait Nothing) ≡ false
    by_wait m line Nothing h e = refl
    by_wait m line (Sleep ticks) h e = subst (λ t. is_sleep (cond (nat_lt 0 t) (Sleep t) Nothing) ≡ false) (sym e) refl
    by_wait m line Char h e = if-held (holds w.lines w.requests m line Char) Char refl
    by_wait m line Line h e = if-held (holds w.lines w.requests m line Line) Line refl
    by_wait m line (Room places) h e = if-held (holds w.lines w.requests m line (Room places)) (Room places) refl
    by_wait m line (Queue limit ac) h e = if-waits (is_waiting_job w.requests m) limit ac h

    by_slot : (m : ℕ) (o : Option Job) → is_waiting_job w.requests m && nat_lt 0 (limit_in o) ≡ false → left_in o ≡ 0 → is_counted_of w m o ≡ false
    by_slot m None h e = refl
    by_slot m (Some j) h e = by_wait m j.line j.wait h e

less-left : (w : World) (t m : ℕ) → left_in (job_at w.table.jobs m) ≤ suc t → left_in (job_at (tick w).table.jobs m) ≤ t
less-left w t m most = subst (λ o. left_in o ≤ t) (sym (slot-ticked w m)) (by_slot (is_waiting_job w.requests m) (job_at w.table.jobs m) most)
  where
    by_slot : (b : Bool) (o : Option Job) → left_in o ≤ suc t → left_in (option_map (limited_job b) (option_map ticked_job o)) ≤ t
    by_slot b None low = omega arith
    by_slot b (Some j) low = let is = left-ticked b j j.wait in omega arith

rest-on : (t : ℕ) (v : V) → IsSound v → NoLimits v.machine.world → IsEnd turned_at_once (erased v)
    → ((m : ℕ) → left_in (job_at v.machine.world.table.jobs m) ≤ t) → Rested v
rest-on zero v h none ends most =
    let still : is_timed v.machine.world ≡ false = none-counted v.machine.world none (λ m. omega (arith, most m)) in
    record { state = v; by = []; run = refl; plain = tt; none = refl; same = refl; ends = ends-untimed v h still ends }
rest-on (suc t) v h none ends most =
    let same : erased (ticked_on v) ≡ erased v = same-tick v none in
    by_time (is_timed v.machine.world) refl
    (λ chosen. rest-on t (ticked_on v) (sound-choice v (ticked_on v) 0 h chosen true refl)
    (limits-back (tick v.machine.world) (subst (λ x. NoLimits x.machine.world) (sym same) (limits-erased v.machine.world none)))
    (subst (λ x. IsEnd turned_at_once x) (sym same) ends) (λ m. less-left v.machine.world t m (most m)))
  where
    by_time : (b : Bool) → is_timed v.machine.world ≡ b → (choice v 0 ≡ Some (ticked_on v) → Rested (ticked_on v)) → Rested v
    by_time false is rest = record { state = v; by = []; run = refl; plain = tt; none = refl; same = refl; ends = ends-untimed v h is ends }
    by_time true is rest =
        let chosen : choice v 0 ≡ Some (ticked_on v) = ap (λ b. cond b (Some (ticked_on v)) None) is in
        let x : Rested (ticked_on v) = rest chosen in
        record {
          state = x.state;
          by = 0 ∷ x.by;
          run = (ticked_on v, chosen, x.run);
          plain = (none, ap (asks_time_of v.machine.world 0) h.housed.none_0, subst (λ o. IsPlain choice (unwrap_or o v) x.by) (sym chosen) x.plain);
          none = x.none;
          same = x.same ∙ same-tick v none;
          ends = x.ends;
        }

abbrev longest : List (Option Job) → ℕ
longest [] = 0
longest (o ∷ more) = left_in o + longest more

below-longest : (slots : List (Option Job)) (m : ℕ) → left_in (job_at slots m) ≤ longest slots
below-longest [] m = omega arith
below-longest (o ∷ more) zero = omega arith
below-longest (o ∷ more) (suc m) = omega (arith, below-longest more m)

-- one run behind another
pub run-append : (v u t : V) (ks ls : List ℕ) → IsRun choice v ks u → IsRun choice u ls t → IsRun choice v (ks ++ ls) t
run-append v u t [] ls p q = subst (λ x. IsRun choice x ls t) (sym p) q
run-append v u t (k ∷ ks) ls (a, by_k, p) q = (a, by_k, run-append a u t ks ls p q)

plain-append : (v u : V) (ks ls : List ℕ) → IsPlain choice v ks → IsRun choice v ks u → IsPlain choice u ls → IsPlain choice v (ks ++ ls)
plain-append v u [] ls plain run later = subst (λ x. IsPlain choice x ls) (sym run) later
plain-append v u (k ∷ ks) ls plain (a, by_k, run) later = (
  plain.0,
  plain.1,
  subst (λ o. IsPlain choice (unwrap_or o v) (ks ++ ls)) (sym by_k)
      (plain-append a u ks ls (subst (λ o. IsPlain choice (unwrap_or o v) ks) by_k plain.2) run later),
)

turns-append : (ks ls : List ℕ) → turns_in ls ≡ [] → turns_in (ks ++ ls) ≡ turns_in ks
turns-append [] ls none = none
turns-append (k ∷ ks) ls none = ap (λ l. cond (k == 0) l (k ∷ l)) (turns-append ks ls none)

pub erased_ends_are_ends : ErasedEndsAreEnds
erased_ends_are_ends v t turns h plain run none ends =
    let x : IsTimedRun v turns t = erased_runs_are_runs v t turns h plain run in
    let u : V = x.state in
    let sound : IsSound u = run-sound choice is_loud choices-system v u x.by h x.run in
    let y : Rested u = rest-on (longest u.machine.world.table.jobs) u sound
    (limits-back u.machine.world (subst (λ z. NoLimits z.machine.world) (sym x.same_state) none))
    (subst (λ z. IsEnd turned_at_once z) (sym x.same_state) ends) (below-longest u.machine.world.table.jobs) in (
      record {
        state = y.state;
        by = x.by ++ y.by;
        run = run-append v u y.state x.by y.by x.run y.run;
        plain = plain-append v u x.by y.by x.plain x.run y.plain;
        same_turns = turns-append x.by y.by y.none ∙ x.same_turns;
        same_state = y.same ∙ x.same_state;
      },
      y.ends,
    )
