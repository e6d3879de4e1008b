-- A run of turns and ticks is plain, where each state that moves lead to is clear.
use Rattle.std.proofs.Common.{◌≡◌, ◌≢◌, ◌<◌, ◌≤◌, ◌∙◌, sym, ap, subst, ℕ, ◌==◌, ◌&&◌, ◌||◌, not, nat_lt, Bool, true, false, cond, List, [], ◌∷◌, ◌++◌, Option, Some, None, is_none, inl, inr, refl, arith}
use Rattle.std.specs.Prelude.{unwrap_or}
use Rattle.std.proofs.lemmas.Bool.{cases_lt, eqb-true, false≢true}
use Rattle.ka_cpu.specs.Exec.{exec}
use Rattle.ka_state.specs.declared.outcome.Outcome.{Outcome}
use Rattle.ka_state.specs.declared.outcome.Outcome.TheVariants as outcome
use Rattle.ka_state.specs.Memory.{are_legal}
use Rattle.core_store.specs.Cores.{core_of, with_core}
use Rattle.lock_queue.specs.Jobs.{is_waiting_job, pending}
use Rattle.lock_queue.specs.declared.request.Request.{Request}
use Rattle.tty_lines.specs.Rings.{Rings}
use Rattle.job_sched.specs.Limits.{is_queue}
use Rattle.job_sched.specs.Ready.{holds, is_ready_job}
use Rattle.job_sched.specs.Tables.{job_at}
use Rattle.job_sched.specs.declared.job.Job.{Job}
use Rattle.job_sched.specs.declared.job.Wait.{Wait}
use Rattle.job_sched.specs.declared.job.Wait.TheVariants.{None as Nothing, Sleep, Char, Line, Room, Queue}
use Rattle.job_sched.proofs.Sleepers.{left-none}
use Rattle.uuo_calls.specs.Performed.{World}
use Rattle.uuo_calls.proofs.Tests.{by_test}
use Rattle.machine.specs.Machine.{awake}
use Rattle.machine.specs.Safe.{wait_of}
use Rattle.machine.specs.Turns.{Turn, concluded, due, turned as turn_by}
use Rattle.monitor_laws.proofs.Housing.{at-mapped}
use Rattle.job_order_laws.specs.Choices.{choice, is_noticed_turn, is_timed, requests_in, ticked_on}
use Rattle.job_order_laws.specs.Erased.{IsAtOnce, IsPlain, NoLimits, asks_time, asks_time_of, erased, erased_world, limit_in, turned_at_once, turns_in}
use Rattle.job_order_laws.specs.Orders.{IsEnd, IsQuietRun, IsRun}
use Rattle.job_order_laws.specs.Noticed.{is_noticed}
use Rattle.job_order_laws.specs.Ticked.{is_clock_of}
use Rattle.job_order_laws.specs.Turned.{IsSound, V, can_run, turned}
use Rattle.job_order_laws.proofs.AtOnce.{Made, made}
use Rattle.job_order_laws.proofs.Choosing.{ran, sound-choice}
use Rattle.job_order_laws.proofs.Erasing.{ready-rested}
use Rattle.job_order_laws.proofs.Returning.{erased_ends_are_ends, erased_runs_are_runs, plain_ends_are_erased, plain_runs_are_erased, run-append}
use Rattle.job_order_laws.proofs.Turning.{tell_nothing, there}
use Rattle.job_moves.specs.Laws.{AllClear, EndsAreFound, IsCleared, IsKept, LastsAreEnds, OrdersAreRuns, RequestsAreFound, RunsArePlain}
use Rattle.job_moves.specs.Moves.{HasJobs, IsAwake, has_limit, is_clock_outcome, is_loud_turn, next, reads_clock, reads_clock_of, settled}
use Rattle.job_moves.proofs.Alone.{at-once, clear-at, clear-parts, could-run, number-of, other-slot, stays-awake}
use Rattle.job_moves.proofs.LoudTurns.{loud-system, loud_moves_stand, reads-erased, reads-stay}
use Rattle.job_moves.proofs.Reaching.{Stands, all-settle, begins, begins-settled, behind, ends_are_reached, here-clear, reaches, requests_are_reached, runs_reach, stands-at}
use Rattle.job_moves.proofs.Resting.{R, erased_is_awake, limit-rested}

-- a job that waits for a grant cannot run
held : (lines : List Rings) (rs : List Request) (n line : ℕ) (wait : Wait) → is_queue wait ≡ true → is_waiting_job rs n ≡ true → holds lines rs n line wait ≡ true
held lines rs n line Nothing q w = absurd (false≢true q)
held lines rs n line (Sleep ticks) q w = absurd (false≢true q)
held lines rs n line Char q w = absurd (false≢true q)
held lines rs n line Line q w = absurd (false≢true q)
held lines rs n line (Room places) q w = absurd (false≢true q)
held lines rs n line (Queue limit ac) q w = w

and-none : (a b : Bool) → b ≡ true → a && not b ≡ false
and-none true true e = refl
and-none false b e = refl
and-none true false e = absurd (false≢true e)

waiting-stays : (v : V) (m : ℕ) → IsSound v → is_waiting_job (requests_in v) m ≡ true → can_run v.machine.world m ≡ false
waiting-stays v m h w = by_job (job_at v.machine.world.table.jobs m) (h.queued.waiting m w)
  where
    by_job : (o : Option Job) → is_queue (wait_of o) ≡ true → is_ready_job v.machine.world.lines v.machine.world.requests m o ≡ false
    by_job None q = refl
    by_job (Some j) q = and-none (is_none j.stop) _ (held v.machine.world.lines v.machine.world.requests m j.line j.wait q w)

-- a job that can run still can where no job sleeps
runs-erased : (v : V) (n : ℕ) → can_run v.machine.world n ≡ true → can_run (erased_world v.machine.world) n ≡ true
runs-erased v n h =
    let w : World = v.machine.world in
    let here = there w.lines w.requests n (job_at w.table.jobs n) h in
    ap (is_ready_job w.lines w.requests n) (at-mapped R w.table.jobs n refl ∙ ap R here.1)
    ∙ ready-rested w.lines w.requests n here.0 (sym (ap (is_ready_job w.lines w.requests n) here.1) ∙ h)

-- what is known at x from t, to which jobs went on from there
record Back (x t : V) : Type 0 where
  requests : requests_in t ≡ requests_in x
  limits : (m : ℕ) → is_waiting_job (requests_in x) m ≡ true
      → limit_in (job_at t.machine.world.table.jobs m) ≡ limit_in (job_at x.machine.world.table.jobs m)
  clocks : (k : ℕ) → can_run x.machine.world k ≡ true → reads_clock x.machine.world k ≡ true
      → (can_run t.machine.world k ≡ true) × (reads_clock t.machine.world k ≡ true)

other-limit : (x a : V) (n m : ℕ) → IsSound x → m ≢ n → turned_at_once x n ≡ Some a
    → limit_in (job_at a.machine.world.table.jobs m) ≡ limit_in (job_at x.machine.world.table.jobs m)
other-limit x a n m h ne e = ap limit_in (other-slot x a n m h ne e) ∙ limit-rested (job_at x.machine.world.table.jobs m)

other-runs : (x a : V) (n k : ℕ) → IsSound x → n ≢ k → is_noticed_turn x n ≡ false → turned_at_once x n ≡ Some a → can_run x.machine.world k ≡ true
    → can_run a.machine.world k ≡ true
other-runs x a n k h ne quiet e run =
    let m : Made x a n = made x a n e in
    subst (λ (u : V). can_run u.machine.world k ≡ true) m.is
    (runs-erased m.state k ((tell_nothing x m.state n k h ne quiet m.turn).runs ∙ run))

back : (x t : V) (ns : List ℕ) → IsAtOnce x → IsQuietRun turned_at_once is_loud_turn x ns t → Back x t
back x t [] h is = record {
  requests = ap requests_in (sym is);
  limits = λ m w. ap (λ (u : V). limit_in (job_at u.machine.world.table.jobs m)) (sym is);
  clocks = λ k run reads. (ap (λ (u : V). can_run u.machine.world k) (sym is) ∙ run, ap (λ (u : V). reads_clock u.machine.world k) (sym is) ∙ reads);
}
back x t (n ∷ ns) h (a, by_n, quiet, run) =
    let b : Back a t = back a t ns (loud-system.keeps x a n h by_n) run in
    let same : requests_in a ≡ requests_in x = loud-system.requests x a n h quiet by_n in
    let ran_n : can_run x.machine.world n ≡ true = could-run x a n by_n in
    let calm : is_noticed_turn x n ≡ false = left-none (is_noticed_turn x n) _ quiet in
    record {
      requests = b.requests ∙ same;
      limits = λ m w.
          let ne : m ≢ n = λ e. false≢true (sym (waiting-stays x m h.0 w) ∙ subst (λ p. can_run x.machine.world p ≡ true) (sym e) ran_n) in
          b.limits m (ap (λ rs. is_waiting_job rs m) same ∙ w) ∙ other-limit x a n m h.0 ne by_n;
      clocks = λ k run_k reads.
          let ne : k ≢ n = λ e. false≢true (sym quiet ∙ ap (is_loud_turn x) (sym e) ∙ loud-reads x k reads) in
          b.clocks k (other-runs x a n k h.0 (λ e. ne (sym e)) calm by_n run_k) (reads-stay x a k n h.0 ne by_n ∙ reads);
    }
  where
    or-true : (p q : Bool) → q ≡ true → p || q ≡ true
    or-true true q e = refl
    or-true false q e = e

    loud-reads : (x : V) (k : ℕ) → reads_clock x.machine.world k ≡ true → is_loud_turn x k ≡ true
    loud-reads x k e = or-true (is_noticed_turn x k) (reads_clock x.machine.world k) e

-- a turn that asks for the time of day is that of an instruction that reads it
clock-executed : (n : ℕ) (j : Job) (w : World) → is_clock_outcome (exec j.regs (core_of w.cores n)).outcome ≡ false → (o : Option (ℕ × ℕ))
    → is_clock_of (turn_by n (awake j) w.cores w.requests o).call ≡ false
clock-executed n j w e (Some x) =
    by_test (λ (t : Turn). is_clock_of t.call ≡ false) (are_legal (core_of w.cores n) x.0 4) _ _ (λ _. refl) (λ _. refl)
clock-executed n j w e None = by_outcome (exec j.regs (core_of w.cores n)).outcome e
  where
    by_outcome : (q : Outcome) → is_clock_outcome q ≡ false → is_clock_of (concluded (record (awake j) { regs = (exec j.regs (core_of w.cores n)).regs }) (with_core w.cores n (exec j.regs (core_of w.cores n)).core) w.requests q).call ≡ false
    by_outcome outcome.Done e = refl
    by_outcome (outcome.Stop reason) e = refl
    by_outcome (outcome.Call kind ac f) e = e

asks-reads : (w : World) (n : ℕ) → reads_clock w n ≡ false → asks_time w n ≡ false
asks-reads w n e = by_job (job_at w.table.jobs n) refl
  where
    by_job : (o : Option Job) → job_at w.table.jobs n ≡ o → asks_time w n ≡ false
    by_job None at = ap (asks_time_of w n) at
    by_job (Some j) at =
        ap (asks_time_of w n) at
        ∙ clock-executed n j w (sym (ap (reads_clock_of w n) at) ∙ e) (due (awake j).interrupts (pending w.requests n))

-- no limit counts, and no job that can run reads the time of day
record Calm (u : V) : Type 0 where
  limits : NoLimits u.machine.world
  clocks : (n : ℕ) → can_run u.machine.world n ≡ true → reads_clock u.machine.world n ≡ false

-- where jobs went on from there to a clear state
calm-clocks : (most count : ℕ) (u t : V) → Stands most count t → Back u t → (n : ℕ) → can_run u.machine.world n ≡ true → reads_clock u.machine.world n ≡ false
calm-clocks most count u t h b n run = by_reads (reads_clock u.machine.world n) refl
  where
    by_reads : (x : Bool) → reads_clock u.machine.world n ≡ x → reads_clock u.machine.world n ≡ false
    by_reads false e = e
    by_reads true e =
        let on = b.clocks n run e in
        let w : World = t.machine.world in
        let number = number-of count n t h.kept.awake h.kept.jobs on.0 in
        let parts = clear-parts (has_limit w n) (can_run w n) (is_noticed w n) (reads_clock w n)
        (clear-at count n t (here-clear most count t h) number.0 number.1) on.0 in
        absurd (false≢true (sym parts.2 ∙ on.1))

-- a job that waits for a grant is there
waiting-number : (count m : ℕ) (t : V) → IsSound t → HasJobs count t → is_waiting_job (requests_in t) m ≡ true → (1 ≤ m) × (m ≤ count)
waiting-number count m t h jobs w =
    let q = h.queued.waiting m w in
    let none : job_at t.machine.world.table.jobs m ≢ None = λ e. false≢true (sym (ap (λ o. is_queue (wait_of o)) e) ∙ q) in
    let positive : m ≢ 0 = λ e. none (ap (job_at t.machine.world.table.jobs) e ∙ h.housed.none_0) in
    (omega (arith, positive), elim (cases_lt count m) [ inl above ↦ absurd (none (jobs m above)) | inr low ↦ omega (arith, low) ])

not-held : (w l : Bool) (rest : Bool) → not (w && l) && rest ≡ true → w ≡ true → l ≡ false
not-held true false rest e h = refl
not-held true true rest e h = absurd (false≢true e)
not-held false l rest e h = absurd (false≢true h)

calm-limits : (most count : ℕ) (u t : V) → Stands most count t → Back u t → NoLimits u.machine.world
calm-limits most count u t h b m = by_waits (is_waiting_job (requests_in u) m) refl
  where
    by_waits : (x : Bool) → is_waiting_job (requests_in u) m ≡ x → is_waiting_job (requests_in u) m && nat_lt 0 (limit_in (job_at u.machine.world.table.jobs m)) ≡ false
    by_waits false e = ap (λ x. x && nat_lt 0 (limit_in (job_at u.machine.world.table.jobs m))) e
    by_waits true e =
        let w : World = t.machine.world in
        let waits : is_waiting_job (requests_in t) m ≡ true = ap (λ rs. is_waiting_job rs m) b.requests ∙ e in
        let number = waiting-number count m t h.kept.awake.sound h.kept.jobs waits in
        let none = not-held (is_waiting_job w.requests m) (nat_lt 0 (limit_in (job_at w.table.jobs m)))
        (not (can_run w m) || (is_noticed w m && not (reads_clock w m)))
        (clear-at count m t (here-clear most count t h) number.0 number.1) waits in
        ap (λ x. x && nat_lt 0 (limit_in (job_at u.machine.world.table.jobs m))) e
        ∙ ap (λ l. nat_lt 0 l) (sym (b.limits m e)) ∙ none

-- each state of a run at once
once-kept : (count : ℕ) (v u : V) (ns : List ℕ) → IsAwake v → IsRun turned_at_once v ns u → IsAwake u
once-kept count v u [] h is = subst IsAwake is h
once-kept count v u (n ∷ ns) h (a, step, rest) = once-kept count a u ns (stays-awake v a n h step) rest

calm-once : (most count : ℕ) (v u : V) (ns : List ℕ) → IsKept count v → AllClear most count (settled most count v) → IsRun turned_at_once v ns u → Calm u
calm-once most count v u ns h clear run =
    let s : V = settled most count v in
    let on : Stands most count s = begins most count v h clear in
    let ahead = loud_moves_stand.followed v s u ns (at-once v h.awake) (begins-settled most count v h clear) (all-settle most count s on) run in
    let r = reaches most count s ahead.state ahead.by on ahead.moved in
    let there_on : Stands most count ahead.state = stands-at most count s ahead.state r.0 on r.1 in
    let b : Back u ahead.state = back u ahead.state ahead.later.turns (at-once u (once-kept count v u ns h.awake run)) ahead.later.quiet in
    record { limits = calm-limits most count u ahead.state there_on b; clocks = calm-clocks most count u ahead.state there_on b }

-- one run behind another
once-append : (v u t : V) (ks ls : List ℕ) → IsRun turned_at_once v ks u → IsRun turned_at_once u ls t → IsRun turned_at_once v (ks ++ ls) t
once-append v u t [] ls p q = subst (λ x. IsRun turned_at_once x ls t) (sym p) q
once-append v u t (k ∷ ks) ls (a, by_k, p) q = (a, by_k, once-append a u t ks ls p q)

once-plain : (most count : ℕ) (v u w : V) (ps ns : List ℕ) → IsKept count v → AllClear most count (settled most count v) → IsRun turned_at_once v ps u
    → IsRun turned_at_once u ns w → IsPlain turned_at_once u ns
once-plain most count v u w ps [] h clear before run = tt
once-plain most count v u w ps (n ∷ ns) h clear before (a, step, rest) =
    let c : Calm u = calm-once most count v u ps h clear before in (
      c.limits,
      asks-reads u.machine.world n (c.clocks n (could-run u a n step)),
      subst (λ o. IsPlain turned_at_once (unwrap_or o u) ns) (sym step)
          (once-plain most count v a w (ps ++ n ∷ []) ns h clear (once-append v u a ps (n ∷ []) before (a, step, refl)) rest),
    )

-- and of a run of turns and ticks
jobs-erased : (count : ℕ) (v : V) → HasJobs count v → HasJobs count (erased v)
jobs-erased count v jobs m above = at-mapped R v.machine.world.table.jobs m refl ∙ ap R (jobs m above)

start-kept : (most count : ℕ) (v : V) → IsCleared most count v → IsKept count (erased v)
start-kept most count v h = record { awake = erased_is_awake v h.sound; jobs = jobs-erased count v h.jobs }

calm-back : (u : V) → Calm (erased u) → Calm u
calm-back u c = record {
  limits = λ m.
      ap (λ l. is_waiting_job (requests_in u) m && nat_lt 0 l)
      (sym (limit-rested (job_at u.machine.world.table.jobs m)) ∙ sym (ap limit_in (at-mapped R u.machine.world.table.jobs m refl)))
      ∙ c.limits m;
  clocks = λ n run. sym (reads-erased u.machine.world n) ∙ c.clocks n (runs-erased u n run);
}

plain-append : (v u : V) (ks ls : List ℕ) → IsPlain choice v ks → IsRun choice v ks u → IsPlain choice u ls → IsPlain choice v (ks ++ ls)
plain-append v u [] ls plain run later = subst (λ x. IsPlain choice x ls) (sym run) later
plain-append v u (k ∷ ks) ls plain (a, by_k, run) later = (
  plain.0,
  plain.1,
  subst (λ o. IsPlain choice (unwrap_or o v) (ks ++ ls)) (sym by_k)
      (plain-append a u ks ls (subst (λ o. IsPlain choice (unwrap_or o v) ks) by_k plain.2) run later),
)

asks-none : (u a : V) (n : ℕ) → IsSound u → Calm u → choice u n ≡ Some a → asks_time u.machine.world n ≡ false
asks-none u a n h c step = by_kind (n == 0) refl
  where
    by_kind : (b : Bool) → (n == 0) ≡ b → asks_time u.machine.world n ≡ false
    by_kind true is =
        let zero_is : n ≡ 0 = eqb-true n 0 is in
        ap (asks_time_of u.machine.world n) (ap (job_at u.machine.world.table.jobs) zero_is ∙ h.housed.none_0)
    by_kind false is =
        let turn : turned u n ≡ Some a = sym (ap (λ b. cond b (cond (is_timed u.machine.world) (Some (ticked_on u)) None) (turned u n)) is) ∙ step in
        asks-reads u.machine.world n (c.clocks n (ran u a n turn).runs)

choice-plain : (most count : ℕ) (v u w : V) (ps ns : List ℕ) → IsCleared most count v → IsRun choice v ps u → IsPlain choice v ps → IsSound u
    → IsRun choice u ns w → IsPlain choice u ns
choice-plain most count v u w ps [] h before plain sound run = tt
choice-plain most count v u w ps (n ∷ ns) h before plain sound (a, step, rest) =
    let once = plain_runs_are_erased v u ps h.sound plain before in
    let c : Calm u = calm-back u (calm-once most count (erased v) (erased u) (turns_in ps) (start-kept most count v h) h.clear once.0) in
    let asks = asks-none u a n sound c step in (
      c.limits,
      asks,
      subst (λ o. IsPlain choice (unwrap_or o u) ns) (sym step)
          (choice-plain most count v a w (ps ++ n ∷ []) ns h (run-append v u a ps (n ∷ []) before (a, step, refl))
          (plain-append v u ps (n ∷ []) plain before (c.limits, asks, tt)) (sound-choice u a n sound step (n == 0) refl) rest),
    )

pub runs_are_plain : RunsArePlain
runs_are_plain most count v w ns h run = choice-plain most count v v w [] ns h refl tt h.sound run

pub requests_are_found : RequestsAreFound
requests_are_found most count v w ns h run =
    let once = plain_runs_are_erased v w ns h.sound (runs_are_plain most count v w ns h run) run in
    let x = requests_are_reached most count (erased v) (erased w) (turns_in ns) (start-kept most count v h) h.clear once.0 in
    x

pub ends_are_found : EndsAreFound
ends_are_found most count v w ns h run end =
    let plain = runs_are_plain most count v w ns h run in
    let once = plain_runs_are_erased v w ns h.sound plain run in
    let x = ends_are_reached most count (erased v) (erased w) (turns_in ns) (start-kept most count v h) h.clear once.0
    (plain_ends_are_erased v w ns h.sound run end) in
    x

pub orders_are_runs : OrdersAreRuns
orders_are_runs most count v t ks h r =
    let x = runs_reach most count (erased v) t ks (start-kept most count v h) h.clear r in
    let plain = once-plain most count (erased v) (erased v) t [] x.0 (start-kept most count v h) h.clear refl x.1 in
    (x.0, erased_runs_are_runs v t x.0 h.sound plain x.1)

-- a state without a move is an end of turns at once
last-ends : (most count : ℕ) (t : V) → Stands most count t → ((k : ℕ) → k < count → next most count t k ≡ None) → IsEnd turned_at_once t
last-ends most count t h none n a e =
    let x = behind most count n t a h e in
    let both : None ≡ Some (settled most count a) = sym (none x.0 x.2.low) ∙ x.2.move in
    cc

pub lasts_are_ends : LastsAreEnds
lasts_are_ends most count v t ks h r none =
    let begin : IsKept count (erased v) = start-kept most count v h in
    let x = runs_reach most count (erased v) t ks begin h.clear r in
    let plain = once-plain most count (erased v) (erased v) t [] x.0 begin h.clear refl x.1 in
    let c : Calm t = calm-once most count (erased v) t x.0 begin h.clear x.1 in
    let on : Stands most count t = stands-at most count (settled most count (erased v)) t ks (begins most count (erased v) begin h.clear) r in
    let found = erased_ends_are_ends v t x.0 h.sound plain x.1 c.limits (last-ends most count t on none) in
    (x.0, found.0, found.1)
