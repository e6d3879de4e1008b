-- A wait with a limit ends in time.
use Rattle.std.proofs.Common.{◌≡◌, ◌≢◌, ◌<◌, ◌≤◌, ◌+◌, ◌-◌, ◌∙◌, sym, ap, subst, ℕ, zero, suc, ◌==◌, nat_le, Bool, true, false, cond, List, []}
use Rattle.std.proofs.Common.{◌∷◌, length, take, Option, Some, None, Result, Ok, Err, is_some, inl, inr, refl, arith}
use Rattle.std.proofs.lemmas.Bool.{and_from, both_ways, cases_eq, eq-eqb, eqb-true, false_from_ne_true}
use Rattle.std.proofs.lemmas.Bool.Decides.{nat_tests}
use Rattle.std.proofs.lemmas.List.{get_or-set_other, get_or-set_same}
use Rattle.std.proofs.lemmas.List.Sums.{sum_by-cons}
use Rattle.std.specs.List.{list_any}
use Rattle.std.specs.Option.{option_map}
use Rattle.word36.specs.declared.sizes.TheConstants.{LINES, INPUT_RING}
use Rattle.lock_queue.specs.Jobs.{is_waiting_job}
use Rattle.lock_laws.proofs.Withdrawals.{withdrawing_ends_waits}
use Rattle.tty_lines.specs.Rings.{input_of}
use Rattle.job_sched.specs.Changes.{free_number, is_at, standing, ticked_table, with_change}
use Rattle.job_sched.specs.Jobs.{broken_job, going_on, started_job, ticked_job, ticked_wait}
use Rattle.job_sched.specs.Limits.{expires, is_last_tick, limit_of, limited_by, limited_job}
use Rattle.job_sched.specs.Ready.{next_job}
use Rattle.job_sched.specs.Tables.{job_at}
use Rattle.job_sched.specs.declared.job.Job.{Job}
use Rattle.job_sched.specs.declared.job.Wait.{Wait}
use Rattle.job_sched.specs.declared.job.Wait.TheVariants.{Queue}
use Rattle.job_sched.specs.declared.job_error.JobError.{JobError}
use Rattle.job_sched.proofs.Limits.{job-limited, limited-none}
use Rattle.ka_state.specs.declared.registers.Regs.{Regs}
use Rattle.uuo_calls.specs.CallState.{ac_of}
use Rattle.uuo_calls.specs.Performed.{World}
use Rattle.machine.specs.declared.event.Event.{Event}
use Rattle.machine.specs.declared.event.Event.TheVariants.{Step, Tick, Typed, Take, Login, Start, Continue, Kill, Restart}
use Rattle.machine.specs.declared.sizes.TheConstants.{INTERRUPT_CHARACTER}
use Rattle.machine.specs.Alone.{Spares, is_ran, spares}
use Rattle.machine.specs.Images.{blocks_for, image_top}
use Rattle.machine.specs.Limits.{GrantsStopLimits, HasEnded, IsInWait, LimitsAreKept, LimitsCount, LimitsLeaveTheirCode}
use Rattle.machine.specs.Limits.{is_tick, ticks_in, timed_out}
use Rattle.machine.specs.Machine.{S, Made, admitted, continued, examined, happens, killed, logged_in, made_if, started, stepped, taken, ticked, typed}
use Rattle.machine.specs.Safe.{HasAccumulator, InRange, Safe, line_of}
use Rattle.ka_cpu.proofs.ExecLaws.{by_test}
use Rattle.monitor_laws.proofs.Housing.{at-mapped, at-ticked, there-below}
use Rattle.monitor_laws.proofs.Rounding.{one_if}
use Rattle.monitor_laws.proofs.Safety.{IsFree, free-next, free-number, next-ready, safe-happens}
use Rattle.monitor_laws.proofs.Standing.{other-number, same-broken, same-stepped}

-- one tick

-- a tick of sleeps leaves a job that waits for a grant as it was
ticked-queue : (j : Job) (limit ac : ℕ) → j.wait ≡ Queue limit ac → ticked_job j ≡ j
ticked-queue j limit ac e = ap (λ (v : Wait). record j { wait = v }) (ap ticked_wait e ∙ sym e)

there-ticked : (s : S) (n limit ac : ℕ) (j : Job) → job_at s.world.table.jobs n ≡ Some j → j.wait ≡ Queue limit ac
    → job_at (ticked_table s.world.table).jobs n ≡ Some j
there-ticked s n limit ac j there wait =
    at-ticked s.world.table.jobs n ∙ ap (option_map ticked_job) there ∙ ap Some (ticked-queue j limit ac wait)

-- and then of limits, by whether the job waits
after-tick : (s : S) (n limit ac : ℕ) (j : Job) (waits : Bool) → job_at s.world.table.jobs n ≡ Some j → j.wait ≡ Queue limit ac
    → is_waiting_job s.world.requests n ≡ waits → job_at (ticked s).state.world.table.jobs n ≡ Some (limited_job waits j)
after-tick s n limit ac j waits there wait is =
    job-limited (ticked_table s.world.table) s.world.requests n
    ∙ ap (option_map (limited_job (is_waiting_job s.world.requests n))) (there-ticked s n limit ac j there wait)
    ∙ ap (λ (b : Bool). Some (limited_job b j)) is

not-last : (limit : ℕ) → 2 ≤ limit → (limit == 1) ≡ false
not-last limit more = grind (arith, nat_tests)

pub counts : (s : S) → LimitsCount s
counts s n limit ac j w =
    let at = after-tick s n limit ac j true w.there w.wait w.holds ∙ ap (λ (v : Wait). Some (limited_by v j)) w.wait in
    record {
      shorter = λ more. at ∙ ap (λ (b : Bool). Some (cond b (timed_out ac j) (record j { wait = Queue (limit - 1) ac }))) (not-last limit more);
      refused = λ last. at ∙ ap (λ (b : Bool). Some (cond b (timed_out ac j) (record j { wait = Queue (limit - 1) ac }))) (eq-eqb limit 1 last);
      ended = λ last. withdrawing_ends_waits s.world.requests (expires s.world.requests (ticked_table s.world.table).jobs) n
          (and_from _ _ w.holds
          (ap is_last_tick (there-ticked s n limit ac j w.there w.wait) ∙ ap (λ (v : Wait). limit_of v == 1) w.wait
          ∙ eq-eqb limit 1 last));
      endless = λ none. after-tick s n limit ac j true w.there w.wait w.holds ∙ ap Some (limited-none true j (ap limit_of w.wait ∙ none));
    }

-- the accumulator of the call has the code
late-code : (j : Job) (ac : ℕ) → ac < length j.regs.ac → ac_of (timed_out ac j) ac ≡ 0o21
late-code j ac low = get_or-set_same j.regs.ac ac 0o21 0 low

late-job : (s : S) (n limit ac : ℕ) (j : Job) → Safe s → IsInWait s.world n j limit ac → ac_of (timed_out ac j) ac ≡ 0o21
late-job s n limit ac j h w =
    let ranges : InRange (Some j) = subst InRange w.there (h.ranges n) in
    let low : ac < 16 = subst HasAccumulator w.wait ranges.3 in
    late-code j ac (subst (λ k. ac < k) (sym ranges.2) low)

pub leave_their_code : (s : S) → Safe s → LimitsLeaveTheirCode s
leave_their_code s h n ac j w = (timed_out ac j, (counts s n 1 ac j w).refused refl, late-job s n 1 ac j h w)

pub grants_stop : (s : S) → GrantsStopLimits s
grants_stop s n limit ac j there wait over = after-tick s n limit ac j false there wait over

-- runs

-- what an event leaves of a job that waits
pub record Left (w : World) (n : ℕ) (j : Job) : Type 0 where
  pub job : Job
  pub there : job_at w.table.jobs n ≡ Some job
  pub regs : job.regs ≡ j.regs
  pub wait : job.wait ≡ j.wait

pub left-same : (w : World) (n : ℕ) (j : Job) → job_at w.table.jobs n ≡ Some j → Left w n j
left-same w n j there = record { job = j; there = there; regs = refl; wait = refl }

-- it is not the job that runs
pub no-run : (s : S) (o : Option ℕ) (n : ℕ) → ((m : ℕ) → o ≡ Some m → m ≢ n) → is_ran n (stepped s o).answer ≡ false
no-run s None n other = refl
no-run s (Some m) n other = false_from_ne_true _ (λ e. other m refl (eqb-true m n e))

left-stepped : (s : S) (n limit ac : ℕ) (j : Job) → Safe s → IsInWait s.world n j limit ac → Left (happens s Step).state.world n j
left-stepped s n limit ac j h w =
    let next : Option ℕ = next_job s.world.table s.world.lines s.world.requests in
    let same = same-stepped s next n j.line h (ap line_of w.there)
    (no-run s next n (λ m e is. both_ways (is_waiting_job s.world.requests n)
    (subst (λ k. is_waiting_job s.world.requests k ≡ false) is
    (free-next s m h (next-ready s.world.table s.world.lines s.world.requests m e)).free) w.holds)) in
    left-same _ n j (same.jobs ∙ w.there)

pub left-typed : (s : S) (l c n : ℕ) (j : Job) → job_at s.world.table.jobs n ≡ Some j → Left (typed s l c).state.world n j
left-typed s l c n j there =
    let broken = same-broken l j in
    by_test (λ (m : Made). Left m.state.world n j) (nat_le LINES l) _ _ (λ _. left-same _ n j there)
    (λ _. by_test (λ (m : Made). Left m.state.world n j) (c == INTERRUPT_CHARACTER) _ _
    (λ _. record {
      job = broken_job l j;
      there = at-mapped (option_map (broken_job l)) s.world.table.jobs n refl ∙ ap (option_map (broken_job l)) there;
      regs = broken.1;
      wait = broken.3;
    })
    (λ _. by_test (λ (m : Made). Left m.state.world n j) (nat_le INPUT_RING (length (input_of s.world.lines l))) _ _
    (λ _. left-same _ n j there) (λ _. left-same _ n j there)))

pub left-taken : (s : S) (l k n : ℕ) (j : Job) → job_at s.world.table.jobs n ≡ Some j → Left (taken s l k).state.world n j
left-taken s l k n j there =
    by_test (λ (m : Made). Left m.state.world n j) (nat_le LINES l) _ _ (λ _. left-same _ n j there) (λ _. left-same _ n j there)

-- another job begins
none-some : (j : Job) → None ≡ Some j → ⊥
none-some j e = cc

left-admitted : (s : S) (l : ℕ) (ws : List (ℕ × ℕ)) (start blocks : ℕ) (o : Option ℕ) (n : ℕ) (j : Job) → ((m : ℕ) → o ≡ Some m → IsFree s.world.table.jobs m)
    → job_at s.world.table.jobs n ≡ Some j → Left (admitted s l ws start blocks o).state.world n j
left-admitted s l ws start blocks None n j free there = left-same _ n j there
left-admitted s l ws start blocks (Some m) n j free there =
    let ne : n ≢ m = λ is. none-some j (sym (free m refl).none ∙ sym (ap (λ k. job_at s.world.table.jobs k) is) ∙ there) in
    by_test (λ (r : Made). Left r.state.world n j) (nat_le blocks s.world.cores.free) _ _
    (λ _. left-same _ n j (get_or-set_other s.world.table.jobs m n _ None ne ∙ there)) (λ _. left-same _ n j there)

left-examined : (s : S) (l : ℕ) (ws : List (ℕ × ℕ)) (start : ℕ) (o : Option ℕ) (n : ℕ) (j : Job) → job_at s.world.table.jobs n ≡ Some j
    → Left (examined s l ws start o).state.world n j
left-examined s l ws start None n j there = left-same _ n j there
left-examined s l ws start (Some top) n j there =
    left-admitted s l ws start (blocks_for top) (free_number s.world.table.jobs) n j (free-number s.world.table.jobs) there

pub left-login : (s : S) (l : ℕ) (ws : List (ℕ × ℕ)) (start n : ℕ) (j : Job) → job_at s.world.table.jobs n ≡ Some j
    → Left (logged_in s l ws start).state.world n j
left-login s l ws start n j there =
    by_test (λ (m : Made). Left m.state.world n j) (nat_le LINES l) _ _ (λ _. left-same _ n j there)
    (λ _. by_test (λ (m : Made). Left m.state.world n j) (list_any (is_at l) s.world.table.jobs) _ _ (λ _. left-same _ n j there)
    (λ _. left-examined s l ws start (image_top ws start) n j there))

-- a job starts or goes on
left-made_if : (s : S) (w : World) (r : Result (Unit {0}) JobError) (n : ℕ) (j : Job) → Left s.world n j → Left w n j → Left (made_if s w r).state.world n j
left-made_if s w (Ok y) n j before later = later
left-made_if s w (Err e) n j before later = before

pub left-started : (s : S) (m n : ℕ) (j : Job) → n ≢ m → job_at s.world.table.jobs n ≡ Some j → Left (started s m).state.world n j
left-started s m n j ne there =
    left-made_if s _ (standing (job_at s.world.table.jobs m)) n j (left-same _ n j there)
    (left-same _ n j (get_or-set_other s.world.table.jobs m n (option_map started_job (job_at s.world.table.jobs m)) None ne ∙ there))

left-going_on : (w : World) (m n : ℕ) (j : Job) → job_at w.table.jobs n ≡ Some j → Left (record w { table = with_change w.table m going_on }) n j
left-going_on w m n j there = elim (cases_eq n m) [
  | inl same ↦ subst (λ k. Left (record w { table = with_change w.table k going_on }) n j) same (record {
    job = going_on j;
    there =
        get_or-set_same w.table.jobs n (option_map going_on (job_at w.table.jobs n)) None
        (there-below w.table.jobs n (ap is_some there)) ∙ ap (option_map going_on) there;
    regs = refl;
    wait = refl;
  })
  | inr other ↦ left-same _ n j (get_or-set_other w.table.jobs m n (option_map going_on (job_at w.table.jobs m)) None other ∙ there)
]

pub left-continued : (s : S) (m n : ℕ) (j : Job) → job_at s.world.table.jobs n ≡ Some j → Left (continued s m).state.world n j
left-continued s m n j there =
    left-made_if s _ (standing (job_at s.world.table.jobs m)) n j (left-same _ n j there) (left-going_on s.world m n j there)

pub left-killed : (s : S) (m n : ℕ) (o : Option Job) (j : Job) → n ≢ m → job_at s.world.table.jobs n ≡ Some j → Left (killed s m o).state.world n j
left-killed s m n None j ne there = left-same _ n j there
left-killed s m n (Some k) j ne there = left-same _ n j (get_or-set_other s.world.table.jobs m n None None ne ∙ there)

-- an event that is no tick leaves the wait as it is
left-by : (s : S) (e : Event) (n limit ac : ℕ) (j : Job) → Safe s → IsInWait s.world n j limit ac → spares n e ≡ true → is_tick e ≡ false
    → Left (happens s e).state.world n j
left-by s Step n limit ac j h w spared other = left-stepped s n limit ac j h w
left-by s Tick n limit ac j h w spared other = absurd (both_ways true other refl)
left-by s (Typed l c) n limit ac j h w spared other = left-typed s l c n j w.there
left-by s (Take l k) n limit ac j h w spared other = left-taken s l k n j w.there
left-by s (Login l image) n limit ac j h w spared other = left-login s l image.now.words.items image.now.start n j w.there
left-by s (Start m) n limit ac j h w spared other = left-started s m n j (other-number m n spared) w.there
left-by s (Continue m) n limit ac j h w spared other = left-continued s m n j w.there
left-by s (Kill m) n limit ac j h w spared other = left-killed s m n (job_at s.world.table.jobs m) j (other-number m n spared) w.there
left-by s Restart n limit ac j h w spared other = absurd (both_ways false refl spared)

-- ticks among events
pub ticks-cons : (e : Event) (es : List Event) → ticks_in (e ∷ es) ≡ one_if (is_tick e) + ticks_in es
ticks-cons e es = sum_by-cons (λ x. one_if (is_tick x)) e es

ticks-first : (e : Event) (es : List Event) → ticks_in (take (suc zero) (e ∷ es)) ≡ one_if (is_tick e)
ticks-first e es = let none : ticks_in (take zero es) ≡ 0 = refl in omega (arith, ticks-cons e (take zero es), none)

-- what ends the wait after an event ends it in the whole run
shifted : (s : S) (e : Event) (es : List Event) (n : ℕ) (j k : Job) (limit less ac i : ℕ) → k.regs ≡ j.regs → less + one_if (is_tick e) ≡ limit
    → HasEnded (happens s e).state es n k less ac i → HasEnded s (e ∷ es) n j limit ac (suc i)
shifted s e es n j k limit less ac i same fewer (inl g) = inl (record {
  job = g.job;
  there = g.there;
  regs = g.regs ∙ same;
  left = g.left;
  wait = g.wait;
  some = g.some;
  counted = omega (arith, g.counted, fewer, ticks-cons e (take i es));
  over = g.over;
})
shifted s e es n j k limit less ac i same fewer (inr t) = inr (record {
  job = t.job;
  there = t.there;
  code = t.code;
  regs = t.regs ∙ ap (λ (g : Regs). (timed_out ac (record j { regs = g })).regs) same;
  wait = t.wait;
  counted = omega (arith, t.counted, fewer, ticks-cons e (take i es));
  over = t.over;
})

-- what is known of the events that are left
abbrev Rest : S → List Event → ℕ → Type 0
Rest s es n =
    (limit ac : ℕ) (j : Job) → IsInWait s.world n j limit ac → 1 ≤ limit → limit ≤ ticks_in es → (k : ℕ) × HasEnded s es n j limit ac k

-- after an event the wait goes on, or its request is granted
goes-on : (s : S) (e : Event) (es : List Event) (n limit less ac : ℕ) (j k : Job) → job_at (happens s e).state.world.table.jobs n ≡ Some k → k.regs ≡ j.regs
    → k.wait ≡ Queue less ac → 1 ≤ less → less + one_if (is_tick e) ≡ limit → limit ≤ ticks_in (e ∷ es) → Rest (happens s e).state es n
    → (waits : Bool) → is_waiting_job (happens s e).state.world.requests n ≡ waits → (i : ℕ) × HasEnded s (e ∷ es) n j limit ac i
goes-on s e es n limit less ac j k there same wait some fewer enough rest true is =
    let r = rest less ac k (record { there = there; wait = wait; holds = is }) some (omega (arith, enough, fewer, ticks-cons e es)) in
    (suc r.0, shifted s e es n j k limit less ac r.0 same fewer r.1)
goes-on s e es n limit less ac j k there same wait some fewer enough rest false is = (
  suc zero,
  inl (record {
    job = k;
    there = there;
    regs = same;
    left = less;
    wait = wait;
    some = some;
    counted = omega (arith, fewer, ticks-first e es);
    over = is;
  }),
)

-- an event that is no tick
by-other : (s : S) (e : Event) (es : List Event) (n limit ac : ℕ) (j : Job) → Safe s → IsInWait s.world n j limit ac → spares n e ≡ true → is_tick e ≡ false
    → 1 ≤ limit → limit ≤ ticks_in (e ∷ es) → Rest (happens s e).state es n → (i : ℕ) × HasEnded s (e ∷ es) n j limit ac i
by-other s e es n limit ac j h w spared other some enough rest =
    let l = left-by s e n limit ac j h w spared other in
    let none : one_if (is_tick e) ≡ 0 = ap one_if other in
    goes-on s e es n limit limit ac j l.job l.there l.regs (l.wait ∙ w.wait) some (omega (arith, none)) enough rest
    (is_waiting_job (happens s e).state.world.requests n) refl

by-tick : (s : S) (es : List Event) (n limit ac : ℕ) (j : Job) → Safe s → IsInWait s.world n j limit ac → 1 ≤ limit → limit ≤ ticks_in (Tick ∷ es)
    → Rest (happens s Tick).state es n → (i : ℕ) × HasEnded s (Tick ∷ es) n j limit ac i
by-tick s es n limit ac j h w some enough rest = elim (cases_eq limit 1) [
  | inl last ↦
      let c = counts s n limit ac j w in (
        suc zero,
        inr (record {
          job = timed_out ac j;
          there = c.refused last;
          code = late-job s n limit ac j h w;
          regs = refl;
          wait = refl;
          counted = omega (arith, last, ticks-first Tick es);
          over = c.ended last;
        }),
      )
  | inr more ↦
      let c = counts s n limit ac j w in
      let next : 1 ≤ limit - 1 = omega (arith, more, some) in
      goes-on s Tick es n limit (limit - 1) ac j (record j { wait = Queue (limit - 1) ac }) (c.shorter (omega (arith, next))) refl
      refl next (omega (arith, next)) enough rest
      (is_waiting_job (happens s Tick).state.world.requests n) refl
]

by-event : (s : S) (e : Event) (es : List Event) (n limit ac : ℕ) (j : Job) → Safe s → IsInWait s.world n j limit ac → spares n e ≡ true
    → 1 ≤ limit → limit ≤ ticks_in (e ∷ es) → Rest (happens s e).state es n → (i : ℕ) × HasEnded s (e ∷ es) n j limit ac i
by-event s Tick es n limit ac j h w spared some enough rest = by-tick s es n limit ac j h w some enough rest
by-event s Step es n limit ac j h w spared some enough rest = by-other s Step es n limit ac j h w spared refl some enough rest
by-event s (Typed l c) es n limit ac j h w spared some enough rest = by-other s (Typed l c) es n limit ac j h w spared refl some enough rest
by-event s (Take l k) es n limit ac j h w spared some enough rest = by-other s (Take l k) es n limit ac j h w spared refl some enough rest
by-event s (Login l image) es n limit ac j h w spared some enough rest = by-other s (Login l image) es n limit ac j h w spared refl some enough rest
by-event s (Start m) es n limit ac j h w spared some enough rest = by-other s (Start m) es n limit ac j h w spared refl some enough rest
by-event s (Continue m) es n limit ac j h w spared some enough rest = by-other s (Continue m) es n limit ac j h w spared refl some enough rest
by-event s (Kill m) es n limit ac j h w spared some enough rest = by-other s (Kill m) es n limit ac j h w spared refl some enough rest
by-event s Restart es n limit ac j h w spared some enough rest = by-other s Restart es n limit ac j h w spared refl some enough rest

all-kept : (es : List Event) (s : S) (n : ℕ) → Safe s → Spares n es → Rest s es n
all-kept [] s n h spared limit ac j w some enough = absurd (omega (arith, some, enough))
all-kept (e ∷ es) s n h spared limit ac j w some enough =
    by-event s e es n limit ac j h w spared.0 some enough (all-kept es (happens s e).state n (safe-happens s e h) spared.1)

pub limits_are_kept : (s : S) (es : List Event) → Safe s → LimitsAreKept s es
limits_are_kept s es h n limit ac j w some spared enough = all-kept es s n h spared limit ac j w some enough
