-- SLEEP lasts exactly as long as it says.
use Rattle.std.proofs.Common.{◌≡◌, ◌≤◌, ◌<◌, ◌∙◌, sym, ap, subst, ℕ, ◌-◌, ◌*◌, ◌==◌, ◌&&◌, not, Bool, true, false}
use Rattle.std.proofs.Common.{cond, List, [], ◌∷◌, Option, Some, None, is_none, refl, arith}
use Rattle.std.specs.Option.{option_map}
use Rattle.std.proofs.lemmas.Bool.{both_ways, lt-ltb}
use Rattle.std.proofs.lemmas.Bool.Decides.{nat_tests}
use Rattle.std.proofs.lemmas.List.{get_or-set_same}
use Rattle.word36.specs.Words.{right_half}
use Rattle.lock_queue.specs.Jobs.{is_waiting_job}
use Rattle.job_sched.specs.Changes.{ticked_table}
use Rattle.job_sched.specs.Jobs.{ticked_job, ticked_wait}
use Rattle.job_sched.specs.Limits.{limit_of, limited_job}
use Rattle.job_sched.specs.Ready.{holds, is_ready, is_ready_job, next_job}
use Rattle.job_sched.specs.Tables.{job_at}
use Rattle.job_sched.specs.declared.job.Job.{Job}
use Rattle.job_sched.specs.declared.job.Stop.{Stop}
use Rattle.job_sched.specs.declared.job.Wait.{Wait}
use Rattle.job_sched.specs.declared.job.Wait.TheVariants.{Sleep}
use Rattle.job_sched.proofs.Limits.{job-limited, limited-none}
use Rattle.uuo_calls.specs.CallState.{ac_of, waiting}
use Rattle.uuo_calls.specs.JobRows.{ticks_of}
use Rattle.uuo_calls.specs.Performed.{Performed, World, around, ended, performed, row_of}
use Rattle.uuo_calls.specs.declared.service.Service.TheVariants.{Sleep as SleepCall}
use Rattle.uuo_calls.proofs.Rows.{performs}
use Rattle.machine.specs.Alone.{Spares, spares}
use Rattle.machine.specs.Limits.{is_tick, ticks_in}
use Rattle.machine.specs.Machine.{S, after, happens, ticked}
use Rattle.machine.specs.Safe.{Safe, line_of}
use Rattle.machine.specs.declared.event.Event.{Event}
use Rattle.machine.specs.declared.event.Event.TheVariants.{Step, Tick, Typed, Take, Login, Start, Continue, Kill, Restart}
use Rattle.monitor_laws.proofs.Housing.{at-ticked}
use Rattle.monitor_laws.proofs.Limiting.{Left, left-continued, left-killed, left-login, left-same, left-started, left-taken, left-typed, no-run, ticks-cons}
use Rattle.monitor_laws.proofs.Rounding.{one_if}
use Rattle.monitor_laws.proofs.Safety.{next-ready, safe-happens}
use Rattle.monitor_laws.proofs.Standing.{other-number, same-stepped}
use Rattle.call_laws.specs.Sleeps.{IsAsleep, SleepBegins, SleepsLast}

pub sleep_begins : SleepBegins
sleep_begins w time n c j there here is some =
    let seconds : ℕ = right_half (ac_of j c.ac) in
    let k : Job = waiting j (Sleep (ticks_of seconds)) in
    let row : performed w time n c ≡ ended w n (row_of SleepCall time n c.ac c.e (around w j)) =
    performs w time n c j there ∙ ap (λ s. ended w n (row_of s time n c.ac c.e (around w j))) is in
    let more : (seconds == 0) ≡ false = grind (arith, nat_tests) in
    record {
      job = k;
      there = ap (λ (p : Performed). job_at p.world.table.jobs n) row ∙ get_or-set_same w.table.jobs n (Some k) None here;
      wait = ap (λ (b : Bool). Sleep (cond b 1 (60 * seconds))) more;
      regs = refl;
    }

-- who sleeps is not next
and-no : (b : Bool) → (b && false) ≡ false
and-no true = refl
and-no false = refl

idle-of : (s : S) (n ticks : ℕ) (j : Job) → IsAsleep s.world n ticks j → 1 ≤ ticks → is_ready s.world.table.jobs s.world.lines s.world.requests n ≡ false
idle-of s n ticks j a some =
    ap (is_ready_job s.world.lines s.world.requests n) a.there
    ∙ ap (λ (v : Wait). is_none a.job.stop && not (holds s.world.lines s.world.requests n a.job.line v)) a.wait
    ∙ ap (λ (b : Bool). is_none a.job.stop && not b) (lt-ltb 0 ticks some)
    ∙ and-no (is_none a.job.stop)

step-leaves : (s : S) (n ticks : ℕ) (j : Job) → Safe s → (a : IsAsleep s.world n ticks j) → 1 ≤ ticks → Left (happens s Step).state.world n a.job
step-leaves s n ticks j h a some =
    let next : Option ℕ = next_job s.world.table s.world.lines s.world.requests in
    let same = same-stepped s next n a.job.line h (ap line_of a.there)
    (no-run s next n (λ m e is. both_ways (is_ready s.world.table.jobs s.world.lines s.world.requests n) (idle-of s n ticks j a some)
    (subst (λ k. is_ready s.world.table.jobs s.world.lines s.world.requests k ≡ true) is (next-ready s.world.table s.world.lines s.world.requests m e)))) in
    left-same _ n a.job (same.jobs ∙ a.there)

-- a tick makes the sleep shorter
tick-leaves : (s : S) (n ticks : ℕ) (j : Job) → (a : IsAsleep s.world n ticks j) → job_at (ticked s).state.world.table.jobs n ≡ Some (ticked_job a.job)
tick-leaves s n ticks j a =
    job-limited (ticked_table s.world.table) s.world.requests n
    ∙ ap (option_map (limited_job (is_waiting_job s.world.requests n))) (at-ticked s.world.table.jobs n ∙ ap (option_map ticked_job) a.there)
    ∙ ap Some (limited-none (is_waiting_job s.world.requests n) (ticked_job a.job) (ap (λ (v : Wait). limit_of (ticked_wait v)) a.wait))

asleep-left : (s u : S) (n ticks : ℕ) (j : Job) → (a : IsAsleep s.world n ticks j) → Left u.world n a.job → IsAsleep u.world n (ticks - 0) j
asleep-left s u n ticks j a l = record {
  job = l.job;
  there = l.there;
  wait = l.wait ∙ a.wait ∙ ap Sleep (same ticks);
  regs = l.regs ∙ a.regs;
}
  where
    same : (k : ℕ) → k ≡ k - 0
    same k = omega arith

asleep-next : (s : S) (e : Event) (n ticks : ℕ) (j : Job) → Safe s → IsAsleep s.world n ticks j → spares n e ≡ true → 1 ≤ ticks
    → IsAsleep (happens s e).state.world n (ticks - one_if (is_tick e)) j
asleep-next s Step n ticks j h a spared some = asleep-left s (happens s Step).state n ticks j a (step-leaves s n ticks j h a some)
asleep-next s Tick n ticks j h a spared some = record {
  job = ticked_job a.job;
  there = tick-leaves s n ticks j a;
  wait = ap ticked_wait a.wait;
  regs = a.regs;
}
asleep-next s (Typed l c) n ticks j h a spared some = asleep-left s (happens s (Typed l c)).state n ticks j a (left-typed s l c n a.job a.there)
asleep-next s (Take l k) n ticks j h a spared some = asleep-left s (happens s (Take l k)).state n ticks j a (left-taken s l k n a.job a.there)
asleep-next s (Login l image) n ticks j h a spared some =
    asleep-left s (happens s (Login l image)).state n ticks j a (left-login s l image.now.words.items image.now.start n a.job a.there)
asleep-next s (Start m) n ticks j h a spared some =
    asleep-left s (happens s (Start m)).state n ticks j a (left-started s m n a.job (other-number m n spared) a.there)
asleep-next s (Continue m) n ticks j h a spared some = asleep-left s (happens s (Continue m)).state n ticks j a (left-continued s m n a.job a.there)
asleep-next s (Kill m) n ticks j h a spared some =
    asleep-left s (happens s (Kill m)).state n ticks j a (left-killed s m n (job_at s.world.table.jobs m) a.job (other-number m n spared) a.there)
asleep-next s Restart n ticks j h a spared some = absurd (both_ways false refl spared)

other-ticks : (w : World) (n a b : ℕ) (j : Job) → a ≡ b → IsAsleep w n a j → IsAsleep w n b j
other-ticks w n a b j same h = record { job = h.job; there = h.there; wait = h.wait ∙ ap Sleep same; regs = h.regs }

asleep-along : (es : List Event) (s : S) (n ticks : ℕ) (j : Job) → Safe s → IsAsleep s.world n ticks j → Spares n es → ticks_in es < ticks
    → IsAsleep (after es s).world n (ticks - ticks_in es) j
asleep-along [] s n ticks j h a spared some =
    let none : ticks_in [] ≡ 0 = refl in
    other-ticks s.world n ticks (ticks - ticks_in []) j (omega (arith, none)) a
asleep-along (e ∷ es) s n ticks j h a spared some =
    let cons = ticks-cons e es in
    let next = asleep-next s e n ticks j h a spared.0 (omega (arith, some)) in
    let rest = asleep-along es (happens s e).state n (ticks - one_if (is_tick e)) j (safe-happens s e h) next spared.1 (omega (arith, cons, some)) in
    other-ticks (after es (happens s e).state).world n (ticks - one_if (is_tick e) - ticks_in es) (ticks - ticks_in (e ∷ es)) j (omega (arith, cons)) rest

-- behind its last tick it is ready
ready-ended : (s : S) (n : ℕ) (j k : Job) → IsAsleep s.world n 1 j → job_at (ticked s).state.world.table.jobs n ≡ Some k → k.stop ≡ None
    → is_ready (ticked s).state.world.table.jobs (ticked s).state.world.lines (ticked s).state.world.requests n ≡ true
ready-ended s n j k a there stop =
    let u : S = (ticked s).state in
    let same : ticked_job a.job ≡ k = let e : Some (ticked_job a.job) ≡ Some k = sym (tick-leaves s n 1 j a) ∙ there in cc in
    let wait : k.wait ≡ Sleep 0 = ap (λ (x : Job). x.wait) (sym same) ∙ ap ticked_wait a.wait in
    ap (is_ready_job u.world.lines u.world.requests n) there
    ∙ ap (λ (o : Option Stop). is_none o && not (holds u.world.lines u.world.requests n k.line k.wait)) stop
    ∙ ap (λ (v : Wait). not (holds u.world.lines u.world.requests n k.line v)) wait

pub sleeps_last : SleepsLast
sleeps_last s es n ticks j h a spared = record {
  sleeps = λ more. asleep-along es s n ticks j h a spared more;
  idle = λ more. idle-of (after es s) n (ticks - ticks_in es) j (asleep-along es s n ticks j h a spared more) (omega (arith, more));
  ends = λ last k there stop.
      ready-ended (after es s) n j k
      (other-ticks (after es s).world n (ticks - ticks_in es) 1 j (omega (arith, last))
      (asleep-along es s n ticks j h a spared (omega (arith, last)))) there stop;
}
