-- A tick in a machine and in the state of a run that it is like.
use Rattle.std.proofs.Common.{◌≡◌, ◌∙◌, sym, ap, subst, ℕ, suc, ◌+◌, ◌-◌, ◌%◌, ◌==◌, ◌&&◌, nat_lt, Bool, true, false, cond, List, [], ◌∷◌, map, Option, Some, None, is_some, refl, arith}
use Rattle.std.proofs.lemmas.Bool.{both_ways, false_from_ne_true}
use Rattle.std.proofs.lemmas.Bool.Decides.{nat_tests}
use Rattle.std.specs.Option.{option_map}
use Rattle.lock_queue.specs.Jobs.{is_waiting_job, withdrawn_where}
use Rattle.lock_queue.specs.Refusals.{code_of}
use Rattle.lock_queue.specs.declared.refusal.Refusal.TheVariants.{TimedOut}
use Rattle.lock_laws.proofs.WaitLaws.{waiting_is_kept}
use Rattle.job_sched.proofs.Limits.{withdrawn-none}
use Rattle.job_sched.specs.Jobs.{is_sleep, ticked_job, ticked_wait}
use Rattle.job_sched.specs.Limits.{at_error_return, expires, is_last_tick, limit_of, limited_from, limited_job}
use Rattle.job_sched.specs.Ready.{holds}
use Rattle.job_sched.specs.Tables.{job_at}
use Rattle.job_sched.specs.declared.job.Job.{Job}
use Rattle.job_sched.specs.declared.job.Wait.{Wait}
use Rattle.job_sched.specs.declared.job.Wait.TheVariants.{None as Nothing, Sleep, Char, Line, Room, Queue}
use Rattle.job_sched.specs.declared.time_of_day.TheConstants.{TICKS_A_DAY}
use Rattle.uuo_calls.specs.Performed.{World}
use Rattle.machine.specs.Machine.{S, ticked}
use Rattle.machine.specs.Safe.{Safe}
use Rattle.monitor_laws.proofs.Housing.{at-ticked, is_job}
use Rattle.job_order_laws.specs.Choices.{is_counted, is_counted_of, is_timed, ticked_on}
use Rattle.job_order_laws.specs.Erased.{NoLimits, limit_in}
use Rattle.job_order_laws.specs.Events.{IsLike, IsLikeJob, IsLikeSlot, IsLikeWait, lifted_stop}
use Rattle.job_order_laws.specs.Ticked.{tick}
use Rattle.job_order_laws.specs.Turned.{IsSound, V}
use Rattle.job_order_laws.proofs.Erasing.{no-end, none-limit}
use Rattle.job_order_laws.proofs.Likeness.{requests-like, stays-like}
use Rattle.job_order_laws.proofs.LineRows.{by_pair, is_room}
use Rattle.job_order_laws.proofs.Requests.{StaysFree}
use Rattle.job_order_laws.proofs.Returning.{any-job, slot-ticked}
use Rattle.job_order_laws.proofs.TickTurns.{over, withdrawn-alike}

-- no wait that was over holds again
free-ticked : (w : World) (n : ℕ) → StaysFree n w.requests (tick w).requests
free-ticked w n none = false_from_ne_true _ (λ waits. both_ways (is_waiting_job w.requests n) none ((waiting_is_kept 0).by_withdrawals w.requests _ n waits))

-- a job and one like it, both with one tick less
abbrev later_job : World → ℕ → Job → Job
later_job w n j = limited_job (is_waiting_job w.requests n) (ticked_job j)

less-still : (ticks : ℕ) → nat_lt 0 ticks ≡ false → nat_lt 0 (ticks - 1) ≡ false
less-still ticks h = grind (arith, nat_tests)

-- a job that waits for room, where the other's wait is over
roomy-ticked : (w : World) (n places : ℕ) (i j : Job) (b : Bool) → is_waiting_job w.requests n ≡ b → i.wait ≡ Room places
    → j ≡ record i { stop = lifted_stop i.stop; wait = j.wait } → holds w.lines w.requests n i.line j.wait ≡ false
    → IsLikeJob (tick w) n (limited_job b (ticked_job i)) (limited_job b (ticked_job j))
roomy-ticked w n places i j b waits room same free =
    subst (λ (x : Job). IsLikeJob (tick w) n (limited_job b (ticked_job i)) (limited_job b (ticked_job x))) (sym same)
    (subst (λ (held : Wait). IsLikeJob (tick w) n (limited_job b (record i { wait = ticked_wait held })) (limited_job b (record i { stop = lifted_stop i.stop; wait = ticked_wait j.wait })))
    (sym room) (by_wait b j.wait waits free))
  where
    by_wait : (b : Bool) (wait : Wait) → is_waiting_job w.requests n ≡ b → holds w.lines w.requests n i.line wait ≡ false
        → IsLikeJob (tick w) n (limited_job b (record i { wait = Room places })) (limited_job b (record i { stop = lifted_stop i.stop; wait = ticked_wait wait }))
    by_wait false Nothing waits free = record { same = refl; wait = refl }
    by_wait true Nothing waits free = record { same = refl; wait = refl }
    by_wait false (Sleep ticks) waits free = record { same = refl; wait = less-still ticks free }
    by_wait true (Sleep ticks) waits free = record { same = refl; wait = less-still ticks free }
    by_wait false Char waits free = record { same = refl; wait = free }
    by_wait true Char waits free = record { same = refl; wait = free }
    by_wait false Line waits free = record { same = refl; wait = free }
    by_wait true Line waits free = record { same = refl; wait = free }
    by_wait false (Room more) waits free = record { same = refl; wait = free }
    by_wait true (Room more) waits free = record { same = refl; wait = free }
    by_wait false (Queue limit ac) waits free = record { same = refl; wait = free-ticked w n free }
    by_wait true (Queue limit ac) waits free = absurd (both_ways (is_waiting_job w.requests n) free waits)

-- a job and one that waits for the same
same-ticked : (y : World) (n : ℕ) (i : Job) (b : Bool) (held : Wait) → is_room held ≡ false
    → IsLikeJob y n (limited_job b (record i { wait = ticked_wait held })) (limited_job b (record i { stop = lifted_stop i.stop; wait = ticked_wait held }))
same-ticked y n i false Nothing e = record { same = refl; wait = refl }
same-ticked y n i true Nothing e = record { same = refl; wait = refl }
same-ticked y n i false (Sleep ticks) e = record { same = refl; wait = refl }
same-ticked y n i true (Sleep ticks) e = record { same = refl; wait = refl }
same-ticked y n i false Char e = record { same = refl; wait = refl }
same-ticked y n i true Char e = record { same = refl; wait = refl }
same-ticked y n i false Line e = record { same = refl; wait = refl }
same-ticked y n i true Line e = record { same = refl; wait = refl }
same-ticked y n i b (Room places) e = absurd (both_ways true e refl)
same-ticked y n i false (Queue limit ac) e = record { same = refl; wait = refl }
same-ticked y n i true (Queue limit ac) e =
    by_pair (IsLikeJob y n) (limit == 1) (at_error_return (code_of TimedOut) ac (record i { wait = Queue limit ac }))
    (record i { wait = Queue (limit - 1) ac }) (at_error_return (code_of TimedOut) ac (record i { stop = lifted_stop i.stop; wait = Queue limit ac }))
    (record i { stop = lifted_stop i.stop; wait = Queue (limit - 1) ac }) (record { same = refl; wait = refl }) (record { same = refl; wait = refl })

plain-ticked : (w : World) (n : ℕ) (i j : Job) (b : Bool) (held : Wait) → is_room held ≡ false → i.wait ≡ held → j.wait ≡ held
    → j ≡ record i { stop = lifted_stop i.stop; wait = j.wait } → IsLikeJob (tick w) n (limited_job b (ticked_job i)) (limited_job b (ticked_job j))
plain-ticked w n i j b held plain is e same =
    let both : j ≡ record i { stop = lifted_stop i.stop; wait = i.wait } =
    same ∙ ap (λ (x : Wait). record i { stop = lifted_stop i.stop; wait = x }) (e ∙ sym is) in
    subst (λ (x : Job). IsLikeJob (tick w) n (limited_job b (ticked_job i)) (limited_job b (ticked_job x))) (sym both)
    (subst (λ (x : Wait). IsLikeJob (tick w) n (limited_job b (record i { wait = ticked_wait x })) (limited_job b (record i { stop = lifted_stop i.stop; wait = ticked_wait x })))
    (sym is) (same-ticked (tick w) n i b held plain))

job-ticked : (w : World) (n : ℕ) (i j : Job) → IsLikeJob w n i j → IsLikeJob (tick w) n (later_job w n i) (later_job w n j)
job-ticked w n i j h = by_wait i.wait refl h.wait
  where
    by_wait : (held : Wait) → i.wait ≡ held → IsLikeWait w n i.line held j.wait → IsLikeJob (tick w) n (later_job w n i) (later_job w n j)
    by_wait Nothing is e = plain-ticked w n i j (is_waiting_job w.requests n) Nothing refl is e h.same
    by_wait (Sleep ticks) is e = plain-ticked w n i j (is_waiting_job w.requests n) (Sleep ticks) refl is e h.same
    by_wait Char is e = plain-ticked w n i j (is_waiting_job w.requests n) Char refl is e h.same
    by_wait Line is e = plain-ticked w n i j (is_waiting_job w.requests n) Line refl is e h.same
    by_wait (Room places) is e = roomy-ticked w n places i j (is_waiting_job w.requests n) refl is h.same e
    by_wait (Queue limit ac) is e = plain-ticked w n i j (is_waiting_job w.requests n) (Queue limit ac) refl is e h.same

slots-ticked : (w : World) (n : ℕ) (o p : Option Job) → IsLikeSlot w n o p
    → IsLikeSlot (tick w) n (option_map (limited_job (is_waiting_job w.requests n)) (option_map ticked_job o))
    (option_map (limited_job (is_waiting_job w.requests n)) (option_map ticked_job p))
slots-ticked w n None None h = h
slots-ticked w n None (Some j) h = h
slots-ticked w n (Some i) None h = h
slots-ticked w n (Some i) (Some j) h = job-ticked w n i j h

-- the same limits end
ends-alike : (w : World) (n : ℕ) (o p : Option Job) → IsLikeSlot w n o p
    → is_waiting_job w.requests n && is_last_tick (option_map ticked_job o) ≡ is_waiting_job w.requests n && is_last_tick (option_map ticked_job p)
ends-alike w n None None h = refl
ends-alike w n None (Some j) h = absurd h
ends-alike w n (Some i) None h = absurd h
ends-alike w n (Some i) (Some j) h = by_wait i.wait h.wait
  where
    by_over : (wait : Wait) → holds w.lines w.requests n i.line wait ≡ false
        → is_waiting_job w.requests n && false ≡ is_waiting_job w.requests n && (limit_of (ticked_wait wait) == 1)
    by_over Nothing free = refl
    by_over (Sleep ticks) free = refl
    by_over Char free = refl
    by_over Line free = refl
    by_over (Room places) free = refl
    by_over (Queue limit ac) free = rw free refl

    by_wait : (held : Wait) → IsLikeWait w n i.line held j.wait
        → is_waiting_job w.requests n && (limit_of (ticked_wait held) == 1) ≡ is_waiting_job w.requests n && (limit_of (ticked_wait j.wait) == 1)
    by_wait Nothing e = ap (λ (x : Wait). is_waiting_job w.requests n && (limit_of (ticked_wait x) == 1)) (sym e)
    by_wait (Sleep ticks) e = ap (λ (x : Wait). is_waiting_job w.requests n && (limit_of (ticked_wait x) == 1)) (sym e)
    by_wait Char e = ap (λ (x : Wait). is_waiting_job w.requests n && (limit_of (ticked_wait x) == 1)) (sym e)
    by_wait Line e = ap (λ (x : Wait). is_waiting_job w.requests n && (limit_of (ticked_wait x) == 1)) (sym e)
    by_wait (Room places) e = by_over j.wait e
    by_wait (Queue limit ac) e = ap (λ (x : Wait). is_waiting_job w.requests n && (limit_of (ticked_wait x) == 1)) (sym e)

abbrev old_slots : World → List (Option Job)
old_slots w = map (option_map ticked_job) w.table.jobs

pub like-ticked : (s : S) (v : V) → IsLike s v → IsLike (ticked s).state (ticked_on v)
like-ticked s v h =
    let w : World = v.machine.world in
    let r : World = s.world in
    let same : w.requests ≡ r.requests = requests-like s v h in
    let ends : (m : ℕ) → expires w.requests (old_slots w) m ≡ expires r.requests (old_slots r) m = λ m.
    ap (λ o. is_waiting_job w.requests m && is_last_tick o) (at-ticked w.table.jobs m)
    ∙ sym (ends-alike w m (job_at r.table.jobs m) (job_at w.table.jobs m) (h.jobs m))
    ∙ ap (λ rs. is_waiting_job rs m && is_last_tick (option_map ticked_job (job_at r.table.jobs m))) same
    ∙ ap (λ o. is_waiting_job r.requests m && is_last_tick o) (sym (at-ticked r.table.jobs m)) in
    let left : (tick w).requests ≡ (tick r).requests =
    withdrawn-alike w.requests (expires w.requests (old_slots w)) (expires r.requests (old_slots r)) ends
    ∙ ap (λ rs. withdrawn_where rs (expires r.requests (old_slots r))) same in
    let time : ℕ = (v.machine.time + 1) % TICKS_A_DAY in
    record {
      jobs = λ n. subst (λ o. IsLikeSlot (tick w) n o (job_at (tick w).table.jobs n))
          (ap (λ rs. option_map (limited_job (is_waiting_job rs n)) (option_map ticked_job (job_at r.table.jobs n))) same ∙ sym (slot-ticked r n))
          (subst (λ o. IsLikeSlot (tick w) n (option_map (limited_job (is_waiting_job w.requests n)) (option_map ticked_job (job_at r.table.jobs n))) o)
          (sym (slot-ticked w n)) (slots-ticked w n (job_at r.table.jobs n) (job_at w.table.jobs n) (h.jobs n)));
      inputs = h.inputs;
      outputs = h.outputs;
      rest = ap (λ (m : S). record m { world = record m.world { table = (tick w).table; requests = (tick w).requests }; time = time }) h.rest
          ∙ ap (λ rs. record s { world = record r { table = (tick w).table; lines = w.lines; requests = rs }; time = time }) left;
    }

-- a tick that counts for no job
each-still : (waits : ℕ → Bool) (m : ℕ) (slots : List (Option Job))
    → ((k i : ℕ) → i ≡ m + k → option_map (limited_job (waits i)) (option_map ticked_job (job_at slots k)) ≡ job_at slots k)
    → limited_from waits m (map (option_map ticked_job) slots) ≡ slots
each-still waits m [] still = refl
each-still waits m (o ∷ slots) still =
    ap (λ x. x ∷ limited_from waits (m + 1) (map (option_map ticked_job) slots)) (still 0 m (omega arith))
    ∙ ap (λ l. o ∷ l) (each-still waits (m + 1) slots (λ k i e. still (suc k) i (omega (arith, e))))

-- what is known of a wait for which ticks do not count
still-wait : (w : World) (n line : ℕ) (j : Job) (wait : Wait) → is_sleep (cond (holds w.lines w.requests n line wait) wait Nothing) ≡ false
    → limited_job (is_waiting_job w.requests n) (record j { wait = ticked_wait wait }) ≡ record j { wait = wait }
still-wait w n line j wait still = by_wait (is_waiting_job w.requests n) refl wait still
  where
    asleep : (b : Bool) (ticks : ℕ) → nat_lt 0 ticks ≡ b → is_sleep (cond b (Sleep ticks) Nothing) ≡ false → ticks - 1 ≡ ticks
    asleep true ticks is e = absurd (both_ways (nat_lt 0 ticks) e is)
    asleep false ticks is e = over ticks is

    by_wait : (b : Bool) → is_waiting_job w.requests n ≡ b → (wait : Wait) → is_sleep (cond (holds w.lines w.requests n line wait) wait Nothing) ≡ false
        → limited_job b (record j { wait = ticked_wait wait }) ≡ record j { wait = wait }
    by_wait false is Nothing e = refl
    by_wait true is Nothing e = refl
    by_wait false is (Sleep ticks) e = ap (λ t. record j { wait = Sleep t }) (asleep (nat_lt 0 ticks) ticks refl e)
    by_wait true is (Sleep ticks) e = ap (λ t. record j { wait = Sleep t }) (asleep (nat_lt 0 ticks) ticks refl e)
    by_wait false is Char e = refl
    by_wait true is Char e = refl
    by_wait false is Line e = refl
    by_wait true is Line e = refl
    by_wait false is (Room places) e = refl
    by_wait true is (Room places) e = refl
    by_wait false is (Queue limit ac) e = refl
    by_wait true is (Queue limit ac) e =
        let none : nat_lt 0 limit ≡ false = sym (ap (λ b. is_sleep (cond b (Queue limit ac) Nothing)) is) ∙ e in
        subst (λ l. limited_job true (record j { wait = Queue l ac }) ≡ record j { wait = Queue l ac }) (none-limit limit none) refl

untimed : (s : S) (n : ℕ) → Safe s → is_timed s.world ≡ false → (j : Job) → job_at s.world.table.jobs n ≡ Some j
    → is_sleep (cond (holds s.world.lines s.world.requests n j.line j.wait) j.wait Nothing) ≡ false
untimed s n h still j at =
    sym (ap (is_counted_of s.world n) at)
    ∙ false_from_ne_true _ (λ counts. both_ways (is_timed s.world) still
    (any-job (is_counted s.world) n (is_job s.world.table.jobs s.world.cores n h.housed (ap is_some at)) counts))

no-limits : (s : S) → Safe s → is_timed s.world ≡ false → NoLimits s.world
no-limits s h still m = by_slot (job_at s.world.table.jobs m) refl
  where
    by_none : (b : Bool) → b && nat_lt 0 0 ≡ false
    by_none true = refl
    by_none false = refl

    by_queue : (b : Bool) (limit ac : ℕ) → is_sleep (cond b (Queue limit ac) Nothing) ≡ false → b && nat_lt 0 limit ≡ false
    by_queue true limit ac e = e
    by_queue false limit ac e = refl

    by_wait : (line : ℕ) (wait : Wait) → is_sleep (cond (holds s.world.lines s.world.requests m line wait) wait Nothing) ≡ false
        → is_waiting_job s.world.requests m && nat_lt 0 (limit_of wait) ≡ false
    by_wait line Nothing e = by_none (is_waiting_job s.world.requests m)
    by_wait line (Sleep ticks) e = by_none (is_waiting_job s.world.requests m)
    by_wait line Char e = by_none (is_waiting_job s.world.requests m)
    by_wait line Line e = by_none (is_waiting_job s.world.requests m)
    by_wait line (Room places) e = by_none (is_waiting_job s.world.requests m)
    by_wait line (Queue limit ac) e = by_queue (is_waiting_job s.world.requests m) limit ac e

    by_slot : (o : Option Job) → job_at s.world.table.jobs m ≡ o → is_waiting_job s.world.requests m && nat_lt 0 (limit_in o) ≡ false
    by_slot None is = by_none (is_waiting_job s.world.requests m)
    by_slot (Some j) is = by_wait j.line j.wait (untimed s m h still j is)

tick-still : (s : S) → Safe s → is_timed s.world ≡ false → tick s.world ≡ record s.world { table = record s.world.table { left = s.world.table.left - 1 } }
tick-still s h still =
    let w : World = s.world in
    ap (λ rs. record w { table = record w.table { jobs = limited_from (is_waiting_job w.requests) 0 (old_slots w); left = w.table.left - 1 }; requests = rs })
    (withdrawn-none w.requests (expires w.requests (old_slots w)) (no-end w (no-limits s h still)))
    ∙ ap (λ l. record w { table = record w.table { jobs = l; left = w.table.left - 1 } })
    (each-still (is_waiting_job w.requests) 0 w.table.jobs
    (λ k i e. (let is : k ≡ i = omega (arith, e) in
    subst (λ m. option_map (limited_job (is_waiting_job w.requests m)) (option_map ticked_job (job_at w.table.jobs k)) ≡ job_at w.table.jobs k) is
    (by_slot k (job_at w.table.jobs k) refl))))
  where
    by_slot : (k : ℕ) (o : Option Job) → job_at s.world.table.jobs k ≡ o
        → option_map (limited_job (is_waiting_job s.world.requests k)) (option_map ticked_job o) ≡ o
    by_slot k None is = refl
    by_slot k (Some j) is = ap Some (still-wait s.world k j.line j j.wait (untimed s k h still j is))

pub like-still : (s : S) (v : V) → IsSound v → IsLike s v → is_timed v.machine.world ≡ false → IsLike (ticked s).state v
like-still s v sound h still =
    let w : World = v.machine.world in
    let time : ℕ = (v.machine.time + 1) % TICKS_A_DAY in
    let later : World = record w { table = record w.table { left = w.table.left - 1 } } in
    let g : IsLike (ticked s).state (record v { machine = record v.machine { world = later; time = time } }) =
    subst (λ (u : World). IsLike (ticked s).state (record v { machine = record v.machine { world = u; time = time } })) (tick-still v.machine sound still) (like-ticked s v h) in
    record {
      jobs = λ n. stays-like later w n (job_at (ticked s).state.world.table.jobs n) (job_at w.table.jobs n) (λ j e wait free. free) (g.jobs n);
      inputs = g.inputs;
      outputs = g.outputs;
      rest = ap (λ (m : S). record m { world = record m.world { table = w.table }; time = v.machine.time }) g.rest;
    }
