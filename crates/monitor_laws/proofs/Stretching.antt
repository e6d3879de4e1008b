-- Rounds of one job that only computes, made at once, are those rounds one after another.
use Rattle.std.proofs.Common.{◌≡◌, ◌≢◌, ◌<◌, ◌≤◌, ◌^◌, ◌∙◌, sym, ap, subst, ℕ, zero, suc, ◌+◌, ◌-◌, ◌==◌, ◌&&◌, not, nat_lt, Bool, true, false, cond}
use Rattle.std.proofs.Common.{inl, inr, List, [], length, Option, Some, None, is_none, is_some, slice_set, refl, arith, IsSome}
use Rattle.std.proofs.lemmas.Bool.{and_parts, cases_eq, eq-eqb, false≢true, lt-ltb}
use Rattle.std.proofs.lemmas.List.{get_or-set_other, get_or-set_same, set-set}
use Rattle.std.specs.List.{list_any}
use Rattle.ka_cpu.specs.Effects.{After, EndsAs}
use Rattle.ka_cpu.specs.Exec.{exec}
use Rattle.ka_cpu.specs.Runs.{Ran, is_done, ran, ran_on}
use Rattle.ka_state.specs.declared.outcome.Outcome.{Outcome}
use Rattle.ka_state.specs.declared.outcome.Outcome.TheVariants as outcome
use Rattle.ka_state.specs.declared.registers.Regs.{Regs}
use Rattle.ka_cpu.proofs.ExecLaws.{by_test, ends-exec, length-exec}
use Rattle.core_store.specs.Cores.{Cores, core_of, with_core}
use Rattle.lock_queue.specs.declared.request.Request.{Request}
use Rattle.lock_queue.specs.Jobs.{pending, withdrawn_where}
use Rattle.job_sched.specs.Changes.{chosen, left_after, renewed, with_job}
use Rattle.job_sched.specs.Jobs.{takes_interrupts}
use Rattle.job_sched.specs.Ready.{first_from, is_ready, is_ready_job, next_job, after as after_number}
use Rattle.job_sched.specs.Spans.{Undisturbed, is_alone, is_open}
use Rattle.job_sched.specs.Tables.{Table, is_sleeper, job_at}
use Rattle.job_sched.specs.Times.{later}
use Rattle.job_sched.specs.declared.job.Interrupts.{Interrupts}
use Rattle.job_sched.specs.declared.job.Job.{Job}
use Rattle.job_sched.specs.Limits.{expires}
use Rattle.job_sched.proofs.Limits.{expires-awake, table-awake, withdrawn-none}
use Rattle.job_sched.proofs.Quanta.{left-before}
use Rattle.job_sched.proofs.Turns.{after-itself, same-found}
use Rattle.job_sched.proofs.Sleepers.{awake-set, ticked-awake}
use Rattle.word36.specs.declared.sizes.TheConstants.{JOBS}
use Rattle.uuo_calls.specs.Performed.{World}
use Rattle.machine.specs.declared.event.Answer.TheVariants.{Ran as RanAnswer}
use Rattle.machine.specs.declared.event.Event.TheVariants.{Step}
use Rattle.machine.specs.Machine.{S, Made, after, after_turn, answers, awake, called, happens, limited, stepped, with_turn, ran as ran_job}
use Rattle.machine.specs.Rounds.{rounds, runs_in}
use Rattle.machine.specs.Safe.{Safe}
use Rattle.machine.specs.Stretches.{Stretch, Stretched, ended, run_out, runs_on, stretch_of, stretched, table_after, ticked_if, time_after}
use Rattle.machine.specs.Turns.{Turn, both, concluded, due, executed, turn_of, turned}
use Rattle.monitor_laws.proofs.Rounding.{rounds-more, runs-more_rounds}
use Rattle.monitor_laws.proofs.Turning.{some-concluded, some-turned, some-with_core, wait-concluded, wait-turned}
use Rattle.monitor_laws.proofs.Safety.{Runs, runs-next, next-ready}

-- instructions

-- an outcome that is done, in its record
done-is : (o : Outcome) → is_done o ≡ true → outcome.Done ≡ o
done-is outcome.Done d = refl
done-is (outcome.Stop r) d = absurd (cc)
done-is (outcome.Call kind ac e) d = absurd (cc)

pub done-after : (a : After) → is_done a.outcome ≡ true → record { regs = a.regs; core = a.core; outcome = outcome.Done } ≡ a
done-after a d = ap (λ o. record { regs = a.regs; core = a.core; outcome = o }) (done-is a.outcome d)

ran-last : (a : After) → is_done a.outcome ≡ true → ran_on 1 (ran 0 a.regs a.core) ≡ record { steps = 1; after = a }
unfolding ran
ran-last a d = ap (λ (b : After). record { steps = 1; after = b }) (done-after a d)

pub ran-one : (g : Regs) (core : List ℕ) → ran 1 g core ≡ record { steps = 1; after = exec g core }
unfolding ran
ran-one g core =
    by_test (λ (r : Ran). r ≡ record { steps = 1; after = exec g core }) (is_done (exec g core).outcome) _ _
    (λ d. ran-last (exec g core) d) (λ _. refl)

pub ran-some : (k : ℕ) (g : Regs) (core : List ℕ) → 1 ≤ (ran (suc k) g core).steps
unfolding ran
ran-some k g core = by_test (λ (r : Ran). 1 ≤ r.steps) (is_done (exec g core).outcome) _ _ (λ _. omega arith) (λ _. omega arith)

pub ran-most : (k : ℕ) (g : Regs) (core : List ℕ) → (ran k g core).steps ≤ k
unfolding ran
ran-most zero g core = omega arith
ran-most (suc k) g core =
    by_test (λ (r : Ran). r.steps ≤ suc k) (is_done (exec g core).outcome) _ _
    (λ _. let h = ran-most k (exec g core).regs (exec g core).core in omega arith) (λ _. omega arith)

pub ran-least : (k : ℕ) (g : Regs) (core : List ℕ) → 1 ≤ k → 1 ≤ (ran k g core).steps
ran-least zero g core some = absurd (omega (arith, some))
ran-least (suc k) g core some = ran-some k g core

pub ran-length : (k : ℕ) (g : Regs) (core : List ℕ) → length (ran k g core).after.core ≡ length core
unfolding ran
ran-length zero g core = refl
ran-length (suc k) g core =
    by_test (λ (r : Ran). length r.after.core ≡ length core) (is_done (exec g core).outcome) _ _
    (λ _. ran-length k (exec g core).regs (exec g core).core ∙ length-exec g core) (λ _. length-exec g core)

-- the fields of a call
abbrev pub HasFields : Outcome → Type 0
HasFields (outcome.Call kind ac e) = (ac < 16) × (e < 2 ^ 18)
HasFields outcome.Done = Unit {0}
HasFields (outcome.Stop r) = Unit {0}

fields-ends : (o : Outcome) (g h : Regs) (core rest : List ℕ) → EndsAs o g core h rest → HasFields o
fields-ends (outcome.Call kind ac e) g h core rest x = (x.0, x.1)
fields-ends outcome.Done g h core rest x = tt
fields-ends (outcome.Stop r) g h core rest x = tt

pub ran-fields : (k : ℕ) (g : Regs) (core : List ℕ) → HasFields (ran k g core).after.outcome
unfolding ran
ran-fields zero g core = tt
ran-fields (suc k) g core =
    by_test (λ (r : Ran). HasFields r.after.outcome) (is_done (exec g core).outcome) _ _
    (λ _. ran-fields k (exec g core).regs (exec g core).core)
    (λ _. fields-ends (exec g core).outcome g (exec g core).regs core (exec g core).core (ends-exec g core))

-- a turn of one round

stretched-one : (n : ℕ) (j : Job) (cores : Cores) (requests : List Request) (o : Option (ℕ × ℕ))
    → stretched n 1 j cores requests o ≡ record { turn = turned n j cores requests o; rounds = 1 }
stretched-one n j cores requests (Some x) = refl
stretched-one n j cores requests None =
    ap (λ (r : Ran). record { turn = executed n j cores requests r.after; rounds = r.steps }) (ran-one j.regs (core_of cores n))

pub stretch-one : (n : ℕ) (j : Job) (cores : Cores) (requests : List Request)
    → stretch_of n 1 j cores requests ≡ record { turn = turn_of n j cores requests; rounds = 1 }
stretch-one n j cores requests = stretched-one n j cores requests (due j.interrupts (pending requests n))

pub table-none : (t : Table) (quantum : ℕ) (ticking : Bool) → table_after t quantum ticking 0 ≡ t
table-none t quantum false = refl
table-none t quantum true = refl

time-none : (time : ℕ) (ticking : Bool) → time_after time ticking 0 ≡ time
time-none time false = refl
time-none time true = refl

ended-none : (w : World) (time quantum n : ℕ) (ticking : Bool) (t : Turn) → ended w time quantum n ticking 0 t ≡ after_turn w time n t
ended-none w time quantum n ticking t =
    ap (λ (u : Table). called (record (with_turn w n t) { table = u }) (time_after time ticking 0) n t.call)
    (table-none (with_turn w n t).table quantum ticking)
    ∙ ap (λ (x : ℕ). called (with_turn w n t) x n t.call) (time-none time ticking)

-- one round of a job is its step
pub runs-one : (w : World) (time quantum n : ℕ) (ticking : Bool) (o : Option Job)
    → runs_on w time quantum n 1 ticking o ≡ record { world = ran_job w time n o; time = time; rounds = 1 }
runs-one w time quantum n ticking None = refl
runs-one w time quantum n ticking (Some j) =
    let t = turn_of n (awake j) w.cores w.requests in
    ap
    (λ (x : Stretch). record {
      world = ended w time quantum n ticking (x.rounds - 1) x.turn;
      time = time_after time ticking (x.rounds - 1);
      rounds = x.rounds;
    }) (stretch-one n (awake j) w.cores w.requests)
    ∙ ap (λ (v : World). record { world = v; time = time_after time ticking 0; rounds = 1 }) (ended-none w time quantum n ticking t)
    ∙ ap (λ (x : ℕ). record { world = after_turn w time n t; time = x; rounds = 1 }) (time-none time ticking)

-- a stretch leaves a job its core, and what it waits for
some-stretched : (n k : ℕ) (j : Job) (cores : Cores) (requests : List Request) (o : Option (ℕ × ℕ)) → core_of cores n ≢ []
    → core_of (stretched n k j cores requests o).turn.cores n ≢ []
some-stretched n k j cores requests None some =
    some-concluded _ _ requests (ran k j.regs (core_of cores n)).after.outcome n (some-with_core cores n _ some (ran-length k j.regs (core_of cores n)))
some-stretched n k j cores requests (Some x) some = some-turned n j cores requests (Some x) some

pub some-stretch : (n k : ℕ) (j : Job) (cores : Cores) (requests : List Request) → core_of cores n ≢ []
    → core_of (stretch_of n k j cores requests).turn.cores n ≢ []
some-stretch n k j cores requests some = some-stretched n k j cores requests (due j.interrupts (pending requests n)) some

wait-stretched : (n k : ℕ) (j : Job) (cores : Cores) (requests : List Request) (o : Option (ℕ × ℕ)) → (stretched n k j cores requests o).turn.job.wait ≡ j.wait
wait-stretched n k j cores requests None = wait-concluded _ _ requests (ran k j.regs (core_of cores n)).after.outcome
wait-stretched n k j cores requests (Some x) = wait-turned n j cores requests (Some x)

pub wait-stretch : (n k : ℕ) (j : Job) (cores : Cores) (requests : List Request) → (stretch_of n k j cores requests).turn.job.wait ≡ j.wait
wait-stretch n k j cores requests = wait-stretched n k j cores requests (due j.interrupts (pending requests n))

-- and is one round at least and no more than it may take
rounds-stretched : (n k : ℕ) (j : Job) (cores : Cores) (requests : List Request) (o : Option (ℕ × ℕ)) → 1 ≤ k → 1 ≤ (stretched n k j cores requests o).rounds
rounds-stretched n zero j cores requests o some = absurd (omega arith)
rounds-stretched n (suc k) j cores requests None some = ran-some k j.regs (core_of cores n)
rounds-stretched n (suc k) j cores requests (Some x) some = omega arith

pub rounds-stretch : (n k : ℕ) (j : Job) (cores : Cores) (requests : List Request) → 1 ≤ k → 1 ≤ (stretch_of n k j cores requests).rounds
rounds-stretch n k j cores requests some = rounds-stretched n k j cores requests (due j.interrupts (pending requests n)) some

-- rounds of a job that only computes

-- the state after a tick more or less
round-is : (s : S) (ticking : Bool) → after (rounds 1 ticking) s ≡ ticked_if ticking (happens s Step).state
round-is s true = refl
round-is s false = refl

-- the state before the last tick of i + 1 rounds, whose last instruction left this
abbrev pub ended_by : S → ℕ → Job → Bool → ℕ → After → S
ended_by s n j ticking i a =
    record s { world = ended s.world s.time s.quantum n ticking i (executed n (awake j) s.world.cores s.world.requests a); time = time_after s.time ticking i }

-- the table between two rounds, of which i + 1 went by, where ticks go by
abbrev pub between : Table → ℕ → Bool → ℕ → Table
between t quantum true i = record t { left = left_after quantum t.left i - 1 }
between t quantum false i = t

-- the state between two rounds, of which i + 1 went by
abbrev pub going : S → ℕ → Job → Bool → ℕ → Regs → List ℕ → S
going s n j ticking i g core =
    record s {
      world = record s.world {
        table =
            between (with_job s.world.table n (Some (record (awake j) { regs = g }))) s.quantum ticking i;
        cores = with_core s.world.cores n core;
      };
      time = time_after s.time ticking (suc i);
    }

-- a state where the job just became the one that runs, and goes on for so many rounds
pub record Computes (s : S) (n : ℕ) (j : Job) (ticking alone : Bool) (most : ℕ) : Type 0 where
  pub current : s.world.table.current ≡ n
  pub quantum : 0 < s.world.table.left
  pub lasts : ticking ≡ true → alone ≡ false → most ≤ s.world.table.left
  pub only : alone ≡ true → first_from (is_ready s.world.table.jobs s.world.lines s.world.requests) JOBS (after_number n) ≡ Some n
  pub quiet : ticking ≡ true → list_any is_sleeper s.world.table.jobs ≡ false
  pub ready : is_ready s.world.table.jobs s.world.lines s.world.requests n ≡ true
  pub closed : takes_interrupts j.interrupts ≡ false
  pub stop : is_none j.stop ≡ true
  pub place : n < length s.world.table.jobs
  pub core : n < length s.world.cores.cores

-- a state whose next step is the job's, from these registers and core
pub record Poised (s : S) (n : ℕ) (j : Job) (ticking : Bool) (i : ℕ) (g : Regs) (core : List ℕ) (t : S) : Type 0 where
  pub step : happens t Step ≡ record { state = ended_by s n j ticking i (exec g core); answer = RanAnswer n }

pub none-due : (i : Interrupts) (id : Option ℕ) → takes_interrupts i ≡ false → due i id ≡ None
none-due i id closed = by_parts i.on i.in_progress i.vector id closed
  where
    by_parts : (on in_progress : Bool) (vector : Option ℕ) (id : Option ℕ) → (on && not in_progress && is_some vector) ≡ false
        → cond (on && not in_progress) (both vector id) None ≡ None
    by_parts false in_progress vector id e = refl
    by_parts true true vector id e = refl
    by_parts true false None id e = refl
    by_parts true false (Some v) id e = absurd (cc)

-- the job that runs, with these registers
abbrev pub with_regs : Job → Regs → Job
with_regs j g = record (awake j) { regs = g }

-- a state with these parts
abbrev state_of : S → ℕ → List (Option Job) → ℕ → List ℕ → ℕ → S
state_of s n jobs left core time =
    record s {
      world = record s.world {
        table = record { jobs = jobs; current = s.world.table.current; left = left };
        cores = with_core s.world.cores n core;
      };
      time = time;
    }

-- a tick of the limits where nobody sleeps and no limit runs
quiet-limited : (w : World) → list_any is_sleeper w.table.jobs ≡ false → limited w ≡ w
quiet-limited w none =
    ap (λ (t : Table). record w { table = t; requests = withdrawn_where w.requests (expires w.requests w.table.jobs) }) (table-awake w.table w.requests none)
    ∙ ap (λ (l : List Request). record w { requests = l })
    (withdrawn-none w.requests (expires w.requests w.table.jobs) (expires-awake w.requests w.table.jobs none))

-- a tick after a step that is done
pub tick-done : (s : S) (n : ℕ) (j : Job) (ticking : Bool) (i : ℕ) (g : Regs) (core : List ℕ) →
    (ticking ≡ true → list_any is_sleeper s.world.table.jobs ≡ false)
    → ticked_if ticking (ended_by s n j ticking i (record { regs = g; core = core; outcome = outcome.Done })) ≡ going s n j ticking i g core
tick-done s n j false i g core awake = refl
tick-done s n j true i g core awake =
    let jobs = slice_set s.world.table.jobs n (Some (with_regs j g)) in
    let none : list_any is_sleeper jobs ≡ false = awake-set s.world.table.jobs n (Some (with_regs j g)) (awake refl) refl in
    let left : ℕ = left_after s.quantum s.world.table.left i - 1 in
    let time : ℕ = later s.time (suc i) in
    ap (λ (l : List (Option Job)). record s { world = limited (state_of s n l left core time).world; time = time }) (ticked-awake jobs none)
    ∙ ap (λ (w : World). record s { world = w; time = time }) (quiet-limited (state_of s n jobs left core time).world none)

-- a step whose job is known, and takes no interrupt
step-known : (t : S) (n : ℕ) (j : Job) → next_job t.world.table t.world.lines t.world.requests ≡ Some n
    → job_at t.world.table.jobs n ≡ Some j
    → takes_interrupts j.interrupts ≡ false
    → happens t Step
    ≡ record {
      state = record t {
        world =
            after_turn (record t.world { table = chosen t.world.table n t.quantum }) t.time n
            (executed n (awake j) t.world.cores t.world.requests (exec j.regs (core_of t.world.cores n)));
      };
      answer = RanAnswer n;
    }
step-known t n j next there closed =
    let w : World = record t.world { table = chosen t.world.table n t.quantum } in
    ap (λ o. stepped t o) next
    ∙ ap (λ (o : Option Job). record { state = record t { world = ran_job w t.time n o }; answer = RanAnswer n }) there
    ∙ ap
    (λ (d : Option (ℕ × ℕ)). record {
      state = record t { world = after_turn w t.time n (turned n (awake j) t.world.cores t.world.requests d) };
      answer = RanAnswer n;
    })
    (none-due j.interrupts (pending t.world.requests n) closed)

-- the first step of the job
pub poised-first : (s : S) (n : ℕ) (j : Job) (ticking : Bool) → next_job s.world.table s.world.lines s.world.requests ≡ Some n
    → job_at s.world.table.jobs n ≡ Some j
    → takes_interrupts j.interrupts ≡ false
    → Poised (record s { world = record s.world { table = chosen s.world.table n s.quantum } }) n j ticking 0 j.regs (core_of s.world.cores n) s
poised-first s n j ticking next there closed =
    let w : World = record s.world { table = chosen s.world.table n s.quantum } in
    let t = executed n (awake j) s.world.cores s.world.requests (exec j.regs (core_of s.world.cores n)) in
    record {
      step = step-known s n j next there closed
          ∙ sym
          (ap
          (λ (v : World). record { state = record s { world = v; time = time_after s.time ticking 0 }; answer = RanAnswer n })
          (ended-none w s.time s.quantum n ticking t)
          ∙ ap (λ (x : ℕ). record { state = record s { world = after_turn w s.time n t; time = x }; answer = RanAnswer n }) (time-none s.time ticking));
    }

-- the current job that is ready is next, and stays chosen, while its quantum lasts
next-current : (t : Table) (w : World) (n : ℕ) (j : Job) → t.current ≡ n → 0 < t.left → job_at t.jobs n ≡ Some (awake j) → is_none j.stop ≡ true
    → next_job t w.lines w.requests ≡ Some n
next-current t w n j is some there stop =
    let lasts : nat_lt 0 t.left ≡ true = lt-ltb 0 t.left some in
    let ready : is_ready t.jobs w.lines w.requests t.current ≡ true =
    ap (λ (m : ℕ). is_ready t.jobs w.lines w.requests m) is ∙ ap (λ (o : Option Job). is_ready_job w.lines w.requests n o) there ∙ ap (λ b. b && true) stop in
    ap
    (λ b. cond (b && is_ready t.jobs w.lines w.requests t.current) (Some t.current)
    (first_from (is_ready t.jobs w.lines w.requests) JOBS (after_number t.current))) lasts
    ∙ ap (λ b. cond b (Some t.current) (first_from (is_ready t.jobs w.lines w.requests) JOBS (after_number t.current))) ready
    ∙ ap (λ (m : ℕ). Some m) is

chosen-current : (t : Table) (n quantum : ℕ) → t.current ≡ n → 0 < t.left → chosen t n quantum ≡ t
chosen-current t n quantum is some =
    ap (λ b. cond b t (record t { current = n; left = quantum })) (both_true (t.current == n) (nat_lt 0 t.left) (eq-eqb t.current n is) (lt-ltb 0 t.left some))
  where
    both_true : (a b : Bool) → a ≡ true → b ≡ true → (a && b) ≡ true
    both_true true b e f = f
    both_true false b e f = absurd (cc)

-- the current job, chosen again, has what is left, or a whole quantum
chosen-again : (t : Table) (n quantum : ℕ) → t.current ≡ n → chosen t n quantum ≡ record t { left = renewed quantum t.left }
chosen-again t n quantum is =
    ap (λ b. cond (b && nat_lt 0 t.left) t (record t { current = n; left = quantum })) (eq-eqb t.current n is) ∙ by_left (nat_lt 0 t.left)
  where
    by_left : (b : Bool) → cond b t (record t { current = n; left = quantum }) ≡ record t { left = cond b t.left quantum }
    by_left true = refl
    by_left false = ap (λ (m : ℕ). record t { current = m; left = quantum }) (sym is)

pub chosen-between : (t : Table) (n quantum : ℕ) (ticking : Bool) (i : ℕ) → t.current ≡ n → 0 < t.left
    → chosen (between t quantum ticking i) n quantum ≡ table_after t quantum ticking (suc i)
chosen-between t n quantum false i is some = chosen-current t n quantum is some
chosen-between t n quantum true i is some = chosen-again (between t quantum true i) n quantum is

-- the job that is found first after itself is next, whatever is left of its quantum
next-only : (t : Table) (w : World) (n : ℕ) → t.current ≡ n
    → first_from (is_ready t.jobs w.lines w.requests) JOBS (after_number n) ≡ Some n
    → next_job t w.lines w.requests ≡ Some n
next-only t w n is only =
    by_test (λ o. o ≡ Some n) (nat_lt 0 t.left && is_ready t.jobs w.lines w.requests t.current) (Some t.current)
    (first_from (is_ready t.jobs w.lines w.requests) JOBS (after_number t.current))
    (λ _. ap (λ (m : ℕ). Some m) is)
    (λ _. ap (λ (m : ℕ). first_from (is_ready t.jobs w.lines w.requests) JOBS (after_number m)) is ∙ only)

-- who is ready where the job goes on
ready-going : (jobs : List (Option Job)) (w : World) (n : ℕ) (k : Job) → n < length jobs → is_ready jobs w.lines w.requests n ≡ true → is_none k.stop ≡ true
    → (m : ℕ) → is_ready (slice_set jobs n (Some (awake k))) w.lines w.requests m ≡ is_ready jobs w.lines w.requests m
ready-going jobs w n k place ready stop m = elim (cases_eq m n) [
  | inl is ↦
      let there : is_ready (slice_set jobs n (Some (awake k))) w.lines w.requests n ≡ true =
      ap (λ (o : Option Job). is_ready_job w.lines w.requests n o) (get_or-set_same jobs n (Some (awake k)) None place) ∙ ap (λ b. b && true) stop in
      ap (λ (i : ℕ). is_ready (slice_set jobs n (Some (awake k))) w.lines w.requests i) is ∙ there
      ∙ sym (ap (λ (i : ℕ). is_ready jobs w.lines w.requests i) is ∙ ready)
  | inr other ↦ ap (λ (o : Option Job). is_ready_job w.lines w.requests m o) (get_or-set_other jobs n m (Some (awake k)) None other)
]

-- what is put in the job's place twice is there once
pub table-twice : (t : Table) (n : ℕ) (o p : Option Job) (quantum : ℕ) (ticking : Bool) (i : ℕ)
    → with_job (table_after (with_job t n o) quantum ticking i) n p ≡ table_after (with_job t n p) quantum ticking i
table-twice t n o p quantum false i = ap (λ (jobs : List (Option Job)). record t { jobs = jobs }) (set-set t.jobs n o p)
table-twice t n o p quantum true i = ap (λ (jobs : List (Option Job)). record t { jobs = jobs; left = left_after quantum t.left i }) (set-set t.jobs n o p)

-- the world in which a job runs on, and its turn there
abbrev start_of : S → ℕ → Bool → ℕ → Option Job → List ℕ → World
start_of s n ticking i o core = record s.world { table = table_after (with_job s.world.table n o) s.quantum ticking i; cores = with_core s.world.cores n core }

abbrev pub turn_in : S → Job → Regs → List (List ℕ) → Outcome → Turn
turn_in s j g cores x = concluded (with_regs j g) (record { cores = cores; free = s.world.cores.free }) s.world.requests x

ended-turn : (s : S) (n : ℕ) (ticking : Bool) (i : ℕ) (o : Option Job) (core : List ℕ) (t : Turn)
    → after_turn (start_of s n ticking i o core) (time_after s.time ticking i) n t ≡ ended s.world s.time s.quantum n ticking i t
ended-turn s n ticking i o core t =
    ap (λ (u : Table). called (record s.world { table = u; requests = t.requests; cores = t.cores }) (time_after s.time ticking i) n t.call)
    (table-twice s.world.table n o (Some t.job) s.quantum ticking i)

ended-again : (s : S) (n : ℕ) (j : Job) (ticking : Bool) (i : ℕ) (o : Option Job) (core : List ℕ) (r : After)
    → after_turn (record s.world {
      table = table_after (with_job s.world.table n o) s.quantum ticking i;
      cores = with_core s.world.cores n core;
    }) (time_after s.time ticking i) n
    (executed n (awake j) (with_core s.world.cores n core) s.world.requests r)
    ≡ ended s.world s.time s.quantum n ticking i (executed n (awake j) s.world.cores s.world.requests r)
ended-again s n j ticking i o core r =
    ap
    (λ (cores : List (List ℕ)). after_turn (start_of s n ticking i o core) (time_after s.time ticking i) n
    (turn_in s j r.regs cores r.outcome)) (set-set s.world.cores.cores n core r.core)
    ∙ ended-turn s n ticking i o core (executed n (awake j) s.world.cores s.world.requests r)

-- the job is next again, as its quantum lasts or no other is ready
pub next-going : (s : S) (n : ℕ) (j : Job) (ticking alone : Bool) (most i : ℕ) (g : Regs) → Computes s n j ticking alone most → suc i < most
    → next_job (between (with_job s.world.table n (Some (with_regs j g))) s.quantum ticking i) s.world.lines s.world.requests ≡ Some n
next-going s n j false alone most i g h more =
    next-current (with_job s.world.table n (Some (with_regs j g))) s.world n (with_regs j g) h.current h.quantum
    (get_or-set_same s.world.table.jobs n (Some (with_regs j g)) None h.place) h.stop
next-going s n j true true most i g h more =
    let k : Job = with_regs j g in
    let jobs = slice_set s.world.table.jobs n (Some k) in
    next-only (between (with_job s.world.table n (Some k)) s.quantum true i) s.world n h.current
    (same-found (is_ready jobs s.world.lines s.world.requests) (is_ready s.world.table.jobs s.world.lines s.world.requests) JOBS (after_number n)
    (ready-going s.world.table.jobs s.world n k h.place h.ready h.stop)
    ∙ h.only refl)
next-going s n j true false most i g h more =
    let k : Job = with_regs j g in
    let lasts : most ≤ s.world.table.left = h.lasts refl refl in
    let left : left_after s.quantum s.world.table.left i ≡ s.world.table.left - i = left-before s.quantum s.world.table.left i (omega arith) in
    next-current (between (with_job s.world.table n (Some k)) s.quantum true i) s.world n k h.current (omega (arith, left))
    (get_or-set_same s.world.table.jobs n (Some k) None h.place) h.stop

-- a later step of the job
poised-going : (s : S) (n : ℕ) (j : Job) (ticking alone : Bool) (most i : ℕ) (g : Regs) (core : List ℕ) → Computes s n j ticking alone most → suc i < most
    → Poised s n j ticking (suc i) g core (going s n j ticking i g core)
poised-going s n j ticking alone most i g core h more =
    let t : S = going s n j ticking i g core in
    let k : Job = record (awake j) { regs = g } in
    let base : Table = with_job s.world.table n (Some k) in
    let there : job_at t.world.table.jobs n ≡ Some k =
    ap (λ (l : List (Option Job)). job_at l n) (jobs-between base ticking i)
    ∙ get_or-set_same s.world.table.jobs n (Some k) None h.place in
    let next : next_job t.world.table t.world.lines t.world.requests ≡ Some n = next-going s n j ticking alone most i g h more in
    let words : core_of t.world.cores n ≡ core = get_or-set_same s.world.cores.cores n core [] h.core in
    record {
      step = step-known t n k next there h.closed
          ∙ ap
          (λ (u : Table). record {
            state = record t {
              world =
                  after_turn (record t.world { table = u }) t.time n
                  (executed n k t.world.cores t.world.requests (exec g (core_of t.world.cores n)));
            };
            answer = RanAnswer n;
          })
          (chosen-between base n s.quantum ticking i h.current h.quantum)
          ∙ ap
          (λ (c : List ℕ). record {
            state = record t {
              world =
                  after_turn (start_of s n ticking (suc i) (Some k) core) t.time n
                  (executed n k t.world.cores t.world.requests (exec g c));
            };
            answer = RanAnswer n;
          }) words
          ∙ ap (λ (w : World). record { state = record t { world = w }; answer = RanAnswer n }) (ended-again s n j ticking (suc i) (Some k) core (exec g core));
    }
  where
    jobs-between : (t : Table) (ticking : Bool) (i : ℕ) → (between t s.quantum ticking i).jobs ≡ t.jobs
    jobs-between t true i = refl
    jobs-between t false i = refl

-- so many rounds, of which each ran, lead to the last one's end
pub record Reached (s : S) (n : ℕ) (j : Job) (ticking : Bool) (i : ℕ) (t : S) (r : Ran) : Type 0 where
  pub state : after (rounds r.steps ticking) t ≡ ticked_if ticking (ended_by s n j ticking (i + (r.steps - 1)) r.after)
  pub count : runs_in (answers (rounds r.steps ticking) t) ≡ r.steps

reached-one : (s : S) (n : ℕ) (j : Job) (ticking : Bool) (i : ℕ) (g : Regs) (core : List ℕ) (t : S) → Poised s n j ticking i g core t
    → Reached s n j ticking i t (record { steps = 1; after = exec g core })
reached-one s n j ticking i g core t p =
    let e : i ≡ i + (1 - 1) = omega arith in
    record {
      state =
          round-is t ticking ∙ ap (λ (m : Made). ticked_if ticking m.state) p.step
          ∙ ap (λ (k : ℕ). ticked_if ticking (ended_by s n j ticking k (exec g core))) e;
      count = runs-more_rounds 0 ticking t n (ap (λ (m : Made). m.answer) p.step);
    }

reached-more : (s : S) (n : ℕ) (j : Job) (ticking : Bool) (i : ℕ) (t u : S) (r : Ran) → 1 ≤ r.steps
    → (happens t Step).answer ≡ RanAnswer n
    → after (rounds 1 ticking) t ≡ u
    → Reached s n j ticking (suc i) u r → Reached s n j ticking i t (ran_on 1 r)
reached-more s n j ticking i t u r some first goes h =
    let e : suc i + (r.steps - 1) ≡ i + (1 + r.steps - 1) = omega arith in
    record {
      state =
          rounds-more r.steps ticking t ∙ ap (λ (v : S). after (rounds r.steps ticking) v) goes ∙ h.state
          ∙ ap (λ (k : ℕ). ticked_if ticking (ended_by s n j ticking k r.after)) e;
      count =
          runs-more_rounds r.steps ticking t n first ∙ ap (λ (v : S). 1 + runs_in (answers (rounds r.steps ticking) v)) goes
          ∙ ap (λ (k : ℕ). 1 + k) h.count;
    }

pub reached : (k : ℕ) (s : S) (n : ℕ) (j : Job) (ticking alone : Bool) (most i : ℕ) (g : Regs) (core : List ℕ) (t : S)
    → i + suc k ≤ most → Computes s n j ticking alone most
    → Poised s n j ticking i g core t
    → Reached s n j ticking i t (ran (suc k) g core)
unfolding ran
reached zero s n j ticking alone most i g core t few h p =
    subst (λ (r : Ran). Reached s n j ticking i t r) (sym (ran-one g core)) (reached-one s n j ticking i g core t p)
reached (suc k) s n j ticking alone most i g core t few h p =
    let x : After = exec g core in
    by_test (λ (r : Ran). Reached s n j ticking i t r) (is_done x.outcome) (ran_on 1 (ran (suc k) x.regs x.core)) (record { steps = 1; after = x })
    (λ d.
    let u : S = going s n j ticking i x.regs x.core in
    let goes : after (rounds 1 ticking) t ≡ u =
    round-is t ticking
    ∙ ap (λ (m : Made). ticked_if ticking m.state) p.step
    ∙ ap (λ (a : After). ticked_if ticking (ended_by s n j ticking i a)) (sym (done-after x d))
    ∙ tick-done s n j ticking i x.regs x.core h.quiet in
    reached-more s n j ticking i t u (ran (suc k) x.regs x.core) (ran-some k x.regs x.core) (ap (λ (m : Made). m.answer) p.step) goes
    (reached k s n j ticking alone most (suc i) x.regs x.core u (omega arith) h (poised-going s n j ticking alone most i x.regs x.core h (omega arith))))
    (λ _. reached-one s n j ticking i g core t p)

-- Rounds in which a job runs on, until before the last tick: their state and their number are those of the rounds one by one.
pub record GoesOn (s : S) (ticking : Bool) (k : ℕ) (x : Stretched) : Type 0 where
  pub state : ticked_if ticking (record s { world = x.world; time = x.time }) ≡ after (rounds x.rounds ticking) s
  pub count : x.rounds ≡ runs_in (answers (rounds x.rounds ticking) s)
  pub least : 1 ≤ x.rounds
  pub most : x.rounds ≤ k

-- the world in which a job becomes the one that runs
abbrev pub chosen_world : S → ℕ → World
chosen_world s n = record s.world { table = chosen s.world.table n s.quantum }

goes-one : (s : S) (n : ℕ) (ticking : Bool) → next_job s.world.table s.world.lines s.world.requests ≡ Some n
    → GoesOn s ticking 1 (record { world = ran_job (chosen_world s n) s.time n (job_at s.world.table.jobs n); time = s.time; rounds = 1 })
goes-one s n ticking next = record {
  state = sym (round-is s ticking ∙ ap (λ o. ticked_if ticking (stepped s o).state) next);
  count = sym (runs-more_rounds 0 ticking s n (ap (λ o. (stepped s o).answer) next));
  least = omega arith;
  most = omega arith;
}

pub jobs-of_chosen : (t : Table) (n quantum : ℕ) → (chosen t n quantum).jobs ≡ t.jobs
jobs-of_chosen t n quantum = by_test (λ (u : Table). u.jobs ≡ t.jobs) ((t.current == n) && nat_lt 0 t.left) _ _ (λ _. refl) (λ _. refl)

-- a job that is next, and that nothing disturbs for so many rounds
pub closed-undisturbed : (s : S) (n most : ℕ) (j : Job) (ticking : Bool)
    → Undisturbed (chosen s.world.table n s.quantum) n ticking (is_alone s.world.table n) most → job_at s.world.table.jobs n ≡ Some j
    → takes_interrupts j.interrupts ≡ false
closed-undisturbed s n most j ticking u there =
    sym (ap (λ (l : List (Option Job)). is_open (job_at l n)) (jobs-of_chosen s.world.table n s.quantum) ∙ ap is_open there) ∙ u.closed

pub computes-undisturbed : (s : S) (n most : ℕ) (j : Job) (ticking : Bool) → Safe s → next_job s.world.table s.world.lines s.world.requests ≡ Some n
    → Undisturbed (chosen s.world.table n s.quantum) n ticking (is_alone s.world.table n) most → job_at s.world.table.jobs n ≡ Some j
    → Computes (record s { world = chosen_world s n }) n j ticking (is_alone s.world.table n) most
computes-undisturbed s n most j ticking safe next u there =
    let runs : Runs s n = runs-next s n safe next in
    let jobs = jobs-of_chosen s.world.table n s.quantum in
    let is_next : is_ready s.world.table.jobs s.world.lines s.world.requests n ≡ true = next-ready s.world.table s.world.lines s.world.requests n next in
    let ready : is_ready_job s.world.lines s.world.requests n (Some j) ≡ true =
    sym (ap (λ (o : Option Job). is_ready_job s.world.lines s.world.requests n o) there) ∙ is_next in
    let places : length (chosen s.world.table n s.quantum).jobs ≡ JOBS + 1 = ap (λ (l : List (Option Job)). length l) jobs ∙ safe.housed.slots in
    let low : n ≤ JOBS = runs.number.1 in
    record {
      current = u.current;
      quantum = u.quantum;
      lasts = u.lasts;
      only =
          λ e. ap (λ (l : List (Option Job)). first_from (is_ready l s.world.lines s.world.requests) JOBS (after_number n)) jobs
          ∙ after-itself s.world.table s.world.lines s.world.requests n next e;
      quiet = u.awake;
      ready = ap (λ (l : List (Option Job)). is_ready l s.world.lines s.world.requests n) jobs ∙ is_next;
      closed = closed-undisturbed s n most j ticking u there;
      stop = (and_parts (is_none j.stop) _ ready).0;
      place = omega (arith, places, low);
      core = omega (arith, safe.housed.store.jobs, low);
    }

goes-some : (s : S) (n k : ℕ) (ticking : Bool) (o : Option Job) → Safe s → next_job s.world.table s.world.lines s.world.requests ≡ Some n
    → Undisturbed (chosen s.world.table n s.quantum) n ticking (is_alone s.world.table n) (suc k) → job_at s.world.table.jobs n ≡ o
    → GoesOn s ticking (suc k) (runs_on (chosen_world s n) s.time s.quantum n (suc k) ticking o)
goes-some s n k ticking None safe next u there = absurd (false≢true (subst (λ (o : Option Job). IsSome o) there (runs-next s n safe next).there))
goes-some s n k ticking (Some j) safe next u there =
    let core = core_of s.world.cores n in
    let base : S = record s { world = chosen_world s n } in
    let closed = closed-undisturbed s n (suc k) j ticking u there in
    let h = computes-undisturbed s n (suc k) j ticking safe next u there in
    let r : Ran = ran (suc k) j.regs core in
    let all : Reached base n j ticking 0 s r =
    reached k base n j ticking (is_alone s.world.table n) (suc k) 0 j.regs core s (omega arith) h (poised-first s n j ticking next there closed) in
    let turn : stretch_of n (suc k) (awake j) s.world.cores s.world.requests
    ≡ record { turn = executed n (awake j) s.world.cores s.world.requests r.after; rounds = r.steps } =
    ap (λ (d : Option (ℕ × ℕ)). stretched n (suc k) (awake j) s.world.cores s.world.requests d) (none-due j.interrupts (pending s.world.requests n) closed) in
    let from : 0 + (r.steps - 1) ≡ r.steps - 1 = omega arith in
    subst (λ (x : Stretch). GoesOn s ticking (suc k) (run_out (chosen_world s n) s.time s.quantum n ticking x)) (sym turn)
    (record {
      state = sym (all.state ∙ ap (λ (i : ℕ). ticked_if ticking (ended_by base n j ticking i r.after)) from);
      count = sym all.count;
      least = ran-some k j.regs core;
      most = ran-most (suc k) j.regs core;
    })

-- the job that is next goes on for some rounds
pub goes-on : (s : S) (n k : ℕ) (ticking : Bool) → Safe s → next_job s.world.table s.world.lines s.world.requests ≡ Some n → 1 ≤ k
    → (2 ≤ k → Undisturbed (chosen s.world.table n s.quantum) n ticking (is_alone s.world.table n) k)
    → GoesOn s ticking k (runs_on (record s.world { table = chosen s.world.table n s.quantum }) s.time s.quantum n k ticking (job_at s.world.table.jobs n))
goes-on s n zero ticking safe next some alone = absurd (omega arith)
goes-on s n (suc zero) ticking safe next some alone =
    subst (λ (x : Stretched). GoesOn s ticking 1 x)
    (sym (runs-one (chosen_world s n) s.time s.quantum n ticking (job_at s.world.table.jobs n))) (goes-one s n ticking next)
goes-on s n (suc (suc k)) ticking safe next some alone = goes-some s n (suc k) ticking (job_at s.world.table.jobs n) safe next (alone (omega arith)) refl

-- what the job that is next leaves
pub rounds-made : (s : S) (n k : ℕ) (ticking : Bool) (w : World) (time made : ℕ) → Safe s
    → next_job s.world.table s.world.lines s.world.requests ≡ Some n
    → 1 ≤ k
    → (2 ≤ k → Undisturbed (chosen s.world.table n s.quantum) n ticking (is_alone s.world.table n) k)
    → record { world = w; time = time; rounds = made }
    ≡ runs_on (record s.world { table = chosen s.world.table n s.quantum }) s.time s.quantum n k ticking (job_at (chosen s.world.table n s.quantum).jobs n)
    → GoesOn s ticking k (record { world = w; time = time; rounds = made })
rounds-made s n k ticking w time made safe next some alone is =
    subst (λ (x : Stretched). GoesOn s ticking k x)
    (sym (is ∙ ap (λ (l : List (Option Job)). runs_on (chosen_world s n) s.time s.quantum n k ticking (job_at l n)) (jobs-of_chosen s.world.table n s.quantum)))
    (goes-on s n k ticking safe next some alone)
