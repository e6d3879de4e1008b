-- The last of some rounds that a job makes at once is a step of its own: what it does and makes known is what the rounds do and
-- make known.
use Rattle.std.proofs.Common.{◌≡◌, ◌<◌, ◌≤◌, ◌∙◌, sym, ap, subst, ℕ, zero, suc, ◌+◌, ◌-◌, Bool, true, false, List, [], length}
use Rattle.std.proofs.Common.{Option, Some, None, slice_set, refl, arith}
use Rattle.std.proofs.lemmas.Bool.{false≢true}
use Rattle.std.proofs.lemmas.List.{get_or-set_same, set-set}
use Rattle.ka_cpu.specs.Effects.{After}
use Rattle.ka_cpu.specs.Exec.{exec}
use Rattle.ka_cpu.specs.Runs.{Ran, is_done, ran, ran_on}
use Rattle.ka_state.specs.declared.outcome.Outcome.TheVariants as outcome
use Rattle.ka_state.specs.declared.registers.Regs.{Regs}
use Rattle.core_store.specs.Cores.{Cores, core_of}
use Rattle.lock_queue.specs.declared.request.Request.{Request}
use Rattle.lock_queue.specs.Jobs.{pending}
use Rattle.job_sched.specs.Changes.{chosen, with_job}
use Rattle.job_sched.specs.Jobs.{takes_interrupts}
use Rattle.job_sched.specs.Spans.{Undisturbed, is_alone}
use Rattle.job_sched.specs.Tables.{Table, job_at}
use Rattle.job_sched.specs.declared.job.Job.{Job}
use Rattle.uuo_calls.specs.Performed.{World}
use Rattle.machine.specs.Between.{next_in}
use Rattle.machine.specs.Machine.{S, after, awake, with_turn}
use Rattle.machine.specs.Rounds.{rounds}
use Rattle.machine.specs.Safe.{Safe}
use Rattle.machine.specs.Stretches.{Stretch, passed, stretch_of, stretched, ticked_if, time_after}
use Rattle.machine.specs.Told.{world_of}
use Rattle.machine.specs.Turns.{Turn, executed, turn_of, turned}
use Rattle.monitor_laws.proofs.Between.{ran-before}
use Rattle.monitor_laws.proofs.Stretching.{Computes, chosen-between, chosen_world, closed-undisturbed, computes-undisturbed, done-after, ended_by, going}
use Rattle.monitor_laws.proofs.Stretching.{next-going, none-due, poised-first, ran-one, reached, stretch-one, table-twice, tick-done, turn_in, with_regs}

-- how a reading of the world, the time and the turn sees the step of job n in a state
abbrev pub seen : {X : Type 0} → (World → ℕ → Turn → X) → S → ℕ → Job → X
seen F t n j =
    F (with_turn (world_of t n) n (turn_of n (awake j) t.world.cores t.world.requests)) t.time
    (turn_of n (awake j) t.world.cores t.world.requests)

-- how it sees a stretch that ends so
abbrev pub seen_at : {X : Type 0} → (World → ℕ → Turn → X) → World → ℕ → ℕ → ℕ → Bool → Stretch → X
seen_at F w time quantum n ticking x =
    F (passed (with_turn w n x.turn) quantum ticking (x.rounds - 1)) (time_after time ticking (x.rounds - 1)) x.turn

-- the step is the last of so many rounds of job n
pub record LastStep {X : Type 0} (F : World → ℕ → Turn → X) (s t : S) (n made : ℕ) (ticking : Bool) (j : Job) : Type 0 where
  pub next : next_in t ≡ Some n
  pub job : Job
  pub there : job_at t.world.table.jobs n ≡ Some job
  pub quantum : t.quantum ≡ s.quantum
  pub blocks : t.blocks ≡ s.blocks
  pub same : seen F t n job ≡ seen_at F (chosen_world s n) s.time s.quantum n ticking (stretch_of n made (awake j) s.world.cores s.world.requests)

turn-closed : (n : ℕ) (j : Job) (cores : Cores) (requests : List Request) → takes_interrupts j.interrupts ≡ false
    → turn_of n (awake j) cores requests ≡ executed n (awake j) cores requests (exec j.regs (core_of cores n))
turn-closed n j cores requests closed =
    ap (λ (d : Option (ℕ × ℕ)). turned n (awake j) cores requests d) (none-due j.interrupts (pending requests n) closed)

seen-going : {X : Type 0} (F : World → ℕ → Turn → X) (s : S) (n : ℕ) (j : Job) (ticking : Bool) (i : ℕ) (g : Regs) (core : List ℕ)
    → s.world.table.current ≡ n → 0 < s.world.table.left → takes_interrupts j.interrupts ≡ false → n < length s.world.cores.cores
    → seen F (going s n j ticking i g core) n (with_regs j g)
    ≡ F (passed (with_turn s.world n (executed n (awake j) s.world.cores s.world.requests (exec g core))) s.quantum ticking (suc i))
    (time_after s.time ticking (suc i)) (executed n (awake j) s.world.cores s.world.requests (exec g core))
seen-going F s n j ticking i g core current some closed place =
    let t : S = going s n j ticking i g core in
    let k : Job = with_regs j g in
    let x : After = exec g core in
    let base : Table = with_job s.world.table n (Some k) in
    let v : Turn = executed n (awake j) s.world.cores s.world.requests x in
    let words : core_of t.world.cores n ≡ core = get_or-set_same s.world.cores.cores n core [] place in
    ap (λ (u : Turn). F (with_turn (world_of t n) n u) t.time u) (turn-closed n k t.world.cores t.world.requests closed)
    ∙ ap
    (λ (c : List ℕ). F (with_turn (world_of t n) n (executed n k t.world.cores t.world.requests (exec g c))) t.time
    (executed n k t.world.cores t.world.requests (exec g c))) words
    ∙ ap
    (λ (cs : List (List ℕ)). F (with_turn (world_of t n) n (turn_in s j x.regs cs x.outcome)) t.time (turn_in s j x.regs cs x.outcome))
    (set-set s.world.cores.cores n core x.core)
    ∙ ap
    (λ (u : Table). F (record s.world { table = with_job u n (Some v.job); requests = v.requests; cores = v.cores }) t.time v)
    (chosen-between base n s.quantum ticking i current some)
    ∙ ap
    (λ (u : Table). F (record s.world { table = u; requests = v.requests; cores = v.cores }) t.time v)
    (table-twice s.world.table n (Some k) (Some v.job) s.quantum ticking (suc i))

passed-none : (w : World) (quantum : ℕ) (ticking : Bool) → passed w quantum ticking 0 ≡ w
passed-none w quantum true = refl
passed-none w quantum false = refl

time-none : (time : ℕ) (ticking : Bool) → time_after time ticking 0 ≡ time
time-none time true = refl
time-none time false = refl

ran-zero : (g : Regs) (core : List ℕ) → ran 0 g core ≡ record { steps = 0; after = record { regs = g; core = core; outcome = outcome.Done } }
unfolding ran
ran-zero g core = refl

-- behind an instruction that is done, and one that is not
ran-done : (n : ℕ) (g : Regs) (core : List ℕ) → is_done (exec g core).outcome ≡ true
    → ran (suc n) g core ≡ ran_on 1 (ran n (exec g core).regs (exec g core).core)
unfolding ran
ran-done n g core d = rw d refl

ran-ended : (n : ℕ) (g : Regs) (core : List ℕ) → is_done (exec g core).outcome ≡ false → ran (suc n) g core ≡ record { steps = 1; after = exec g core }
unfolding ran
ran-ended n g core d = rw d refl

-- one instruction more, behind some that were all done
ran-more : (k : ℕ) (g : Regs) (core : List ℕ) (r : Ran) → r ≡ ran k g core → r.steps ≡ k → is_done r.after.outcome ≡ true
    → ran (suc k) g core ≡ record { steps = suc k; after = exec r.after.regs r.after.core }
ran-more zero g core r is steps d =
    ran-one g core
    ∙ ap (λ (q : Ran). record { steps = 1; after = exec q.after.regs q.after.core }) (sym (is ∙ ran-zero g core))
ran-more (suc k) g core r is steps d =
    by_outcome (is_done (exec g core).outcome) refl
    (λ count over. ran-more k (exec g core).regs (exec g core).core (ran k (exec g core).regs (exec g core).core) refl count over)
  where
    by_outcome : (b : Bool) → is_done (exec g core).outcome ≡ b
        → ((ran k (exec g core).regs (exec g core).core).steps ≡ k
        → is_done (ran k (exec g core).regs (exec g core).core).after.outcome ≡ true
        → ran (suc k) (exec g core).regs (exec g core).core
        ≡ record {
          steps = suc k;
          after =
              exec (ran k (exec g core).regs (exec g core).core).after.regs
              (ran k (exec g core).regs (exec g core).core).after.core;
        })
        → ran (suc (suc k)) g core ≡ record { steps = suc (suc k); after = exec r.after.regs r.after.core }
    by_outcome true done inner =
        let x : After = exec g core in
        let q : Ran = ran k x.regs x.core in
        let same : r ≡ ran_on 1 q = is ∙ ran-done k g core done in
        let count : q.steps ≡ k = omega (arith, ap (λ (p : Ran). p.steps) same, steps) in
        let over : is_done q.after.outcome ≡ true = sym (ap (λ (p : Ran). is_done p.after.outcome) same) ∙ d in
        let more : 1 + suc k ≡ suc (suc k) = omega arith in
        ran-done (suc k) g core done
        ∙ ap (λ (p : Ran). ran_on 1 p) (inner count over)
        ∙ ap (λ (i : ℕ). record { steps = i; after = exec q.after.regs q.after.core }) more
        ∙ ap (λ (p : Ran). record { steps = suc (suc k); after = exec p.after.regs p.after.core }) (sym same)
    by_outcome false done inner =
        let same : r ≡ record { steps = 1; after = exec g core } = is ∙ ran-ended k g core done in
        absurd (false≢true (sym done ∙ sym (ap (λ (p : Ran). is_done p.after.outcome) same) ∙ d))

last-first : {X : Type 0} (F : World → ℕ → Turn → X) (s : S) (n : ℕ) (j : Job) (ticking : Bool) → next_in s ≡ Some n
    → job_at s.world.table.jobs n ≡ Some j → LastStep F s s n 1 ticking j
last-first F s n j ticking next there =
    let w : World = chosen_world s n in
    let u : Turn = turn_of n (awake j) s.world.cores s.world.requests in
    record {
      next = next;
      job = j;
      there = there;
      quantum = refl;
      blocks = refl;
      same =
          sym
          (ap (λ (x : Stretch). seen_at F w s.time s.quantum n ticking x) (stretch-one n (awake j) s.world.cores s.world.requests)
          ∙ ap (λ (v : World). F v (time_after s.time ticking 0) u) (passed-none (with_turn w n u) s.quantum ticking)
          ∙ ap (λ (i : ℕ). F (with_turn w n u) i u) (time-none s.time ticking));
    }

last-later : {X : Type 0} (F : World → ℕ → Turn → X) (s : S) (n k : ℕ) (j : Job) (ticking : Bool) → Safe s → next_in s ≡ Some n
    → Undisturbed (chosen s.world.table n s.quantum) n ticking (is_alone s.world.table n) (suc (suc k))
    → job_at s.world.table.jobs n ≡ Some j
    → suc (suc k) ≡ (stretch_of n (suc (suc k)) (awake j) s.world.cores s.world.requests).rounds
    → LastStep F s (after (rounds (suc k) ticking) s) n (suc (suc k)) ticking j
last-later F s n k j ticking safe next u there count =
    let made : ℕ = suc (suc k) in
    let core : List ℕ = core_of s.world.cores n in
    let base : S = record s { world = chosen_world s n } in
    let alone : Bool = is_alone s.world.table n in
    let h : Computes base n j ticking alone made = computes-undisturbed s n made j ticking safe next u there in
    let all : Ran = ran made j.regs core in
    let flat : stretch_of n made (awake j) s.world.cores s.world.requests
    ≡ record { turn = executed n (awake j) s.world.cores s.world.requests all.after; rounds = all.steps } =
    ap (λ (d : Option (ℕ × ℕ)). stretched n made (awake j) s.world.cores s.world.requests d) (none-due j.interrupts (pending s.world.requests n) h.closed) in
    let whole : all.steps ≡ made = sym (count ∙ ap (λ (x : Stretch). x.rounds) flat) in
    let r : Ran = ran (suc k) j.regs core in
    let less : suc k < made = omega arith in
    let x = ran-before (suc k) made j.regs core less whole in
    let steps : r.steps ≡ suc k = x.0 in
    let last : 0 + (r.steps - 1) ≡ k = omega (arith, steps) in
    let p = reached k base n j ticking alone made 0 j.regs core s (omega arith) h (poised-first s n j ticking next there h.closed) in
    let t : S = going base n j ticking k r.after.regs r.after.core in
    let goes : after (rounds (suc k) ticking) s ≡ t =
    ap (λ (i : ℕ). after (rounds i ticking) s) (sym steps) ∙ p.state
    ∙ ap (λ (i : ℕ). ticked_if ticking (ended_by base n j ticking i r.after)) last
    ∙ ap (λ (a : After). ticked_if ticking (ended_by base n j ticking k a)) (sym (done-after r.after x.1))
    ∙ tick-done base n j ticking k r.after.regs r.after.core h.quiet in
    let more : all ≡ record { steps = made; after = exec r.after.regs r.after.core } = ran-more (suc k) j.regs core r refl steps x.1 in
    let one : made - 1 ≡ suc k = omega arith in
    let v : Turn = executed n (awake j) s.world.cores s.world.requests (exec r.after.regs r.after.core) in
    let jobs : t.world.table.jobs ≡ slice_set base.world.table.jobs n (Some (with_regs j r.after.regs)) = jobs-going base ticking r.after.regs r.after.core in
    subst (λ (y : S). LastStep F s y n made ticking j) (sym goes)
    (record {
      next = next-going base n j ticking alone made k r.after.regs h less;
      job = with_regs j r.after.regs;
      there =
          ap (λ (l : List (Option Job)). job_at l n) jobs
          ∙ get_or-set_same base.world.table.jobs n (Some (with_regs j r.after.regs)) None h.place;
      quantum = refl;
      blocks = refl;
      same =
          seen-going F base n j ticking k r.after.regs r.after.core h.current h.quantum h.closed h.core
          ∙ sym
          (ap (λ (y : Stretch). seen_at F (chosen_world s n) s.time s.quantum n ticking y) flat
          ∙ ap
          (λ (q : Ran). seen_at F (chosen_world s n) s.time s.quantum n ticking
          (record { turn = executed n (awake j) s.world.cores s.world.requests q.after; rounds = q.steps })) more
          ∙ ap
          (λ (i : ℕ). F (passed (with_turn (chosen_world s n) n v) s.quantum ticking i) (time_after s.time ticking i) v) one);
    })
  where
    jobs-going : (base : S) (ticking : Bool) (g : Regs) (core : List ℕ)
        → (going base n j ticking k g core).world.table.jobs ≡ slice_set base.world.table.jobs n (Some (with_regs j g))
    jobs-going base true g core = refl
    jobs-going base false g core = refl

-- the last of some rounds that the job that is next makes at once
pub last-step : {X : Type 0} (F : World → ℕ → Turn → X) (s : S) (n before : ℕ) (j : Job) (ticking : Bool) → Safe s → next_in s ≡ Some n
    → (2 ≤ suc before → Undisturbed (chosen s.world.table n s.quantum) n ticking (is_alone s.world.table n) (suc before))
    → job_at s.world.table.jobs n ≡ Some j
    → suc before ≡ (stretch_of n (suc before) (awake j) s.world.cores s.world.requests).rounds
    → LastStep F s (after (rounds before ticking) s) n (suc before) ticking j
last-step F s n zero j ticking safe next u there count = last-first F s n j ticking next there
last-step F s n (suc k) j ticking safe next u there count = last-later F s n k j ticking safe next (u (omega arith)) there count
