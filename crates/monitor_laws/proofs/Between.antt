-- Between two of some rounds of a job that only computes, that job is next, and nobody else has moved.
use Rattle.std.proofs.Common.{◌≡◌, ◌<◌, ◌≤◌, ◌∙◌, sym, ap, subst, ℕ, zero, suc, ◌+◌, ◌-◌, Bool, true, false, cond}
use Rattle.std.proofs.Common.{List, Option, Some, None, slice_set, refl, arith, IsSome}
use Rattle.std.proofs.lemmas.Bool.{false≢true}
use Rattle.std.proofs.lemmas.List.{get_or-set_other, get_or-set_same}
use Rattle.ka_cpu.specs.Effects.{After}
use Rattle.ka_cpu.specs.Exec.{exec}
use Rattle.ka_cpu.specs.Runs.{Ran, is_done, ran, ran_on}
use Rattle.ka_state.specs.declared.registers.Regs.{Regs}
use Rattle.core_store.specs.Cores.{core_of}
use Rattle.lock_queue.specs.Jobs.{pending}
use Rattle.job_sched.specs.Changes.{chosen}
use Rattle.job_sched.specs.Spans.{Undisturbed, is_alone}
use Rattle.job_sched.specs.Tables.{Table, job_at}
use Rattle.job_sched.specs.declared.job.Job.{Job}
use Rattle.uuo_calls.specs.Performed.{World}
use Rattle.machine.specs.Between.{Between, NoneOver, does_end, next_in, pc_of}
use Rattle.machine.specs.Machine.{S, after, awake}
use Rattle.machine.specs.Rounds.{rounds}
use Rattle.machine.specs.Safe.{Safe}
use Rattle.machine.specs.Stretches.{Stretched, runs_on, stretched, ticked_if}
use Rattle.monitor_laws.proofs.Safety.{runs-next}
use Rattle.monitor_laws.proofs.Stretching.{Computes, chosen_world, closed-undisturbed, computes-undisturbed, done-after, ended_by, going}
use Rattle.monitor_laws.proofs.Stretching.{jobs-of_chosen, next-going, none-due, poised-first, reached, tick-done, with_regs}

-- with one instruction before: all were done before the last one
step-before : (b : Bool) (k m : ℕ) (some all one : Ran) → one.steps ≡ 1 → (b ≡ true → all.steps ≡ m → (some.steps ≡ k) × (is_done some.after.outcome ≡ true))
    → k < m → (cond b (ran_on 1 all) one).steps ≡ suc m
    → ((cond b (ran_on 1 some) one).steps ≡ suc k) × (is_done (cond b (ran_on 1 some) one).after.outcome ≡ true)
step-before true k m some all one e rest less whole = let x = rest refl (omega (arith, whole)) in (omega (arith, x.0), x.1)
step-before false k m some all one e rest less whole = absurd (omega (arith, e, less, whole))

-- where so many instructions were executed, fewer end with one that is done
pub ran-before : (k m : ℕ) (g : Regs) (core : List ℕ) → k < m → (ran m g core).steps ≡ m →
    ((ran k g core).steps ≡ k) × (is_done (ran k g core).after.outcome ≡ true)
unfolding ran
ran-before zero m g core less whole = (refl, refl)
ran-before (suc k) zero g core less whole = absurd (omega (arith, less))
ran-before (suc k) (suc m) g core less whole =
    let x : After = exec g core in
    let inner : k < m = omega (arith, less) in
    step-before (is_done x.outcome) k m (ran k x.regs x.core) (ran m x.regs x.core) (record { steps = 1; after = x }) refl
    (λ _ rest. ran-before k m x.regs x.core inner rest) inner whole

-- a state where the job goes on
going-between : (s : S) (n : ℕ) (j : Job) (ticking : Bool) (made k : ℕ) (g : Regs) (core : List ℕ) (ends : ℕ → Bool)
    → Computes (record s { world = chosen_world s n }) n j ticking (is_alone s.world.table n) made → suc k < made → ends g.pc ≡ false
    → Between s (going (record s { world = chosen_world s n }) n j ticking k g core) (Some n) ends
going-between s n j ticking made k g core ends h more none =
    let base : S = record s { world = chosen_world s n } in
    let t : S = going base n j ticking k g core in
    let o : Option Job = Some (with_regs j g) in
    let same : t.world.table.jobs ≡ slice_set base.world.table.jobs n o = jobs-going base ticking in
    let here : job_at t.world.table.jobs n ≡ o =
    ap (λ (l : List (Option Job)). job_at l n) same ∙ get_or-set_same base.world.table.jobs n o None h.place in
    record {
      next = next-going base n j ticking (is_alone s.world.table n) made k g h more;
      on = ap (λ (p : Option Job). does_end ends (pc_of p)) here ∙ none;
      others =
          λ m other. ap (λ (l : List (Option Job)). pc_of (job_at l m)) same
          ∙ ap (λ (p : Option Job). pc_of p) (get_or-set_other base.world.table.jobs n m o None (λ e. other (ap (λ (i : ℕ). Some i) (sym e))))
          ∙ ap (λ (l : List (Option Job)). pc_of (job_at l m)) (jobs-of_chosen s.world.table n s.quantum);
    }
  where
    jobs-going : (base : S) (ticking : Bool) → (going base n j ticking k g core).world.table.jobs ≡ slice_set base.world.table.jobs n (Some (with_regs j g))
    jobs-going base true = refl
    jobs-going base false = refl

-- rounds of a job that nothing disturbs
between-rounds : (s : S) (n made k : ℕ) (j : Job) (ticking : Bool) (ends : ℕ → Bool) → Safe s → next_in s ≡ Some n
    → Undisturbed (chosen s.world.table n s.quantum) n ticking (is_alone s.world.table n) made → job_at s.world.table.jobs n ≡ Some j
    → (ran made j.regs (core_of s.world.cores n)).steps ≡ made → NoneOver ends j.regs (core_of s.world.cores n) made
    → 1 ≤ k → k < made
    → Between s (after (rounds k ticking) s) (Some n) ends
between-rounds s n made zero j ticking ends safe next u there whole none some less = absurd (omega (arith, some))
between-rounds s n made (suc k) j ticking ends safe next u there whole none some less =
    let core = core_of s.world.cores n in
    let base : S = record s { world = chosen_world s n } in
    let alone : Bool = is_alone s.world.table n in
    let h : Computes base n j ticking alone made = computes-undisturbed s n made j ticking safe next u there in
    let r : Ran = ran (suc k) j.regs core in
    let x = ran-before (suc k) made j.regs core less whole in
    let steps : r.steps ≡ suc k = x.0 in
    let last : 0 + (r.steps - 1) ≡ k = omega (arith, steps) in
    let p = reached k base n j ticking alone made 0 j.regs core s (omega (arith, less)) h (poised-first s n j ticking next there h.closed) in
    let goes : after (rounds (suc k) ticking) s ≡ going base n j ticking k r.after.regs r.after.core =
    ap (λ (i : ℕ). after (rounds i ticking) s) (sym steps) ∙ p.state
    ∙ ap (λ (i : ℕ). ticked_if ticking (ended_by base n j ticking i r.after)) last
    ∙ ap (λ (a : After). ticked_if ticking (ended_by base n j ticking k a)) (sym (done-after r.after x.1))
    ∙ tick-done base n j ticking k r.after.regs r.after.core h.quiet in
    subst (λ (t : S). Between s t (Some n) ends) (sym goes) (going-between s n j ticking made k r.after.regs r.after.core ends h less (none (suc k) some less))

-- fewer rounds
undisturbed-fewer : (t : Table) (n : ℕ) (ticking alone : Bool) (most made : ℕ) →
    made ≤ most → Undisturbed t n ticking alone most → Undisturbed t n ticking alone made
undisturbed-fewer t n ticking alone most made fewer u = record {
  current = u.current;
  quantum = u.quantum;
  lasts = λ e f. omega (arith, u.lasts e f, fewer);
  awake = u.awake;
  closed = u.closed;
}

-- nothing disturbs fewer rounds
pub undisturbed-made : (s : S) (n most made : ℕ) (ticking : Bool) → made ≤ most
    → (2 ≤ most → Undisturbed (chosen s.world.table n s.quantum) n ticking (is_alone s.world.table n) most)
    → 2 ≤ made → Undisturbed (chosen s.world.table n s.quantum) n ticking (is_alone s.world.table n) made
undisturbed-made s n most made ticking fewer u some =
    undisturbed-fewer (chosen s.world.table n s.quantum) n ticking (is_alone s.world.table n) most made fewer (u (omega (arith, some, fewer)))

by-job : (s : S) (n made k : ℕ) (ticking : Bool) (ends : ℕ → Bool) (w : World) (time : ℕ) (o : Option Job) → Safe s → next_in s ≡ Some n
    → Undisturbed (chosen s.world.table n s.quantum) n ticking (is_alone s.world.table n) made → job_at s.world.table.jobs n ≡ o
    → record { world = w; time = time; rounds = made } ≡ runs_on (chosen_world s n) s.time s.quantum n made ticking o
    → ((j : Job) → o ≡ Some j → NoneOver ends j.regs (core_of s.world.cores n) made)
    → 1 ≤ k → k < made → Between s (after (rounds k ticking) s) (Some n) ends
by-job s n made k ticking ends w time None safe next u there is none some less =
    absurd (false≢true (subst (λ (o : Option Job). IsSome o) there (runs-next s n safe next).there))
by-job s n made k ticking ends w time (Some j) safe next u there is none some less =
    let closed = closed-undisturbed s n made j ticking u there in
    let count : made ≡ (stretched n made (awake j) s.world.cores s.world.requests None).rounds =
    ap (λ (x : Stretched). x.rounds) is
    ∙ ap (λ d. (stretched n made (awake j) s.world.cores s.world.requests d).rounds) (none-due j.interrupts (pending s.world.requests n) closed) in
    between-rounds s n made k j ticking ends safe next u there (sym count) (none j refl) some less

-- what holds between the rounds that the job that is next has made
pub between-made : (s : S) (n made k : ℕ) (ticking : Bool) (ends : ℕ → Bool) (w : World) (time : ℕ) → Safe s → next_in s ≡ Some n
    → (2 ≤ made → Undisturbed (chosen s.world.table n s.quantum) n ticking (is_alone s.world.table n) made)
    → record { world = w; time = time; rounds = made }
    ≡ runs_on (record s.world { table = chosen s.world.table n s.quantum }) s.time s.quantum n made ticking (job_at (chosen s.world.table n s.quantum).jobs n)
    → ((j : Job) → job_at (chosen s.world.table n s.quantum).jobs n ≡ Some j → NoneOver ends j.regs (core_of s.world.cores n) made)
    → 1 ≤ k → k < made
    → Between s (after (rounds k ticking) s) (Some n) ends
between-made s n made k ticking ends w time safe next u is none some less =
    let jobs = jobs-of_chosen s.world.table n s.quantum in
    by-job s n made k ticking ends w time (job_at s.world.table.jobs n) safe next (u (omega (arith, some, less))) refl
    (is ∙ ap (λ (l : List (Option Job)). runs_on (chosen_world s n) s.time s.quantum n made ticking (job_at l n)) jobs)
    (λ j e. none j (ap (λ (l : List (Option Job)). job_at l n) jobs ∙ e)) some less
