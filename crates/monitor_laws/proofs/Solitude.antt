-- A job among others runs as it would alone.
use Rattle.std.proofs.Common.{◌≡◌, ◌<◌, ◌∙◌, sym, ap, subst, ℕ, suc, ◌^◌, Bool, true, false, cond, List, [], ◌∷◌, ◌++◌}
use Rattle.std.proofs.Common.{length, Option, Some, None, is_some, refl, arith, append_assoc}
use Rattle.std.proofs.lemmas.Bool.{both_ways, eqb-true}
use Rattle.ka_cpu.specs.Effects.{After}
use Rattle.ka_cpu.specs.Exec.{exec}
use Rattle.ka_state.specs.declared.registers.Regs.{Regs}
use Rattle.core_store.specs.Cores.{core_of}
use Rattle.tty_lines.specs.Rings.{output_of}
use Rattle.lock_queue.specs.Jobs.{pending}
use Rattle.job_sched.specs.Ready.{next_job}
use Rattle.job_sched.specs.Tables.{job_at}
use Rattle.job_sched.specs.declared.job.Interrupts.{Interrupts}
use Rattle.job_sched.specs.declared.job.Job.{Job}
use Rattle.uuo_calls.specs.Performed.{World}
use Rattle.machine.specs.declared.event.Event.{Event}
use Rattle.machine.specs.declared.event.Event.TheVariants.{Step, Tick, Typed, Take, Login, Start, Continue, Kill, Restart}
use Rattle.machine.specs.Alone.{Solo, solo_step, solo, is_allowed, OnlyPrints, Spares, spares, is_ran, advances}
use Rattle.machine.specs.Alone.{steps_of, taken_by, taken_from, solo_of, RunsAlone}
use Rattle.job_sched.specs.Changes.{chosen}
use Rattle.machine.specs.Machine.{S, Made, with_turn, called, awake, ran, stepped, happens, after}
use Rattle.machine.specs.Safe.{Safe, InRange, line_of}
use Rattle.machine.specs.Turns.{turned, due}
use Rattle.monitor_laws.proofs.Housing.{there-below, is_job}
use Rattle.ka_cpu.proofs.ExecLaws.{ends-exec}
use Rattle.monitor_laws.proofs.OtherCores.{jobs-chosen, ran-killed, ran-typed, ran-taken, ran-login, ran-started, ran-continued}
use Rattle.monitor_laws.proofs.Printing.{Before, is_empty, after_outcome, advanced, emptied}
use Rattle.monitor_laws.proofs.Safety.{safe-happens}
use Rattle.monitor_laws.proofs.Standing.{Stands, kept, append-none, nothing-taken, within-rings}

due-off : (i : Interrupts) (o : Option ℕ) → i.on ≡ false → due i o ≡ None
due-off i o h = rw h refl

-- a world after the job's step: where the step is not empty the job is as after one step alone, and else as before
record Moves (n line : ℕ) (first taken : List ℕ) (x : Solo) (v : World) : Type 0 where
  full : is_empty v n ≡ false → is_allowed (exec x.regs x.core).outcome ≡ true → Stands v n line first taken (solo_step x)
  empty : is_empty v n ≡ true → Stands v n line first taken x

moves-turned : (w : World) (time n line : ℕ) (j : Job) (first taken : List ℕ) (x : Solo) (o : Option (ℕ × ℕ)) → o ≡ None → Before w n line first taken x
    → j.line ≡ line → j.interrupts.on ≡ false → j.regs ≡ x.regs → core_of w.cores n ≡ x.core
    → Moves n line first taken x (called (with_turn w n (turned n (awake j) w.cores w.requests o)) time n (turned n (awake j) w.cores w.requests o).call)
moves-turned w time n line j first taken x (Some y) none b at off regs core = cc
moves-turned w time n line j first taken x None none b at off regs core =
    let r : After = exec x.regs x.core in
    let k : Job = record (awake j) { regs = r.regs } in
    let m : Moves n line first taken x (after_outcome w time n k r.core r.outcome) = record {
      full = λ e allowed. advanced w time n line k r.core r.outcome first taken x b at off refl (ends-exec x.regs x.core) allowed e;
      empty = λ e. emptied w time n line k r.core r.outcome first taken x b at off refl (ends-exec x.regs x.core) e;
    } in
    rw (regs, core) m

moves-ran : (w : World) (time n line : ℕ) (first taken : List ℕ) (x : Solo) (o : Option Job) → job_at w.table.jobs n ≡ o → Before w n line first taken x
    → Stands w n line first taken x → Moves n line first taken x (ran w time n o)
moves-ran w time n line first taken x None is b a = absurd (none-some a.job (sym is ∙ a.there))
  where
    none-some : (j : Job) → None ≡ Some j → ⊥
    none-some j e = cc
moves-ran w time n line first taken x (Some j) is b a =
    let same : Some a.job ≡ Some j = sym a.there ∙ is in
    let e : a.job ≡ j = cc in
    let off : j.interrupts.on ≡ false = subst (λ (k : Job). k.interrupts.on ≡ false) e a.off in
    moves-turned w time n line j first taken x (due j.interrupts (pending w.requests n)) (due-off j.interrupts (pending w.requests n) off) b
    (subst (λ (k : Job). k.line ≡ line) e a.at) off (subst (λ (k : Job). k.regs ≡ x.regs) e a.regs) a.core

moves-stepped : (s : S) (o : Option ℕ) (n line : ℕ) (first taken : List ℕ) (x : Solo) → Safe s → x.regs.pc < 2 ^ 18 → Stands s.world n line first taken x
    → is_ran n (stepped s o).answer ≡ true → Moves n line first taken x (stepped s o).state.world
moves-stepped s None n line first taken x h small a r = cc
moves-stepped s (Some m) n line first taken x h small a r =
    let is : m ≡ n = eqb-true m n r in
    subst
    (λ k. Moves n line first taken x
    (ran (record s.world { table = chosen s.world.table k s.quantum }) s.time k (job_at s.world.table.jobs k))) (sym is) (
    let w : World = record s.world { table = chosen s.world.table n s.quantum } in
    let jobs = jobs-chosen s.world.table n s.quantum in
    let there : is_some (job_at s.world.table.jobs n) ≡ true = ap is_some a.there in
    let number = is_job s.world.table.jobs s.world.cores n h.housed there in
    let at : job_at w.table.jobs n ≡ job_at s.world.table.jobs n = ap (λ l. job_at l n) jobs in
    moves-ran w s.time n line first taken x (job_at s.world.table.jobs n) at
    (record {
      low = subst (λ l. n < length l) (sym jobs) (there-below s.world.table.jobs n there);
      house = omega (arith, h.housed.store.jobs, number.1);
      within = within-rings s n line h (ap line_of a.there ∙ ap Some a.at);
      small = small;
      output = a.output;
    })
    (record { job = a.job; there = at ∙ a.there; at = a.at; off = a.off; endless = a.endless; regs = a.regs; core = a.core; output = a.output }))

-- only a step is answered Ran
moves : (s : S) (e : Event) (n line : ℕ) (first taken : List ℕ) (x : Solo) → Safe s → x.regs.pc < 2 ^ 18 → Stands s.world n line first taken x
    → is_ran n (happens s e).answer ≡ true → (Moves n line first taken x (happens s e).state.world) × (taken_by line e (happens s e).answer ≡ [])
moves s Step n line first taken x h small a r = (moves-stepped s (next_job s.world.table s.world.lines s.world.requests) n line first taken x h small a r, refl)
moves s Tick n line first taken x h small a r = cc
moves s Restart n line first taken x h small a r = cc
moves s (Typed l c) n line first taken x h small a r = absurd (both_ways _ (ran-typed s l c n) r)
moves s (Take l k) n line first taken x h small a r = absurd (both_ways _ (ran-taken s l k n) r)
moves s (Login l image) n line first taken x h small a r = absurd (both_ways _ (ran-login s l image.now.words.items image.now.start n) r)
moves s (Start m) n line first taken x h small a r = absurd (both_ways _ (ran-started s m n) r)
moves s (Continue m) n line first taken x h small a r = absurd (both_ways _ (ran-continued s m n) r)
moves s (Kill m) n line first taken x h small a r = absurd (both_ways _ (ran-killed s m n (job_at s.world.table.jobs m)) r)

-- what is taken now and later
taken-on : (w : World) (n line : ℕ) (first taken now later : List ℕ) (x : Solo) → Stands w n line first ((taken ++ now) ++ later) x
    → Stands w n line first (taken ++ (now ++ later)) x
taken-on w n line first taken now later x a = subst (λ l. Stands w n line first l x) (append_assoc taken now later) a

taken-none : (w : World) (n line : ℕ) (first taken now : List ℕ) (x : Solo) → now ≡ [] → Stands w n line first taken x → Stands w n line first (taken ++ now) x
taken-none w n line first taken now x is a = subst (λ l. Stands w n line first (taken ++ l) x) (sym is) (nothing-taken w n line first taken x a)

-- the PC of a job is a place
small-pc : (s : S) (n line : ℕ) (first taken : List ℕ) (x : Solo) → Safe s → Stands s.world n line first taken x → x.regs.pc < 2 ^ 18
small-pc s n line first taken x h a = let ranges = subst InRange a.there (h.ranges n) in subst (λ (g : Regs). g.pc < 2 ^ 18) a.regs ranges.0

-- what is known after the events that are left
abbrev Later : S → List Event → ℕ → ℕ → List ℕ → Type 0
Later s es n line first =
    (before : List ℕ) (y : Solo) → Stands s.world n line first before y → OnlyPrints y (steps_of n s es)
    → Stands (after es s).world n line first (before ++ taken_from line s es) (solo y (steps_of n s es))

abbrev Reaches : S → Event → List Event → ℕ → ℕ → List ℕ → List ℕ → Solo → ℕ → Type 0
Reaches s e es n line first taken x k =
    OnlyPrints x k
    → Stands (after es (happens s e).state).world n line first
    (taken ++ (taken_by line e (happens s e).answer ++ taken_from line (happens s e).state es)) (solo x k)

runs-on : (s : S) (e : Event) (es : List Event) (n line : ℕ) (first taken : List ℕ) (x : Solo) → Safe s
    → Stands s.world n line first taken x
    → spares n e ≡ true
    → Later (happens s e).state es n line first
    → (ran : Bool) → is_ran n (happens s e).answer ≡ ran → (empty : Bool) → is_empty (happens s e).state.world n ≡ empty
    → Reaches s e es n line first taken x (steps_of n s (e ∷ es))
runs-on s e es n line first taken x h a spared later false no_run empty is =
    let m : Made = happens s e in
    let rest : ℕ = steps_of n m.state es in
    let count : advances n m ≡ false = rw no_run refl in
    let P : Bool → Type 0 = λ b. Reaches s e es n line first taken x (cond b (suc rest) rest) in
    let goal : P false = λ q. taken-on (after es m.state).world n line first taken (taken_by line e m.answer) (taken_from line m.state es) (solo x rest)
    (later (taken ++ taken_by line e m.answer) x (kept s e n line first taken x h a spared no_run) q) in
    subst P (sym count) goal
runs-on s e es n line first taken x h a spared later true ran true is =
    let m : Made = happens s e in
    let rest : ℕ = steps_of n m.state es in
    let count : advances n m ≡ false = rw (ran, is) refl in
    let step = moves s e n line first taken x h (small-pc s n line first taken x h a) a ran in
    let P : Bool → Type 0 = λ b. Reaches s e es n line first taken x (cond b (suc rest) rest) in
    let goal : P false = λ q. taken-on (after es m.state).world n line first taken (taken_by line e m.answer) (taken_from line m.state es) (solo x rest)
    (later (taken ++ taken_by line e m.answer) x (taken-none m.state.world n line first taken (taken_by line e m.answer) x step.1 (step.0.empty is)) q) in
    subst P (sym count) goal
runs-on s e es n line first taken x h a spared later true ran false is =
    let m : Made = happens s e in
    let rest : ℕ = steps_of n m.state es in
    let count : advances n m ≡ true = rw (ran, is) refl in
    let step = moves s e n line first taken x h (small-pc s n line first taken x h a) a ran in
    let P : Bool → Type 0 = λ b. Reaches s e es n line first taken x (cond b (suc rest) rest) in
    let goal : P true =
    λ q. taken-on (after es m.state).world n line first taken (taken_by line e m.answer) (taken_from line m.state es)
    (solo (solo_step x) rest)
    (later (taken ++ taken_by line e m.answer) (solo_step x)
    (taken-none m.state.world n line first taken (taken_by line e m.answer) (solo_step x) step.1 (step.0.full is q.0)) q.1) in
    subst P (sym count) goal

runs : (s : S) (es : List Event) (n line : ℕ) (first taken : List ℕ) (x : Solo) → Safe s → Stands s.world n line first taken x → Spares n es
    → OnlyPrints x (steps_of n s es)
    → Stands (after es s).world n line first (taken ++ taken_from line s es) (solo x (steps_of n s es))
runs s [] n line first taken x h a spared prints = nothing-taken s.world n line first taken x a
runs s (e ∷ es) n line first taken x h a spared prints =
    runs-on s e es n line first taken x h a spared.0
    (λ before y b q. runs (happens s e).state es n line first before y (safe-happens s e h) b spared.1 q)
    (is_ran n (happens s e).answer) refl (is_empty (happens s e).state.world n) refl prints

pub runs_alone : (s : S) (es : List Event) → Safe s → RunsAlone s es
runs_alone s es h n j there off endless spared prints =
    let a = runs s es n j.line (output_of s.world.lines j.line) [] (solo_of s.world n j) h
    (record {
      job = j;
      there = there;
      at = refl;
      off = off;
      endless = endless;
      regs = refl;
      core = refl;
      output = append-none (output_of s.world.lines j.line);
    }) spared prints in
    record { job = a.job; there = a.there; regs = a.regs; core = a.core; output = a.output }
