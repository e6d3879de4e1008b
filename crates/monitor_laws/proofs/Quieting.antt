-- Of the rounds that a job makes at once, the last is told of, and the others are quiet.
use Rattle.std.proofs.Common.{◌≡◌, ◌<◌, ◌≤◌, ◌∙◌, sym, ap, subst, ℕ, suc, ◌+◌, ◌-◌, true, false, List}
use Rattle.std.proofs.Common.{Option, Some, None, is_none, slice_set, refl, arith, IsSome}
use Rattle.std.proofs.lemmas.Bool.{false≢true}
use Rattle.std.proofs.lemmas.List.{get_or-set_same}
use Rattle.std.specs.List.{list_any}
use Rattle.ka_cpu.specs.Effects.{After}
use Rattle.ka_cpu.specs.Runs.{Ran, ran}
use Rattle.core_store.specs.Cores.{blocks_of, core_of, with_core}
use Rattle.lock_queue.specs.declared.request.Request.{Request}
use Rattle.lock_queue.specs.Jobs.{pending}
use Rattle.job_sched.specs.Changes.{chosen, ticked_table}
use Rattle.job_sched.specs.Limits.{expires}
use Rattle.job_sched.specs.Spans.{Undisturbed, is_alone}
use Rattle.job_sched.specs.Tables.{is_sleeper, job_at}
use Rattle.job_sched.specs.declared.job.Job.{Job}
use Rattle.job_sched.specs.declared.job.Stop.{Stop as StopReason}
use Rattle.job_sched.proofs.Limits.{expires-awake}
use Rattle.job_sched.proofs.Sleepers.{awake-set, ticked-awake}
use Rattle.uuo_calls.specs.Asked.{ReadBlock}
use Rattle.uuo_calls.specs.Performed.{World}
use Rattle.machine.specs.Between.{next_in}
use Rattle.machine.specs.Machine.{S, after, awake, called, happens, stepped, ran as ran_job, with_turn}
use Rattle.machine.specs.Rounds.{rounds}
use Rattle.machine.specs.Safe.{Safe}
use Rattle.machine.specs.Stretches.{Stretch, Stretched, passed, runs_on, stretch_of, stretched}
use Rattle.machine.specs.Told.{before_by, before_in, before_of, before_on, block_before, read_by, read_in, read_of, read_on, requests_before, told_by, told_in, told_of, told_of_call, told_on, world_of}
use Rattle.machine.specs.Turns.{Turn, executed}
use Rattle.machine.specs.Views.{held_wait, job_view, view_of}
use Rattle.machine.specs.declared.event.Event.TheVariants.{Step}
use Rattle.machine.specs.declared.told.Told.{Told}
use Rattle.monitor_laws.specs.Quiet.{IsQuiet}
use Rattle.monitor_laws.proofs.Between.{ran-before, undisturbed-made}
use Rattle.monitor_laws.proofs.Lasting.{LastStep, last-step, seen_at}
use Rattle.monitor_laws.proofs.Safety.{runs-next}
use Rattle.monitor_laws.proofs.Stretching.{Computes, chosen_world, computes-undisturbed, done-after, jobs-of_chosen, none-due, with_regs}

-- readings of a step: what it makes known, the requests before its call, the block that this reads, and the world and the time that
-- it leaves
abbrev tells : ℕ → World → ℕ → Turn → Told
tells n w time u = told_of_call w n u.job.regs.pc u.call

abbrev finds : World → ℕ → Turn → List Request
finds w time u = requests_before w u.call

abbrev reads : ℕ → World → ℕ → Turn → ReadBlock
reads n w time u = block_before w n u.call

abbrev leaves : ℕ → World → ℕ → Turn → World × ℕ
leaves n w time u = (called w time n u.call, time)

told-at : (s t : S) (n made : ℕ) (j : Job) → LastStep (tells n) s t n made true j
    → told_in t ≡ Some (seen_at (tells n) (chosen_world s n) s.time s.quantum n true (stretch_of n made (awake j) s.world.cores s.world.requests))
told-at s t n made j l =
    ap (λ (o : Option ℕ). told_of t o) l.next
    ∙ ap (λ (o : Option Job). told_by (world_of t n) n o) l.there
    ∙ ap (λ (x : Told). Some x) l.same

before-at : (s t : S) (n made : ℕ) (j : Job) → LastStep finds s t n made true j
    → before_in t ≡ seen_at finds (chosen_world s n) s.time s.quantum n true (stretch_of n made (awake j) s.world.cores s.world.requests)
before-at s t n made j l =
    ap (λ (o : Option ℕ). before_of t o) l.next ∙ ap (λ (o : Option Job). before_by (world_of t n) n o) l.there ∙ l.same

read-at : (s t : S) (n made : ℕ) (j : Job) → LastStep (reads n) s t n made true j
    → read_in t ≡ seen_at (reads n) (chosen_world s n) s.time s.quantum n true (stretch_of n made (awake j) s.world.cores s.world.requests)
read-at s t n made j l =
    ap (λ (o : Option ℕ). read_of t o) l.next ∙ ap (λ (o : Option Job). read_by (world_of t n) n o) l.there ∙ l.same

state-at : (s t : S) (n made : ℕ) (j : Job) → LastStep (leaves n) s t n made true j
    → (happens t Step).state
    ≡ record s {
      world = (seen_at (leaves n) (chosen_world s n) s.time s.quantum n true (stretch_of n made (awake j) s.world.cores s.world.requests)).0;
      time = (seen_at (leaves n) (chosen_world s n) s.time s.quantum n true (stretch_of n made (awake j) s.world.cores s.world.requests)).1;
    }
state-at s t n made j l =
    let x : World × ℕ = seen_at (leaves n) (chosen_world s n) s.time s.quantum n true (stretch_of n made (awake j) s.world.cores s.world.requests) in
    ap (λ (o : Option ℕ). (stepped t o).state) l.next
    ∙ ap (λ (o : Option Job). record t { world = ran_job (world_of t n) t.time n o }) l.there
    ∙ ap (λ (y : World × ℕ). record t { world = y.0; time = y.1 }) l.same
    ∙ ap (λ (q : ℕ). record t { world = x.0; time = x.1; quantum = q }) l.quantum
    ∙ ap (λ (b : ℕ). record s { world = x.0; time = x.1; blocks = b }) l.blocks

none-is : (o : Option StopReason) → is_none o ≡ true → o ≡ None
none-is None e = refl
none-is (Some reason) e = absurd (cc)

-- a round before the last
quiet-round : (s : S) (n made k : ℕ) (j : Job) → Safe s → next_in s ≡ Some n
    → Undisturbed (chosen s.world.table n s.quantum) n true (is_alone s.world.table n) made → job_at s.world.table.jobs n ≡ Some j
    → (ran made j.regs (core_of s.world.cores n)).steps ≡ made → suc k < made → IsQuiet (after (rounds k true) s)
quiet-round s n made k j safe next u there whole less =
    let core : List ℕ = core_of s.world.cores n in
    let base : S = record s { world = chosen_world s n } in
    let h : Computes base n j true (is_alone s.world.table n) made = computes-undisturbed s n made j true safe next u there in
    let r : Ran = ran (suc k) j.regs core in
    let x = ran-before (suc k) made j.regs core less whole in
    let job : Job = with_regs j r.after.regs in
    let turn : Turn = record { job = job; cores = with_core s.world.cores n r.after.core; requests = s.world.requests; call = None } in
    let flat : stretch_of n (suc k) (awake j) s.world.cores s.world.requests ≡ record { turn = turn; rounds = suc k } =
    ap (λ (d : Option (ℕ × ℕ)). stretched n (suc k) (awake j) s.world.cores s.world.requests d) (none-due j.interrupts (pending s.world.requests n) h.closed)
    ∙ ap (λ (a : After). record { turn = executed n (awake j) s.world.cores s.world.requests a; rounds = r.steps }) (sym (done-after r.after x.1))
    ∙ ap (λ (i : ℕ). record { turn = turn; rounds = i }) x.0 in
    let fewer = undisturbed-made s n made (suc k) true (omega (arith, less)) (λ _. u) in
    let count : suc k ≡ (stretch_of n (suc k) (awake j) s.world.cores s.world.requests).rounds = sym (ap (λ (y : Stretch). y.rounds) flat) in
    let t : S = after (rounds k true) s in
    let w : World = passed (with_turn (chosen_world s n) n turn) s.quantum true (suc k - 1) in
    let left : (happens t Step).state.world ≡ w =
    ap (λ (y : S). y.world) (state-at s t n (suc k) j (last-step (leaves n) s n k j true safe next fewer there count))
    ∙ ap (λ (y : Stretch). (seen_at (leaves n) (chosen_world s n) s.time s.quantum n true y).0) flat in
    let jobs : List (Option Job) = slice_set (chosen s.world.table n s.quantum).jobs n (Some job) in
    let here : job_at w.table.jobs n ≡ Some job = get_or-set_same (chosen s.world.table n s.quantum).jobs n (Some job) None h.place in
    let calm : list_any is_sleeper jobs ≡ false = awake-set (chosen s.world.table n s.quantum).jobs n (Some job) (h.quiet refl) refl in
    record {
      job = n;
      next = r.after.regs.pc;
      told =
          told-at s t n (suc k) j (last-step (tells n) s n k j true safe next fewer there count)
          ∙ ap (λ (y : Stretch). Some (seen_at (tells n) (chosen_world s n) s.time s.quantum n true y)) flat;
      view = record { line = j.line; blocks = blocks_of w.cores n; pc = r.after.regs.pc; flags = r.after.regs.flags; stop = j.stop; wait = held_wait w.lines w.requests n job };
      there = ap (λ (v : World). job_view v n) left ∙ ap (λ (o : Option Job). view_of w n o) here;
      goes = none-is j.stop h.stop;
      limits =
          λ m. ap (λ (v : World). expires v.requests (ticked_table v.table).jobs m) left
          ∙ ap (λ (l : List (Option Job)). expires w.requests l m) (ticked-awake jobs calm)
          ∙ expires-awake w.requests jobs calm m;
    }

-- the rounds of a job, all but the last
quiet-job : (s : S) (n made k : ℕ) (w : World) (time : ℕ) (o : Option Job) → Safe s → next_in s ≡ Some n
    → Undisturbed (chosen s.world.table n s.quantum) n true (is_alone s.world.table n) made → job_at s.world.table.jobs n ≡ o
    → record { world = w; time = time; rounds = made } ≡ runs_on (chosen_world s n) s.time s.quantum n made true o
    → suc k < made → IsQuiet (after (rounds k true) s)
quiet-job s n made k w time None safe next u there is less =
    absurd (false≢true (subst (λ (o : Option Job). IsSome o) there (runs-next s n safe next).there))
quiet-job s n made k w time (Some j) safe next u there is less =
    let h = computes-undisturbed s n made j true safe next u there in
    let count : made ≡ (stretched n made (awake j) s.world.cores s.world.requests None).rounds =
    ap (λ (x : Stretched). x.rounds) is
    ∙ ap (λ d. (stretched n made (awake j) s.world.cores s.world.requests d).rounds) (none-due j.interrupts (pending s.world.requests n) h.closed) in
    quiet-round s n made k j safe next u there (sym count) less

pub quiet-made : (s : S) (n made k : ℕ) (w : World) (time : ℕ) → Safe s → next_in s ≡ Some n
    → (2 ≤ made → Undisturbed (chosen s.world.table n s.quantum) n true (is_alone s.world.table n) made)
    → record { world = w; time = time; rounds = made }
    ≡ runs_on (chosen_world s n) s.time s.quantum n made true (job_at (chosen s.world.table n s.quantum).jobs n)
    → k + 1 < made → IsQuiet (after (rounds k true) s)
quiet-made s n made k w time safe next u is less =
    quiet-job s n made k w time (job_at s.world.table.jobs n) safe next (u (omega (arith, less))) refl
    (is ∙ ap (λ (l : List (Option Job)). runs_on (chosen_world s n) s.time s.quantum n made true (job_at l n)) (jobs-of_chosen s.world.table n s.quantum))
    (omega (arith, less))

-- what the last of the rounds does and makes known
pub record IsLast (s t : S) (n made : ℕ) (w : World) (time : ℕ) : Type 0 where
  pub state : record s { world = w; time = time } ≡ (happens t Step).state
  pub told : told_on (chosen_world s n) s.quantum n made true (job_at (chosen s.world.table n s.quantum).jobs n) ≡ told_in t
  pub before : before_on (chosen_world s n) s.quantum n made true (job_at (chosen s.world.table n s.quantum).jobs n) ≡ before_in t
  pub read : read_on (chosen_world s n) s.quantum n made true (job_at (chosen s.world.table n s.quantum).jobs n) ≡ read_in t

last-job : (s : S) (n b : ℕ) (w : World) (time : ℕ) (o p : Option Job) → Safe s → next_in s ≡ Some n
    → (2 ≤ suc b → Undisturbed (chosen s.world.table n s.quantum) n true (is_alone s.world.table n) (suc b))
    → job_at s.world.table.jobs n ≡ o
    → record { world = w; time = time; rounds = suc b } ≡ runs_on (chosen_world s n) s.time s.quantum n (suc b) true o
    → (record s { world = w; time = time } ≡ (happens (after (rounds b true) s) Step).state)
    × (told_on (chosen_world s n) s.quantum n (suc b) true o ≡ told_in (after (rounds b true) s))
    × (before_on (chosen_world s n) s.quantum n (suc b) true o ≡ before_in (after (rounds b true) s))
    × (read_on (chosen_world s n) s.quantum n (suc b) true o ≡ read_in (after (rounds b true) s))
last-job s n b w time None p safe next u there is =
    absurd (false≢true (subst (λ (o : Option Job). IsSome o) there (runs-next s n safe next).there))
last-job s n b w time (Some j) p safe next u there is =
    let t : S = after (rounds b true) s in
    let count : suc b ≡ (stretch_of n (suc b) (awake j) s.world.cores s.world.requests).rounds = ap (λ (x : Stretched). x.rounds) is in (
      ap (λ (x : Stretched). record s { world = x.world; time = x.time }) is
          ∙ sym (state-at s t n (suc b) j (last-step (leaves n) s n b j true safe next u there count)),
      sym (told-at s t n (suc b) j (last-step (tells n) s n b j true safe next u there count)),
      sym (before-at s t n (suc b) j (last-step finds s n b j true safe next u there count)),
      sym (read-at s t n (suc b) j (last-step (reads n) s n b j true safe next u there count)),
    )

pub last-made : (s : S) (n b : ℕ) (w : World) (time : ℕ) → Safe s → next_in s ≡ Some n
    → (2 ≤ suc b → Undisturbed (chosen s.world.table n s.quantum) n true (is_alone s.world.table n) (suc b))
    → record { world = w; time = time; rounds = suc b }
    ≡ runs_on (chosen_world s n) s.time s.quantum n (suc b) true (job_at (chosen s.world.table n s.quantum).jobs n)
    → IsLast s (after (rounds b true) s) n (suc b) w time
last-made s n b w time safe next u is =
    let same = jobs-of_chosen s.world.table n s.quantum in
    let o : Option Job = job_at s.world.table.jobs n in
    let all = last-job s n b w time o o safe next u refl
    (is ∙ ap (λ (l : List (Option Job)). runs_on (chosen_world s n) s.time s.quantum n (suc b) true (job_at l n)) same) in
    record {
      state = all.0;
      told = ap (λ (l : List (Option Job)). told_on (chosen_world s n) s.quantum n (suc b) true (job_at l n)) same ∙ all.1;
      before = ap (λ (l : List (Option Job)). before_on (chosen_world s n) s.quantum n (suc b) true (job_at l n)) same ∙ all.2;
      read = ap (λ (l : List (Option Job)). read_on (chosen_world s n) s.quantum n (suc b) true (job_at l n)) same ∙ all.3;
    }

-- the same of so many rounds, of which there is at least one
pub last-of : (s : S) (n made b : ℕ) (w : World) (time : ℕ) → made ≡ suc b → Safe s → next_in s ≡ Some n
    → (2 ≤ made → Undisturbed (chosen s.world.table n s.quantum) n true (is_alone s.world.table n) made)
    → record { world = w; time = time; rounds = made }
    ≡ runs_on (chosen_world s n) s.time s.quantum n made true (job_at (chosen s.world.table n s.quantum).jobs n)
    → IsLast s (after (rounds b true) s) n made w time
last-of s n made b w time e safe next u is =
    subst (λ (m : ℕ). IsLast s (after (rounds b true) s) n m w time) (sym e)
    (last-made s n b w time safe next
    (subst (λ (m : ℕ). 2 ≤ m → Undisturbed (chosen s.world.table n s.quantum) n true (is_alone s.world.table n) m) e u)
    (subst
    (λ (m : ℕ). record { world = w; time = time; rounds = m }
    ≡ runs_on (chosen_world s n) s.time s.quantum n m true (job_at (chosen s.world.table n s.quantum).jobs n)) e is))
