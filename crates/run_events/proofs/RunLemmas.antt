-- Rounds without facts, and rounds one after another.
use Rattle.std.proofs.Common.{◌≡◌, ◌<◌, ◌≤◌, ◌∙◌, ◌⊎◌, inl, inr, sym, ap, ℕ, suc, ◌+◌, ◌-◌, ◌++◌, nat_lt, Bool, true, false, List, [], Option, Some, None, refl, arith}
use Rattle.std.proofs.lemmas.Bool.{false≢true}
use Rattle.std.proofs.lemmas.Bool.Decides.{nat_tests}
use Rattle.job_sched.proofs.Turns.{next-ready}
use Rattle.job_sched.specs.Ready.{is_ready_job}
use Rattle.job_sched.specs.Tables.{job_at}
use Rattle.job_sched.specs.declared.job.Job.{Job}
use Rattle.machine.specs.Between.{next_in}
use Rattle.lock_queue.specs.Waits.{jobs}
use Rattle.lock_queue.specs.declared.request.Request.{Request}
use Rattle.job_sched.specs.Changes.{ticked_table}
use Rattle.job_sched.specs.declared.job.Stop.{Stop as StopReason}
use Rattle.uuo_calls.specs.Asked.{ReadBlock}
use Rattle.uuo_calls.specs.Performed.{World}
use Rattle.machine.specs.Machine.{S, after, happens, ticked}
use Rattle.machine.specs.Rounds.{rounds}
use Rattle.machine.specs.Waits.{ungranted}
use Rattle.machine.specs.Told.{before_in, read_in, told_by, told_in, told_of, world_of}
use Rattle.machine.specs.declared.event.Event.TheVariants.{Step, Tick}
use Rattle.machine.specs.declared.told.Told.{Told}
use Rattle.machine.specs.declared.view.JobView.{JobView}
use Rattle.monitor_laws.specs.Quiet.{IsQuiet}
use Rattle.monitor_laws.proofs.Rounding.{rounds-left}
use Rattle.run_events.specs.Facts.{ended_facts, facts_if, facts_of_step, facts_of_tick, stopped_facts, with_grants}
use Rattle.run_events.specs.Runs.{RunsTo, facts_of_round, job_told}
use Rattle.run_events.specs.declared.facts.Fact.{Fact}
use Rattle.run_events.proofs.TickLemmas.{none-calm}

by_lt : (m n : ℕ) (y : Bool) → nat_lt m n ≡ y → (m < n) ⊎ (n ≤ m)
by_lt m n true e = let x : m < n = grind (arith, nat_tests, e) in inl x
by_lt m n false e = let x : n ≤ m = grind (arith, nat_tests, e) in inr x

order : (m n : ℕ) → (m < n) ⊎ (n ≤ m)
order m n = by_lt m n (nat_lt m n) refl

-- a quiet round has no facts
quiet-step : (s : S) → IsQuiet s → facts_of_step s ≡ []
quiet-step s q =
    let w : World = (happens s Step).state.world in
    ap (λ (t : Option Told). facts_if (before_in s) (read_in s) w t) q.told
    ∙ ap (λ (v : Option JobView). ended_facts q.job v) q.there
    ∙ ap (λ (o : Option StopReason). stopped_facts q.job o) q.goes

quiet-tick : (s : S) → IsQuiet s → facts_of_tick (happens s Step).state ≡ []
quiet-tick s q =
    let t : S = (happens s Step).state in
    ap (λ (l : List Fact). with_grants (ungranted t.world.requests) (ticked t).state.world.requests l)
    (none-calm t.world.requests (ticked_table t.world.table).jobs jobs q.limits)

pub quiet-round : (s : S) → IsQuiet s → facts_of_round s ≡ []
quiet-round s q = ap (λ (l : List Fact). l ++ facts_of_tick (happens s Step).state) (quiet-step s q) ∙ quiet-tick s q

-- one round behind others
round-more : (b : ℕ) (s : S) → (happens (happens (after (rounds b true) s) Step).state Tick).state ≡ after (rounds (suc b) true) s
round-more b s =
    let one : suc b - b ≡ 1 = omega arith in
    ap (λ (i : ℕ). after (rounds i true) (after (rounds b true) s)) (sym one)
    ∙ rounds-left (suc b) b true s (after (rounds b true) s) (omega arith) refl

-- rounds of one job, told of at once
pub told-rounds : (s t u : S) (n : ℕ) (f : List Fact) → 1 ≤ n
    → ((k : ℕ) → k + 1 < n → facts_of_round (after (rounds k true) s) ≡ [])
    → t ≡ (happens (after (rounds (n - 1) true) s) Step).state
    → u ≡ (happens t Tick).state
    → f ≡ facts_of_step (after (rounds (n - 1) true) s) ++ facts_of_tick t
    → RunsTo s u n f
told-rounds s t u n f some quiet step tick is =
    let e : suc (n - 1) ≡ n = omega (arith, some) in
    record {
      least = some;
      state =
          tick ∙ ap (λ (v : S). (happens v Tick).state) step ∙ round-more (n - 1) s
          ∙ ap (λ (i : ℕ). after (rounds i true) s) e;
      quiet = quiet;
      last = is ∙ ap (λ (v : S). facts_of_step (after (rounds (n - 1) true) s) ++ facts_of_tick v) step;
    }

-- so many rounds, and then others
rounds-on : (a k : ℕ) (s t : S) → t ≡ after (rounds a true) s → after (rounds k true) t ≡ after (rounds (a + k) true) s
rounds-on a k s t is =
    let rest : a + k - a ≡ k = omega arith in
    ap (λ (i : ℕ). after (rounds i true) t) (sym rest) ∙ rounds-left (a + k) a true s t (omega arith) is

pub runs-on : (s t u : S) (a b : ℕ) (f g : List Fact) → RunsTo s t a f → f ≡ [] → RunsTo t u b g → RunsTo s u (a + b) g
runs-on s t u a b f g first none later =
    let some : 1 ≤ b = later.least in
    let end : a + (b - 1) ≡ a + b - 1 = omega (arith, some) in
    record {
      least = omega (arith, first.least);
      state = later.state ∙ rounds-on a b s t first.state;
      quiet = λ k less. by_place k less (order (k + 1) a);
      last =
          later.last ∙ ap (λ (v : S). facts_of_round v) (rounds-on a (b - 1) s t first.state)
          ∙ ap (λ (i : ℕ). facts_of_round (after (rounds i true) s)) end;
    }
  where
    at_end : (k : ℕ) → k + 1 ≡ a → facts_of_round (after (rounds k true) s) ≡ []
    at_end k here =
        let e : k ≡ a - 1 = omega (arith, here) in
        ap (λ (i : ℕ). facts_of_round (after (rounds i true) s)) e ∙ sym first.last ∙ none

    behind : (k : ℕ) → a ≤ k → k + 1 < a + b → facts_of_round (after (rounds k true) s) ≡ []
    behind k over less =
        let e : a + (k - a) ≡ k = omega (arith, over) in
        ap (λ (i : ℕ). facts_of_round (after (rounds i true) s)) (sym e)
        ∙ sym (ap (λ (v : S). facts_of_round v) (rounds-on a (k - a) s t first.state))
        ∙ later.quiet (k - a) (omega (arith, over, less))

    by_side : (k : ℕ) → a ≤ k + 1 → k + 1 < a + b → ((a ≤ k) ⊎ (k < a)) → facts_of_round (after (rounds k true) s) ≡ []
    by_side k over less (inl x) = behind k x less
    by_side k over less (inr x) = at_end k (omega (arith, over, x))

    swap : (k : ℕ) → ((k < a) ⊎ (a ≤ k)) → ((a ≤ k) ⊎ (k < a))
    swap k (inl x) = inr x
    swap k (inr x) = inl x

    by_place : (k : ℕ) → k + 1 < a + b → ((k + 1 < a) ⊎ (a ≤ k + 1)) → facts_of_round (after (rounds k true) s) ≡ []
    by_place k less (inl x) = first.quiet k x
    by_place k less (inr x) = by_side k x less (swap k (order k a))

-- the facts of a step, by what it made known
pub step-told : (x t : S) (l m : List Request) (b : ReadBlock) (o : Option Told) (f : List Fact) → m ≡ l → l ≡ before_in x
    → b ≡ read_in x → t ≡ (happens x Step).state → o ≡ told_in x → f ≡ facts_if m b t.world o → f ≡ facts_of_step x
step-told x t l m b o f same found read step told is =
    is
    ∙ ap (λ (k : List Request). facts_if k b t.world o) (same ∙ found)
    ∙ ap (λ (k : ReadBlock). facts_if (before_in x) k t.world o) read
    ∙ ap (λ (v : S). facts_if (before_in x) (read_in x) v.world o) step
    ∙ ap (λ (p : Option Told). facts_if (before_in x) (read_in x) (happens x Step).state.world p) told

no-job : (w : World) (n : ℕ) (o : Option Job) → is_ready_job w.lines w.requests n o ≡ true → (v : World) → job_told (told_by v n o) ≡ Some n
no-job w n (Some j) ready v = refl
no-job w n None ready v = absurd (false≢true ready)

by-next : (s : S) (o : Option ℕ) → next_in s ≡ o → job_told (told_of s o) ≡ o
by-next s None e = refl
by-next s (Some n) e =
    no-job s.world n (job_at s.world.table.jobs n) (next-ready s.world.table s.world.lines s.world.requests n e) (world_of s n)

-- the job that a step tells of is the one that is next
pub told_job : (s : S) → job_told (told_in s) ≡ next_in s
told_job s = by-next s (next_in s) refl
