-- What events leave of the current job, of its quantum and of who is there.
use Rattle.std.proofs.Common.{◌≡◌, ◌≤◌, ◌∙◌, sym, ap, subst, ℕ, zero, suc, ◌==◌, nat_le, true, false, cond, List, [], ◌∷◌, length, map}
use Rattle.std.proofs.Common.{Option, Some, None, is_some, Result, Ok, Err, refl, arith, slice_set, inl, inr}
use Rattle.std.proofs.lemmas.Grind.{common_steps}
use Rattle.std.proofs.lemmas.Bool.{cases_eq, both_ways}
use Rattle.std.proofs.lemmas.List.{get_or-set_other}
use Rattle.std.specs.List.{list_any}
use Rattle.std.specs.Option.{option_map}
use Rattle.word36.specs.declared.sizes.TheConstants.{LINES, INPUT_RING}
use Rattle.ka_cpu.proofs.ExecLaws.{by_test}
use Rattle.tty_lines.specs.Rings.{input_of}
use Rattle.lock_queue.specs.declared.request.Request.{Request}
use Rattle.job_sched.specs.Changes.{with_job, table_without, ticked_table, broken_table, standing, is_at, free_number}
use Rattle.job_sched.specs.Jobs.{ticked_job, broken_job, started_job, going_on}
use Rattle.job_sched.specs.Limits.{limited_table}
use Rattle.job_sched.specs.Tables.{Table, job_at}
use Rattle.job_sched.specs.declared.job.Job.{Job}
use Rattle.job_sched.specs.declared.job_error.JobError.{JobError}
use Rattle.uuo_calls.specs.CallState.{CallState}
use Rattle.uuo_calls.specs.Performed.{World, row_of, around, performed_by, with_around, left_by}
use Rattle.uuo_calls.specs.Services.{service_of}
use Rattle.uuo_calls.specs.declared.call.CallOutcome.{CallOutcome}
use Rattle.uuo_calls.specs.declared.call.CallOutcome.TheVariants as ending
use Rattle.uuo_calls.specs.declared.call.MonitorCall.{MonitorCall}
use Rattle.uuo_calls.specs.declared.service.Service.{Service}
use Rattle.machine.specs.declared.sizes.TheConstants.{INTERRUPT_CHARACTER}
use Rattle.machine.specs.Images.{image_top, blocks_for}
use Rattle.machine.specs.Machine.{S, Made, made_if, started, continued, with_turn, called, awake, ran, ticked}
use Rattle.machine.specs.Machine.{killed, typed, taken, admitted, examined, logged_in}
use Rattle.machine.specs.Turns.{Turn, turn_of}
use Rattle.job_sched.proofs.Limits.{there-limited}
use Rattle.monitor_laws.proofs.Housing.{Mild, mild-ticked, mild-broken, at-mapped}

-- the current job is the same, no more of its quantum is left, and it is there where some of it is
pub record Calm (t u : Table) : Type 0 where
  pub current : u.current ≡ t.current
  pub left : u.left ≤ t.left
  pub there : 1 ≤ u.left → is_some (job_at t.jobs t.current) ≡ true → is_some (job_at u.jobs t.current) ≡ true

-- nobody has come
pub record NoneCame (t u : Table) : Type 0 where
  pub there : (n : ℕ) → is_some (job_at u.jobs n) ≡ true → is_some (job_at t.jobs n) ≡ true

pub calm-same : (t : Table) → Calm t t
calm-same t = record { current = refl; left = omega arith; there = λ some h. h }

pub none-same : (t : Table) → NoneCame t t
none-same t = record { there = λ n h. h }

pub calm-then : (t u v : Table) → Calm t u → Calm u v → Calm t v
calm-then t u v a b = record {
  current = b.current ∙ a.current;
  left = omega (arith, a.left, b.left);
  there = λ some h.
      subst (λ (c : ℕ). is_some (job_at v.jobs c) ≡ true) a.current
      (b.there some (subst (λ (c : ℕ). is_some (job_at u.jobs c) ≡ true) (sym a.current) (a.there (omega (arith, b.left)) h)));
}

pub none-then : (t u v : Table) → NoneCame t u → NoneCame u v → NoneCame t v
none-then t u v a b = record { there = λ n h. a.there n (b.there n h) }

-- a job is put at the place of one that is there, or nothing at one where none is
at-put : (jobs : List (Option Job)) (n k : ℕ) (o : Option Job) → is_some o ≡ is_some (job_at jobs n)
    → is_some (job_at (slice_set jobs n o) k) ≡ is_some (job_at jobs k)
at-put [] n k o same = refl
at-put (x ∷ jobs) zero zero o same = same
at-put (x ∷ jobs) zero (suc k) o same = refl
at-put (x ∷ jobs) (suc n) zero o same = refl
at-put (x ∷ jobs) (suc n) (suc k) o same = at-put jobs n k o same

pub calm-put : (t : Table) (n : ℕ) (o : Option Job) → is_some o ≡ is_some (job_at t.jobs n) → Calm t (with_job t n o)
calm-put t n o same = record {
  current = refl;
  left = omega arith;
  there = λ some h. at-put t.jobs n t.current o same ∙ h;
}

pub none-put : (t : Table) (n : ℕ) (o : Option Job) → is_some o ≡ is_some (job_at t.jobs n) → NoneCame t (with_job t n o)
none-put t n o same = record { there = λ k h. sym (at-put t.jobs n k o same) ∙ h }

-- a job is put anywhere
at-come : (jobs : List (Option Job)) (n k : ℕ) (j : Job) → is_some (job_at jobs k) ≡ true → is_some (job_at (slice_set jobs n (Some j)) k) ≡ true
at-come [] n k j h = h
at-come (x ∷ jobs) zero zero j h = refl
at-come (x ∷ jobs) zero (suc k) j h = h
at-come (x ∷ jobs) (suc n) zero j h = h
at-come (x ∷ jobs) (suc n) (suc k) j h = at-come jobs n k j h

pub calm-come : (t : Table) (n : ℕ) (j : Job) → Calm t (with_job t n (Some j))
calm-come t n j = record { current = refl; left = omega arith; there = λ some h. at-come t.jobs n t.current j h }

-- a job is gone
at-gone : (jobs : List (Option Job)) (n k : ℕ) → is_some (job_at (slice_set jobs n None) k) ≡ true → is_some (job_at jobs k) ≡ true
at-gone [] n k h = h
at-gone (x ∷ jobs) zero zero h = absurd (both_ways false refl h)
at-gone (x ∷ jobs) zero (suc k) h = h
at-gone (x ∷ jobs) (suc n) zero h = h
at-gone (x ∷ jobs) (suc n) (suc k) h = at-gone jobs n k h

pub calm-gone : (t : Table) (n : ℕ) → Calm t (table_without t n)
calm-gone t n = elim (cases_eq t.current n) [
  | inl same ↦
      let none : cond (t.current == n) 0 t.left ≡ 0 = grind (arith, common_steps) in
      record { current = refl; left = omega (arith, none); there = λ some h. absurd (omega (arith, none, some)) }
  | inr other ↦
      let all : cond (t.current == n) 0 t.left ≡ t.left = grind (arith, common_steps) in
      record {
        current = refl;
        left = omega (arith, all);
        there = λ some h. ap is_some (get_or-set_other t.jobs n t.current None None other) ∙ h;
      }
]

pub none-gone : (t : Table) (n : ℕ) → NoneCame t (table_without t n)
none-gone t n = record { there = λ k h. at-gone t.jobs n k h }

-- each job is changed, and at most less of the quantum is left
at-each : (f : Option Job → Option Job) (jobs : List (Option Job)) (k : ℕ) → Mild f → is_some (job_at (map f jobs) k) ≡ is_some (job_at jobs k)
at-each f jobs k m = ap is_some (at-mapped f jobs k m.none) ∙ m.some (job_at jobs k)

pub calm-ticked : (t : Table) → Calm t (ticked_table t)
calm-ticked t = record {
  current = refl;
  left = omega arith;
  there = λ some h. at-each (option_map ticked_job) t.jobs t.current mild-ticked ∙ h;
}

pub none-ticked : (t : Table) → NoneCame t (ticked_table t)
none-ticked t = record { there = λ k h. sym (at-each (option_map ticked_job) t.jobs k mild-ticked) ∙ h }

calm-broken : (t : Table) (line : ℕ) → Calm t (broken_table t line)
calm-broken t line = record {
  current = refl;
  left = omega arith;
  there = λ some h. at-each (option_map (broken_job line)) t.jobs t.current (mild-broken line) ∙ h;
}

none-broken : (t : Table) (line : ℕ) → NoneCame t (broken_table t line)
none-broken t line = record { there = λ k h. sym (at-each (option_map (broken_job line)) t.jobs k (mild-broken line)) ∙ h }

-- both
pub record Quiet (t u : Table) : Type 0 where
  pub calm : Calm t u
  pub none : NoneCame t u

pub quiet-same : (t : Table) → Quiet t t
quiet-same t = record { calm = calm-same t; none = none-same t }

pub quiet-then : (t u v : Table) → Quiet t u → Quiet u v → Quiet t v
quiet-then t u v a b = record { calm = calm-then t u v a.calm b.calm; none = none-then t u v a.none b.none }

quiet-put : (t : Table) (n : ℕ) (o : Option Job) → is_some o ≡ is_some (job_at t.jobs n) → Quiet t (with_job t n o)
quiet-put t n o same = record { calm = calm-put t n o same; none = none-put t n o same }

quiet-gone : (t : Table) (n : ℕ) → Quiet t (table_without t n)
quiet-gone t n = record { calm = calm-gone t n; none = none-gone t n }

-- a call
quiet-left : (o : CallOutcome) (w : World) (n : ℕ) → Quiet w.table (left_by o w n).table
quiet-left ending.Done w n = quiet-same w.table
quiet-left ending.Empty w n = quiet-same w.table
quiet-left ending.Gone w n = quiet-gone w.table n

quiet-performed : (w : World) (time n : ℕ) (service : Service) (ac e : ℕ) (o : Option Job) → job_at w.table.jobs n ≡ o
    → Quiet w.table (performed_by w time n o service ac e).world.table
quiet-performed w time n service ac e None is = quiet-same w.table
quiet-performed w time n service ac e (Some j) is =
    let a : CallState = row_of service time n ac e (around w j) in
    quiet-then w.table (with_around w n a).table (left_by a.ending (with_around w n a) n).table
    (quiet-put w.table n (Some a.job) (sym (ap is_some is))) (quiet-left a.ending (with_around w n a) n)

quiet-called : (w : World) (time n : ℕ) (c : Option MonitorCall) → Quiet w.table (called w time n c).table
quiet-called w time n None = quiet-same w.table
quiet-called w time n (Some c) = quiet-performed w time n (service_of c.kind c.ac c.e) c.ac c.e (job_at w.table.jobs n) refl

-- a turn
pub quiet-ran : (w : World) (time n : ℕ) (o : Option Job) → job_at w.table.jobs n ≡ o → Quiet w.table (ran w time n o).table
quiet-ran w time n None is = quiet-same w.table
quiet-ran w time n (Some j) is =
    let t : Turn = turn_of n (awake j) w.cores w.requests in
    quiet-then w.table (with_turn w n t).table (called (with_turn w n t) time n t.call).table
    (quiet-put w.table n (Some t.job) (sym (ap is_some is))) (quiet-called (with_turn w n t) time n t.call)

-- the same of a state, whose quantum stays
pub record Still (s u : S) : Type 0 where
  pub quantum : u.quantum ≡ s.quantum
  pub calm : Calm s.world.table u.world.table
  pub none : NoneCame s.world.table u.world.table

pub record Steady (s u : S) : Type 0 where
  pub quantum : u.quantum ≡ s.quantum
  pub calm : Calm s.world.table u.world.table

still-by : (s u : S) → u.quantum ≡ s.quantum → Quiet s.world.table u.world.table → Still s u
still-by s u same q = record { quantum = same; calm = q.calm; none = q.none }

still-same : (s : S) → Still s s
still-same s = still-by s s refl (quiet-same s.world.table)

steady-same : (s : S) → Steady s s
steady-same s = record { quantum = refl; calm = calm-same s.world.table }

-- events that are no step
calm-limited : (t : Table) (requests : List Request) → Calm t (limited_table t requests)
calm-limited t requests = record { current = refl; left = omega arith; there = λ some h. there-limited t requests t.current ∙ h }

none-limited : (t : Table) (requests : List Request) → NoneCame t (limited_table t requests)
none-limited t requests = record { there = λ n h. sym (there-limited t requests n) ∙ h }

pub still-ticked : (s : S) → Still s (ticked s).state
still-ticked s =
    let t = ticked_table s.world.table in
    still-by s _ refl
    (quiet-then s.world.table t (limited_table t s.world.requests) (record { calm = calm-ticked s.world.table; none = none-ticked s.world.table })
    (record { calm = calm-limited t s.world.requests; none = none-limited t s.world.requests }))

pub still-typed : (s : S) (line c : ℕ) → Still s (typed s line c).state
still-typed s line c =
    by_test (λ (m : Made). Still s m.state) (nat_le LINES line) _ _ (λ _. still-same s)
    (λ _. by_test (λ (m : Made). Still s m.state) (c == INTERRUPT_CHARACTER) _ _
    (λ _. still-by s _ refl (record { calm = calm-broken s.world.table line; none = none-broken s.world.table line }))
    (λ _. by_test (λ (m : Made). Still s m.state) (nat_le INPUT_RING (length (input_of s.world.lines line))) _ _
    (λ _. still-same s) (λ _. still-by s _ refl (quiet-same s.world.table))))

pub still-taken : (s : S) (line n : ℕ) → Still s (taken s line n).state
still-taken s line n =
    by_test (λ (m : Made). Still s m.state) (nat_le LINES line) _ _ (λ _. still-same s) (λ _. still-by s _ refl (quiet-same s.world.table))

still-made_if : (s : S) (w : World) (r : Result (Unit {0}) JobError) → Quiet s.world.table w.table → Still s (made_if s w r).state
still-made_if s w (Ok x) h = still-by s _ refl h
still-made_if s w (Err e) h = still-same s

some-mapped : (f : Job → Job) (o : Option Job) → is_some (option_map f o) ≡ is_some o
some-mapped f None = refl
some-mapped f (Some j) = refl

pub still-started : (s : S) (n : ℕ) → Still s (started s n).state
still-started s n =
    still-made_if s _ (standing (job_at s.world.table.jobs n))
    (quiet-put s.world.table n (option_map started_job (job_at s.world.table.jobs n)) (some-mapped started_job (job_at s.world.table.jobs n)))

pub still-continued : (s : S) (n : ℕ) → Still s (continued s n).state
still-continued s n =
    still-made_if s _ (standing (job_at s.world.table.jobs n))
    (quiet-put s.world.table n (option_map going_on (job_at s.world.table.jobs n)) (some-mapped going_on (job_at s.world.table.jobs n)))

pub still-killed : (s : S) (n : ℕ) (o : Option Job) → Still s (killed s n o).state
still-killed s n None = still-same s
still-killed s n (Some j) = still-by s _ refl (quiet-gone s.world.table n)

steady-admitted : (s : S) (line : ℕ) (words : List (ℕ × ℕ)) (start blocks : ℕ) (o : Option ℕ) → Steady s (admitted s line words start blocks o).state
steady-admitted s line words start blocks None = steady-same s
steady-admitted s line words start blocks (Some n) =
    by_test (λ (m : Made). Steady s m.state) (nat_le blocks s.world.cores.free) _ _
    (λ _. record { quantum = refl; calm = calm-come s.world.table n _ }) (λ _. steady-same s)

steady-examined : (s : S) (line : ℕ) (words : List (ℕ × ℕ)) (start : ℕ) (o : Option ℕ) → Steady s (examined s line words start o).state
steady-examined s line words start None = steady-same s
steady-examined s line words start (Some top) = steady-admitted s line words start (blocks_for top) (free_number s.world.table.jobs)

pub steady-logged_in : (s : S) (line : ℕ) (words : List (ℕ × ℕ)) (start : ℕ) → Steady s (logged_in s line words start).state
steady-logged_in s line words start =
    by_test (λ (m : Made). Steady s m.state) (nat_le LINES line) _ _ (λ _. steady-same s)
    (λ _. by_test (λ (m : Made). Steady s m.state) (list_any (is_at line) s.world.table.jobs) _ _ (λ _. steady-same s)
    (λ _. steady-examined s line words start (image_top words start)))
