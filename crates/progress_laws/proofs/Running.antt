-- A job that may run at each step runs in time.
use Rattle.std.proofs.Common.{◌≡◌, ◌≢◌, ◌≤◌, ◌<◌, ◌∙◌, ◌⊎◌, sym, ap, subst, ℕ, zero, suc, ◌+◌, ◌-◌, ◌*◌, ◌==◌, ◌&&◌, ◌||◌, nat_lt, Bool, true}
use Rattle.std.proofs.Common.{false, List, [], ◌∷◌, Option, Some, None, is_some, replicate, refl, arith, inl, inr}
use Rattle.std.specs.Prelude.{Contains}
use Rattle.std.specs.List.{list_any}
use Rattle.std.proofs.lemmas.Bool.{cases_eq, both_ways, and_parts, ltb-true, lt-ltb, eqb-true, eq-eqb}
use Rattle.word36.specs.declared.sizes.TheConstants.{JOBS}
use Rattle.ka_cpu.proofs.ExecLaws.{by_test}
use Rattle.lock_queue.specs.declared.request.Request.{Request}
use Rattle.tty_lines.specs.Rings.{Rings}
use Rattle.job_sched.specs.Changes.{chosen}
use Rattle.job_sched.specs.Ready.{is_ready, is_ready_job, first_from, next_job, after}
use Rattle.job_sched.specs.Tables.{Table, job_at}
use Rattle.job_sched.specs.declared.job.Job.{Job}
use Rattle.job_sched.proofs.Turns.{next-ready, idle-none}
use Rattle.uuo_calls.specs.Performed.{World}
use Rattle.machine.specs.declared.event.Answer.{Answer}
use Rattle.machine.specs.declared.event.Answer.TheVariants.{Ran}
use Rattle.machine.specs.declared.event.Event.{Event}
use Rattle.machine.specs.declared.event.Event.TheVariants.{Step, Tick, Typed, Take, Login, Start, Continue, Kill, Restart}
use Rattle.machine.specs.Along.{Always, Along}
use Rattle.machine.specs.Machine.{S, answers, at_boot, happens, stepped}
use Rattle.machine.specs.Safe.{Safe}
use Rattle.monitor_laws.proofs.Always.{always_safe}
use Rattle.monitor_laws.proofs.Housing.{is_job}
use Rattle.monitor_laws.proofs.OtherCores.{jobs-chosen}
use Rattle.progress_laws.specs.Rounds.{rounds_from, rounds_in, MayRun, HasJobs, KeepsTime, RunsInTime, RunsInTimeAmongAll, RunsInTimeAmongThese, is_login}
use Rattle.progress_laws.specs.Turns.{passing_from, how_many}
use Rattle.job_sched.proofs.Circle.{at}
use Rattle.progress_laws.proofs.Circles.{asked_before, rounds_before, Found, found-before, reached, rounds-less}
use Rattle.progress_laws.proofs.Circles.{rounds-tick, rounds-on, rounds-next, rounds-most}
use Rattle.progress_laws.proofs.Tables.{Calm, NoneCame, none-same, Quiet, quiet-ran, still-ticked, still-typed, still-taken}
use Rattle.progress_laws.proofs.Tables.{still-started, still-continued, still-killed, steady-logged_in}

-- who is ready is there
pub ready-there : (lines : List Rings) (requests : List Request) (n : ℕ) (o : Option Job) → is_ready_job lines requests n o ≡ true → is_some o ≡ true
ready-there lines requests n None h = h
ready-there lines requests n (Some j) h = refl

-- what a step leaves of the table
record Chosen (s : S) (k : ℕ) (u : S) : Type 0 where
  quantum : u.quantum ≡ s.quantum
  current : u.world.table.current ≡ k
  left : u.world.table.left ≤ (chosen s.world.table k s.quantum).left

chosen-current : (t : Table) (k q : ℕ) → (chosen t k q).current ≡ k
chosen-current t k q =
    by_test (λ (u : Table). u.current ≡ k) ((t.current == k) && nat_lt 0 t.left) t (record t { current = k; left = q })
    (λ yes. eqb-true t.current k (and_parts (t.current == k) (nat_lt 0 t.left) yes).0) (λ _. refl)

quiet-step : (s : S) (k : ℕ) → Quiet (chosen s.world.table k s.quantum) (stepped s (Some k)).state.world.table
quiet-step s k =
    let w : World = record s.world { table = chosen s.world.table k s.quantum } in
    quiet-ran w s.time k (job_at s.world.table.jobs k) (ap (λ l. job_at l k) (jobs-chosen s.world.table k s.quantum))

chosen-step : (s : S) (k : ℕ) → Chosen s k (stepped s (Some k)).state
chosen-step s k =
    let q = (quiet-step s k).calm in
    record { quantum = refl; current = q.current ∙ chosen-current s.world.table k s.quantum; left = q.left }

pub step-quantum : (s : S) (o : Option ℕ) → (stepped s o).state.quantum ≡ s.quantum
step-quantum s None = refl
step-quantum s (Some k) = refl

-- what is left of a quantum that begins, or goes on
left-on : (t : Table) (k q : ℕ) → t.current ≡ k → 0 < t.left → (chosen t k q).left ≡ t.left
left-on t k q same some =
    by_test (λ (u : Table). u.left ≡ t.left) ((t.current == k) && nat_lt 0 t.left) t (record t { current = k; left = q })
    (λ _. refl) (λ no. absurd (both_ways _ no (let e = eq-eqb t.current k same in let l = lt-ltb 0 t.left some in rw (e, l) refl)))

left-new : (t : Table) (k q : ℕ) → (t.current ≡ k → 0 < t.left → ⊥) → (chosen t k q).left ≡ q
left-new t k q new =
    by_test (λ (u : Table). u.left ≡ q) ((t.current == k) && nat_lt 0 t.left) t (record t { current = k; left = q })
    (λ yes. let p = and_parts (t.current == k) (nat_lt 0 t.left) yes in absurd (new (eqb-true t.current k p.0) (ltb-true 0 t.left p.1))) (λ _. refl)

-- a step of another, and a tick behind it
rounds-step : (test : ℕ → Bool) (t : Table) (lines : List Rings) (requests : List Request) (q k n l : ℕ) → next_job t lines requests ≡ Some k
    → 1 ≤ n → n ≤ JOBS → is_ready t.jobs lines requests n ≡ true → ((m : ℕ) → is_some (job_at t.jobs m) ≡ true → test m ≡ true)
    → k ≢ n → 0 < q → l ≤ (chosen t k q).left
    → rounds_before test q k (l - 1) n + 1 ≤ rounds_before test q t.current t.left n
rounds-step test t lines requests q k n l next some most ready counts other ticks low =
    by_test (λ o. o ≡ Some k → rounds_before test q k (l - 1) n + 1 ≤ rounds_before test q t.current t.left n)
    (nat_lt 0 t.left && is_ready t.jobs lines requests t.current) (Some t.current) (first_from (is_ready t.jobs lines requests) JOBS (after t.current))
    (λ goes e.
    let same : t.current ≡ k = cc in
    let p = and_parts (nat_lt 0 t.left) (is_ready t.jobs lines requests t.current) goes in
    let left : 0 < t.left = ltb-true 0 t.left p.0 in
    let less : l ≤ t.left = omega (arith, low, left-on t k q same left) in
    subst (λ (c : ℕ). rounds_before test q c (l - 1) n + 1 ≤ rounds_before test q t.current t.left n) same
    (rounds-on test q t.current t.left l n (λ is. other (sym same ∙ is)) left less))
    (λ stops e.
    let here : is_ready t.jobs lines requests k ≡ true = next-ready t lines requests k next in
    let i = asked_before t.current n in
    let f : Found (is_ready t.jobs lines requests) (after t.current) k i =
    found-before (is_ready t.jobs lines requests) JOBS (after t.current) k i e (omega arith)
    (subst (λ (m : ℕ). is_ready t.jobs lines requests m ≡ true) (sym (reached t.current n some most)) ready) in
    let new : (chosen t k q).left ≡ q =
    left-new t k q
    (λ same left. both_ways _ stops
    (let a = lt-ltb 0 t.left left in
    let b : is_ready t.jobs lines requests t.current ≡ true =
    subst (λ (m : ℕ). is_ready t.jobs lines requests m ≡ true) (sym same) here in rw (a, b) refl)) in
    let before : f.place ≢ i = λ is. other (f.is ∙ ap (λ (x : ℕ). at (after t.current) x) is ∙ reached t.current n some most) in
    rounds-next test q t.current k t.left l n f.place some most f.is (omega (arith, f.low, before))
    (counts k (ready-there lines requests k (job_at t.jobs k) here)) other ticks (omega (arith, low, new)))
    next

-- the rounds that can go by before job n runs, where a round may have begun
abbrev pub owed : Bool → (ℕ → Bool) → ℕ → S → ℕ
owed false test n s = rounds_before test s.quantum s.world.table.current s.world.table.left n
owed true test n s = rounds_before test s.quantum s.world.table.current (s.world.table.left - 1) n + 1

pub owed-step : (test : ℕ → Bool) (s : S) (k n : ℕ) → next_job s.world.table s.world.lines s.world.requests ≡ Some k
    → 1 ≤ n → n ≤ JOBS → MayRun n s Step → HasJobs test s → k ≢ n → 1 ≤ s.quantum
    → owed true test n (stepped s (Some k)).state ≤ owed false test n s
owed-step test s k n next some most ready counts other ticks =
    let u : S = (stepped s (Some k)).state in
    let c = chosen-step s k in
    let h = rounds-step test s.world.table s.world.lines s.world.requests s.quantum k n u.world.table.left next some most ready counts other ticks c.left in
    subst (λ (x : ℕ). rounds_before test s.quantum x (u.world.table.left - 1) n + 1 ≤ owed false test n s) (sym c.current) h

pub owed-begun : (begun : Bool) (test : ℕ → Bool) (n : ℕ) (s : S) → owed false test n s ≤ owed begun test n s
owed-begun false test n s = omega arith
owed-begun true test n s = rounds-tick test s.quantum s.world.table.current s.world.table.left n

-- other events
pub owed-calm : (begun : Bool) (test : ℕ → Bool) (n : ℕ) (s u : S) → u.quantum ≡ s.quantum → Calm s.world.table u.world.table
    → owed begun test n u ≤ owed begun test n s
owed-calm false test n s u same c =
    rw (same, c.current) (rounds-less test s.quantum s.world.table.current u.world.table.left s.world.table.left n c.left)
owed-calm true test n s u same c =
    let h = rounds-less test s.quantum s.world.table.current (u.world.table.left - 1) (s.world.table.left - 1) n (omega (arith, c.left)) in
    rw (same, c.current) (omega (arith, h))

-- answers
contains-first : (x : Answer) (answers : List Answer) → Contains (x ∷ answers) x
contains-first x answers = (zero, omega arith, refl)

contains-later : (a x : Answer) (answers : List Answer) → Contains answers x → Contains (a ∷ answers) x
contains-later a x answers c = (suc c.0, omega (arith, c.1), c.2)

-- either no more rounds go by, or the job runs
abbrev Ends : Bool → (ℕ → Bool) → ℕ → S → List Event → Type 0
Ends begun test n s es = (rounds_from begun es ≤ owed begun test n s) ⊎ Contains (answers es s) (Ran n)

ends-calm : (begun : Bool) (test : ℕ → Bool) (n : ℕ) (s u : S) (es : List Event) (a : Answer) → u.quantum ≡ s.quantum → Calm s.world.table u.world.table
    → Ends begun test n u es → (rounds_from begun es ≤ owed begun test n s) ⊎ Contains (a ∷ answers es u) (Ran n)
ends-calm begun test n s u es a same c (inl few) = inl (omega (arith, few, owed-calm begun test n s u same c))
ends-calm begun test n s u es a same c (inr runs) = inr (contains-later a (Ran n) (answers es u) runs)

ends-ticked : (test : ℕ → Bool) (n : ℕ) (s u : S) (es : List Event) (a : Answer)
    → owed false test n u ≡ rounds_before test s.quantum s.world.table.current (s.world.table.left - 1) n
    → Ends false test n u es → (suc (rounds_from false es) ≤ owed true test n s) ⊎ Contains (a ∷ answers es u) (Ran n)
ends-ticked test n s u es a is (inl few) = inl (omega (arith, few, is))
ends-ticked test n s u es a is (inr runs) = inr (contains-later a (Ran n) (answers es u) runs)

-- a step
ends-step : (begun : Bool) (test : ℕ → Bool) (n : ℕ) (s : S) (es : List Event) (o : Option ℕ) → next_job s.world.table s.world.lines s.world.requests ≡ o
    → 1 ≤ n → n ≤ JOBS → MayRun n s Step → HasJobs test s → 1 ≤ s.quantum
    → Ends true test n (stepped s o).state es
    → (rounds_from true es ≤ owed begun test n s) ⊎ Contains ((stepped s o).answer ∷ answers es (stepped s o).state) (Ran n)
ends-step begun test n s es None next some most ready counts ticks e =
    absurd (both_ways _ (idle-none s.world.table s.world.lines s.world.requests next n some most) ready)
ends-step begun test n s es (Some k) next some most ready counts ticks (inr runs) =
    inr (contains-later (Ran k) (Ran n) (answers es (stepped s (Some k)).state) runs)
ends-step begun test n s es (Some k) next some most ready counts ticks (inl few) = elim (cases_eq k n) [
  | inl same ↦
      inr (subst (λ (m : ℕ). Contains (Ran k ∷ answers es (stepped s (Some k)).state) (Ran m)) same
      (contains-first (Ran k) (answers es (stepped s (Some k)).state)))
  | inr other ↦ inl (omega (arith, few, owed-step test s k n next some most ready counts other ticks, owed-begun begun test n s))
]

ends : (begun : Bool) (test : ℕ → Bool) (n : ℕ) (s : S) (es : List Event) → 1 ≤ n → n ≤ JOBS → 1 ≤ s.quantum
    → Along (MayRun n) s es → Always (HasJobs test) s es → Ends begun test n s es
ends begun test n s [] some most ticks may has = inl (omega arith)
ends begun test n s (Step ∷ es) some most ticks may has =
    let o : Option ℕ = next_job s.world.table s.world.lines s.world.requests in
    ends-step begun test n s es o refl some most may.0 (has zero) ticks
    (ends true test n (stepped s o).state es some most (subst (λ (q : ℕ). 1 ≤ q) (sym (step-quantum s o)) ticks) may.1 (λ k. has (suc k)))
ends true test n s (Tick ∷ es) some most ticks may has =
    ends-ticked test n s (happens s Tick).state es _ refl (ends false test n (happens s Tick).state es some most ticks may.1 (λ k. has (suc k)))
ends false test n s (Tick ∷ es) some most ticks may has =
    let t = still-ticked s in
    ends-calm false test n s (happens s Tick).state es _ t.quantum t.calm (ends false test n (happens s Tick).state es some most ticks may.1 (λ k. has (suc k)))
ends begun test n s (Typed line c ∷ es) some most ticks may has =
    let t = still-typed s line c in
    ends-calm begun test n s (happens s (Typed line c)).state es _ t.quantum t.calm
    (ends begun test n (happens s (Typed line c)).state es some most (subst (λ (q : ℕ). 1 ≤ q) (sym t.quantum) ticks) may.1 (λ k. has (suc k)))
ends begun test n s (Take line m ∷ es) some most ticks may has =
    let t = still-taken s line m in
    ends-calm begun test n s (happens s (Take line m)).state es _ t.quantum t.calm
    (ends begun test n (happens s (Take line m)).state es some most (subst (λ (q : ℕ). 1 ≤ q) (sym t.quantum) ticks) may.1 (λ k. has (suc k)))
ends begun test n s (Login line image ∷ es) some most ticks may has =
    let t = steady-logged_in s line image.now.words.items image.now.start in
    ends-calm begun test n s (happens s (Login line image)).state es _ t.quantum t.calm
    (ends begun test n (happens s (Login line image)).state es some most (subst (λ (q : ℕ). 1 ≤ q) (sym t.quantum) ticks) may.1 (λ k. has (suc k)))
ends begun test n s (Start m ∷ es) some most ticks may has =
    let t = still-started s m in
    ends-calm begun test n s (happens s (Start m)).state es _ t.quantum t.calm
    (ends begun test n (happens s (Start m)).state es some most (subst (λ (q : ℕ). 1 ≤ q) (sym t.quantum) ticks) may.1 (λ k. has (suc k)))
ends begun test n s (Continue m ∷ es) some most ticks may has =
    let t = still-continued s m in
    ends-calm begun test n s (happens s (Continue m)).state es _ t.quantum t.calm
    (ends begun test n (happens s (Continue m)).state es some most (subst (λ (q : ℕ). 1 ≤ q) (sym t.quantum) ticks) may.1 (λ k. has (suc k)))
ends begun test n s (Kill m ∷ es) some most ticks may has =
    let t = still-killed s m (job_at s.world.table.jobs m) in
    ends-calm begun test n s (happens s (Kill m)).state es _ t.quantum t.calm
    (ends begun test n (happens s (Kill m)).state es some most (subst (λ (q : ℕ). 1 ≤ q) (sym t.quantum) ticks) may.1 (λ k. has (suc k)))
ends begun test n s (Restart ∷ es) some most ticks may has = absurd may.0

-- a time at which the job may run
record Seen (test : ℕ → Bool) (n : ℕ) : Type 0 where
  number : (1 ≤ n) × (n ≤ JOBS)
  counts : test n ≡ true

seen-here : (test : ℕ → Bool) (n : ℕ) (s : S) → Safe s → HasJobs test s → MayRun n s Step → Seen test n
seen-here test n s h has ready =
    let there = ready-there s.world.lines s.world.requests n (job_at s.world.table.jobs n) ready in
    let number = is_job s.world.table.jobs s.world.cores n h.housed there in
    record { number = (number.0, number.1); counts = has n there }

seen : (test : ℕ → Bool) (n : ℕ) (s : S) (es : List Event) → Along (MayRun n) s es → Always Safe s es → Always (HasJobs test) s es
    → 0 < rounds_in es → Seen test n
seen test n s [] may safe has some = absurd (omega arith)
seen test n s (Step ∷ es) may safe has some = seen-here test n s (safe zero) (has zero) may.0
seen test n s (Tick ∷ es) may safe has some = seen test n (happens s Tick).state es may.1 (λ k. safe (suc k)) (λ k. has (suc k)) some
seen test n s (Typed line c ∷ es) may safe has some = seen test n (happens s (Typed line c)).state es may.1 (λ k. safe (suc k)) (λ k. has (suc k)) some
seen test n s (Take line m ∷ es) may safe has some = seen test n (happens s (Take line m)).state es may.1 (λ k. safe (suc k)) (λ k. has (suc k)) some
seen test n s (Login line image ∷ es) may safe has some = seen test n (happens s (Login line image)).state es may.1 (λ k. safe (suc k)) (λ k. has (suc k)) some
seen test n s (Start m ∷ es) may safe has some = seen test n (happens s (Start m)).state es may.1 (λ k. safe (suc k)) (λ k. has (suc k)) some
seen test n s (Continue m ∷ es) may safe has some = seen test n (happens s (Continue m)).state es may.1 (λ k. safe (suc k)) (λ k. has (suc k)) some
seen test n s (Kill m ∷ es) may safe has some = seen test n (happens s (Kill m)).state es may.1 (λ k. safe (suc k)) (λ k. has (suc k)) some
seen test n s (Restart ∷ es) may safe has some = absurd may.0

-- at the beginning
pub always-first : (P : S → Type 0) (s : S) (es : List Event) → Always P s es → P s
always-first P s [] all = all zero
always-first P s (e ∷ es) all = all zero

pub current-counts : (test : ℕ → Bool) (s : S) → Safe s → HasJobs test s → KeepsTime s → 0 < s.world.table.left
    → (1 ≤ s.world.table.current) × (s.world.table.current ≤ JOBS) × (test s.world.table.current ≡ true)
current-counts test s h has time some =
    let there = time.there some in
    let number = is_job s.world.table.jobs s.world.cores s.world.table.current h.housed there in
    (number.0, number.1, has s.world.table.current there)

pub runs_in_time : (s : S) (es : List Event) → Safe s → KeepsTime s → RunsInTime s es
runs_in_time s es h time n test may has many =
    let o = seen test n s es may (always_safe s es h) has (omega (arith, many)) in
    let first : HasJobs test s = always-first (HasJobs test) s es has in
    let most =
    rounds-most test s.quantum s.world.table.current s.world.table.left n o.number.0 o.number.1 o.counts time.most
    (current-counts test s h first time) in
    by-ends most many (ends false test n s es o.number.0 o.number.1 time.some_ticks may has)
  where
    by-ends : owed false test n s ≤ (how_many test - 1) * s.quantum → (how_many test - 1) * s.quantum < rounds_in es
        → Ends false test n s es → Contains (answers es s) (Ran n)
    by-ends most many (inl few) = absurd (omega (arith, most, many, few))
    by-ends most many (inr runs) = runs

-- all numbers
all-pass : how_many (λ _. true) ≡ JOBS
unfolding passing_from
all-pass = refl

pub runs_in_time_among_all : (s : S) (es : List Event) → Safe s → KeepsTime s → RunsInTimeAmongAll s es
runs_in_time_among_all s es h time n may many =
    runs_in_time s es h time n (λ _. true) may (λ k m there. refl) (rw all-pass many)

-- where nobody logs in
has-after : (test : ℕ → Bool) (s u : S) → NoneCame s.world.table u.world.table → HasJobs test s → HasJobs test u
has-after test s u none has n there = has n (none.there n there)

none-step : (s : S) (o : Option ℕ) → NoneCame s.world.table (stepped s o).state.world.table
none-step s None = none-same s.world.table
none-step s (Some k) =
    record { there = λ n h. subst (λ l. is_some (job_at l n) ≡ true) (jobs-chosen s.world.table k s.quantum) ((quiet-step s k).none.there n h) }

pub nobody-there : (k n : ℕ) → is_some (job_at (replicate k None) n) ≡ false
nobody-there zero n = refl
nobody-there (suc k) zero = refl
nobody-there (suc k) (suc n) = nobody-there k n

pub has-next : (test : ℕ → Bool) (s : S) (e : Event) → is_login e ≡ false → HasJobs test s → HasJobs test (happens s e).state
has-next test s Step old has = has-after test s (happens s Step).state (none-step s (next_job s.world.table s.world.lines s.world.requests)) has
has-next test s Tick old has = has-after test s (happens s Tick).state (still-ticked s).none has
has-next test s (Typed line c) old has = has-after test s (happens s (Typed line c)).state (still-typed s line c).none has
has-next test s (Take line n) old has = has-after test s (happens s (Take line n)).state (still-taken s line n).none has
has-next test s (Login line image) old has = absurd (cc)
has-next test s (Start n) old has = has-after test s (happens s (Start n)).state (still-started s n).none has
has-next test s (Continue n) old has = has-after test s (happens s (Continue n)).state (still-continued s n).none has
has-next test s (Kill n) old has = has-after test s (happens s (Kill n)).state (still-killed s n (job_at s.world.table.jobs n)).none has
has-next test s Restart old has = λ n there. absurd (both_ways _ (nobody-there (JOBS + 1) n) there)

or-left : (a b : Bool) → (a || b) ≡ false → a ≡ false
or-left true b h = absurd (cc)
or-left false b h = refl

or-right : (a b : Bool) → (a || b) ≡ false → b ≡ false
or-right true b h = absurd (cc)
or-right false b h = h

has-always : (test : ℕ → Bool) (s : S) (es : List Event) → list_any is_login es ≡ false → HasJobs test s → Always (HasJobs test) s es
has-always test s [] old has zero = has
has-always test s [] old has (suc k) = has
has-always test s (e ∷ es) old has zero = has
has-always test s (e ∷ es) old has (suc k) =
    has-always test (happens s e).state es (or-right (is_login e) (list_any is_login es) old)
    (has-next test s e (or-left (is_login e) (list_any is_login es) old) has) k

pub runs_in_time_among_these : (s : S) (es : List Event) → Safe s → KeepsTime s → RunsInTimeAmongThese s es
runs_in_time_among_these s es h time n may old many =
    let here : ℕ → Bool = λ k. is_some (job_at s.world.table.jobs k) in
    runs_in_time s es h time n here may (has-always here s es old (λ k there. there)) many

-- every state of a run keeps time
chosen-most : (t : Table) (k q : ℕ) → t.left ≤ q → (chosen t k q).left ≤ q
chosen-most t k q low =
    by_test (λ (u : Table). u.left ≤ q) ((t.current == k) && nat_lt 0 t.left) t (record t { current = k; left = q }) (λ _. low)
    (λ _. omega arith)

time-calm : (s u : S) → u.quantum ≡ s.quantum → Calm s.world.table u.world.table → KeepsTime s → KeepsTime u
time-calm s u same c h = record {
  some_ticks = subst (λ (q : ℕ). 1 ≤ q) (sym same) h.some_ticks;
  most = omega (arith, same, c.left, h.most);
  there = λ some.
      subst (λ (k : ℕ). is_some (job_at u.world.table.jobs k) ≡ true) (sym c.current) (c.there some (h.there (omega (arith, c.left))));
}

time-step : (s : S) (o : Option ℕ) → next_job s.world.table s.world.lines s.world.requests ≡ o → KeepsTime s → KeepsTime (stepped s o).state
time-step s None next h = h
time-step s (Some k) next h =
    let u : S = (stepped s (Some k)).state in
    let c = (quiet-step s k).calm in
    let there : is_some (job_at s.world.table.jobs k) ≡ true =
    ready-there s.world.lines s.world.requests k (job_at s.world.table.jobs k) (next-ready s.world.table s.world.lines s.world.requests k next) in
    let current : (chosen s.world.table k s.quantum).current ≡ k = chosen-current s.world.table k s.quantum in
    let held : is_some (job_at (chosen s.world.table k s.quantum).jobs (chosen s.world.table k s.quantum).current) ≡ true =
    rw (current, jobs-chosen s.world.table k s.quantum) there in
    record {
      some_ticks = h.some_ticks;
      most = omega (arith, c.left, chosen-most s.world.table k s.quantum h.most);
      there = λ some. subst (λ (m : ℕ). is_some (job_at u.world.table.jobs m) ≡ true) (sym c.current) (c.there some held);
    }

pub time_at_boot : (size blocks quantum : ℕ) → 1 ≤ quantum → KeepsTime (at_boot size blocks quantum)
time_at_boot size blocks quantum some = record { some_ticks = some; most = omega arith; there = λ h. absurd (omega (arith, h)) }

pub time_is_kept : (s : S) (e : Event) → KeepsTime s → KeepsTime (happens s e).state
time_is_kept s Step h = time-step s (next_job s.world.table s.world.lines s.world.requests) refl h
time_is_kept s Tick h = let t = still-ticked s in time-calm s _ t.quantum t.calm h
time_is_kept s (Typed line c) h = let t = still-typed s line c in time-calm s _ t.quantum t.calm h
time_is_kept s (Take line n) h = let t = still-taken s line n in time-calm s _ t.quantum t.calm h
time_is_kept s (Login line image) h = let t = steady-logged_in s line image.now.words.items image.now.start in time-calm s _ t.quantum t.calm h
time_is_kept s (Start n) h = let t = still-started s n in time-calm s _ t.quantum t.calm h
time_is_kept s (Continue n) h = let t = still-continued s n in time-calm s _ t.quantum t.calm h
time_is_kept s (Kill n) h = let t = still-killed s n (job_at s.world.table.jobs n) in time-calm s _ t.quantum t.calm h
time_is_kept s Restart h = record { some_ticks = h.some_ticks; most = omega arith; there = λ some. absurd (omega (arith, some)) }
