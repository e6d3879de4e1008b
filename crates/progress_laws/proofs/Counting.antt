-- Rounds, event by event, and what is owed to a job that may run.
use Rattle.std.proofs.Common.{◌≡◌, ◌≢◌, ◌≤◌, ap, ℕ, ◌+◌, ◌-◌, ◌*◌, Bool, true, false, List, ◌∷◌, Option, Some, None, is_some, refl, arith}
use Rattle.std.proofs.lemmas.Bool.{both_ways, eq-eqb}
use Rattle.word36.specs.declared.sizes.TheConstants.{JOBS}
use Rattle.job_sched.specs.Ready.{next_job}
use Rattle.job_sched.specs.Tables.{job_at}
use Rattle.job_sched.proofs.Turns.{idle-none}
use Rattle.machine.specs.declared.event.Event.{Event}
use Rattle.machine.specs.declared.event.Event.TheVariants.{Step, Tick, Typed, Take, Login, Start, Continue, Kill, Restart}
use Rattle.machine.specs.Alone.{is_ran}
use Rattle.machine.specs.Machine.{S, happens, stepped}
use Rattle.machine.specs.Safe.{Safe}
use Rattle.monitor_laws.proofs.Housing.{is_job}
use Rattle.progress_laws.specs.Rounds.{rounds_from, MayRun, HasJobs, KeepsTime}
use Rattle.progress_laws.specs.Turns.{how_many}
use Rattle.progress_laws.proofs.Circles.{rounds-most}
use Rattle.progress_laws.proofs.Running.{owed, owed-step, owed-begun, owed-calm, current-counts, step-quantum}
use Rattle.progress_laws.proofs.Tables.{Calm, still-ticked, still-typed, still-taken, still-started, still-continued, still-killed, steady-logged_in}

-- rounds, event by event: whether a tick is still to come after an event, and whether the event ends a round
abbrev pub begun_after : Bool → Event → Bool
begun_after b Step = true
begun_after b Tick = false
begun_after b (Typed line c) = b
begun_after b (Take line n) = b
begun_after b (Login line image) = b
begun_after b (Start n) = b
begun_after b (Continue n) = b
begun_after b (Kill n) = b
begun_after b Restart = b

abbrev pub counted : Bool → Event → ℕ
counted b Step = 0
counted true Tick = 1
counted false Tick = 0
counted b (Typed line c) = 0
counted b (Take line n) = 0
counted b (Login line image) = 0
counted b (Start n) = 0
counted b (Continue n) = 0
counted b (Kill n) = 0
counted b Restart = 0

pub rounds-cons : (b : Bool) (e : Event) (es : List Event) → rounds_from b (e ∷ es) ≡ counted b e + rounds_from (begun_after b e) es
rounds-cons b Step es = omega arith
rounds-cons true Tick es = omega arith
rounds-cons false Tick es = omega arith
rounds-cons b (Typed line c) es = omega arith
rounds-cons b (Take line n) es = omega arith
rounds-cons b (Login line image) es = omega arith
rounds-cons b (Start n) es = omega arith
rounds-cons b (Continue n) es = omega arith
rounds-cons b (Kill n) es = omega arith
rounds-cons b Restart es = omega arith

-- what is owed after an event is a turn at most
owes-either : (C : Bool → ℕ) (m : ℕ) (b : Bool) → C false + 1 ≤ m → C true ≤ m → 0 + C b ≤ m
owes-either C m true low high = omega (arith, high)
owes-either C m false low high = omega (arith, low)

pub owes : (C : Bool → ℕ) (m : ℕ) (b : Bool) (e : Event) → C false + 1 ≤ m → C true ≤ m → counted b e + C (begun_after b e) ≤ m
owes C m b Step low high = omega (arith, high)
owes C m true Tick low high = omega (arith, low)
owes C m false Tick low high = omega (arith, low)
owes C m b (Typed line c) low high = owes-either C m b low high
owes C m b (Take line n) low high = owes-either C m b low high
owes C m b (Login line image) low high = owes-either C m b low high
owes C m b (Start n) low high = owes-either C m b low high
owes C m b (Continue n) low high = owes-either C m b low high
owes C m b (Kill n) low high = owes-either C m b low high
owes C m b Restart low high = owes-either C m b low high

-- what is owed to a job that may run, and does not, falls by each round
owed-next : (b : Bool) (test : ℕ → Bool) (s : S) (j : ℕ) (o : Option ℕ) → next_job s.world.table s.world.lines s.world.requests ≡ o → 1 ≤ j → j ≤ JOBS
    → MayRun j s Step → HasJobs test s → 1 ≤ s.quantum → is_ran j (stepped s o).answer ≡ false → 0 + owed true test j (stepped s o).state ≤ owed b test j s
owed-next b test s j None next least most ready has ticks other =
    absurd (both_ways _ (idle-none s.world.table s.world.lines s.world.requests next j least most) ready)
owed-next b test s j (Some k) next least most ready has ticks other =
    let ne : k ≢ j = λ same. both_ways _ other (eq-eqb k j same) in
    let less = owed-step test s k j next least most ready has ne ticks in
    let begins = owed-begun b test j s in
    omega (arith, less, begins)

owed-other : (b : Bool) (test : ℕ → Bool) (j : ℕ) (s u : S) → u.quantum ≡ s.quantum → Calm s.world.table u.world.table → 0 + owed b test j u ≤ owed b test j s
owed-other b test j s u same calm = let less = owed-calm b test j s u same calm in omega (arith, less)

pub owed-falls : (b : Bool) (test : ℕ → Bool) (s : S) (e : Event) (j : ℕ) → 1 ≤ j → j ≤ JOBS → MayRun j s e → HasJobs test s → 1 ≤ s.quantum
    → is_ran j (happens s e).answer ≡ false → counted b e + owed (begun_after b e) test j (happens s e).state ≤ owed b test j s
owed-falls b test s Step j least most may has ticks other =
    owed-next b test s j (next_job s.world.table s.world.lines s.world.requests) refl least most may has ticks other
owed-falls true test s Tick j least most may has ticks other = omega arith
owed-falls false test s Tick j least most may has ticks other = owed-other false test j s (happens s Tick).state (still-ticked s).quantum (still-ticked s).calm
owed-falls b test s (Typed line c) j least most may has ticks other =
    owed-other b test j s (happens s (Typed line c)).state (still-typed s line c).quantum (still-typed s line c).calm
owed-falls b test s (Take line n) j least most may has ticks other =
    owed-other b test j s (happens s (Take line n)).state (still-taken s line n).quantum (still-taken s line n).calm
owed-falls b test s (Login line image) j least most may has ticks other =
    owed-other b test j s (happens s (Login line image)).state
    (steady-logged_in s line image.now.words.items image.now.start).quantum
    (steady-logged_in s line image.now.words.items image.now.start).calm
owed-falls b test s (Start n) j least most may has ticks other =
    owed-other b test j s (happens s (Start n)).state (still-started s n).quantum (still-started s n).calm
owed-falls b test s (Continue n) j least most may has ticks other =
    owed-other b test j s (happens s (Continue n)).state (still-continued s n).quantum (still-continued s n).calm
owed-falls b test s (Kill n) j least most may has ticks other =
    owed-other b test j s (happens s (Kill n)).state (still-killed s n (job_at s.world.table.jobs n)).quantum
    (still-killed s n (job_at s.world.table.jobs n)).calm
owed-falls b test s Restart j least most may has ticks other = absurd may

pub quantum-kept : (s : S) (e : Event) → (happens s e).state.quantum ≡ s.quantum
quantum-kept s Step = step-quantum s (next_job s.world.table s.world.lines s.world.requests)
quantum-kept s Tick = refl
quantum-kept s (Typed line c) = (still-typed s line c).quantum
quantum-kept s (Take line n) = (still-taken s line n).quantum
quantum-kept s (Login line image) = (steady-logged_in s line image.now.words.items image.now.start).quantum
quantum-kept s (Start n) = (still-started s n).quantum
quantum-kept s (Continue n) = (still-continued s n).quantum
quantum-kept s (Kill n) = (still-killed s n (job_at s.world.table.jobs n)).quantum
quantum-kept s Restart = refl

-- the rounds of one turn of a job
abbrev pub turn : (ℕ → Bool) → ℕ → ℕ
turn test q = (how_many test - 1) * q + 1

-- what is owed to a job that is there is a turn at most
pub owed-most : (test : ℕ → Bool) (q : ℕ) (s : S) (j : ℕ) → Safe s → KeepsTime s → s.quantum ≡ q → HasJobs test s
    → is_some (job_at s.world.table.jobs j) ≡ true → owed false test j s + 1 ≤ turn test q
owed-most test q s j safe time is has there =
    let number = is_job s.world.table.jobs s.world.cores j safe.housed there in
    let most = rounds-most test s.quantum s.world.table.current s.world.table.left j number.0 number.1
    (has j there) time.most (current-counts test s safe has time) in
    let same : (how_many test - 1) * s.quantum ≡ (how_many test - 1) * q = ap (λ (k : ℕ). (how_many test - 1) * k) is in
    omega (arith, most, same)

pub begun-most : (test : ℕ → Bool) (q : ℕ) (s : S) (j : ℕ) → Safe s → KeepsTime s → s.quantum ≡ q → HasJobs test s
    → is_some (job_at s.world.table.jobs j) ≡ true → owed true test j s ≤ turn test q
begun-most test q s j safe time is has there =
    let number = is_job s.world.table.jobs s.world.cores j safe.housed there in
    let most = rounds-most test s.quantum s.world.table.current (s.world.table.left - 1) j number.0 number.1
    (has j there) (omega (arith, time.most)) (λ some. current-counts test s safe has time (omega (arith, some))) in
    let same : (how_many test - 1) * s.quantum ≡ (how_many test - 1) * q = ap (λ (k : ℕ). (how_many test - 1) * k) is in
    omega (arith, most, same)
