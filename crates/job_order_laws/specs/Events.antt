-- Events and runs: whichever job is next, whoever is stopped by CTRL-C, and whenever output is taken (this project's profile).
use Rattle.std.specs.Prelude.{ℕ, ◌≡◌, ◌<◌, ◌==◌, ◌/◌, ◌++◌, length, slice_index_or, Bool, true, false, is_none, if◌then◌else◌, List, [], ◌∷◌, map, replicate, Option, Some, None, unwrap_or, ⊤}
use Rattle.word36.specs.declared.sizes.TheConstants.{LINES, OUTPUT_RING, TAKEN_AT_ONCE}
use Rattle.lock_queue.specs.Waits.{numbers_from}
use Rattle.tty_lines.specs.Rings.{Rings, input_of, output_of}
use Rattle.job_sched.specs.Changes.{with_each}
use Rattle.job_sched.specs.Ready.{holds}
use Rattle.job_sched.specs.Tables.{job_at}
use Rattle.job_sched.specs.declared.job.Job.{Job}
use Rattle.job_sched.specs.declared.job.Stop.{Stop}
use Rattle.job_sched.specs.declared.job.Stop.TheVariants as stop
use Rattle.job_sched.specs.declared.job.Wait.{Wait}
use Rattle.job_sched.specs.declared.job.Wait.TheVariants.{None as Nothing, Room}
use Rattle.uuo_calls.specs.Performed.{World}
use Rattle.machine.specs.declared.event.Answer.TheVariants.{Ran}
use Rattle.machine.specs.declared.event.Event.{Event}
use Rattle.machine.specs.declared.event.Event.TheVariants.{Step, Tick, Typed, Take, Continue}
use Rattle.machine.specs.declared.sizes.TheConstants.{INTERRUPT_CHARACTER}
use Rattle.machine.specs.Alone.{taken_by, taken_from}
use Rattle.machine.specs.Machine.{S, after, happens}
use Rattle.machine.specs.Safe.{Safe}
use Rattle.job_order_laws.specs.Choices.{choice}
use Rattle.job_order_laws.specs.Erased.{asks_time}
use Rattle.job_order_laws.specs.Orders.{IsEnd, IsRun}
use Rattle.job_order_laws.specs.Turned.{IsSound, V, pc_in}

-- the stop of a job, once a stop by CTRL-C is lifted
abbrev pub lifted_stop : Option Stop → Option Stop
lifted_stop (Some stop.Typed) = None
lifted_stop stopped = stopped

-- in a run a job waits for what it waits for in the machine; if that is room at its terminal, its wait in the run is over
abbrev pub IsLikeWait : World → ℕ → ℕ → Wait → Wait → Type 0
IsLikeWait w n line (Room places) wait = holds w.lines w.requests n line wait ≡ false
IsLikeWait w n line held wait = wait ≡ held

-- job n of a run, in a world w, is the machine's job n, but for its stop by CTRL-C and its wait for room
pub record IsLikeJob (w : World) (n : ℕ) (i j : Job) : Type 0 where
  pub same : j ≡ record i { stop = lifted_stop i.stop; wait = j.wait }
  pub wait : IsLikeWait w n i.line i.wait j.wait

abbrev pub IsLikeSlot : World → ℕ → Option Job → Option Job → Type 0
IsLikeSlot w n (Some i) (Some j) = IsLikeJob w n i j
IsLikeSlot w n None None = ⊤
IsLikeSlot w n (Some i) None = ⊥
IsLikeSlot w n None (Some j) = ⊥

-- A machine s is like the state v of a run: they are the same but for the current job and its quantum, the time of day, stops by
-- CTRL-C, waits for room, and output, all of which is taken in the run.
pub record IsLike (s : S) (v : V) : Type 0 where
  pub jobs : (n : ℕ) → IsLikeSlot v.machine.world n (job_at s.world.table.jobs n) (job_at v.machine.world.table.jobs n)
  pub inputs : (line : ℕ) → input_of s.world.lines line ≡ input_of v.machine.world.lines line
  pub outputs : (line : ℕ) → output_of v.machine.world.lines line ≡ []
  pub rest : v.machine ≡ record s { world = record s.world { table = v.machine.world.table; lines = v.machine.world.lines }; time = v.machine.time }

-- a job whose stop by CTRL-C is lifted, and which does not wait for room
abbrev pub roomy_wait : Wait → Wait
roomy_wait (Room places) = Nothing
roomy_wait wait = wait

abbrev pub lifted_job : Job → Job
lifted_job j = record j { stop = lifted_stop j.stop; wait = roomy_wait j.wait }

-- a line whose output is taken
abbrev pub drained : Rings → Rings
drained r = record { input = r.input; output = [] }

-- what is in the output of the line of a slot's job
abbrev pub output_in : List Rings → Option Job → List ℕ
output_in lines (Some j) = output_of lines j.line
output_in lines None = []

-- the state of a run that a machine is like
abbrev pub lifted : S → V
lifted s = record {
  machine = record s { world = record s.world { table = with_each s.world.table lifted_job; lines = map drained s.world.lines } };
  texts = map (output_in s.world.lines) s.world.table.jobs;
  last = map pc_in s.world.table.jobs;
}

abbrev pub MachinesAreLike : Type 0
MachinesAreLike = (s : S) → Safe s → IsSound (lifted s) × IsLike s (lifted s)

-- whether a job of a slot has no stop but one by CTRL-C
abbrev pub goes_on : Option Job → Bool
goes_on (Some j) = is_none (lifted_stop j.stop)
goes_on None = true

-- the events that steer jobs: steps, ticks, CTRL-C, CONTINUE of a job that has no other stop, and output that is taken
abbrev pub is_steering : S → Event → Bool
is_steering s Step = true
is_steering s Tick = true
is_steering s (Typed line c) = c == INTERRUPT_CHARACTER
is_steering s (Take line n) = true
is_steering s (Continue n) = goes_on (job_at s.world.table.jobs n)
is_steering s _ = false

abbrev pub IsSteered : S → List Event → Type 0
IsSteered s [] = ⊤
IsSteered s (e ∷ es) = (is_steering s e ≡ true) × IsSteered (happens s e).state es

-- no job asks for the time of day
abbrev pub IsTimeless : S → List Event → Type 0
IsTimeless s [] = ⊤
IsTimeless s (e ∷ es) = ((n : ℕ) → (happens s e).answer ≡ Ran n → asks_time s.world n ≡ false) × IsTimeless (happens s e).state es

-- what is at a line goes to whoever takes it: no step clears it, since CLRBFO finds nothing there
abbrev pub KeepsOutput : S → Event → Type 0
KeepsOutput s e =
    (line : ℕ) → (more : List ℕ)
    × (taken_by line e (happens s e).answer ++ output_of (happens s e).state.world.lines line ≡ output_of s.world.lines line ++ more)

abbrev pub KeepOutput : S → List Event → Type 0
KeepOutput s [] = ⊤
KeepOutput s (e ∷ es) = KeepsOutput s e × KeepOutput (happens s e).state es

-- What a job put out in a run from v to t is what the events took from its line, and what is there now. Before the first of both
-- comes what the job had put out at first, and was taken.
abbrev pub TextsAreShown : S → V → List Event → V → Type 0
TextsAreShown s v es t =
    (n : ℕ) (j : Job) (before : List ℕ) → job_at s.world.table.jobs n ≡ Some j → n < length v.texts
    → slice_index_or v.texts n [] ≡ before ++ output_of s.world.lines j.line
    → slice_index_or t.texts n [] ≡ before ++ (taken_from j.line s es ++ output_of (after es s).world.lines j.line)

-- a run leads to a state that the machine is like after these events
pub record IsReached (s : S) (v : V) (es : List Event) : Type 0 where
  pub state : V
  pub by : List ℕ
  pub run : IsRun choice v by state
  pub sound : IsSound state
  pub like : IsLike (after es s) state
  pub texts : KeepOutput s es → TextsAreShown s v es state

-- wherever such events lead, a run leads: a step that finds no room is no turn, and a tick that counts for no job is no tick
abbrev pub EventsAreRuns : Type 0
EventsAreRuns = (s : S) (v : V) (es : List Event) → Safe s → IsSound v → IsLike s v → IsSteered s es → IsTimeless s es → IsReached s v es

-- a run ends if the machine does, once stops by CTRL-C are lifted and all output is taken
abbrev pub EndsAreLike : Type 0
EndsAreLike = (s : S) (v : V) → Safe s → IsSound v → IsLike s v → IsEnd choice (lifted s) → IsEnd choice v

-- the line of a slot's job
abbrev pub line_in : Option Job → ℕ
line_in (Some j) = j.line
line_in None = 0

-- job n, at a line, takes its turn, and no other job does: it goes on, steps and is stopped, and all that it put out is taken
abbrev pub turn_events : ℕ → ℕ → List Event
turn_events n line = Continue n ∷ Step ∷ Typed line INTERRUPT_CHARACTER ∷ replicate (OUTPUT_RING / TAKEN_AT_ONCE) (Take line TAKEN_AT_ONCE)

abbrev pub choice_events : V → ℕ → List Event
choice_events v k = if k == 0 then Tick ∷ [] else turn_events k (line_in (job_at v.machine.world.table.jobs k))

abbrev pub run_events : V → List ℕ → List Event
run_events v [] = []
run_events v (k ∷ ks) = choice_events v k ++ run_events (unwrap_or (choice v k) v) ks

-- the script of a run: all jobs are stopped, and then each takes its turns
abbrev pub script : V → List ℕ → List Event
script v ks = map (λ line. Typed line INTERRUPT_CHARACTER) (numbers_from 0 LINES) ++ run_events v ks

-- a script leads to what its run leads to
pub record IsScript (v w : V) (ks : List ℕ) : Type 0 where
  pub steered : IsSteered v.machine (script v ks)
  pub like : IsLike (after (script v ks) v.machine) w
  pub time : (after (script v ks) v.machine).time ≡ w.machine.time

-- from a state in which all output is taken, and nobody is stopped by CTRL-C or waits for room
abbrev pub ScriptsDo : Type 0
ScriptsDo = (v w : V) (ks : List ℕ) → IsSound v → IsLike v.machine v → IsRun choice v ks w → IsScript v w ks
