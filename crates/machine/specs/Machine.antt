-- The machine: its state, what each event does, and whole runs (this project's profile; calls and waits are those of the
-- TOPS-10 Monitor Calls Manual).
use Rattle.std.specs.List.{list_any}
use Rattle.std.specs.Prelude.{ℕ, ◌+◌, ◌%◌, ◌==◌, nat_le, min, ◌++◌, take, drop, length, if◌then◌else◌, List, []}
use Rattle.std.specs.Prelude.{◌∷◌, replicate, Option, Some, None, Result, Ok, Err}
use Rattle.word36.specs.declared.sizes.TheConstants.{LINES, INPUT_RING, TAKEN_AT_ONCE, DATA_WORDS}
use Rattle.core_store.specs.Cores.{all_free, taken as taken_core, with_core}
use Rattle.lock_queue.specs.Jobs.{withdrawn, withdrawn_where}
use Rattle.tty_lines.specs.Rings.{all_clear, input_of, output_of, with_input, with_output}
use Rattle.job_sched.specs.Changes.{with_job, with_change, ticked_table, broken_table, standing, is_at, free_number, chosen}
use Rattle.job_sched.specs.Jobs.{new_job, started_job, going_on}
use Rattle.job_sched.specs.Limits.{expires, limited_table}
use Rattle.job_sched.specs.Ready.{next_job}
use Rattle.job_sched.specs.Tables.{job_at, no_jobs}
use Rattle.job_sched.specs.declared.job.Job.{Job}
use Rattle.job_sched.specs.declared.job.Wait.TheVariants.{None as Nothing}
use Rattle.job_sched.specs.declared.job_error.JobError.{JobError}
use Rattle.job_sched.specs.declared.job_error.JobError.TheVariants as error
use Rattle.job_sched.specs.declared.time_of_day.TheConstants.{TICKS_A_DAY}
use Rattle.uuo_calls.specs.Performed.{World, without_job, performed}
use Rattle.uuo_calls.specs.declared.call.MonitorCall.{MonitorCall}
use Rattle.machine.specs.declared.event.Answer.{Answer}
use Rattle.machine.specs.declared.event.Answer.TheVariants.{Ran, Idle, Done, Text, JobNumber, Refused}
use Rattle.machine.specs.declared.event.Event.{Event}
use Rattle.machine.specs.declared.event.Event.TheVariants.{Step, Tick, Typed, Take, Login, Start, Continue, Kill, Restart}
use Rattle.machine.specs.declared.event.RefusedEvent.{RefusedEvent}
use Rattle.machine.specs.declared.event.RefusedEvent.TheVariants.{NoLine, LineBusy, NoJobNumber, NoCore, NoSuchJob, NotStopped, Full}
use Rattle.machine.specs.declared.event.RefusedEvent.TheVariants.{BadImage}
use Rattle.machine.specs.declared.sizes.TheConstants.{INTERRUPT_CHARACTER, LOGIN_QUOTA}
use Rattle.machine.specs.Images.{image_top, blocks_for, image_memory}
use Rattle.machine.specs.Turns.{Turn, turn_of}

-- the state: what calls work on, the time of day in ticks, the ticks of a quantum, and the blocks of core
pub record S : Type 0 where
  pub world : World
  pub time : ℕ
  pub quantum : ℕ
  pub blocks : ℕ

-- a state and an answer
pub record Made : Type 0 where
  pub state : S
  pub answer : Answer

-- an answer, and no change
abbrev pub unchanged : S → Answer → Made
unchanged s a = record { state = s; answer = a }

-- a refusal: nothing changes
abbrev pub refused : S → RefusedEvent → Made
refused s r = unchanged s (Refused r)

-- another world, with the answer Done
abbrev pub made : S → World → Made
made s w = record { state = record s { world = w }; answer = Done }

-- the world after a turn of job n
abbrev pub with_turn : World → ℕ → Turn → World
with_turn w n t = record w { table = with_job w.table n (Some t.job); requests = t.requests; cores = t.cores }

-- the call of a turn is performed, in the same step
abbrev pub called : World → ℕ → ℕ → Option MonitorCall → World
called w time n (Some c) = (performed w time n c).world
called w time n None = w

-- a turn, and the call that it makes
abbrev pub after_turn : World → ℕ → ℕ → Turn → World
after_turn w time n t = called (with_turn w n t) time n t.call

-- the job waits for nothing any more
abbrev pub awake : Job → Job
awake j = record j { wait = Nothing }

-- job n runs: its wait is over, and it takes its turn
abbrev pub ran : World → ℕ → ℕ → Option Job → World
ran w time n (Some j) = after_turn w time n (turn_of n (awake j) w.cores w.requests)
ran w time n None = w

-- a step: the job that is next becomes the current one and takes its turn
abbrev pub stepped : S → Option ℕ → Made
stepped s (Some n) =
    record {
      state = record s {
        world =
            ran (record s.world { table = chosen s.world.table n s.quantum }) s.time n (job_at s.world.table.jobs n);
      };
      answer = Ran n;
    }
stepped s None = unchanged s Idle

-- a tick of the limits: each is one tick shorter, and the requests of the jobs whose limits end leave together, each judged by
-- the list before any of them left; the requests that waited for these are granted then, where nothing else is in their way
abbrev pub limited : World → World
limited w = record w {
  table = limited_table w.table w.requests;
  requests = withdrawn_where w.requests (expires w.requests w.table.jobs);
}

-- a tick: every sleep and the quantum are one tick shorter, the time of day goes on, and then the limits are one tick shorter
abbrev pub ticked : S → Made
ticked s = record {
  state = record s { world = limited (record s.world { table = ticked_table s.world.table }); time = (s.time + 1) % TICKS_A_DAY };
  answer = Done;
}

-- a job is killed: its requests leave, and its core and its line are free
abbrev pub killed : S → ℕ → Option Job → Made
killed s n (Some j) = made s (without_job s.world n)
killed s n None = refused s NoSuchJob

-- why a job can neither start nor go on
abbrev pub refusal_of : JobError → RefusedEvent
refusal_of error.NoSuchJob = NoSuchJob
refusal_of error.NotStopped = NotStopped

-- another world, where the job is there and stopped; a refusal otherwise
abbrev pub made_if : S → World → Result (Unit {0}) JobError → Made
made_if s w (Ok x) = made s w
made_if s w (Err e) = refused s (refusal_of e)

-- a job starts, and its blocking request that is not granted leaves
abbrev pub started : S → ℕ → Made
started s n =
    made_if s
    (record s.world { table = with_change s.world.table n started_job; requests = withdrawn s.world.requests n })
    (standing (job_at s.world.table.jobs n))

-- a job goes on
abbrev pub continued : S → ℕ → Made
continued s n =
    made_if s (record s.world { table = with_change s.world.table n going_on }) (standing (job_at s.world.table.jobs n))

-- everything is gone but the shared words and the time of day
abbrev pub restarted : S → Made
restarted s = made s (record s.world { table = no_jobs; lines = all_clear; requests = []; cores = all_free s.blocks })

-- CTRL-C at a line
abbrev pub broken : World → ℕ → World
broken w line = record w { table = broken_table w.table line }

-- a character is typed: CTRL-C is never stored
abbrev pub typed : S → ℕ → ℕ → Made
typed s line c =
    if nat_le LINES line then refused s NoLine else
    if c == INTERRUPT_CHARACTER then made s (broken s.world line) else
    if nat_le INPUT_RING (length (input_of s.world.lines line)) then refused s Full else
    made s (record s.world { lines = with_input s.world.lines line (input_of s.world.lines line ++ c ∷ []) })

-- characters leave the front of a line's output
abbrev pub taken : S → ℕ → ℕ → Made
taken s line n =
    if nat_le LINES line then refused s NoLine else
    record {
      state = record s {
        world =
            record s.world { lines = with_output s.world.lines line (drop (min n TAKEN_AT_ONCE) (output_of s.world.lines line)) };
      };
      answer = Text (take (min n TAKEN_AT_ONCE) (output_of s.world.lines line));
    }

-- how many requests a new job may have: LOGIN_QUOTA, or all that the lock table holds if these are fewer
abbrev pub first_quota : ℕ → ℕ
first_quota size = min LOGIN_QUOTA size

-- the world with a new job that has an image
abbrev pub with_image : World → ℕ → ℕ → List (ℕ × ℕ) → ℕ → ℕ → World
with_image w n line words start blocks =
    let p = image_memory words start blocks in
    record w {
      table = with_job w.table n (Some (new_job line p.regs start (first_quota w.size)));
      cores = with_core (taken_core w.cores n blocks) n p.core;
    }

-- the new job gets a number and its core, if there are any
abbrev pub admitted : S → ℕ → List (ℕ × ℕ) → ℕ → ℕ → Option ℕ → Made
admitted s line words start blocks (Some n) =
    if nat_le blocks s.world.cores.free
    then record { state = record s { world = with_image s.world n line words start blocks }; answer = JobNumber n }
    else refused s NoCore
admitted s line words start blocks None = refused s NoJobNumber

-- the new job's image is examined, and then the job is admitted
abbrev pub examined : S → ℕ → List (ℕ × ℕ) → ℕ → Option ℕ → Made
examined s line words start (Some top) = admitted s line words start (blocks_for top) (free_number s.world.table.jobs)
examined s line words start None = refused s BadImage

-- a login: its line is examined first, then the image, then whether a number and the blocks are free
abbrev pub logged_in : S → ℕ → List (ℕ × ℕ) → ℕ → Made
logged_in s line words start =
    if nat_le LINES line then refused s NoLine else
    if list_any (is_at line) s.world.table.jobs then refused s LineBusy else
    examined s line words start (image_top words start)

-- the state and the answer after an event
abbrev pub happens : S → Event → Made
happens s Step = stepped s (next_job s.world.table s.world.lines s.world.requests)
happens s Tick = ticked s
happens s (Typed line c) = typed s line c
happens s (Take line n) = taken s line n
happens s (Login line image) = logged_in s line image.now.words.items image.now.start
happens s (Start n) = started s n
happens s (Continue n) = continued s n
happens s (Kill n) = killed s n (job_at s.world.table.jobs n)
happens s Restart = restarted s

-- the state after a whole run
abbrev pub after : List Event → S → S
after [] s = s
after (e ∷ es) s = after es (happens s e).state

-- the answers of a whole run
abbrev pub answers : List Event → S → List Answer
answers [] s = []
answers (e ∷ es) s = (happens s e).answer ∷ answers es (happens s e).state

-- a new machine, whose lock table holds so many requests
abbrev pub at_boot : ℕ → ℕ → ℕ → S
at_boot size blocks quantum = record {
  world = record {
    size = size;
    table = no_jobs;
    lines = all_clear;
    requests = [];
    cores = all_free blocks;
    shared = replicate DATA_WORDS 0;
  };
  time = 0;
  quantum = quantum;
  blocks = blocks;
}
