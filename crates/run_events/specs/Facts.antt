-- What happens to locks in a run: the facts of each step, of each tick, and of a whole run (ENQ/DEQ of the TOPS-10 Monitor Calls
-- Manual, in this project's profile).
use Rattle.std.specs.Prelude.{ℕ, ◌+◌, ◌&&◌, nat_le, if◌then◌else◌, not, filter, List, [], ◌∷◌, ◌++◌, map, Option, Some, None}
use Rattle.std.specs.List.{filter_map}
use Rattle.word36.specs.declared.sizes.TheConstants.{JOBS}
use Rattle.lock_queue.specs.Jobs.{is_among, waits_for}
use Rattle.lock_queue.specs.Queue.{chosen}
use Rattle.lock_queue.specs.Waits.{is_in_circle, jobs}
use Rattle.lock_queue.specs.declared.call.LockReply.{LockReply}
use Rattle.lock_queue.specs.declared.call.LockReply.TheVariants.{Queued}
use Rattle.lock_queue.specs.declared.request.Request.{Request}
use Rattle.job_sched.specs.Changes.{ticked_table}
use Rattle.job_sched.specs.Limits.{expires}
use Rattle.job_sched.specs.declared.job.Job.{Job}
use Rattle.job_sched.specs.declared.job.Stop.{Stop as StopReason}
use Rattle.uuo_calls.specs.Asked.{ReadBlock}
use Rattle.uuo_calls.specs.Performed.{World}
use Rattle.uuo_calls.specs.declared.asked.Asked.{Asked}
use Rattle.uuo_calls.specs.declared.call.MonitorCall.{MonitorCall}
use Rattle.machine.specs.Machine.{S, happens, ticked}
use Rattle.machine.specs.Told.{before_in, read_in, told_in}
use Rattle.machine.specs.Views.{job_view}
use Rattle.machine.specs.Waits.{ungranted}
use Rattle.machine.specs.declared.event.Event.{Event}
use Rattle.machine.specs.declared.event.Event.TheVariants.{Step, Tick, Start, Kill}
use Rattle.machine.specs.declared.told.Told.{Told}
use Rattle.machine.specs.declared.view.JobView.{JobView}
use Rattle.run_events.specs.Grants.{is_new_grant, is_present, waiting_id}
use Rattle.run_events.specs.declared.facts.Fact.{Fact}
use Rattle.run_events.specs.declared.facts.Fact.TheVariants.{Called, Left, Granted, LimitEnded, CircleClosed, Stopped, LoggedOut}

-- ---- of a step

-- a job made a lock call, which asked this, with this block, and was answered so
abbrev pub called_facts : ℕ → ℕ → Option Asked → ReadBlock → Option LockReply → List Fact
called_facts n next (Some asked) block (Some reply) =
    Called (record { job = n; next = next; asked = asked; block = block; reply = reply }) ∷ []
called_facts n next (Some asked) block None = []
called_facts n next None block reply = []

-- of the requests that waited before, those that are gone, and those that are granted now, in order of arrival
abbrev pub left_facts : List Request → List Request → List Fact
left_facts before requests = map Left (filter (λ old. not (is_present requests old)) before)

abbrev pub granted_facts : List Request → List Request → List Fact
granted_facts before requests = map Granted (chosen (is_new_grant before) requests)

-- where none waited nothing is to be told
abbrev pub moved_facts : List Request → List Request → List Fact
moved_facts [] requests = []
moved_facts (r ∷ later) requests = left_facts (r ∷ later) requests ++ granted_facts (r ∷ later) requests

abbrev pub moved_by : Option MonitorCall → List Request → List Request → List Fact
moved_by (Some c) before requests = moved_facts before requests
moved_by None before requests = []

abbrev pub circle_facts : List Request → ℕ → List Fact
circle_facts requests n = if nat_le n JOBS && is_in_circle (waits_for requests) n then CircleClosed n ∷ [] else []

-- a circle of waits closes with the call that is queued last
abbrev pub closed_facts : List Request → ℕ → Option LockReply → List Fact
closed_facts requests n (Some Queued) = circle_facts requests n
closed_facts requests n _ = []

abbrev pub stopped_facts : ℕ → Option StopReason → List Fact
stopped_facts n (Some reason) = Stopped n reason ∷ []
stopped_facts n None = []

-- the job that had the turn is stopped now, or gone
abbrev pub ended_facts : ℕ → Option JobView → List Fact
ended_facts n (Some v) = stopped_facts n v.stop
ended_facts n None = LoggedOut n ∷ []

-- by what a step makes known, the requests that waited before its call, the block that this read, and the world behind it
abbrev pub facts_told : List Request → ReadBlock → World → Told → List Fact
facts_told before block after t =
    called_facts t.job t.next t.asked block t.reply
    ++ (moved_by t.call before after.requests
    ++ (closed_facts after.requests t.job t.reply ++ ended_facts t.job (job_view after t.job)))

abbrev pub facts_if : List Request → ReadBlock → World → Option Told → List Fact
facts_if before block after (Some t) = facts_told before block after t
facts_if before block after None = []

abbrev pub facts_of_step : S → List Fact
facts_of_step s = facts_if (before_in s) (read_in s) (happens s Step).state.world (told_in s)

-- ---- of a tick

-- the limit of job n ends, and with it the request by which the job waited
abbrev pub limit_fact : List Request → List (Option Job) → ℕ → Option Fact
limit_fact requests table n =
    if expires requests table n then Some (LimitEnded n (waiting_id (ungranted requests) n)) else None

-- the same, by the set of the jobs whose limits end, and by the requests that are not granted before these leave
abbrev pub ended_fact : ℕ → List Request → ℕ → Option Fact
ended_fact ended before n = if is_among ended n then Some (LimitEnded n (waiting_id before n)) else None

-- the limits that end, by jobs, and then the grants that this makes
abbrev pub with_grants : List Request → List Request → List Fact → List Fact
with_grants before requests [] = []
with_grants before requests (fact ∷ facts) = (fact ∷ facts) ++ granted_facts before requests

abbrev pub facts_of_tick : S → List Fact
facts_of_tick s =
    with_grants (ungranted s.world.requests) (ticked s).state.world.requests
    (filter_map (limit_fact s.world.requests (ticked_table s.world.table).jobs) jobs)

-- ---- of a run

-- a job that an operator starts or kills loses requests
abbrev pub facts_of_event : S → Event → List Fact
facts_of_event s Step = facts_of_step s
facts_of_event s Tick = facts_of_tick s
facts_of_event s (Start n) = moved_facts (ungranted s.world.requests) (happens s (Start n)).state.world.requests
facts_of_event s (Kill n) = moved_facts (ungranted s.world.requests) (happens s (Kill n)).state.world.requests
facts_of_event s event = []

-- how many ticks went by
abbrev pub tick_after : Event → ℕ → ℕ
tick_after Tick tick = tick + 1
tick_after event tick = tick

-- each fact of a run with its tick
abbrev pub facts_of_run : ℕ → List Event → S → List (ℕ × Fact)
facts_of_run tick [] s = []
facts_of_run tick (e ∷ es) s =
    map (λ fact. (tick_after e tick, fact)) (facts_of_event s e) ++ facts_of_run (tick_after e tick) es (happens s e).state
