-- Where a run of steps stops (this project's profile).
use Rattle.std.specs.Prelude.{ℕ, ◌==◌, ◌&&◌, ◌||◌, nat_le, Bool, true, false, not, is_none, is_some}
use Rattle.std.specs.Prelude.{List, Option, Some, None, map, position}
use Rattle.word36.specs.declared.sizes.TheConstants.{JOBS}
use Rattle.ddt_breakpoints.specs.Conditions.{holds_of}
use Rattle.ddt_breakpoints.specs.declared.conditions.Condition.{Condition}
use Rattle.job_sched.specs.declared.job.Wait.{Wait}
use Rattle.job_sched.specs.declared.job.Wait.TheVariants.{None as Nothing, Sleep, Char, Line, Room, Queue}
use Rattle.machine.specs.Between.{is_among, next_in}
use Rattle.machine.specs.Machine.{S, after}
use Rattle.machine.specs.Rounds.{rounds}
use Rattle.machine.specs.Views.{job_view, word_in}
use Rattle.machine.specs.declared.event.Answer.{Answer}
use Rattle.machine.specs.declared.event.Answer.TheVariants.{Ran, Idle, Done, Text, JobNumber, Refused}
use Rattle.machine.specs.declared.view.JobView.{JobView}
use Rattle.ddt_timeline.specs.declared.stops.WatchedStop.{WatchedStop}
use Rattle.ddt_timeline.specs.declared.stops.StopCondition.{StopCondition}
use Rattle.ddt_timeline.specs.declared.stops.StopCondition.TheVariants.{At, Turn, End, Word, Input}

-- the job that ran, by the answer to a step
abbrev pub ran_of : Answer → Option ℕ
ran_of (Ran n) = Some n
ran_of Idle = None
ran_of Done = None
ran_of (Text text) = None
ran_of (JobNumber n) = None
ran_of (Refused r) = None

-- a step and a tick
abbrev pub round : S → S
round s = after (rounds 1 true) s

-- whether a job is the one that ran
abbrev pub is_job : Option ℕ → ℕ → Bool
is_job (Some n) job = n == job
is_job None job = false

-- whether the PC of a job is at an address
abbrev pub has_pc : Option JobView → ℕ → Bool
has_pc (Some view) address = view.pc == address
has_pc None address = false

-- whether a job stands at an address: its PC is there, and it is not stopped
abbrev pub stands_at : Option JobView → ℕ → Bool
stands_at (Some view) address = is_none view.stop && (view.pc == address)
stands_at None address = false

-- whether a job is stopped, or gone
abbrev pub has_ended : Option JobView → Bool
has_ended (Some view) = is_some view.stop
has_ended None = true

-- whether two words are equal, or both missing
abbrev pub is_word : Option ℕ → Option ℕ → Bool
is_word (Some a) (Some b) = a == b
is_word (Some a) None = false
is_word None (Some b) = false
is_word None None = true

-- whether a wait is for characters
abbrev pub is_input : Wait → Bool
is_input Nothing = false
is_input (Sleep ticks) = false
is_input Char = true
is_input Line = true
is_input (Room addresses) = false
is_input (Queue limit ac) = false

-- whether a job waits for characters
abbrev pub waits_for_input : Option JobView → Bool
waits_for_input (Some view) = is_input view.wait
waits_for_input None = false

-- whether the job that ran waits for characters
abbrev pub does_some_wait_for_input : S → Option ℕ → Bool
does_some_wait_for_input s (Some job) = waits_for_input (job_view s.world job)
does_some_wait_for_input s None = false

-- whether a stop is at an address where the PC of its job is
abbrev pub is_at : S → StopCondition → Bool
is_at s (At job address condition) = has_pc (job_view s.world job) address
is_at s (Turn job) = false
is_at s (End job) = false
is_at s (Word job address word) = false
is_at s Input = false

-- whether a job came to an address in a round, where stood says whether its PC was there before: it stands there, and it had
-- its turn or its PC was elsewhere before
abbrev pub has_come : Bool → Option ℕ → ℕ → Bool → Bool
has_come stood ran job stands = stands && (is_job ran job || not stood)

-- whether a condition, if there is one, holds of the words of a job
abbrev pub fits : S → ℕ → Option Condition → Bool
fits s job (Some condition) = holds_of condition (word_in s.world job condition.address)
fits s job None = true

-- whether a stop holds after a round in which a job ran, where stood is for has_come: the job came to the address, and the
-- condition holds there; or it had its turn; or it had its turn and is stopped or gone; or the word is another; or the job
-- that ran waits for characters
abbrev pub is_met : Bool → S → Option ℕ → StopCondition → Bool
is_met stood s ran (At job address condition) = has_come stood ran job (stands_at (job_view s.world job) address) && fits s job condition
is_met stood s ran (Turn job) = is_job ran job
is_met stood s ran (End job) = is_job ran job && has_ended (job_view s.world job)
is_met stood s ran (Word job address word) = not (is_word (word_in s.world job address) word)
is_met stood s ran Input = does_some_wait_for_input s ran

-- a stop before a round, with whether the PC of its job is at its address now
abbrev pub noted : S → WatchedStop → WatchedStop
noted s p = record p { stood = is_at s p.stop }

-- the stops that are watched
abbrev pub stops_of : List WatchedStop → List StopCondition
stops_of stops = map (λ p. p.stop) stops

-- whether a watched stop holds after a round in which a job ran
abbrev pub is_met_at : S → Option ℕ → WatchedStop → Bool
is_met_at s ran p = is_met p.stood s ran p.stop

-- the first of some stops that holds after the round that begins in a state
abbrev pub met_after : List WatchedStop → S → Option ℕ
met_after stops s = position (is_met_at (round s) (next_in s)) (map (noted s) stops)

-- whether a stop is at an address, and that is one of some
abbrev pub is_at_one_of : List ℕ → StopCondition → Bool
is_at_one_of addresses (At job address condition) = is_among addresses address
is_at_one_of addresses (Turn job) = false
is_at_one_of addresses (End job) = false
is_at_one_of addresses (Word job address word) = false
is_at_one_of addresses Input = false

abbrev pub is_within : List ℕ → WatchedStop → Bool
is_within addresses p = is_at_one_of addresses p.stop
