-- What is promised of every event and of every run of a machine that is sound (this project's profile).
use Rattle.std.specs.Prelude.{List}
use Rattle.lock_laws.specs.Circles.{NoPlainCircle}
use Rattle.machine.specs.declared.event.Event.{Event}
use Rattle.machine.specs.Alone.{RunsAlone}
use Rattle.machine.specs.Along.{Along, Always}
use Rattle.machine.specs.Machine.{S}
use Rattle.machine.specs.Owners.{KeepsOwners}
use Rattle.machine.specs.Safe.{Safe}
use Rattle.machine.specs.Waits.{WaitsForGrants}
use Rattle.progress_laws.specs.Arrivals.{FrontStaysOver, FrontThinsAlong, FrontThinsOver, InFrontOver, NobodyInFrontAlong}
use Rattle.progress_laws.specs.Levels.{IsGrantedByLevels}
use Rattle.progress_laws.specs.OneRequest.{IsGrantedByOneRequest}
use Rattle.progress_laws.specs.Rounds.{RunsInTime, RunsInTimeAmongLines}
use Rattle.progress_laws.specs.Together.{GoesOnInTime, IsGrantedInTime}
use Rattle.progress_laws.specs.Wakes.{FirstIsGranted, GrantedAreReady, NobodyWaitsPastALimit, WaitersWaitForOthers, WhoHasRoomIsGranted}

-- what an event keeps, from the state before it to the state after it
pub record EventKeeps (old : S) (event : Event) (new : S) : Type 0 where
  -- an exclusive owner is alone, no pool is overdrawn, each request is that of a job that is there, and more
  pub safe : Safe new
  -- a job has a blocking request that is not granted exactly where it waits for the grant
  pub waits : WaitsForGrants new.world
  -- a job loses a lock only by an event that gives it up
  pub owners : KeepsOwners old event
  -- jobs that ask for one lock at a time, by rising levels, do not wait in a circle
  pub circles : NoPlainCircle new.world.requests
  -- a new request comes behind all others, in a step of its own job, or some requests leave
  pub arrivals : InFrontOver old event
  -- what stands in front of a request only leaves; and what stays wants the same, where no job changes its wants
  pub front : FrontThinsOver old event
  pub unchanged : FrontStaysOver old event
  -- a request is granted where no earlier one wants a key that it wants
  pub first : FirstIsGranted new.world.requests
  -- a request is granted where there is room for each of its wants
  pub room : WhoHasRoomIsGranted new.world.requests
  -- a job that waits for a grant waits for another job
  pub others : WaitersWaitForOthers new.world.requests
  -- a job that waited for a grant and has it is ready, unless it is stopped
  pub ready : GrantedAreReady new

-- what a run keeps that begins in a state
pub record RunKeeps (old : S) (events : List Event) : Type 0 where
  -- as of an event: `safe`, `waits` and `circles` after each beginning of the run, `owners` over each event
  pub safe : Always Safe old events
  pub waits : Always (λ s. WaitsForGrants s.world) old events
  pub owners : Along KeepsOwners old events
  pub circles : Always (λ s. NoPlainCircle s.world.requests) old events
  -- a job that computes and prints runs among others as it does alone
  pub alone : RunsAlone old events
  -- no job waits past its limit
  pub limits : NobodyWaitsPastALimit old events
  -- the requests from before stand in front of all that have come since
  pub arrivals : NobodyInFrontAlong old events
  -- what stands in front of a request only leaves, as long as its job wants the key
  pub front : FrontThinsAlong old events
  -- a job that may run makes a step within a quantum for each other number that a job has, and at most each other line
  pub turns : RunsInTime old events
  pub lines : RunsInTimeAmongLines old events
  -- and so does a job that waited for a grant and has it
  pub goes_on : GoesOnInTime old events
  -- a waiting job is granted its lock within so many rounds: one lock, one at a time by rising levels, all by one request
  pub granted : IsGrantedInTime old events
  pub levels : IsGrantedByLevels old events
  pub one_request : IsGrantedByOneRequest old events
