-- Each event and each run of a sound machine keeps what is promised of it.
use Rattle.std.proofs.Common.{List}
use Rattle.machine.specs.declared.event.Event.{Event}
use Rattle.machine.specs.Machine.{S, happens}
use Rattle.monitor_laws.proofs.Always.{always_safe, always_waits, never_circle}
use Rattle.monitor_laws.proofs.Owning.{along_owners, keeps_owners}
use Rattle.monitor_laws.proofs.Safety.{no-circle}
use Rattle.monitor_laws.proofs.Solitude.{runs_alone}
use Rattle.monitor_laws.proofs.Waiting.{waits_for_grants}
use Rattle.progress_laws.specs.Kept.{IsSound}
use Rattle.progress_laws.specs.Promises.{EventKeeps, RunKeeps}
use Rattle.progress_laws.proofs.Kept.{sound_is_kept}
use Rattle.progress_laws.proofs.Levels.{is_granted_by_levels}
use Rattle.progress_laws.proofs.Numbers.{runs_in_time_among_lines}
use Rattle.progress_laws.proofs.OneRequest.{is_granted_by_one_request}
use Rattle.progress_laws.proofs.Arrivals.{in_front_over, nobody_in_front_along}
use Rattle.progress_laws.proofs.Places.{front_stays_over, front_thins_along, front_thins_over}
use Rattle.progress_laws.proofs.Running.{runs_in_time}
use Rattle.progress_laws.proofs.Together.{goes_on_in_time, is_granted_in_time}
use Rattle.progress_laws.proofs.Wakes.{first_is_granted, granted_are_ready, nobody_waits_past_a_limit, waiters_wait_for_others}
use Rattle.progress_laws.proofs.Wakes.{who_has_room_is_granted}

pub event_keeps : (s : S) (e : Event) → IsSound s → EventKeeps s e (happens s e).state
event_keeps s e h =
    let after : IsSound (happens s e).state = sound_is_kept s e h in
    record {
      safe = after.safe;
      waits = waits_for_grants (happens s e).state after.safe;
      owners = keeps_owners s e;
      circles = no-circle (happens s e).state after.safe;
      arrivals = in_front_over s e;
      front = front_thins_over s e h.safe;
      unchanged = front_stays_over s e h.safe;
      first = first_is_granted (happens s e).state.world.requests after.well;
      room = who_has_room_is_granted (happens s e).state.world.requests;
      others = waiters_wait_for_others (happens s e).state.world.requests after.well after.safe.queued.safe;
      ready = granted_are_ready (happens s e).state;
    }

pub run_keeps : (s : S) (events : List Event) → IsSound s → RunKeeps s events
run_keeps s events h = record {
  safe = always_safe s events h.safe;
  waits = always_waits s events h.safe;
  owners = along_owners s events;
  circles = never_circle s events h.safe;
  alone = runs_alone s events h.safe;
  limits = nobody_waits_past_a_limit s events h.safe;
  arrivals = nobody_in_front_along s events;
  front = front_thins_along s events h.safe;
  turns = runs_in_time s events h.safe h.time;
  lines = runs_in_time_among_lines s events h.safe h.time h.low;
  goes_on = goes_on_in_time s events h.safe h.time;
  granted = is_granted_in_time s events h.safe h.time h.well;
  levels = is_granted_by_levels s events h.safe h.time h.well;
  one_request = is_granted_by_one_request s events h.safe h.time h.well;
}
