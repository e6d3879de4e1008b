use Rattle.std.proofs.Common.{◌≡◌, ◌+◌, ◌-◌, ◌<◌, ◌≤◌, ℕ, None, true, map}
use Rattle.std.specs.Prelude.{is_some}
use Rattle.machine.specs.Between.{next_in}
use Rattle.machine.specs.Machine.{after}
use Rattle.machine.specs.Rounds.{rounds}
use Rattle.ddt_timeline.specs.Asking.{IsAsked}
use Rattle.ddt_timeline.specs.Runs.{SomeGoesOn}
use Rattle.ddt_timeline.specs.Stops.{noted, met_after}
use Rattle.ddt_timeline.proofs.stops.run_until.Given as goal

-- only behind the last round may a stop have held, and the stops say who stands there
abbrev pub invariant-loop-next : goal.invariant-loop-next
invariant-loop-next g l = record {
  few : l.ran.made ≤ l.most;
  state : l.machine ≡ after (rounds l.ran.made true) l.fn.machine;
  none_over : (k : ℕ) → k + 1 < l.ran.made → met_after l.fn.stops (after (rounds k true) l.fn.machine) ≡ None;
  none_yet : l.ran.stop ≡ None → (k : ℕ) → k < l.ran.made → met_after l.fn.stops (after (rounds k true) l.fn.machine) ≡ None;
  last : 1 ≤ l.ran.made → l.ran.stop ≡ met_after l.fn.stops (after (rounds (l.ran.made - 1) true) l.fn.machine);
  nothing : l.ran.made ≡ 0 → l.ran.stop ≡ None;
  quiet : l.ran.by_watch ≡ true → l.ran.stop ≡ None;
  going : (k : ℕ) → k < l.ran.made → SomeGoesOn (after (rounds k true) l.fn.machine);
  ready : l.is_ready ≡ true → is_some (next_in l.machine) ≡ true;
  watched : l.ran.by_watch ≡ true → l.is_watched ≡ true;
  fresh : l.ran.made ≡ 0 → l.watch ≡ l.fn.watch;
  asked : l.is_watched ≡ true → 1 ≤ l.ran.made → IsAsked g.W.Watch.Asks l.fn.machine l.fn.watch l.watch l.ran;
  stood : l.stops ≡ map (noted l.machine) l.fn.stops;
}

abbrev pub decreases-loop-next : goal.decreases-loop-next
decreases-loop-next g l = l.most - l.ran.made
