use Rattle.std.proofs.Common.{◌≡◌, ◌++◌, take, drop, map}
use Rattle.ddt_moves.specs.StopLists.{or_slot}
use Rattle.ddt_moves.specs.Visits.{first_due, stepped}
use Rattle.ddt_moves.proofs.visits.see_rounds.Given as goal

abbrev pub invariant-loop-counter : goal.invariant-loop-counter
invariant-loop-counter l = record {
  seen :
      take l.counter-index l.counters ++ map (stepped l.machine l.ran) (drop l.counter-index l.counters)
      ≡ map (stepped l.machine l.ran) l.initial.counters;
  first :
      or_slot l.first (first_due l.machine l.ran (drop l.counter-index l.counters))
      ≡ first_due l.machine l.ran l.initial.counters;
}
