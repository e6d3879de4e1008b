use Rattle.std.proofs.Common.{◌≡◌, ◌++◌, take, drop, map}
use Rattle.ddt_moves.specs.Visits.{seen_before}
use Rattle.ddt_moves.proofs.visits.see_starts.Given as goal

abbrev pub invariant-loop-counter : goal.invariant-loop-counter
invariant-loop-counter l =
    take l.counter-index l.counters ++ map (seen_before l.machine) (drop l.counter-index l.counters)
    ≡ map (seen_before l.machine) l.initial.counters
