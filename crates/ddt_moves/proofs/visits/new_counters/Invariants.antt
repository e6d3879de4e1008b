use Rattle.std.proofs.Common.{◌≡◌, ◌++◌, drop}
use Rattle.ddt_moves.specs.Visits.{counters_from}
use Rattle.ddt_moves.proofs.visits.new_counters.Given as goal

abbrev pub invariant-loop-i : goal.invariant-loop-i
invariant-loop-i l = l.counters.items ++ counters_from l.i (drop l.i l.slots) ≡ counters_from 0 l.slots
