use Rattle.std.proofs.Common.{◌≡◌, drop}
use Rattle.ddt_moves.specs.Visits.{first_due_at_start}
use Rattle.ddt_moves.proofs.starts.other_cause.Given as goal

abbrev pub invariant-loop-counter : goal.invariant-loop-counter
invariant-loop-counter l =
    first_due_at_start l.first l.last (drop l.counter-index l.counter-items) ≡ first_due_at_start l.first l.last l.counter-items
