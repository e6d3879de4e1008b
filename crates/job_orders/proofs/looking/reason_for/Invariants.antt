use Rattle.std.proofs.Common.{◌≡◌, true}
use Rattle.job_moves.specs.Moves.{is_clear}
use Rattle.job_orders.proofs.looking.reason_for.Given as goal

abbrev pub invariant-loop-k : goal.invariant-loop-k
invariant-loop-k l = is_clear l.k l.machine ≡ true
