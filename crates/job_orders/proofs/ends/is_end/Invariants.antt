use Rattle.std.proofs.Common.{◌≡◌, true}
use Rattle.job_orders.specs.Endings.{rests}
use Rattle.job_orders.proofs.ends.is_end.Given as goal

abbrev pub invariant-loop-k : goal.invariant-loop-k
invariant-loop-k l = rests l.k l.machine ≡ true
