use Rattle.std.proofs.Common.{◌≡◌}
use Rattle.job_moves.specs.Moves.{is_clear}
use Rattle.job_turns.proofs.turns.Turns.is_clear.Given as goal

abbrev pub invariant-loop-k : goal.invariant-loop-k
invariant-loop-k g l = l.clear ≡ is_clear l.k l.self
