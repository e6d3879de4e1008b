use Rattle.std.proofs.Common.{◌≡◌}
use Rattle.job_moves.specs.Moves.{settled}
use Rattle.orders_program.specs.Followed.{GoesTo}
use Rattle.orders_program.proofs.following.Following.settle.Given as goal

abbrev pub invariant-loop-k : goal.invariant-loop-k
invariant-loop-k l = record {
  so_far : l.self.machine ≡ settled l.fn.self.most l.k l.fn.self.machine;
  goes : GoesTo l.fn.self l.self l.self.machine;
}
