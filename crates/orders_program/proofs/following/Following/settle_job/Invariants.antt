use Rattle.std.proofs.Common.{◌≡◌, ◌-◌}
use Rattle.job_moves.specs.Moves.{alone}
use Rattle.orders_program.specs.Followed.{GoesTo}
use Rattle.orders_program.proofs.following.Following.settle_job.Given as goal

abbrev pub invariant-loop : goal.invariant-loop
invariant-loop l = record {
  rest : alone (l.fn.self.most - l.counter) l.n l.self.machine ≡ alone l.fn.self.most l.n l.fn.self.machine;
  goes : GoesTo l.fn.self l.self l.self.machine;
}
