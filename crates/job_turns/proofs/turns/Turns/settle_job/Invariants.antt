use Rattle.std.proofs.Common.{◌≡◌, ◌-◌}
use Rattle.job_moves.specs.Moves.{IsAwake, alone}
use Rattle.job_turns.proofs.turns.Turns.settle_job.Given as goal

abbrev pub invariant-loop : goal.invariant-loop
invariant-loop g l = record {
  rest : alone (l.most - l.counter) l.n l.self ≡ alone l.most l.n l.fn.self;
  awake : IsAwake l.self;
}
