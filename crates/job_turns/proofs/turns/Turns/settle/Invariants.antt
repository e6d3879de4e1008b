use Rattle.std.proofs.Common.{◌≡◌}
use Rattle.job_moves.specs.Moves.{IsAwake, settled}
use Rattle.job_turns.proofs.turns.Turns.settle.Given as goal

abbrev pub invariant-loop-k : goal.invariant-loop-k
invariant-loop-k g l = record {
  so_far : l.self ≡ settled l.most l.k l.fn.self;
  awake : IsAwake l.self;
}
