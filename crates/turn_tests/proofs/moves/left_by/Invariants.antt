use Rattle.job_moves.specs.Moves.{IsAwake}
use Rattle.turn_tests.proofs.moves.left_by.Given as goal

-- no job sleeps
abbrev pub invariant-loop-k : goal.invariant-loop-k
invariant-loop-k g l = IsAwake l.machine

abbrev pub invariant-loop-k-2 : goal.invariant-loop-k-2
invariant-loop-k-2 g l = IsAwake l.machine
