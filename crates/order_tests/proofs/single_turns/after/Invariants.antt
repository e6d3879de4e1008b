use Rattle.job_moves.specs.Moves.{IsAwake}
use Rattle.order_tests.proofs.single_turns.after.Given as goal

-- no job sleeps
abbrev pub invariant-loop-n : goal.invariant-loop-n
invariant-loop-n l = IsAwake l.machine
