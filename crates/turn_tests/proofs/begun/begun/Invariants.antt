use Rattle.std.proofs.Common.{◌≡◌}
use Rattle.turn_tests.proofs.begun.begun.Given as goal

-- the machine keeps its size
abbrev pub invariant-loop-image : goal.invariant-loop-image
invariant-loop-image l = l.system.blocks ≡ l.fn.blocks

abbrev pub invariant-loop : goal.invariant-loop
invariant-loop l = l.system.blocks ≡ l.fn.blocks
