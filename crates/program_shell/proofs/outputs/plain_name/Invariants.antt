use Rattle.std.proofs.Common.{◌≡◌, length}
use Rattle.program_shell.specs.Outputs.{plain_name}
use Rattle.program_shell.proofs.outputs.plain_name.Given as goal

abbrev pub invariant-loop-rest : goal.invariant-loop-rest
invariant-loop-rest l = plain_name l.rest ≡ plain_name l.initial.rest

abbrev pub decreases-loop-rest : goal.decreases-loop-rest
decreases-loop-rest l = length l.rest
