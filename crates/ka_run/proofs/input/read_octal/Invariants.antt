use Rattle.std.proofs.Common.{◌<◌, ◌^◌}
use Rattle.ka_run.proofs.input.read_octal.Given as goal

abbrev pub invariant-loop-b : goal.invariant-loop-b
invariant-loop-b l = l.number < 2 ^ 36
