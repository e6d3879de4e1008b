use Rattle.std.proofs.Common.{◌≡◌, false}
use Rattle.macro_main.proofs.survey.count_all.Given as goal

abbrev pub invariant-loop-argument : goal.invariant-loop-argument
invariant-loop-argument g l = g.E.ByteOut.has_failed l.errors ≡ false
