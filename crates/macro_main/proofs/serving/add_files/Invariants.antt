use Rattle.std.proofs.Common.{◌≡◌, false}
use Rattle.macro_main.proofs.serving.add_files.Given as goal

abbrev pub invariant-loop-file : goal.invariant-loop-file
invariant-loop-file g l = g.E.ByteOut.has_failed l.errors ≡ false
