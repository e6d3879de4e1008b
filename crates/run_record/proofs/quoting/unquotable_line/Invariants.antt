use Rattle.std.proofs.Common.{length}
use Rattle.run_record.proofs.quoting.unquotable_line.Given as goal

abbrev pub decreases-loop-line : goal.decreases-loop-line
decreases-loop-line l = length l.lines
