use Rattle.std.proofs.Common.{◌≡◌, ◌++◌, drop, length, replicate}
use Rattle.std.specs.Str.Lines.{lines}
use Rattle.lockcheck_orders.specs.Programs.{jobs_of}
use Rattle.lockcheck_program.specs.Reports.{order_text}
use Rattle.lockcheck_program.proofs.report.push_order.Given as goal

abbrev pub invariant-loop-by : goal.invariant-loop-by
invariant-loop-by l = record {
  text : l.out.items ++ order_text (lines l.script) l.programs l.made.items (drop l.by-index l.moves)
      ≡ l.initial.out.items ++ order_text (lines l.script) l.programs (replicate (length (jobs_of l.programs)) 0) l.moves;
  counts : length l.made.items ≡ length (jobs_of l.programs);
}
