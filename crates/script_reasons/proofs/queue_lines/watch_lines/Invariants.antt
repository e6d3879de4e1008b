use Rattle.std.proofs.Common.{◌≡◌, ◌≤◌, ◌++◌, length, map}
use Rattle.lock_bars.specs.declared.errors.TheConstants.{MOST_LINES}
use Rattle.script_reasons.specs.QueueLines.{explanations_from, explanation_in, line_explanations}
use Rattle.script_reasons.proofs.queue_lines.watch_lines.Given as goal

abbrev pub invariant-loop-line : goal.invariant-loop-line
invariant-loop-line g l = record {
  few : l.count ≤ MOST_LINES;
  explained : map explanation_in l.all.items ++ explanations_from l.count (g.L.LockTable.requests l.table) l.lines ≡ line_explanations l.script;
}

abbrev pub decreases-loop-line : goal.decreases-loop-line
decreases-loop-line g l = length l.lines
