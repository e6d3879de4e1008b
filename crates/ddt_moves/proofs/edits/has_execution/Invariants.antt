use Rattle.std.specs.List.{list_any}
use Rattle.std.proofs.Common.{◌≡◌, drop}
use Rattle.ddt_moves.specs.Edits.{is_execution}
use Rattle.ddt_moves.proofs.edits.has_execution.Given as goal

abbrev pub invariant-loop-entry : goal.invariant-loop-entry
invariant-loop-entry l = list_any is_execution (drop l.entry-index l.entries) ≡ list_any is_execution l.entries
