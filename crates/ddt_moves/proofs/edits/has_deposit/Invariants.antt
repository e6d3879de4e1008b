use Rattle.std.specs.List.{list_any}
use Rattle.std.proofs.Common.{◌≡◌, drop}
use Rattle.ddt_moves.specs.Edits.{is_deposit}
use Rattle.ddt_moves.proofs.edits.has_deposit.Given as goal

abbrev pub invariant-loop-entry : goal.invariant-loop-entry
invariant-loop-entry l = list_any is_deposit (drop l.entry-index l.entries) ≡ list_any is_deposit l.entries
