use Rattle.std.proofs.Common.{◌≡◌, ◌++◌, drop}
use Rattle.macro_output.specs.Shown.{shown_by}
use Rattle.macro_output.proofs.shown.shown_words.Given as goal

abbrev pub invariant-loop-row : goal.invariant-loop-row
invariant-loop-row l = l.shown.items ++ shown_by (drop l.row-index l.rows) ≡ shown_by l.rows
